-- Figure 1 without its quotient: C(x) is a multiple of the figure's by a unit, and B(x) with d_m by another. Assumes nothing.
use Rattle.std.specs.Prelude.{ℕ, ◌-◌, ◌^◌, ◌<◌, ◌≡◌, cond, List, ◌++◌, map, eqb, get_or, replicate}
use Rattle.bits.specs.Xor.{◌⊕◌}
use Rattle.bits.specs.Bits.{from, xor_row}
use Rattle.field.specs.Field.{mul, inv}
use Rattle.poly.specs.Polynomials.{sum}
use Rattle.poly.specs.Register.{Register, turn}

-- 0 past the place l
abbrev pub Past : ℕ → List ℕ → Type 0
Past l c = (k : ℕ) → l < k → get_or c k 0 ≡ 0

-- a·z^j at each place j below 13
abbrev pub Multiples : ℕ → ℕ → List ℕ → Type 0
Multiples m a t = (j : ℕ) → j < 13 → get_or t j 0 ≡ mul m a (2 ^ j)

-- 16 bits at each place below 13
abbrev pub Fits : List ℕ → Type 0
Fits t = (j : ℕ) → j < 13 → get_or t j 0 < 65536

-- line 3 for every c_0: c_0·s_n + the sum of c_i·s_{n-i}, i from 1 to l
unfoldable pub discrepancy_across : ℕ → List ℕ → List ℕ → ℕ → ℕ → ℕ
discrepancy_across m s c l n = mul m (get_or c 0 0) (get_or s n 0) ⊕ sum (map (λ i. mul m (get_or c i 0) (get_or s (n - i) 0)) (from 1 l))

-- lines 7 and 11, multiplied by d_m: d_m·C(x) - d·x^y·B(x)
unfoldable pub corrected_across : ℕ → Register → ℕ → List ℕ
corrected_across m r d = xor_row (map (mul m r.d) r.c) (replicate r.y 0 ++ map (mul m d) r.b)

-- lines 4 to 16 with that
unfoldable pub turn_across : ℕ → ℕ → ℕ → Register → Register
turn_across m d n r =
    let t : Register = turn m d n r in
    record { c = cond (eqb d 0) r.c (corrected_across m r d); l = t.l; b = t.b; d = t.d; y = t.y }

-- c / c_0
unfoldable pub divided : ℕ → List ℕ → List ℕ
divided m c = map (mul m (inv m (get_or c 0 0))) c
