-- The register: document 004's Figure 1, on a list of elements. Assumes nothing.
use Rattle.std.specs.Prelude.{ℕ, zero, suc, ◌+◌, ◌-◌, ◌*◌, true, false, not, List, [], ◌∷◌, ◌++◌, map, eqb, ltb, length, get_or, replicate}
use Rattle.bits.specs.Xor.{◌⊕◌}
use Rattle.bits.specs.Bits.{from, every, xor_row}
use Rattle.field.specs.Numbers.{first_of}
use Rattle.field.specs.Field.{is_width, is_element, mul, inv}
use Rattle.poly.specs.Polynomials.{sum}

-- the longest list
unfoldable pub longest : ℕ
longest = 256

-- Figure 1's C(x), l, B(x), d_m and y; polynomials have the coefficients 0 to 256
pub record Register : Type 0 where
  pub c : List ℕ
  pub l : ℕ
  pub b : List ℕ
  pub d : ℕ
  pub y : ℕ

-- before the first element
unfoldable pub start : Register
start =
    let one : List ℕ = 1 ∷ replicate longest 0 in
    record { c = one; l = 0; b = one; d = 1; y = 1 }

-- line 3: d_n = s_n + the sum of c_i·s_{n-i}, i from 1 to l
unfoldable pub discrepancy : ℕ → List ℕ → Register → ℕ → ℕ
discrepancy m s r n = get_or s n 0 ⊕ sum (map (λ i. mul m (get_or r.c i 0) (get_or s (n - i) 0)) (from 1 r.l))

-- lines 7 and 11: C(x) - d_n·d_m^(-1)·x^y·B(x)
unfoldable pub corrected : ℕ → Register → ℕ → List ℕ
corrected m r d = xor_row r.c (replicate r.y 0 ++ map (mul m (mul m d (inv m r.d))) r.b)

-- lines 4 to 16
unfoldable pub turn : ℕ → ℕ → ℕ → Register → Register
turn m d n r =
    elim (eqb d 0) [
      | true ↦ record { c = r.c; l = r.l; b = r.b; d = r.d; y = r.y + 1 }
      | false ↦ elim (ltb n (2 * r.l)) [
        | true ↦ record { c = corrected m r d; l = r.l; b = r.b; d = r.d; y = r.y + 1 }
        | false ↦ record { c = corrected m r d; l = n + 1 - r.l; b = r.c; d = d; y = 1 }
      ]
    ]

-- k turns from n on
unfoldable pub turns : ℕ → List ℕ → ℕ → ℕ → Register → Register
turns m s zero n r = r
turns m s (suc k) n r = turns m s k (n + 1) (turn m (discrepancy m s r n) n r)

-- the length l and connection polynomial c for the whole list
unfoldable pub register : ℕ → List ℕ → Register
register m s = turns m s (length s) 0 start

-- 1: width; 2: list over 256; 4: an element 2^m or more
unfoldable pub register_number : ℕ → List ℕ → ℕ
register_number m s = first_of ((not (is_width m), 1) ∷ (ltb longest (length s), 2) ∷ (not (every (is_element m) s), 4) ∷ [])
