-- What the register's loops compute, a step at a time. Assumes nothing.
use mathlib.Core.Path.{◌≡◌, refl, sym, ap, ◌∙◌}
use mathlib.Core.List.{List, [], ◌∷◌, ◌++◌, map}
use Prim.Native.Nat.{ℕ, zero, suc, ◌+◌, ◌-◌, ◌*◌, ◌≤◌, ◌<◌}
use native.Mathlib.Nat.{add-zero, zero-add}
use native.Mathlib.Omega.{arith}
use native.Mathlib.Decide.{dec_lt}
use native.Mathlib.Numerals.{add-one}
use borrow.Author.Tests.{eq-eqb, ne_eqb, lt-ltb, le-ltb}
use lib.ListN.{length, get_or, take, set, replicate, length-replicate, length-append}
use lib.Seq.{take_at, get_or-append-add, get_or-set_same, get_or-set_other}
use Rattle.bits.specs.Xor.{◌⊕◌}
use Rattle.bits.specs.Bits.{from, xor_row}
use Rattle.bits.proofs.Xor.{xor-zero, xor_assoc}
use Rattle.bits.proofs.Rows.{xor_row-suc, xor_row_zeros}
use Rattle.field.specs.Field.{mul}
use Rattle.field.proofs.Places.{each_rest}
use Rattle.poly.specs.Polynomials.{sum}
use Rattle.poly.specs.Parts.{Earlier}
use Rattle.poly.specs.Register.{Register, start, discrepancy, corrected, turn, turns, register}

-- the term of the place k in the discrepancy
abbrev pub term : ℕ → List ℕ → Register → ℕ → ℕ → ℕ
term m s r n k = mul m (get_or r.c k 0) (get_or s (n - k) 0)

pub sum-nil : sum [] ≡ 0
unfolding sum
sum-nil = refl

pub sum-cons : (x : ℕ) (xs : List ℕ) → sum (x ∷ xs) ≡ x ⊕ sum xs
unfolding sum
sum-cons x xs = refl

-- d, with the places of p from i to l
module _ (p : List ℕ) (l : ℕ) where
  unfoldable pub rest : ℕ → ℕ → ℕ
  rest d i = d ⊕ sum (map (λ k. get_or p k 0) (from i (l + 1 - i)))

  pub rest_start : (d : ℕ) → rest d 1 ≡ d ⊕ sum (map (λ k. get_or p k 0) (from 1 l))
  unfolding rest
  rest_start d = let e : l + 1 - 1 ≡ l = omega arith in rw e

  pub rest_step : (d i : ℕ) → i ≤ l → rest (d ⊕ get_or p i 0) (i + 1) ≡ rest d i
  unfolding rest from
  rest_step d i h =
      let e : l + 1 - i ≡ suc (l + 1 - (i + 1)) = omega arith in
      rw (e, add-one i, sum-cons) (xor_assoc d _ _)

  pub rest_none : (d i : ℕ) → l < i → rest d i ≡ d
  unfolding rest from
  rest_none d i h = let e : l + 1 - i ≡ 0 = omega arith in rw (e, sum-nil) (xor-zero d)

-- one element more
pub earlier_step : (s : List ℕ) (n i : ℕ) (w : List ℕ) → i < length w → Earlier s n i w → Earlier s n (i + 1) (set w i (get_or s (n - i) 0))
earlier_step s n i w h e k a b = elim (dec_lt k i) [
  | yes c ↦ get_or-set_other w i k _ 0 (λ z. omega arith) ∙ e k a c
  | no c ↦ (let z : k ≡ i = omega arith in rw z (get_or-set_same w i _ 0 h))
]

-- c + x^y·p, with the first places done
module _ (c p : List ℕ) (y : ℕ) where
  unfoldable pub partly : ℕ → List ℕ
  partly i = xor_row c (take i (replicate y 0 ++ p))

  pub partly_start : partly y ≡ c
  unfolding partly
  partly_start = rw (take_at (replicate y 0) p y (length-replicate y 0)) (xor_row_zeros c y)

  pub partly_step : (i : ℕ) → y ≤ i → i - y < length p → i < length c → set (partly i) i (get_or (partly i) i 0 ⊕ get_or p (i - y) 0) ≡ partly (i + 1)
  unfolding partly
  partly_step i a h k =
      let e : y + (i - y) ≡ i = omega arith in
      let l : length {A = ℕ} (replicate y 0) ≡ y = length-replicate y 0 in
      let z : get_or (replicate y 0 ++ p) i 0 ≡ get_or p (i - y) 0 =
      ap (λ (j : ℕ). get_or (replicate y 0 ++ p) j 0) (sym (ap (λ (j : ℕ). j + (i - y)) l ∙ e)) ∙ get_or-append-add (replicate y 0) p (i - y) 0 in
      ap (λ (v : ℕ). set (partly i) i (get_or (partly i) i 0 ⊕ v)) (sym z)
      ∙ xor_row-suc c (replicate y 0 ++ p) i (omega (arith, length-append (replicate y 0) p)) k
      ∙ ap (λ (j : ℕ). xor_row c (take j (replicate y 0 ++ p))) (sym (add-one i))

  -- where p has 0 past the place k, y + k + 1 places are all
  pub partly_past : (k i : ℕ) → y + k < i → ((j : ℕ) → k < j → get_or p j 0 ≡ 0) → partly i ≡ xor_row c (replicate y 0 ++ p)
  unfolding partly xor_row
  partly_past k i h z = each_rest ◌⊕◌ c (replicate y 0 ++ p) i λ j l.
      let e : length {A = ℕ} (replicate y 0) + (j - y) ≡ j = omega (arith, length-replicate {A = ℕ} y 0) in
      ap (◌⊕◌ (get_or c j 0))
      (ap (λ (x : ℕ). get_or (replicate y 0 ++ p) x 0) (sym e) ∙ get_or-append-add (replicate y 0) p (j - y) 0 ∙ z (j - y) (omega arith))
      ∙ xor-zero (get_or c j 0)

-- the three cases of a turn, with c for the corrected polynomial
module _ (m d n : ℕ) (r : Register) where
  pub turn_skip : d ≡ 0 → turn m d n r ≡ record { c = r.c; l = r.l; b = r.b; d = r.d; y = r.y + 1 }
  unfolding turn
  turn_skip e = rw (turn, eq-eqb d 0 e)

  pub turn_fix : {c : List ℕ} → c ≡ corrected m r d → (d ≡ 0 → ⊥) → n < 2 * r.l
      → turn m d n r ≡ record { c = c; l = r.l; b = r.b; d = r.d; y = r.y + 1 }
  unfolding turn
  turn_fix f e h = rw (f, turn, ne_eqb d 0 e, lt-ltb n (2 * r.l) h)

  pub turn_grow : {c : List ℕ} → c ≡ corrected m r d → (d ≡ 0 → ⊥) → 2 * r.l ≤ n
      → turn m d n r ≡ record { c = c; l = n + 1 - r.l; b = r.c; d = d; y = 1 }
  unfolding turn
  turn_grow f e h = rw (f, turn, ne_eqb d 0 e, le-ltb n (2 * r.l) h)

  -- what holds in each case holds of a turn
  pub turn_cases : (P : Register → Type 0) → (d ≡ 0 → P record { c = r.c; l = r.l; b = r.b; d = r.d; y = r.y + 1 })
      → (0 < d → n < 2 * r.l → P record { c = corrected m r d; l = r.l; b = r.b; d = r.d; y = r.y + 1 })
      → (0 < d → 2 * r.l ≤ n → P record { c = corrected m r d; l = n + 1 - r.l; b = r.c; d = d; y = 1 })
      → P (turn m d n r)
  turn_cases P skip fix grow = elim (dec_lt 0 d) [
    | no e ↦ (let z : d ≡ 0 = omega arith in rw (turn_skip z) (skip z))
    | yes e ↦ elim (dec_lt n (2 * r.l)) [
      | yes q ↦ rw (turn_fix refl (λ z. omega arith) q) (fix e q)
      | no q ↦ (let h : 2 * r.l ≤ n = omega arith in rw (turn_grow refl (λ z. omega arith) h) (grow e h))
    ]
  ]

-- the last of k + 1 turns
turns-last : (m : ℕ) (s : List ℕ) (k n : ℕ) (r : Register)
    → turns m s (suc k) n r ≡ turn m (discrepancy m s (turns m s k n r) (n + k)) (n + k) (turns m s k n r)
unfolding turns
turns-last m s zero n r = ap (λ (j : ℕ). turn m (discrepancy m s r j) j r) (sym (add-zero n))
turns-last m s (suc k) n r =
    let e : n + 1 + k ≡ n + suc k = omega arith in
    let t : Register = turns m s (suc k) n r in
    turns-last m s k (n + 1) (turn m (discrepancy m s r n) n r) ∙ ap (λ (j : ℕ). turn m (discrepancy m s t j) j t) e

-- after the first n turns
module _ (m : ℕ) (s : List ℕ) where
  unfoldable pub after : ℕ → Register
  after n = turns m s n 0 start

  pub after_none : after 0 ≡ start
  unfolding after turns
  after_none = refl

  pub after_next : (n : ℕ) → after (n + 1) ≡ turn m (discrepancy m s (after n) n) n (after n)
  unfolding after
  after_next n =
      let t : Register = after n in
      ap after (add-one n) ∙ turns-last m s n 0 start ∙ ap (λ (k : ℕ). turn m (discrepancy m s t k) k t) (zero-add n)

  pub after_all : after (length s) ≡ register m s
  unfolding after register
  after_all = refl
