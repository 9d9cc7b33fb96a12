-- The powers of the points, a sum by its own weights, and the number of what read answers. Assumes nothing.
use mathlib.Core.Path.{◌≡◌, refl, sym, ap, ap₂, ◌∙◌, fun_ext}
use mathlib.Core.Bool.{Bool, true, false, cond}
use mathlib.Core.List.{List, [], ◌∷◌, map}
use Prim.Native.Nat.{ℕ, zero, suc, ◌+◌, ◌*◌, ◌≤◌, ◌<◌, min, zero-le}
use native.Mathlib.Nat.{zero-lt-suc}
use native.Mathlib.Numerals.{add-one}
use native.Mathlib.Omega.{arith}
use borrow.Author.Tests.{eq-eqb, ne_eqb, le-leb, leb-true}
use lib.Dec.{leb}
use lib.ListN.{length, get_or, take, replicate, length-map}
use lib.Seq.{take_all}
use Rattle.bits.specs.Xor.{◌⊕◌}
use Rattle.bits.specs.Bits.{every, each_with, unpack, padded}
use Rattle.bits.proofs.Xor.{xor-zero}
use Rattle.bits.proofs.Each.{each_with-take, each_with_again, each_with-keep, each_with-replicate}
use Rattle.bits.proofs.Pack.{row_unpack}
use Rattle.field.specs.Field.{mul, power, inv}
use Rattle.field.specs.Answers.{is_unit, inverse_number}
use Rattle.field.specs.Verdicts.{verdict_of}
use Rattle.field.specs.Poly.{value, horner_each, of_each}
use Rattle.field.specs.declared.Verdict.{Verdict}
use Rattle.field.specs.declared.Verdict.TheVariants.{Accepted, Refused}
use Rattle.field.proofs.Table.{Width}
use Rattle.field.proofs.Laws.{mul-zero, one_lt, power_zero, power-suc}
use Rattle.field.proofs.Arrays.{value-nil, value-cons}
use Rattle.field.proofs.Places.{horner_each_width, length-horner_each, of_each_width, take-of_each}
use Rattle.field.proofs.Units.{element_unit, units_number}
use Rattle.field.proofs.Verdicts.{verdict_accepted, verdict_refused}
use Rattle.poly.specs.Polynomials.{sum, monic}
use Rattle.key.specs.Keys.{Key, goppa_at, key_of}
use Rattle.decoder.specs.Calls.{read_number}
use Rattle.decoder.specs.Decoding.{chosen, square_sums}
use Rattle.point_sums.specs.Weighted.{weighted_sum, weighted_sums}
use Rattle.point_sums.proofs.Weighted.{length_sums, sums_at, all_width}
use Rattle.decoding.specs.Parts.{point_sums, sums_of, divisors, points_of}
use Rattle.decoding.specs.declared.sums.Sums.{Sums}
use Rattle.decoding.proofs.Gathered.{length-chosen-le}
use Rattle.decoding.proofs.PowerSums.{points_sums, chosen_sums}
use Rattle.reading.specs.Answers.{answer_of, read_of}
use Rattle.reading.specs.declared.calls.Answer.{Answer}
use Rattle.bench_calls.specs.Weights.{sum_by_squares, refusal_of}
use Rattle.bench_calls.specs.declared.sums.Sum.{Sum}

-- 1 has an inverse
every_one : (m : ℕ) → is_unit m 1 ≡ true → (s : List ℕ) → every (is_unit m) (map (λ a. 1) s) ≡ true
unfolding every
every_one m u [] = refl
every_one m u (a ∷ s) = rw u (every_one m u s)

-- 1 / v² for each v
abbrev inverse_squares : ℕ → List ℕ → List ℕ
inverse_squares m v = horner_each m 0 (map (inv m) v) (map (inv m) v)

-- a sum by its number
module _ (m : ℕ) (v p : List ℕ) where
  abbrev terms : List ℕ
  terms = horner_each m 0 (inverse_squares m v) p

  pub squares_refused : {x : Verdict} {y : ℕ} → x ≡ verdict_of (inverse_number m v) → x ≡ Refused y
      → ◌≡◌ {A = Sum} record { verdict = x; value = 0 } (sum_by_squares m v p)
  unfolding sum_by_squares
  squares_refused e h = rw (e, ne_eqb _ 0 (verdict_refused _ e h))

  pub squares_accepted : {x : Verdict} {d : ℕ} → x ≡ verdict_of (inverse_number m v) → x ≡ Accepted → d ≡ sum terms
      → ◌≡◌ {A = Sum} record { verdict = x; value = d } (sum_by_squares m v p)
  unfolding sum_by_squares
  squares_accepted e h q = rw (e, q, eq-eqb _ 0 (verdict_accepted _ e h))

  pub squares_verdict : {r : Sum} → r ≡ sum_by_squares m v p → r.verdict ≡ verdict_of (inverse_number m v)
  unfolding sum_by_squares
  squares_verdict e = ap (λ (r : Sum). r.verdict) e

  pub squares_value : {r : Sum} → r ≡ sum_by_squares m v p → inverse_number m v ≡ 0 → r.value ≡ sum terms
  unfolding sum_by_squares
  squares_value e z = ap (λ (r : Sum). r.value) e ∙ rw z

-- the sums by 1 / g(a)²
module _ (m : ℕ) (g s : List ℕ) where
  -- what they divide by
  abbrev values : List ℕ
  values = map (goppa_at (key_of m s g)) s

  abbrev weights : List ℕ
  weights = inverse_squares m values

  unfoldable pub sums : List ℕ
  sums = weighted_sums m (2 * length g) weights s

  pub length_all : length sums ≡ 2 * length g
  unfolding sums
  length_all = length_sums m (2 * length g) weights s

-- a^k at each point a, 1 past them
unfoldable pub powers : ℕ → List ℕ → ℕ → List ℕ
powers m s k = of_each m (λ a. power m a k) s

-- the terms of the sum k by the powers
by_powers : (m k : ℕ) (x s : List ℕ) → length x ≤ length s
    → sum (each_with (λ x y. mul m x y ⊕ 0) x (map (λ a. power m a k) s)) ≡ weighted_sum m k x s
unfolding each_with sum weighted_sum
by_powers m k [] s h = refl
by_powers m k (y ∷ x) [] h = absurd (omega arith)
by_powers m k (y ∷ x) (a ∷ s) h = ap₂ ◌⊕◌ (xor-zero _) (by_powers m k x s (omega arith))

module _ (m : ℕ) (w : Width m) (g s : List ℕ) where
  pub powers_start : replicate 8192 1 ≡ powers m s 0
  unfolding powers
  powers_start =
      sym (each_with-keep (λ x a. x) (λ x a. refl) (replicate 8192 1) s)
      ∙ each_with-replicate (λ x a. x) 8192 1 s
      ∙ ap (λ f. each_with f (replicate 8192 1) s) (fun_ext λ x. fun_ext λ a. sym (power_zero m a))
      ∙ sym (of_each_width m (λ a. power m a 0) s w)

  next : (k a : ℕ) → mul m (power m a k) a ⊕ 0 ≡ power m a (k + 1)
  next k a = xor-zero _ ∙ sym (power-suc m a k) ∙ ap (power m a) (sym (add-one k))

  pub powers_next : (k : ℕ) {p : List ℕ} → p ≡ powers m s k → horner_each m 0 p s ≡ powers m s (k + 1)
  unfolding powers
  powers_next k e =
      ap (λ (p : List ℕ). horner_each m 0 p s) (e ∙ of_each_width m (λ a. power m a k) s w)
      ∙ horner_each_width m 0 _ s w
      ∙ each_with_again (λ x a. power m a k) (λ x a. mul m x a ⊕ 0) (replicate 8192 1) s
      ∙ ap (λ f. each_with f (replicate 8192 1) s) (fun_ext λ x. fun_ext λ a. next k a)
      ∙ sym (of_each_width m (λ a. power m a (k + 1)) s w)

  -- the sum k; all of them
  pub sum-at : length s ≤ 8192 → (k : ℕ) → k < 2 * length g → sum (horner_each m 0 (weights m g s) (powers m s k)) ≡ get_or (sums m g s) k 0
  unfolding powers sums
  sum-at few k h =
      let v : List ℕ = values m g s in
      let x : List ℕ = weights m g s in
      let n : length x ≡ length s = length-horner_each m 0 (map (inv m) v) (map (inv m) v) ∙ length-map v (inv m) ∙ length-map s (goppa_at (key_of m s g)) in
      ap sum
      (horner_each_width m 0 x (powers m s k) w
      ∙ sym (each_with-take (λ x y. mul m x y ⊕ 0) x (powers m s k) (length s) (λ l. omega arith))
      ∙ ap (each_with (λ x y. mul m x y ⊕ 0) x) (take-of_each m (λ a. power m a k) s w few))
      ∙ by_powers m k x s (omega arith)
      ∙ sym (sums_at m (2 * length g) x s k h)

  pub sums_all_lem : length g ≤ 128 → (k : ℕ) → 2 * length g ≤ k → padded 256 (take k (sums m g s)) ≡ padded 256 (point_sums m g s)
  unfolding sums
  sums_all_lem l k h =
      let x : List ℕ = weights m g s in
      let n : min (2 * length g) 256 ≡ 2 * length g = omega arith in
      ap (padded 256) (take_all k (sums m g s) (omega (arith, length_all m g s)))
      ∙ ap (λ (n : ℕ). padded 256 (weighted_sums m n x s)) (sym n)
      ∙ all_width m (2 * length g) x s w
      ∙ points_sums m w g s l _ x refl refl

  -- where g is 1 no value is 0
  values_one : length g ≡ 0 → inverse_number m (values m g s) ≡ 0
  unfolding goppa_at key_of monic
  values_one e = go g e
    where
      one : (a : ℕ) → value m (1 ∷ []) a ≡ 1
      one a = value-cons m 1 [] a ∙ ap (λ (v : ℕ). 1 ⊕ mul m a v) (value-nil m a) ∙ ap (◌⊕◌ 1) (mul-zero m a) ∙ xor-zero 1

      go : (g : List ℕ) → length g ≡ 0 → inverse_number m (map (goppa_at (key_of m s g)) s) ≡ 0
      go [] e =
          ap (λ f. inverse_number m (map f s)) (fun_ext one)
          ∙ units_number m (map (λ a. 1) s) w (every_one m (element_unit m 1 (one_lt m w) (λ z. omega arith)) s)
      go (x ∷ g) e = absurd (omega arith)

  -- behind the last sum none is 0: the first has said so, or there is none and g is 1
  pub values_units : (k : ℕ) → 2 * length g ≤ k → (0 < k → inverse_number m (values m g s) ≡ 0) → inverse_number m (values m g s) ≡ 0
  values_units zero n h = values_one (omega arith)
  values_units (suc k) n h = h (zero-lt-suc k)

-- at most 8192 points
pub length_points : (support word : List ℕ) → length (points_of support word) ≤ 8192
unfolding points_of
length_points support word = go (leb (length support) 8192) refl
  where
    go : (b : Bool) → leb (length support) 8192 ≡ b → length (cond b (chosen (unpack (length support) word) support) []) ≤ 8192
    go true e = let l = leb-true (length support) 8192 e in omega (arith, length-chosen-le (unpack (length support) word) support)
    go false e = zero-le

-- the sums over a word's points are the word's
pub sums_points : (m : ℕ) (support g word : List ℕ) → length support ≤ 8192 → (points : List ℕ) → points ≡ points_of support word → {r : Sums}
    → r ≡ sums_of (inverse_number m (map (goppa_at (key_of m points g)) points)) (point_sums m g points)
    → r ≡ (let k = key_of m support g in let c = unpack (length support) word in sums_of (inverse_number m (divisors k c)) (square_sums k c))
unfolding points_of divisors goppa_at key_of
sums_points m support g word few points e er =
    let c : points ≡ chosen (unpack (length support) word) support = e ∙ rw (le-leb (length support) 8192 few) in
    er
    ∙ ap₂ (λ (v s : List ℕ). sums_of (inverse_number m v) s)
    (ap (map (goppa_at (key_of m support g))) c)
    (ap (point_sums m g) c ∙ chosen_sums m support g (row_unpack (length support) word))

-- the number of what read answers
pub refusal_read : (k : Key) (word out : List ℕ) {a : Answer} → a ≡ read_of k word out → refusal_of a ≡ read_number k word out
unfolding read_of answer_of refusal_of
refusal_read k word out e = ap refusal_of e ∙ go (read_number k word out) _
  where
    go : (q w : ℕ) → refusal_of (answer_of q w) ≡ q
    go zero w = refl
    go (suc q) w = refl
