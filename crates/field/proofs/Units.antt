-- The numbers that have an inverse, and what the inverses answer. Assumes nothing.
use mathlib.Core.Path.{◌≡◌, refl, sym, ap, ap₂, ◌∙◌}
use mathlib.Core.Logic.{◌⊎◌, inl, inr}
use mathlib.Core.Bool.{Bool, true, false, not, cond, ◌&&◌}
use mathlib.Core.List.{List, [], ◌∷◌, ◌++◌, map}
use Prim.Native.Nat.{ℕ, zero, suc, ◌%◌, ◌^◌, ◌<◌}
use native.Mathlib.Nat.{mod-eq_of_lt}
use native.Mathlib.Omega.{arith}
use borrow.Author.Tests.{eqb-true, eqb-false, eq-eqb, ne_eqb, not-true, not-false}
use lib.Dec.{eqb}
use Rattle.bits.specs.Bits.{every}
use Rattle.bits.proofs.Lists.{every_append}
use Rattle.field.specs.Field.{is_width, mul, inv}
use Rattle.field.specs.Numbers.{first_of}
use Rattle.field.specs.Verdicts.{verdict_of}
use Rattle.field.specs.Answers.{answer, is_unit, inverse_number, inverse_of, inverses_of}
use Rattle.field.specs.declared.Answer.{Answer}
use Rattle.field.specs.declared.Answer.TheVariants.{Value, Refused}
use Rattle.field.specs.declared.Verdict.{Verdict}
use Rattle.field.specs.declared.Verdict.TheVariants as verdicts
use Rattle.field.proofs.Table.{Width}
use Rattle.field.proofs.Laws.{mul_comm, mul_assoc, mul_left_comm, mul_low, zero-mul, one_lt, one-mul, mul-inv-low}
use Rattle.field.proofs.Verdicts.{verdict_refused}

module _ (m a : ℕ) where
  pub unit : (a % 2 ^ m ≡ 0 → ⊥) → is_unit m a ≡ true
  unfolding is_unit
  unit n = ap not (ne_eqb (a % 2 ^ m) 0 n)

  pub no_unit : a % 2 ^ m ≡ 0 → is_unit m a ≡ false
  unfolding is_unit
  no_unit z = ap not (eq-eqb (a % 2 ^ m) 0 z)

  unit_digits : is_unit m a ≡ true → a % 2 ^ m ≡ 0 → ⊥
  unfolding is_unit
  unit_digits e = eqb-false (a % 2 ^ m) 0 (not-true _ e)

  -- an element is one unless it is 0
  pub element_unit : a < 2 ^ m → (a ≡ 0 → ⊥) → is_unit m a ≡ true
  element_unit h n = unit (λ z. n (sym (mod-eq_of_lt h) ∙ z))

-- exactly these have an inverse
pub unit_inverse : (m : ℕ) → Width m → (a : ℕ) → is_unit m a ≡ true → mul m a (inv m a) ≡ 1
unit_inverse m w a e = mul-inv-low m w a (unit_digits m a e)

pub no_unit_no_inverse : (m a b : ℕ) → is_unit m a ≡ false → mul m a b ≡ 1 → ⊥
unfolding is_unit
no_unit_no_inverse m a b e h =
    let z : a % 2 ^ m ≡ 0 = eqb-true (a % 2 ^ m) 0 (not-false _ e) in
    let o : mul m a b ≡ 0 = sym (mul_low m a b) ∙ ap (λ (x : ℕ). mul m x b) z ∙ zero-mul m b in
    omega arith

pub inverse_unit : (m a b : ℕ) → mul m a b ≡ 1 → is_unit m a ≡ true
inverse_unit m a b h = go (is_unit m a) refl
  where
    go : (u : Bool) → is_unit m a ≡ u → u ≡ true
    go true e = refl
    go false e = absurd (no_unit_no_inverse m a b e h)

-- a product of units is one, and a unit is divided out
module _ (m : ℕ) (w : Width m) where
  pub unit_mul : (a b : ℕ) → is_unit m a ≡ true → is_unit m b ≡ true → is_unit m (mul m a b) ≡ true
  unit_mul a b u v =
      inverse_unit m (mul m a b) (mul m (inv m a) (inv m b))
      (four a b (inv m a) (inv m b) ∙ ap₂ (mul m) (unit_inverse m w a u) (unit_inverse m w b v) ∙ one-mul m w (one_lt m w))
    where
      four : (a b x y : ℕ) → mul m (mul m a b) (mul m x y) ≡ mul m (mul m a x) (mul m b y)
      four a b x y = simp (mul_assoc m, mul_left_comm m)

  pub unit_divided : (a : ℕ) → is_unit m a ≡ true → {x : ℕ} → x < 2 ^ m → mul m (inv m a) (mul m a x) ≡ x
  unit_divided a u {x} h =
      sym (mul_assoc m (inv m a) a x) ∙ ap (λ (y : ℕ). mul m y x) (mul_comm m (inv m a) a ∙ unit_inverse m w a u) ∙ one-mul m w h

-- the number of the refusal
module _ (m : ℕ) (xs : List ℕ) where
  pub inverse_no_width : is_width m ≡ false → inverse_number m xs ≡ 1
  unfolding inverse_number first_of
  inverse_no_width n = rw n

  pub no_units_number : Width m → every (is_unit m) xs ≡ false → inverse_number m xs ≡ 32
  unfolding inverse_number first_of
  no_units_number w e = rw (w, e)

  pub units_number : Width m → every (is_unit m) xs ≡ true → inverse_number m xs ≡ 0
  unfolding inverse_number first_of
  units_number w e = rw (w, e)

  pub accepted_width : inverse_number m xs ≡ 0 → Width m
  unfolding inverse_number first_of
  accepted_width = go (is_width m) (every (is_unit m) xs)
    where
      go : (w e : Bool) → first_of ((not w, 1) ∷ (not e, 32) ∷ []) ≡ 0 → w ≡ true
      go true e z = refl
      go false e z = absurd (omega arith)

  -- of two lists: the first's, or where that is 0 the second's
  pub inverse_append : (ys : List ℕ) → inverse_number m (xs ++ ys) ≡ cond (eqb (inverse_number m xs) 0) (inverse_number m ys) (inverse_number m xs)
  unfolding inverse_number first_of
  inverse_append ys = rw (every_append (is_unit m) xs ys) (go (is_width m) (every (is_unit m) xs) (every (is_unit m) ys))
    where
      go : (w a b : Bool) → first_of ((not w, 1) ∷ (not (a && b), 32) ∷ [])
          ≡ cond (eqb (first_of ((not w, 1) ∷ (not a, 32) ∷ [])) 0) (first_of ((not w, 1) ∷ (not b, 32) ∷ [])) (first_of ((not w, 1) ∷ (not a, 32) ∷ []))
      go true true b = refl
      go true false b = refl
      go false a b = refl

  -- at a width 32 is the only refusal
  pub inverse_numbers : Width m → (inverse_number m xs ≡ 0) ⊎ (inverse_number m xs ≡ 32)
  inverse_numbers w = go (every (is_unit m) xs) refl
    where
      go : (e : Bool) → every (is_unit m) xs ≡ e → (inverse_number m xs ≡ 0) ⊎ (inverse_number m xs ≡ 32)
      go true e = inl (units_number w e)
      go false e = inr (no_units_number w e)

  -- at each place
  pub inverses_given : {ys : List ℕ} → inverse_number m xs ≡ 0 → ys ≡ inverses_of m xs → ys ≡ map (inv m) xs
  unfolding inverses_of
  inverses_given z e = e ∙ ap (λ (b : Bool). cond b (map (inv m) xs) xs) (eq-eqb _ 0 z)

  pub inverses_made : {ys : List ℕ} → inverse_number m xs ≡ 0 → ys ≡ map (inv m) xs → ys ≡ inverses_of m xs
  unfolding inverses_of
  inverses_made z e = e ∙ sym (ap (λ (b : Bool). cond b (map (inv m) xs) xs) (eq-eqb _ 0 z))

  pub inverses_kept : (inverse_number m xs ≡ 0 → ⊥) → xs ≡ inverses_of m xs
  unfolding inverses_of
  inverses_kept n = sym (ap (λ (b : Bool). cond b (map (inv m) xs) xs) (ne_eqb _ 0 n))

  -- no refusal where every member has an inverse
  pub inverses_not_refused : {v : Verdict} {x : ℕ} → Width m → every (is_unit m) xs ≡ true → v ≡ verdict_of (inverse_number m xs) → v ≡ verdicts.Refused x → ⊥
  inverses_not_refused w e h r = verdict_refused _ h r (units_number w e)

-- of one number
module _ (m a : ℕ) {r : Answer} {x : ℕ} where
  pub inverse_given : r ≡ inverse_of m a → r ≡ Value x → x ≡ inv m a
  unfolding inverse_of answer
  inverse_given e h = go (inverse_number m (a ∷ [])) (sym h ∙ e)
    where
      go : (q : ℕ) → Value x ≡ answer q (inv m a) → x ≡ inv m a
      go zero k = cc
      go (suc q) k = let z : ◌≡◌ {A = ℕ} 0 1 = cc in absurd (omega arith)

  pub inverse_not_refused : Width m → is_unit m a ≡ true → r ≡ inverse_of m a → r ≡ Refused x → ⊥
  unfolding inverse_of every answer
  inverse_not_refused w u e h = go (inverse_number m (a ∷ [])) (units_number m (a ∷ []) w (rw u)) (sym h ∙ e)
    where
      go : (q : ℕ) → q ≡ 0 → Refused x ≡ answer q (inv m a) → ⊥
      go zero z k = let d : ◌≡◌ {A = ℕ} 0 1 = cc in omega arith
      go (suc q) z k = omega arith

-- an element's: 1, and 32 for 0
pub element_inverse : (m a : ℕ) → a < 2 ^ m → inverse_of m a ≡ answer (first_of ((not (is_width m), 1) ∷ (eqb a 0, 32) ∷ [])) (inv m a)
unfolding inverse_of inverse_number first_of every is_unit
element_inverse m a h =
    ap (λ (q : ℕ). answer q (inv m a))
    (ap (λ (x : ℕ). first_of ((not (is_width m), 1) ∷ (not (not (eqb x 0) && true), 32) ∷ [])) (mod-eq_of_lt h) ∙ go (is_width m) (eqb a 0))
  where
    go : (w z : Bool) → first_of ((not w, 1) ∷ (not (not z && true), 32) ∷ []) ≡ first_of ((not w, 1) ∷ (z, 32) ∷ [])
    go w true = refl
    go w false = refl
