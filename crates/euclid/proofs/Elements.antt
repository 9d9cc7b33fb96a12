-- The coefficients are elements before the first step and after each, so what a step divides by has an inverse. Assumes nothing.
use mathlib.Core.Path.{◌≡◌}
use mathlib.Core.Bool.{true}
use mathlib.Core.List.{List}
use Prim.Native.Nat.{ℕ, ◌-◌}
use lib.ListN.{get_or}
use Rattle.bits.specs.Bits.{every, padded}
use Rattle.field.specs.Field.{is_element}
use Rattle.field.specs.Answers.{is_unit}
use Rattle.field.proofs.Units.{element_unit}
use Rattle.field.proofs.Arrays.{every-elements, elements-every}
use Rattle.euclid.specs.declared.common.Pair.{Pair}
use Rattle.euclid.specs.Euclid.{started, quotient, reduced, step, accepted}
use Rattle.euclid.proofs.Coefficients.{padded-elements, added-elements}
use Rattle.euclid.proofs.Answers.{accepted-parts}
use Rattle.euclid.proofs.Steps.{Low, by_step}

-- the coefficients of both polynomials are elements
abbrev pub OfElements : ℕ → Pair → Type 0
OfElements m p = (every (is_element m) p.a ≡ true) × (every (is_element m) p.b ≡ true)

module _ (m : ℕ) where
  pub started-elements : (a b : List ℕ) → accepted m a ≡ true → accepted m b ≡ true → OfElements m (started a b)
  unfolding started
  started-elements a b ea eb = (side a ea, side b eb)
    where
      side : (l : List ℕ) → accepted m l ≡ true → every (is_element m) (padded 129 l) ≡ true
      side l e =
          let h = accepted-parts m l e in
          elements-every m (padded 129 l) (padded-elements m h.0 l (every-elements m l h.2))

  -- products and sums of elements are elements
  pub step-elements : (p : Pair) → OfElements m p → OfElements m (step m p)
  step-elements p e = by_step m (OfElements m) p (λ z. e) (λ n l. (e.1, e.0)) (λ n l. (reduced_a, e.1))
    where
      reduced_a : every (is_element m) (reduced m p).a ≡ true
      reduced_a = elements-every m _ (added-elements m (quotient m p) (p.da - p.db) p.da p.a p.b (every-elements m p.a e.0))

-- the divisor of a step
pub leading_unit : (m : ℕ) (p : Pair) → every (is_element m) p.b ≡ true → ¬ Low p → is_unit m (get_or p.b (p.db - 1) 0) ≡ true
leading_unit m p e n = element_unit m _ (every-elements m p.b e (p.db - 1)) n
