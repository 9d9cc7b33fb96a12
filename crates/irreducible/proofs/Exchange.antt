-- The numbers 25 and 34 by the tests of the code. Assumes nothing.
use mathlib.Core.Path.{◌≡◌}
use mathlib.Core.Bool.{true, false, not}
use borrow.Author.Tests.{eq-eqb, ne_eqb, eqb-true, not-false}
use lib.Dec.{eqb}
use Rattle.field.specs.Numbers.{first_of}
use Rattle.field.proofs.Numbers.{first-clear}
use Rattle.key.specs.Keys.{Key, key_number, unsound, reducible}
use Rattle.irreducible.specs.Answers.{exchange_checks}

module _ (k : Key) where
  pub exchange-unsound : (key_number k ≡ 0 → ⊥) → 25 ≡ first_of (exchange_checks k)
  unfolding exchange_checks unsound first_of
  exchange-unsound h = rw (ne_eqb (key_number k) 0 h)

  module _ (good : key_number k ≡ 0) where
    pub exchange-reducible : reducible k ≡ true → 34 ≡ first_of (exchange_checks k)
    unfolding exchange_checks unsound first_of
    exchange-reducible h = rw (eq-eqb (key_number k) 0 good, h)

    pub exchange_right : reducible k ≡ false → 0 ≡ first_of (exchange_checks k)
    unfolding exchange_checks unsound first_of
    exchange_right h = rw (eq-eqb (key_number k) 0 good, h)

  -- neither: load accepts the key, and g is irreducible
  pub exchange-clear : first_of (exchange_checks k) ≡ 0 → (key_number k ≡ 0) × (reducible k ≡ false)
  unfolding exchange_checks unsound
  exchange-clear e =
      let c = first-clear (not (eqb (key_number k) 0)) 24 _ e in
      (eqb-true (key_number k) 0 (not-false _ c.0), (first-clear (reducible k) 33 _ c.1).0)
