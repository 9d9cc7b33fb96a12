-- A field of characteristic 2 with decidable equality. Its laws hold of all elements; only the inverse asks for one that is not 0.
-- Assumes nothing.
use mathlib.Core.Path.{◌≡◌, ◌∙◌}
use mathlib.Core.Logic.{◌≢◌}
use Rattle.algebra.proofs.Ring.{Ring}
use Rattle.algebra.proofs.Identities.{unit_cancel}

pub record Field : Type 1 where
  pub F : Type 0
  pub eq? : Discrete F
  pub 𝟘 : F
  pub 𝟙 : F
  pub ◌⊕◌ : F → F → F
  pub ◌⊗◌ : F → F → F
  pub inv : F → F
  pub 𝟙≢𝟘 : 𝟙 ≢ 𝟘
  pub laws : Ring 𝟘 𝟙 ◌⊕◌ ◌⊗◌
  pub ⊗-inv : (a : F) → a ≢ 𝟘 → ◌⊗◌ a (inv a) ≡ 𝟙

module _ (K : Field) where
  open K use {F, eq?, 𝟘, 𝟙, ◌⊗◌, inv, ⊗-inv, laws as L}

  infixl 70 ◌⊗◌
  pub inv-mul : (a : F) → a ≢ 𝟘 → inv a ⊗ a ≡ 𝟙
  inv-mul a h = L.mul_comm (inv a) a ∙ ⊗-inv a h

  pub is_zero : (a : F) → Dec (a ≡ 𝟘)
  is_zero a = eq? a 𝟘

  pub no_divisors : (a b : F) → a ≢ 𝟘 → a ⊗ b ≡ 𝟘 → b ≡ 𝟘
  no_divisors a b h e = unit_cancel L (inv a) a b (inv-mul a h) e
