-- Commutative rings of characteristic 2, as laws over explicit operations. `simp (ring, L)` decides their equations:
-- in characteristic 2 a polynomial is a set of monomials, so sorting and cancelling of pairs is a normal form. Assumes nothing.
use mathlib.Core.Path.{◌≡◌, sym, ◌∙◌, ap}

module _ {A : Type 0} (𝟘 𝟙 : A) (◌⊕◌ ◌⊗◌ : A → A → A) where
  infixl 65 ◌⊕◌
  infixl 70 ◌⊗◌
  pub record Ring : Type 0 where
    pub add_assoc : (a b c : A) → (a ⊕ b) ⊕ c ≡ a ⊕ (b ⊕ c)
    pub add_comm : (a b : A) → a ⊕ b ≡ b ⊕ a
    pub add-zero : (a : A) → a ⊕ 𝟘 ≡ a
    pub add_self : (a : A) → a ⊕ a ≡ 𝟘
    pub mul_assoc : (a b c : A) → (a ⊗ b) ⊗ c ≡ a ⊗ (b ⊗ c)
    pub mul_comm : (a b : A) → a ⊗ b ≡ b ⊗ a
    pub mul-one : (a : A) → a ⊗ 𝟙 ≡ a
    pub mul-add : (a b c : A) → a ⊗ (b ⊕ c) ≡ (a ⊗ b) ⊕ (a ⊗ c)

module _ {A : Type 0} {𝟘 𝟙 : A} {◌⊕◌ ◌⊗◌ : A → A → A} (L : Ring 𝟘 𝟙 ◌⊕◌ ◌⊗◌) where
  infixl 65 ◌⊕◌
  infixl 70 ◌⊗◌
  pub add_assoc : (a b c : A) → (a ⊕ b) ⊕ c ≡ a ⊕ (b ⊕ c)
  add_assoc = L.add_assoc

  pub add_comm : (a b : A) → a ⊕ b ≡ b ⊕ a
  add_comm = L.add_comm

  pub add-zero : (a : A) → a ⊕ 𝟘 ≡ a
  add-zero = L.add-zero

  pub add_self : (a : A) → a ⊕ a ≡ 𝟘
  add_self = L.add_self

  pub mul_assoc : (a b c : A) → (a ⊗ b) ⊗ c ≡ a ⊗ (b ⊗ c)
  mul_assoc = L.mul_assoc

  pub mul_comm : (a b : A) → a ⊗ b ≡ b ⊗ a
  mul_comm = L.mul_comm

  pub mul-one : (a : A) → a ⊗ 𝟙 ≡ a
  mul-one = L.mul-one

  pub mul-add : (a b c : A) → a ⊗ (b ⊕ c) ≡ (a ⊗ b) ⊕ (a ⊗ c)
  mul-add = L.mul-add

  pub add_left : (a b c : A) → a ⊕ (b ⊕ c) ≡ b ⊕ (a ⊕ c)
  add_left a b c = sym (add_assoc a b c) ∙ ap (λ x. x ⊕ c) (add_comm a b) ∙ add_assoc b a c

  pub mul_left : (a b c : A) → a ⊗ (b ⊗ c) ≡ b ⊗ (a ⊗ c)
  mul_left a b c = sym (mul_assoc a b c) ∙ ap (λ x. x ⊗ c) (mul_comm a b) ∙ mul_assoc b a c

  pub zero-add : (a : A) → 𝟘 ⊕ a ≡ a
  zero-add a = add_comm 𝟘 a ∙ add-zero a

  pub add-pair : (a b : A) → a ⊕ (a ⊕ b) ≡ b
  add-pair a b = sym (add_assoc a a b) ∙ ap (λ x. x ⊕ b) (add_self a) ∙ zero-add b

  pub one-mul : (a : A) → 𝟙 ⊗ a ≡ a
  one-mul a = mul_comm 𝟙 a ∙ mul-one a

  pub mul-zero : (a : A) → a ⊗ 𝟘 ≡ 𝟘
  mul-zero a = ap (λ x. a ⊗ x) (sym (add_self 𝟘)) ∙ mul-add a 𝟘 𝟘 ∙ add_self (a ⊗ 𝟘)

  pub zero-mul : (a : A) → 𝟘 ⊗ a ≡ 𝟘
  zero-mul a = mul_comm 𝟘 a ∙ mul-zero a

  pub add-mul : (a b c : A) → (a ⊕ b) ⊗ c ≡ (a ⊗ c) ⊕ (b ⊗ c)
  add-mul a b c = rw (mul_comm (a ⊕ b) c, mul-add c a b, mul_comm c a, mul_comm c b)

  -- equal up to a pair: from a sum that vanishes
  pub add_cancel : (a b : A) → a ⊕ b ≡ 𝟘 → a ≡ b
  add_cancel a b e = sym (add-zero a) ∙ ap (λ x. a ⊕ x) (sym (add_self b)) ∙ sym (add_assoc a b b) ∙ ap (λ x. x ⊕ b) e ∙ zero-add b

  pub add_move : (a b c : A) → a ⊕ b ≡ c → a ≡ c ⊕ b
  add_move a b c e = sym (add-zero a) ∙ ap (λ x. a ⊕ x) (sym (add_self b)) ∙ sym (add_assoc a b b) ∙ ap (λ x. x ⊕ b) e

pub ruleset ring = (add_assoc, add_comm, add_left, add-zero, zero-add, add_self, add-pair, mul_assoc, mul_comm, mul_left, mul-one, one-mul, mul-zero, zero-mul, mul-add, add-mul)
