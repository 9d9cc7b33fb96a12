-- Lists of points of a ring: what holds of all of them, distinct points, and sums over them. Assumes nothing.
use mathlib.Core.Path.{◌≡◌, refl, sym, ◌∙◌, ap, ap₂, subst}
use mathlib.Core.List.{List, [], ◌∷◌, Memᴰ}
use Prim.Native.Nat.{ℕ, zero, suc}
use Rattle.algebra.proofs.Ring.{Ring, ring}

abbrev pub All : {F : Type 0} → (F → Type 0) → List F → Type 0
All P [] = Unit {0}
All P (a ∷ E) = P a × All P E

-- what holds of all points holds of each member, and the other way round
pub all_at : {F : Type 0} (P : F → Type 0) {a : F} {E : List F} → All P E → Memᴰ a E → P a
all_at P h (Memᴰ.head e) = subst P (sym e) h.0
all_at P h (Memᴰ.tail m) = all_at P h.1 m

pub all_of : {F : Type 0} (P : F → Type 0) (E : List F) → ((a : F) → Memᴰ a E → P a) → All P E
all_of P [] h = tt
all_of P (a ∷ E) h = (h a (Memᴰ.head refl), all_of P E (λ b m. h b (Memᴰ.tail m)))

pub all_map : {F : Type 0} (P Q : F → Type 0) → ((a : F) → P a → Q a) → (E : List F) → All P E → All Q E
all_map P Q f [] h = h
all_map P Q f (a ∷ E) h = (f a h.0, all_map P Q f E h.1)

abbrev pub Distinct : {F : Type 0} → List F → Type 0
Distinct [] = Unit {0}
Distinct (a ∷ E) = All (λ b. ¬ (a ≡ b)) E × Distinct E

module _ {F : Type 0} {𝟘 𝟙 : F} {◌⊕◌ ◌⊗◌ : F → F → F} (L : Ring 𝟘 𝟙 ◌⊕◌ ◌⊗◌) where
  infixl 65 ◌⊕◌
  infixl 70 ◌⊗◌
  -- a^s, where a^0 is 1 for 0 too
  unfoldable pub pow : F → ℕ → F
  pow a zero = 𝟙
  pow a (suc s) = a ⊗ pow a s

  pub pow-zero : (a : F) → pow a 0 ≡ 𝟙
  unfolding pow
  pow-zero a = refl

  pub pow-suc : (a : F) (s : ℕ) → pow a (suc s) ≡ a ⊗ pow a s
  unfolding pow
  pow-suc a s = refl

  -- the sum of f(a) over the points
  unfoldable pub total : (F → F) → List F → F
  total f [] = 𝟘
  total f (a ∷ E) = f a ⊕ total f E

  pub total-cons : (f : F → F) (a : F) (E : List F) → total f (a ∷ E) ≡ f a ⊕ total f E
  unfolding total
  total-cons f a E = refl

  pub total_cong : (f g : F → F) (E : List F) → All (λ a. f a ≡ g a) E → total f E ≡ total g E
  unfolding total
  total_cong f g [] h = refl
  total_cong f g (a ∷ E) h = ap₂ ◌⊕◌ h.0 (total_cong f g E h.1)

  pub total_none : (f : F → F) (E : List F) → All (λ a. f a ≡ 𝟘) E → total f E ≡ 𝟘
  unfolding total
  total_none f [] h = refl
  total_none f (a ∷ E) h = ap₂ ◌⊕◌ h.0 (total_none f E h.1) ∙ L.add_self 𝟘

  pub total-add : (f g : F → F) (E : List F) → total (λ a. f a ⊕ g a) E ≡ total f E ⊕ total g E
  unfolding total
  total-add f g [] = sym (L.add_self 𝟘)
  total-add f g (a ∷ E) = ap (λ x. f a ⊕ g a ⊕ x) (total-add f g E) ∙ simp (ring, L)

  pub total-mul : (c : F) (f : F → F) (E : List F) → total (λ a. c ⊗ f a) E ≡ c ⊗ total f E
  unfolding total
  total-mul c f [] = simp (ring, L)
  total-mul c f (a ∷ E) = ap (λ x. c ⊗ f a ⊕ x) (total-mul c f E) ∙ sym (L.mul-add c _ _)

  -- the product of f(a) over the points
  unfoldable pub product : (F → F) → List F → F
  product f [] = 𝟙
  product f (a ∷ E) = f a ⊗ product f E

  -- the power sum of weight w: the sum of w(a)·a^s
  abbrev pub power_sum : (F → F) → ℕ → List F → F
  power_sum w s E = total (λ a. w a ⊗ pow a s) E

  pub power_sum_suc : (w : F → F) (s : ℕ) (E : List F) → power_sum (λ a. w a ⊗ a) s E ≡ power_sum w (suc s) E
  unfolding total pow
  power_sum_suc w s [] = refl
  power_sum_suc w s (a ∷ E) = ap₂ ◌⊕◌ (L.mul_assoc _ _ _) (power_sum_suc w s E)
