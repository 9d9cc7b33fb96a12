-- Formal power series over a ring of characteristic 2, as functions of the index. The product goes by the head and the tail
-- of its left factor, so no index is subtracted. Equality is a path, by function extensionality. Assumes nothing.
use mathlib.Core.Path.{◌≡◌, refl, sym, ◌∙◌, ap, ap₂, fun_ext}
use Prim.Native.Nat.{ℕ, zero, suc, ◌+◌, ◌-◌, ◌<◌}
use native.Mathlib.Nat.{zero-add as ℕ·zero-add, suc-add as ℕ·suc-add}
use native.Mathlib.Omega.{arith}
use native.Mathlib.Decide.{dec_lt}
use Rattle.algebra.proofs.Ring.{Ring, ring}

abbrev pub Series : Type 0 → Type 0
Series F = ℕ → F

module _ {F : Type 0} {𝟘 𝟙 : F} {◌⊕◌ ◌⊗◌ : F → F → F} (L : Ring 𝟘 𝟙 ◌⊕◌ ◌⊗◌) where
  infixl 65 ◌⊕◌
  infixl 70 ◌⊗◌
  infixl 65 ◌⊞◌
  infixl 70 ◌⊠◌
  unfoldable pub tail : Series F → Series F
  tail p = λ n. p (suc n)

  unfoldable pub ◌⊞◌ : Series F → Series F → Series F
  ◌⊞◌ p q = λ n. p n ⊕ q n

  unfoldable pub ◌⊠◌ : Series F → Series F → Series F
  ◌⊠◌ p q zero = p 0 ⊗ q 0
  ◌⊠◌ p q (suc n) = p 0 ⊗ q (suc n) ⊕ ◌⊠◌ (λ i. p (suc i)) q n

  unfoldable pub O : Series F
  O = λ n. 𝟘

  unfoldable pub C : F → Series F
  C a zero = a
  C a (suc n) = 𝟘

  unfoldable pub X : Series F
  X zero = 𝟘
  X (suc n) = C 𝟙 n

  unfoldable pub scale : F → Series F → Series F
  scale c p = λ n. c ⊗ p n

  -- the ring of series
  pub zero-at : (p : Series F) (n : ℕ) → (O ⊠ p) n ≡ 𝟘
  unfolding ◌⊠◌ O
  zero-at p zero = simp (ring, L)
  zero-at p (suc n) = ap (λ x. 𝟘 ⊗ p (suc n) ⊕ x) (zero-at p n) ∙ simp (ring, L)

  pub C-at : (c : F) (p : Series F) (n : ℕ) → (C c ⊠ p) n ≡ c ⊗ p n
  unfolding ◌⊠◌ C O
  C-at c p zero = refl
  C-at c p (suc n) = ap (λ x. c ⊗ p (suc n) ⊕ x) (zero-at p n) ∙ L.add-zero _

  pub X-suc : (p : Series F) (n : ℕ) → (X ⊠ p) (suc n) ≡ p n
  unfolding ◌⊠◌ X
  X-suc p n = ap (λ x. 𝟘 ⊗ p (suc n) ⊕ x) (C-at 𝟙 p n) ∙ simp (ring, L)

  mul-last : (p q : Series F) (n : ℕ) → (p ⊠ q) (suc n) ≡ (p ⊠ tail q) n ⊕ p (suc n) ⊗ q 0
  unfolding ◌⊠◌ tail
  mul-last p q zero = refl
  mul-last p q (suc n) = ap (λ x. p 0 ⊗ q (suc (suc n)) ⊕ x) (mul-last (λ i. p (suc i)) q n) ∙ sym (L.add_assoc _ _ _)

  mul_comm_at : (p q : Series F) (n : ℕ) → (p ⊠ q) n ≡ (q ⊠ p) n
  unfolding ◌⊠◌ tail
  mul_comm_at p q zero = L.mul_comm _ _
  mul_comm_at p q (suc n) = ap₂ ◌⊕◌ (L.mul_comm _ _) (mul_comm_at (tail p) q n) ∙ L.add_comm _ _ ∙ sym (mul-last q p n)

  pub add-mul-at : (p q r : Series F) (n : ℕ) → ((p ⊞ q) ⊠ r) n ≡ (p ⊠ r) n ⊕ (q ⊠ r) n
  unfolding ◌⊠◌ tail ◌⊞◌
  add-mul-at p q r zero = simp (ring, L)
  add-mul-at p q r (suc n) = ap (λ x. (p 0 ⊕ q 0) ⊗ r (suc n) ⊕ x) (add-mul-at (tail p) (tail q) r n) ∙ simp (ring, L)

  scale_mul-at : (c : F) (p q : Series F) (n : ℕ) → (scale c p ⊠ q) n ≡ c ⊗ (p ⊠ q) n
  unfolding ◌⊠◌ tail scale
  scale_mul-at c p q zero = simp (ring, L)
  scale_mul-at c p q (suc n) = ap (λ x. (c ⊗ p 0) ⊗ q (suc n) ⊕ x) (scale_mul-at c (tail p) q n) ∙ simp (ring, L)

  mul_assoc_at : (p q r : Series F) (n : ℕ) → ((p ⊠ q) ⊠ r) n ≡ (p ⊠ (q ⊠ r)) n
  unfolding ◌⊠◌ tail scale ◌⊞◌
  mul_assoc_at p q r zero = simp (ring, L)
  mul_assoc_at p q r (suc n) =
      ap (λ x. (p 0 ⊗ q 0) ⊗ r (suc n) ⊕ x)
      (add-mul-at (scale (p 0) (tail q)) (tail p ⊠ q) r n ∙ ap₂ ◌⊕◌ (scale_mul-at (p 0) (tail q) r n) (mul_assoc_at (tail p) q r n))
      ∙ (simp (ring, L))

  pub series : Ring O (C 𝟙) ◌⊞◌ ◌⊠◌
  unfolding ◌⊞◌ O
  series = record {
    add_assoc = λ p q r. fun_ext (λ n. L.add_assoc _ _ _);
    add_comm = λ p q. fun_ext (λ n. L.add_comm _ _);
    add-zero = λ p. fun_ext (λ n. L.add-zero _);
    add_self = λ p. fun_ext (λ n. L.add_self _);
    mul_assoc = λ p q r. fun_ext (λ n. mul_assoc_at p q r n);
    mul_comm = λ p q. fun_ext (λ n. mul_comm_at p q n);
    mul-one = λ p. fun_ext (λ n. mul_comm_at p (C 𝟙) n ∙ C-at 𝟙 p n ∙ simp (ring, L));
    mul-add = λ p q r. fun_ext (λ n. mul_comm_at p (q ⊞ r) n ∙ add-mul-at q r p n ∙ ap₂ ◌⊕◌ (mul_comm_at q p n) (mul_comm_at r p n));
  }

  -- constants, and a series by its head and its tail
  pub C-add : (a b : F) → C (a ⊕ b) ≡ C a ⊞ C b
  unfolding C ◌⊞◌
  C-add a b = fun_ext go
    where
      go : (n : ℕ) → C (a ⊕ b) n ≡ C a n ⊕ C b n
      go zero = refl
      go (suc n) = sym (L.add_self 𝟘)

  pub C-mul : (a b : F) → C (a ⊗ b) ≡ C a ⊠ C b
  unfolding C
  C-mul a b = fun_ext λ n. go n ∙ sym (C-at a (C b) n)
    where
      go : (n : ℕ) → C (a ⊗ b) n ≡ a ⊗ C b n
      go zero = refl
      go (suc n) = simp (ring, L)

  pub C-zero : C 𝟘 ≡ O
  unfolding C O
  C-zero = fun_ext go
    where
      go : (n : ℕ) → C 𝟘 n ≡ 𝟘
      go zero = refl
      go (suc n) = refl

  pub X-zero : (p : Series F) → (X ⊠ p) 0 ≡ 𝟘
  unfolding ◌⊠◌ X
  X-zero p = simp (ring, L)

  pub split : (p : Series F) → p ≡ C (p 0) ⊞ X ⊠ tail p
  unfolding C ◌⊞◌ tail
  split p = fun_ext go
    where
      go : (n : ℕ) → p n ≡ C (p 0) n ⊕ (X ⊠ tail p) n
      go zero = simp (ring, L, X-zero)
      go (suc n) = simp (ring, L, X-suc)

  -- clauses of the operations
  pub plus-at : (p q : Series F) (n : ℕ) → (p ⊞ q) n ≡ p n ⊕ q n
  unfolding ◌⊞◌
  plus-at p q n = refl

  pub mul-zero-at : (p q : Series F) → (p ⊠ q) 0 ≡ p 0 ⊗ q 0
  unfolding ◌⊠◌
  mul-zero-at p q = refl

  pub mul-suc-at : (p q : Series F) (n : ℕ) → (p ⊠ q) (suc n) ≡ p 0 ⊗ q (suc n) ⊕ (tail p ⊠ q) n
  unfolding ◌⊠◌ tail
  mul-suc-at p q n = refl

  pub scale_mul : (a : F) (p q : Series F) (n : ℕ) → ((C a ⊠ p) ⊠ q) n ≡ a ⊗ (p ⊠ q) n
  scale_mul a p q n = ap (λ r. r n) (series.mul_assoc (C a) p q) ∙ C-at a (p ⊠ q) n

  -- only the products of two coefficients count
  pub mul_cong : (p q r s : Series F) (n : ℕ) → ((i j : ℕ) → i + j ≡ n → p i ⊗ q j ≡ r i ⊗ s j) → (p ⊠ q) n ≡ (r ⊠ s) n
  unfolding ◌⊠◌ tail
  mul_cong p q r s zero h = h 0 0 refl
  mul_cong p q r s (suc n) h =
      ap₂ ◌⊕◌ (h 0 (suc n) (ℕ·zero-add (suc n))) (mul_cong (tail p) q (tail r) s n (λ i j e. h (suc i) j (omega arith)))

  pub mul_none : (p q : Series F) (n : ℕ) → ((i j : ℕ) → i + j ≡ n → p i ⊗ q j ≡ 𝟘) → (p ⊠ q) n ≡ 𝟘
  unfolding O
  mul_none p q n h = mul_cong p q O q n (λ i j e. h i j e ∙ simp (ring, L)) ∙ zero-at q n

  -- multiplied by X^y
  unfoldable pub shift : ℕ → Series F → Series F
  shift zero p = p
  shift (suc y) p = X ⊠ shift y p

  pub shift_mul : (y : ℕ) (p q : Series F) → shift y p ⊠ q ≡ shift y (p ⊠ q)
  unfolding shift
  shift_mul zero p q = refl
  shift_mul (suc y) p q = series.mul_assoc X (shift y p) q ∙ ap (λ r. X ⊠ r) (shift_mul y p q)

  pub shift_at : (y : ℕ) (p : Series F) (j : ℕ) → shift y p (y + j) ≡ p j
  unfolding shift
  shift_at zero p j = ap p (ℕ·zero-add j)
  shift_at (suc y) p j = ap (X ⊠ shift y p) (ℕ·suc-add y j) ∙ X-suc (shift y p) (y + j) ∙ shift_at y p j

  pub shift_low : (y : ℕ) (p : Series F) (k : ℕ) → k < y → shift y p k ≡ 𝟘
  unfolding shift
  shift_low zero p k h = absurd (omega arith)
  shift_low (suc y) p zero h = X-zero (shift y p)
  shift_low (suc y) p (suc k) h = X-suc (shift y p) k ∙ shift_low y p k (omega arith)

  -- without its first a terms
  abbrev pub skip : ℕ → Series F → Series F
  skip a p k = p (a + k)

  pub shift_skip : (a : ℕ) (p : Series F) → ((k : ℕ) → k < a → p k ≡ 𝟘) → p ≡ shift a (skip a p)
  shift_skip a p h = fun_ext λ k. elim (dec_lt k a) [
    | yes b ↦ h k b ∙ sym (shift_low a (skip a p) k b)
    | no b ↦
        (let e : k ≡ a + (k - a) = omega arith in
        ap p e ∙ sym (shift_at a (skip a p) (k - a)) ∙ sym (ap (shift a (skip a p)) e))
  ]

  pub skip_mul : (a : ℕ) (p q : Series F) → ((k : ℕ) → k < a → p k ≡ 𝟘) → (k : ℕ) → (skip a p ⊠ q) k ≡ (p ⊠ q) (a + k)
  skip_mul a p q h k =
      sym (shift_at a (skip a p ⊠ q) k) ∙ ap (λ r. r (a + k)) (sym (shift_mul a (skip a p) q) ∙ ap (λ r. r ⊠ q) (sym (shift_skip a p h)))

  -- the operations under short names, for the files above to open
  pub record Operations : Type 0 where
    pub ◌⊞◌ : Series F → Series F → Series F
    pub ◌⊠◌ : Series F → Series F → Series F
    pub O : Series F
    pub C : F → Series F
    pub X : Series F
    pub tail : Series F → Series F
    pub series : Ring O (C 𝟙) ◌⊞◌ ◌⊠◌

  abbrev pub operations : Operations
  operations = record { ◌⊞◌ = ◌⊞◌; ◌⊠◌ = ◌⊠◌; O = O; C = C; X = X; tail = tail; series = series }
