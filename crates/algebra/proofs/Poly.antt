-- Polynomials: series that are 0 from some index on. Sums, products and derivatives by that index; leading coefficients.
-- Assumes nothing.
use mathlib.Core.Path.{◌≡◌, refl, sym, ◌∙◌, ap, ap₂, fun_ext}
use mathlib.Core.Logic.{inl, inr}
use Prim.Native.Nat.{ℕ, zero, suc, ◌+◌, ◌-◌, ◌≤◌, ◌<◌}
use native.Mathlib.Nat.{zero-add as nat-zero-add, suc-add, eq-or-lt_of_le}
use native.Mathlib.Omega.{arith}
use native.Mathlib.Decide.{dec_le}
use Rattle.algebra.proofs.Ring.{Ring, ring, one-mul}
use Rattle.algebra.proofs.Series as S
use Rattle.algebra.proofs.Series.{Series, operations, zero-at, C-at, split, mul-zero-at, mul-suc-at, mul_none, shift, shift_at}
use Rattle.algebra.proofs.Derivative.{D}

module _ {F : Type 0} {𝟘 𝟙 : F} {◌⊕◌ ◌⊗◌ : F → F → F} (L : Ring 𝟘 𝟙 ◌⊕◌ ◌⊗◌) where
  open operations L use {◌⊞◌, ◌⊠◌, O, C, X, tail, series}

  infixl 65 ◌⊕◌
  infixl 70 ◌⊗◌
  infixl 65 ◌⊞◌
  infixl 70 ◌⊠◌
  -- the coefficients from n on are 0
  abbrev pub Below : ℕ → Series F → Type 0
  Below n p = (i : ℕ) → n ≤ i → p i ≡ 𝟘

  abbrev pub Poly : Series F → Type 0
  Poly p = (n : ℕ) × Below n p

  pub below_tail : {n : ℕ} {p : Series F} → Below (suc n) p → Below n (tail p)
  unfolding S.tail
  below_tail b i h = b (suc i) (omega arith)

  pub below_zero : {p : Series F} → Below 0 p → p ≡ O
  unfolding S.O
  below_zero b = fun_ext λ i. b i (omega arith)

  pub below_add : {n : ℕ} {p q : Series F} → Below n p → Below n q → Below n (p ⊞ q)
  unfolding S.◌⊞◌
  below_add b c i h = rw (b i h, c i h) (L.add_self 𝟘)

  pub below_mul : {n m : ℕ} {p q : Series F} → Below n p → Below (suc m) q → Below (n + m) (p ⊠ q)
  unfolding S.◌⊠◌ S.tail
  below_mul {n} {m} {p} {q} = go n p
    where
      go : (n : ℕ) (p : Series F) → Below n p → Below (suc m) q → Below (n + m) (p ⊠ q)
      go zero p b c i h = ap (λ r. (r ⊠ q) i) (below_zero b) ∙ zero-at L q i
      go (suc n) p b c zero h = absurd (omega arith)
      go (suc n) p b c (suc i) h =
          ap₂ (λ x y. p 0 ⊗ x ⊕ y) (c (suc i) (omega arith)) (go n (tail p) (below_tail b) c i (omega arith)) ∙ simp (ring, L)

  pub below_scale : {n : ℕ} (c : F) {p : Series F} → Below n p → Below n (C c ⊠ p)
  below_scale c {p} b i h = C-at L c p i ∙ ap (λ x. c ⊗ x) (b i h) ∙ simp (ring, L)

  pub poly_add : {p q : Series F} → Poly p → Poly q → Poly (p ⊞ q)
  poly_add a b = (a.0 + b.0, below_add (λ i h. a.1 i (omega arith)) (λ i h. b.1 i (omega arith)))

  pub poly_mul_lem : {p q : Series F} → Poly p → Poly q → Poly (p ⊠ q)
  poly_mul_lem a b = (a.0 + b.0, below_mul a.1 (λ i h. b.1 i (omega arith)))

  pub below_C : (a : F) → Below 1 (C a)
  unfolding S.C
  below_C a zero h = absurd (omega arith)
  below_C a (suc i) h = refl

  pub poly_C : (a : F) → Poly (C a)
  poly_C a = (1, below_C a)

  pub below_X : Below 2 X
  unfolding S.X
  below_X zero h = absurd (omega arith)
  below_X (suc i) h = below_C 𝟙 i (omega arith)

  pub below_D : (n : ℕ) (p : Series F) → Below (suc n) p → Below n (D L p)
  unfolding D S.tail
  below_D n p b i h = go i p (λ j k. b j (omega arith))
    where
      go : (i : ℕ) (p : Series F) → Below (suc i) p → D L p i ≡ 𝟘
      go zero p b = b 1 (omega arith)
      go (suc i) p b = ap₂ ◌⊕◌ (b (suc (suc i)) (omega arith)) (go i (tail p) (below_tail b)) ∙ L.add_self 𝟘

  pub poly_D : {p : Series F} → Poly p → Poly (D L p)
  poly_D {p} a = (a.0, below_D a.0 p (λ i h. a.1 i (omega arith)))

  drop_X : (p : Series F) → p ⊞ X ⊠ O ≡ p
  drop_X p = let R = series in simp (ring, R)

  -- the leading coefficient of a product
  pub lead_mul : (d N : ℕ) (G K : Series F) → Below (suc d) G → Below (suc N) K → (G ⊠ K) (d + N) ≡ G d ⊗ K N
  unfolding S.◌⊠◌ S.tail
  lead_mul zero N G K b c =
      ap (λ i. (G ⊠ K) i) (nat-zero-add N) ∙ ap (λ p. (p ⊠ K) N) (split L G ∙ ap (λ p. C (G 0) ⊞ X ⊠ p) (below_zero (below_tail b)) ∙ drop_X (C (G 0))) ∙ C-at L (G 0) K N
  lead_mul (suc d) N G K b c =
      ap (λ i. (G ⊠ K) i) (suc-add d N) ∙ ap₂ (λ x y. G 0 ⊗ x ⊕ y) (c (suc (d + N)) (omega arith)) (lead_mul d N (tail G) K (below_tail b) c) ∙ simp (ring, L)

  -- of degree n, with leading coefficient 1
  pub record Monic (n : ℕ) (p : Series F) : Type 0 where
    pub below : Below (suc n) p
    pub lead : p n ≡ 𝟙

  pub monic-mul : {n m : ℕ} {p q : Series F} → Monic n p → Monic m q → Monic (n + m) (p ⊠ q)
  monic-mul {n} {m} {p} {q} a b = record {
    below = λ i h. below_mul a.below b.below i (omega arith);
    lead = lead_mul n m p q a.below b.below ∙ ap₂ ◌⊗◌ a.lead b.lead ∙ L.mul-one 𝟙;
  }

  -- a monic polynomial divides nothing of smaller degree but 0
  pub monic_multiple : {d : ℕ} {G : Series F} (K : Series F) → Monic d G → Poly K → Below d (G ⊠ K) → K ≡ O
  monic_multiple {d} {G} K m pK low = go pK.0 pK.1
    where
      at : (k : ℕ) → Below (suc k) K → K k ≡ 𝟘
      at k h = sym (one-mul L _) ∙ ap (λ x. x ⊗ K k) (sym m.lead) ∙ sym (lead_mul d k G K m.below h) ∙ low (d + k) (omega arith)

      go : (k : ℕ) → Below k K → K ≡ O
      go zero h = below_zero h
      go (suc k) h = go k λ i l. elim (eq-or-lt_of_le l) [ inl e ↦ ap K (sym e) ∙ at k h | inr g ↦ h i g ]

  pub below_shift : (y d : ℕ) (p : Series F) → Below d p → Below (y + d) (shift L y p)
  below_shift y d p h k b =
      let e : k ≡ y + (k - y) = omega arith in
      ap (shift L y p) e ∙ shift_at L y p (k - y) ∙ h (k - y) (omega arith)

  -- a coefficient of the product to which only the first d terms of p could contribute
  pub mul_vanish : (d : ℕ) (p q : Series F) (n : ℕ) → Below d p → ((i j : ℕ) → i < d → i + j ≡ n → q j ≡ 𝟘) → (p ⊠ q) n ≡ 𝟘
  mul_vanish d p q n b h = mul_none L p q n λ i j e.
      elim (dec_le d i) [ yes c ↦ ap (λ x. x ⊗ q j) (b i c) ∙ simp (ring, L) | no c ↦ ap (λ x. p i ⊗ x) (h i j (omega arith) e) ∙ simp (ring, L) ]

  -- and the same but for its first
  pub mul-first : (d : ℕ) (p q : Series F) (n : ℕ) → Below (suc d) p → ((i j : ℕ) → i < d → suc i + j ≡ n → q j ≡ 𝟘) → (p ⊠ q) n ≡ p 0 ⊗ q n
  unfolding S.tail
  mul-first d p q zero b h = mul-zero-at L p q
  mul-first d p q (suc n) b h =
      mul-suc-at L p q n
      ∙ ap (λ x. p 0 ⊗ q (suc n) ⊕ x) (mul_vanish d (tail p) q n (λ k c. b (suc k) (omega arith)) (λ i j c e. h i j c (omega arith)))
      ∙ L.add-zero _
