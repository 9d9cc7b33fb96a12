-- Ring identities by which the proofs above go, over plain variables. Assumes nothing.
use mathlib.Core.Path.{◌≡◌, sym, ◌∙◌, ap, ap₂}
use Rattle.algebra.proofs.Ring.{Ring, ring, add_move, one-mul, mul-one, mul-zero}

module _ {A : Type 0} {𝟘 𝟙 : A} {◌⊕◌ ◌⊗◌ : A → A → A} (L : Ring 𝟘 𝟙 ◌⊕◌ ◌⊗◌) where
  infixl 65 ◌⊕◌
  infixl 70 ◌⊗◌
  -- the product of two remainder-product is the remainder of the product
  pub remainder_product : (l z g k g' k' G K : A) → G ≡ g ⊕ l ⊗ g' → K ≡ k ⊕ l ⊗ k' → l ⊗ z ≡ G ⊗ K → l ⊗ (z ⊕ (g ⊗ k' ⊕ g' ⊗ K)) ≡ g ⊗ k
  remainder_product l z g k g' k' G K eG e_k e = L.mul-add l z _ ∙ ap (λ x. x ⊕ l ⊗ (g ⊗ k' ⊕ g' ⊗ K)) e ∙ simp (ring, L, eG, e_k)

  pub cancel_factor : (l z G K k : A) → K ≡ l ⊗ k → l ⊗ z ≡ G ⊗ K → l ⊗ (z ⊕ G ⊗ k) ≡ 𝟘
  cancel_factor l z G K k e_k e = L.mul-add l z _ ∙ ap (λ x. x ⊕ l ⊗ (G ⊗ k)) e ∙ simp (ring, L, e_k)

  pub unit_cancel : (w g k : A) → w ⊗ g ≡ 𝟙 → g ⊗ k ≡ 𝟘 → k ≡ 𝟘
  unit_cancel w g k u e = sym (one-mul L k) ∙ ap (λ x. x ⊗ k) (sym u) ∙ L.mul_assoc w g k ∙ ap (λ x. w ⊗ x) e ∙ mul-zero L w

  -- one point more in the identity G W + σ' = σ Y
  pub key_step : (G W d s Y l c e q : A) → c ⊗ e ≡ 𝟙 → G ≡ e ⊕ l ⊗ q → G ⊗ W ⊕ d ≡ s ⊗ Y
      → G ⊗ (c ⊗ s ⊕ l ⊗ W) ⊕ (𝟙 ⊗ s ⊕ l ⊗ d) ≡ (l ⊗ s) ⊗ (c ⊗ q ⊕ Y)
  key_step G W d s Y l c e q u eG h =
      regroup ∙ ap₂ (λ x y. (c ⊗ x ⊕ 𝟙) ⊗ s ⊕ l ⊗ y) eG h ∙ spread ∙ ap (λ x. (x ⊕ c ⊗ (l ⊗ q) ⊕ 𝟙) ⊗ s ⊕ l ⊗ (s ⊗ Y)) u ∙ simp (ring, L)
    where
      regroup : G ⊗ (c ⊗ s ⊕ l ⊗ W) ⊕ (𝟙 ⊗ s ⊕ l ⊗ d) ≡ (c ⊗ G ⊕ 𝟙) ⊗ s ⊕ l ⊗ (G ⊗ W ⊕ d)
      regroup = simp (ring, L)

      spread : (c ⊗ (e ⊕ l ⊗ q) ⊕ 𝟙) ⊗ s ⊕ l ⊗ (s ⊗ Y) ≡ (c ⊗ e ⊕ c ⊗ (l ⊗ q) ⊕ 𝟙) ⊗ s ⊕ l ⊗ (s ⊗ Y)
      spread = simp (ring, L)

  pub split-sum : (c t a q s y : A) → c ⊗ (t ⊕ a ⊗ q) ⊕ (s ⊗ t ⊕ y) ≡ (c ⊕ s) ⊗ t ⊕ ((c ⊗ a) ⊗ q ⊕ y)
  split-sum c t a q s y = simp (ring, L)

  -- g divides W where g W' = g' W and u g + v g' = 1
  pub bezout_divides : (g d W W' u v : A) → d ⊗ W ⊕ g ⊗ W' ≡ 𝟘 → u ⊗ g ⊕ v ⊗ d ≡ 𝟙 → g ⊗ (u ⊗ W ⊕ v ⊗ W') ≡ W
  bezout_divides g d W W' u v z b = spread ∙ ap₂ (λ x y. x ⊗ W ⊕ v ⊗ y) b z ∙ simp (ring, L)
    where
      spread : g ⊗ (u ⊗ W ⊕ v ⊗ W') ≡ (u ⊗ g ⊕ v ⊗ d) ⊗ W ⊕ v ⊗ (d ⊗ W ⊕ g ⊗ W')
      spread = simp (ring, L)

  pub same_remainder : (p e c l q m : A) → p ≡ e ⊕ l ⊗ q → p ≡ c ⊕ l ⊗ m → l ⊗ (q ⊕ m) ≡ e ⊕ c
  same_remainder p e c l q m x y = swap ∙ ap₂ (λ a b. (e ⊕ c) ⊕ (a ⊕ b)) (sym x) (sym y) ∙ simp (ring, L)
    where
      swap : l ⊗ (q ⊕ m) ≡ (e ⊕ c) ⊕ ((e ⊕ l ⊗ q) ⊕ (c ⊕ l ⊗ m))
      swap = simp (ring, L)

  pub product_remainder : (e f l a b p q : A) → p ≡ e ⊕ l ⊗ a → q ≡ f ⊕ l ⊗ b → p ⊗ q ≡ e ⊗ f ⊕ l ⊗ (e ⊗ b ⊕ a ⊗ q)
  product_remainder e f l a b p q x y = simp (ring, L, x, y)

  pub division_step : (o x q d r c : A) → o ⊕ x ⊗ (q ⊗ d ⊕ r) ≡ (x ⊗ q ⊕ c) ⊗ d ⊕ ((x ⊗ r ⊕ o) ⊕ c ⊗ d)
  division_step o x q d r c = simp (ring, L)

  -- a step of Euclid: r = c r', i r = r', and e = u d + v r'
  pub euclid_bezout : (p q d r r' i u v e : A) → p ≡ q ⊗ d ⊕ r → i ⊗ r ≡ r' → e ≡ u ⊗ d ⊕ v ⊗ r' → e ≡ (v ⊗ i) ⊗ p ⊕ (u ⊕ v ⊗ (i ⊗ q)) ⊗ d
  euclid_bezout p q d r r' i u v e ep er ee = ee ∙ ap (λ x. u ⊗ d ⊕ v ⊗ x) (sym er) ∙ spread ∙ ap (λ x. (v ⊗ i) ⊗ x ⊕ (u ⊕ v ⊗ (i ⊗ q)) ⊗ d) (sym ep)
    where
      spread : u ⊗ d ⊕ v ⊗ (i ⊗ r) ≡ (v ⊗ i) ⊗ (q ⊗ d ⊕ r) ⊕ (u ⊕ v ⊗ (i ⊗ q)) ⊗ d
      spread = simp (ring, L)

  pub euclid_divides : (p q d r r' c a b e : A) → p ≡ q ⊗ d ⊕ r → r ≡ c ⊗ r' → d ≡ a ⊗ e → r' ≡ b ⊗ e → p ≡ (q ⊗ a ⊕ c ⊗ b) ⊗ e
  euclid_divides p q d r r' c a b e ep er ed er' = ep ∙ ap₂ (λ x y. q ⊗ x ⊕ y) ed (er ∙ ap (λ x. c ⊗ x) er') ∙ simp (ring, L)

  -- g = a e and g' = b e, with u e + v e' = 1: then e e divides g
  pub square_factor : (g g' e e' a a' b u v : A) → g ≡ a ⊗ e → g' ≡ b ⊗ e → g' ≡ a' ⊗ e ⊕ a ⊗ e' → u ⊗ e ⊕ v ⊗ e' ≡ 𝟙
      → g ≡ (e ⊗ e) ⊗ (a ⊗ u ⊕ v ⊗ (b ⊕ a'))
  square_factor g g' e e' a a' b u v eg x y bez =
      eg ∙ ap (λ z. z ⊗ e) (sym (mul-one L a) ∙ ap (λ z. a ⊗ z) (sym bez)) ∙ spread ∙ ap (λ z. (a ⊗ (u ⊗ e) ⊕ v ⊗ z) ⊗ e) both ∙ simp (ring, L)
    where
      spread : (a ⊗ (u ⊗ e ⊕ v ⊗ e')) ⊗ e ≡ (a ⊗ (u ⊗ e) ⊕ v ⊗ (a ⊗ e')) ⊗ e
      spread = simp (ring, L)

      both : a ⊗ e' ≡ b ⊗ e ⊕ a' ⊗ e
      both = add_move L (a ⊗ e') (a' ⊗ e) _ (L.add_comm _ _ ∙ sym y ∙ x)

  -- with u g + v g' = 1, g = q q k and g' = q q k': q divides 1
  pub unit_factor : (g g' q k k' u v : A) → u ⊗ g ⊕ v ⊗ g' ≡ 𝟙 → g ≡ (q ⊗ q) ⊗ k → g' ≡ (q ⊗ q) ⊗ k' → 𝟙 ≡ q ⊗ (q ⊗ (u ⊗ k ⊕ v ⊗ k'))
  unit_factor g g' q k k' u v b e e' = sym b ∙ ap₂ (λ x y. u ⊗ x ⊕ v ⊗ y) e e' ∙ simp (ring, L)

  pub derive_square : (q q' k k' : A) → (q' ⊗ q ⊕ q ⊗ q') ⊗ k ⊕ (q ⊗ q) ⊗ k' ≡ (q ⊗ q) ⊗ k'
  derive_square q q' k k' = simp (ring, L)
