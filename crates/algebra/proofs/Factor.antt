-- Factors of a separable polynomial g and the idempotents modulo g: g has a factor of degree 1 to t - 1 exactly where the
-- residues fixed by squaring, or by squaring k times, are not constants alone. Assumes nothing.
use mathlib.Core.Path.{◌≡◌, refl, sym, ◌∙◌, ap, ap₂, subst}
use Prim.Native.Nat.{ℕ, zero, suc, ◌<◌}
use native.Mathlib.Omega.{arith}
use Rattle.algebra.proofs.Ring.{Ring, ring, add_cancel, mul-zero, one-mul, zero-add, add_move}
use Rattle.algebra.proofs.Identities.{unit_cancel}
use Rattle.algebra.proofs.Field.{Field, inv-mul, is_zero}
use Rattle.algebra.proofs.Series as S
use Rattle.algebra.proofs.Series.{Series, operations, C-at, C-mul, C-add, C-zero}
use Rattle.algebra.proofs.Derivative.{D, D-mul}
use Rattle.algebra.proofs.Poly.{Below, Poly, Monic, below_scale, below_C, poly_add, poly_mul_lem, poly_C, poly_D, monic_multiple}
use Rattle.algebra.proofs.Goppa.{Separable}
use Rattle.algebra.proofs.Euclid.{Division, divide}

-- a^(2^k)
module _ {A : Type 0} {𝟘 𝟙 : A} {◌⊕◌ ◌⊗◌ : A → A → A} (L : Ring 𝟘 𝟙 ◌⊕◌ ◌⊗◌) where
  infixl 65 ◌⊕◌
  infixl 70 ◌⊗◌
  unfoldable pub frob : ℕ → A → A
  frob zero a = a
  frob (suc k) a = frob k a ⊗ frob k a

  pub frob_add : (k : ℕ) (a b : A) → frob k (a ⊕ b) ≡ frob k a ⊕ frob k b
  unfolding frob
  frob_add zero a b = refl
  frob_add (suc k) a b = ap (λ x. x ⊗ x) (frob_add k a b) ∙ square (frob k a) (frob k b)
    where
      square : (x y : A) → (x ⊕ y) ⊗ (x ⊕ y) ≡ x ⊗ x ⊕ y ⊗ y
      square x y = simp (ring, L)

  pub frob_mul : (k : ℕ) (a b : A) → frob k (a ⊗ b) ≡ frob k a ⊗ frob k b
  unfolding frob
  frob_mul zero a b = refl
  frob_mul (suc k) a b = ap (λ x. x ⊗ x) (frob_mul k a b) ∙ square (frob k a) (frob k b)
    where
      square : (x y : A) → (x ⊗ y) ⊗ (x ⊗ y) ≡ (x ⊗ x) ⊗ (y ⊗ y)
      square x y = simp (ring, L)

  -- shapes
  pub residue_shape : (e g q c : A) → e ≡ q ⊗ g ⊕ c → c ≡ e ⊕ g ⊗ q
  residue_shape e g q c h = add_move L c (g ⊗ q) e (sym (h ∙ swap q g c))
    where
      swap : (q g c : A) → q ⊗ g ⊕ c ≡ c ⊕ g ⊗ q
      swap q g c = simp (ring, L)

  pub halves_shape : (u a v b g : A) → u ⊗ a ⊕ v ⊗ b ≡ 𝟙 → g ≡ a ⊗ b → (u ⊗ a) ⊗ (u ⊗ a) ⊕ u ⊗ a ≡ g ⊗ (u ⊗ v)
  halves_shape u a v b g e eg = ap (λ x. (u ⊗ a) ⊗ (u ⊗ a) ⊕ x) (sym (L.mul-one _) ∙ ap (λ x. (u ⊗ a) ⊗ x) (sym e)) ∙ spread ∙ ap (λ x. x ⊗ (u ⊗ v)) (sym eg)
    where
      spread : (u ⊗ a) ⊗ (u ⊗ a) ⊕ (u ⊗ a) ⊗ (u ⊗ a ⊕ v ⊗ b) ≡ (a ⊗ b) ⊗ (u ⊗ v)
      spread = simp (ring, L)

  pub bezout_split : (g a b d e u v : A) → g ≡ a ⊗ b → u ⊗ g ⊕ v ⊗ (d ⊗ b ⊕ a ⊗ e) ≡ 𝟙 → (u ⊗ b ⊕ v ⊗ e) ⊗ a ⊕ (v ⊗ d) ⊗ b ≡ 𝟙
  bezout_split g a b d e u v eg h = spread ∙ ap (λ x. u ⊗ x ⊕ v ⊗ (d ⊗ b ⊕ a ⊗ e)) (sym eg) ∙ h
    where
      spread : (u ⊗ b ⊕ v ⊗ e) ⊗ a ⊕ (v ⊗ d) ⊗ b ≡ u ⊗ (a ⊗ b) ⊕ v ⊗ (d ⊗ b ⊕ a ⊗ e)
      spread = simp (ring, L)

  -- u a is 0 modulo g = a b: g divides a
  pub left_shape : (u a v b g q : A) → u ⊗ a ⊕ v ⊗ b ≡ 𝟙 → g ≡ a ⊗ b → u ⊗ a ≡ g ⊗ q → a ≡ g ⊗ (q ⊗ a ⊕ v)
  left_shape u a v b g q e eg z =
      sym (L.mul-one a) ∙ ap (λ x. a ⊗ x) (sym e ∙ ap (λ x. x ⊕ v ⊗ b) z) ∙ spread ∙ ap (λ x. g ⊗ (q ⊗ a) ⊕ x ⊗ v) (sym eg) ∙ sym (L.mul-add _ _ _)
    where
      spread : a ⊗ (g ⊗ q ⊕ v ⊗ b) ≡ g ⊗ (q ⊗ a) ⊕ (a ⊗ b) ⊗ v
      spread = simp (ring, L)

  pub swap_bezout : (u a v b : A) → u ⊗ a ⊕ v ⊗ b ≡ 𝟙 → v ⊗ b ⊕ u ⊗ a ≡ 𝟙
  swap_bezout u a v b e = L.add_comm _ _ ∙ e

  -- b = g k and g = a b: g (1 + a k) = 0
  pub right_shape : (a b g k : A) → g ≡ a ⊗ b → b ≡ g ⊗ k → g ⊗ (𝟙 ⊕ a ⊗ k) ≡ 𝟘
  right_shape a b g k eg eb = spread ∙ ap (λ x. g ⊕ a ⊗ x) (sym eb) ∙ ap (λ x. g ⊕ x) (sym eg) ∙ L.add_self g
    where
      spread : g ⊗ (𝟙 ⊕ a ⊗ k) ≡ g ⊕ a ⊗ (g ⊗ k)
      spread = simp (ring, L)

  pub prime_shape : (u p v g r k : A) → 𝟙 ≡ u ⊗ p ⊕ v ⊗ g → p ⊗ r ≡ g ⊗ k → r ≡ g ⊗ (u ⊗ k ⊕ v ⊗ r)
  prime_shape u p v g r k e z = sym (one-mul L r) ∙ ap (λ x. x ⊗ r) e ∙ spread ∙ ap (λ x. u ⊗ x ⊕ g ⊗ (v ⊗ r)) z ∙ join
    where
      spread : (u ⊗ p ⊕ v ⊗ g) ⊗ r ≡ u ⊗ (p ⊗ r) ⊕ g ⊗ (v ⊗ r)
      spread = simp (ring, L)

      join : u ⊗ (g ⊗ k) ⊕ g ⊗ (v ⊗ r) ≡ g ⊗ (u ⊗ k ⊕ v ⊗ r)
      join = simp (ring, L)

module _ (K : Field) where
  open K use {F, 𝟘, 𝟙, ◌⊕◌, ◌⊗◌, inv, laws as L, 𝟙≢𝟘}

  infixl 65 ◌⊕◌
  infixl 70 ◌⊗◌
  open operations L use {◌⊞◌, ◌⊠◌, O, C, series}

  infixl 65 ◌⊞◌
  infixl 70 ◌⊠◌
  -- d divides p, among the polynomials
  pub record Div (d p : ℕ → F) : Type 0 where
    pub quot : ℕ → F
    pub poly : Poly L quot
    pub eq : p ≡ d ⊠ quot

  pub div : {d p : Series F} (k : Series F) → Poly L k → p ≡ d ⊠ k → Div d p
  div k b e = record { quot = k; poly = b; eq = e }

  pub div_add : {d p q : Series F} → Div d p → Div d q → Div d (p ⊞ q)
  div_add a b = div (a.quot ⊞ b.quot) (poly_add L a.poly b.poly) (ap₂ ◌⊞◌ a.eq b.eq ∙ sym (series.mul-add _ _ _))

  pub div_mul : {d p : Series F} (q : Series F) → Poly L q → Div d p → Div d (p ⊠ q)
  div_mul q b a = div (a.quot ⊠ q) (poly_mul_lem L a.poly b) (ap (λ x. x ⊠ q) a.eq ∙ series.mul_assoc _ _ _)

  pub div_of : (d k : Series F) → Poly L k → Div d (d ⊠ k)
  div_of d k p = div k p refl

  pub div_to : {d p q : Series F} → p ≡ q → Div d p → Div d q
  div_to e a = div a.quot a.poly (sym e ∙ a.eq)

  pub poly_frob : (k : ℕ) {p : Series F} → Poly L p → Poly L (frob series k p)
  unfolding frob
  poly_frob zero b = b
  poly_frob (suc k) b = poly_mul_lem L (poly_frob k b) (poly_frob k b)

  pub div_frob : (k : ℕ) {d p : Series F} → Poly L p → Div d p → Div d (frob series k p)
  unfolding frob
  div_frob zero b a = a
  div_frob (suc k) b a = div_mul _ (poly_frob k b) (div_frob k b a)

  -- fixed by squaring, modulo d: fixed by each power of it
  pub fixed_frob : (k : ℕ) {d p : Series F} → Poly L p → Div d (p ⊠ p ⊞ p) → Div d (frob series k p ⊞ p)
  unfolding frob S.O
  fixed_frob zero {d} {p} b a = div O (0, λ i h. refl) (series.add_self p ∙ sym (mul-zero series d))
  fixed_frob (suc k) {d} {p} b a = div_to (shape (frob series k p) p) (div_add (div_mul _ (poly_add L (poly_frob k b) b) (fixed_frob k b a)) a)
    where
      shape : (x p : Series F) → (x ⊞ p) ⊠ (x ⊞ p) ⊞ (p ⊠ p ⊞ p) ≡ x ⊠ x ⊞ p
      shape x p = let R = series in simp (ring, R)

  -- what is no unit: a polynomial of positive degree
  pub no_unit : (n : ℕ) (a w : Series F) → Below L (suc (suc n)) a → ¬ (a (suc n) ≡ 𝟘) → Poly L w → a ⊠ w ≡ C 𝟙 → ⊥
  unfolding S.O S.C
  no_unit n a w b h pw e = 𝟙≢𝟘 (ap (λ p. p 0) (sym e ∙ sym same ∙ ap (λ x. (C (inv c) ⊠ a) ⊠ x) zer ∙ mul-zero series _))
    where
      c : F
      c = a (suc n)

      shape : (i d a w : Series F) → (i ⊠ a) ⊠ (d ⊠ w) ≡ (i ⊠ d) ⊠ (a ⊠ w)
      shape i d a w = let R = series in simp (ring, R)

      same : (C (inv c) ⊠ a) ⊠ (C c ⊠ w) ≡ a ⊠ w
      same = shape (C (inv c)) (C c) a w ∙ ap (λ x. x ⊠ (a ⊠ w)) (sym (C-mul L _ _) ∙ ap C (inv-mul K c h)) ∙ one-mul series _

      zer : C c ⊠ w ≡ O
      zer = monic_multiple L (C c ⊠ w) (record { below = below_scale L _ b; lead = C-at L _ a (suc n) ∙ inv-mul K c h })
          (poly_mul_lem L (poly_C L c) pw) (subst (Below L (suc n)) (sym (same ∙ e)) (λ i k. below_C L 𝟙 i (omega arith)))

  -- a multiple of g below its degree is 0
  pub div_low : {t : ℕ} {g p : Series F} → Monic L t g → Below L t p → Div g p → p ≡ O
  div_low {t} {g} {p} m b a = a.eq ∙ ap (λ x. g ⊠ x) (monic_multiple L a.quot m a.poly (subst (Below L t) a.eq b)) ∙ mul-zero series g

  -- no polynomial of degree 1 to t - 1 divides g
  abbrev pub Prime : ℕ → (ℕ → F) → Type 0
  Prime t g = (n : ℕ) (p : ℕ → F) → 0 < n → n < t → Below L (suc n) p → ¬ (p n ≡ 𝟘) → Div p g → ⊥

  -- the residues that squaring k times fixes are the constants; squaring once: 0 and 1
  abbrev pub Rigid : ℕ → ℕ → (ℕ → F) → Type 0
  Rigid k t g = (h : ℕ → F) → Below L t h → Div g (frob series k h ⊞ h) → h ≡ C (h 0)

  -- a factor of a separable g makes an idempotent that is no constant
  module _ (t : ℕ) (g : Series F) (s : Separable L (suc t) g) (n : ℕ) (a : Series F) (lt : suc n < suc t) (ba : Below L (suc (suc n)) a) (na : ¬ (a (suc n) ≡ 𝟘)) (dv : Div a g) where
    abbrev b : Series F
    b = dv.quot

    abbrev u : Series F
    u = s.u ⊠ b ⊞ s.v ⊠ D L b

    abbrev v : Series F
    v = s.v ⊠ D L a

    pa : Poly L a
    pa = (suc (suc n), ba)

    pu : Poly L u
    pu = poly_add L (poly_mul_lem L s.poly_u dv.poly) (poly_mul_lem L s.poly_v (poly_D L dv.poly))

    pv : Poly L v
    pv = poly_mul_lem L s.poly_v (poly_D L pa)

    gm : Monic L (suc t) g
    gm = s.monic

    bez : u ⊠ a ⊞ v ⊠ b ≡ C 𝟙
    bez = bezout_split series g a dv.quot (D L a) (D L dv.quot) s.u s.v dv.eq (ap (λ x. s.u ⊠ g ⊞ s.v ⊠ x) (sym (D-mul L a dv.quot) ∙ ap (D L) (sym dv.eq)) ∙ s.bezout)

    abbrev e₀ : Series F
    e₀ = u ⊠ a

    q : Division K (suc t) e₀ g
    q = divide K (poly_mul_lem L pu pa).0 (suc t) e₀ g (poly_mul_lem L pu pa).1 gm

    pub idempotent : Series F
    idempotent = q.rem

    pub idempotent_below : Below L (suc t) idempotent
    unfolding idempotent
    idempotent_below = q.below

    -- e = e₀ + g q
    back : idempotent ≡ e₀ ⊞ g ⊠ q.quot
    unfolding idempotent
    back = residue_shape series e₀ g q.quot q.rem q.eq

    pub idempotent_square : Div g (idempotent ⊠ idempotent ⊞ idempotent)
    idempotent_square = div_to (shape e₀ (g ⊠ q.quot) ∙ ap (λ x. x ⊠ x ⊞ x) (sym back))
        (div_add (div (u ⊠ v) (poly_mul_lem L pu pv) (halves_shape series u a v b g bez dv.eq)) (div_mul (g ⊠ q.quot ⊞ C 𝟙) (poly_add L (poly_mul_lem L (suc (suc t), s.monic.below) q.poly) (poly_C L 𝟙)) (div_of g q.quot q.poly)))
      where
        shape : (x y : Series F) → (x ⊠ x ⊞ x) ⊞ y ⊠ (y ⊞ C 𝟙) ≡ (x ⊞ y) ⊠ (x ⊞ y) ⊞ (x ⊞ y)
        shape x y = let R = series in simp (ring, R)

    not_zero : idempotent ≡ O → ⊥
    unfolding S.O
    not_zero z = na (ap (λ p. p (suc n)) (div_low gm (λ i h. ba i (omega arith)) (div (q.quot ⊠ a ⊞ v) (poly_add L (poly_mul_lem L q.poly pa) pv) (left_shape series u a v b g q.quot bez dv.eq (add_cancel series _ _ (sym back ∙ z))))))

    not_one : idempotent ≡ C 𝟙 → ⊥
    unfolding S.O
    not_one z = no_unit n a k ba na pk (sym (add_cancel series (C 𝟙) (a ⊠ k) zer))
      where
        k : Series F
        k = q.quot ⊠ b ⊞ u

        pk : Poly L k
        pk = poly_add L (poly_mul_lem L q.poly dv.poly) pu

        other : v ⊠ b ≡ g ⊠ q.quot
        other = sym (zero-add series _) ∙ ap (λ x. x ⊞ v ⊠ b) (sym (series.add_self (u ⊠ a))) ∙ series.add_assoc _ _ _ ∙ ap (λ x. u ⊠ a ⊞ x) bez
            ∙ ap (λ x. u ⊠ a ⊞ x) (sym z ∙ back) ∙ (shape (u ⊠ a) (g ⊠ q.quot))
          where
            shape : (x y : Series F) → x ⊞ (x ⊞ y) ≡ y
            shape x y = let R = series in simp (ring, R)

        zer : C 𝟙 ⊞ a ⊠ k ≡ O
        zer = monic_multiple L _ s.monic (poly_add L (poly_C L 𝟙) (poly_mul_lem L pa pk))
            (subst (Below L (suc t)) (sym (right_shape series a b g k dv.eq (left_shape series v b u a g q.quot (swap_bezout series u a v b bez) (dv.eq ∙ series.mul_comm _ _) other))) (λ i h. refl))

    pub not_constant : (c : F) → idempotent ≡ C c → ⊥
    unfolding S.C S.O
    not_constant c z = elim (is_zero K c) [ yes e ↦ not_zero (z ∙ ap C e ∙ C-zero L) | no h ↦ not_one (z ∙ ap C (add_cancel L c 𝟙 (unit_cancel L (inv c) c (c ⊕ 𝟙) (inv-mul K c h) zer))) ]
      where
        low : C (c ⊗ c ⊕ c) ≡ O
        low = div_low gm (λ i h. below_C L _ i (omega arith)) (div_to (ap (λ x. x ⊠ x ⊞ x) z ∙ ap (λ x. x ⊞ C c) (sym (C-mul L c c)) ∙ sym (C-add L _ _)) idempotent_square)

        zer : c ⊗ (c ⊕ 𝟙) ≡ 𝟘
        zer = L.mul-add c c 𝟙 ∙ ap (λ x. c ⊗ c ⊕ x) (L.mul-one c) ∙ ap (λ p. p 0) low

  -- where only the constants are fixed, there is no factor
  pub rigid_prime : (k t : ℕ) (g : Series F) → Separable L t g → Rigid k t g → Prime t g
  rigid_prime k zero g s r n a pos lt ba na dv = absurd (omega arith)
  rigid_prime k (suc t) g s r zero a pos lt ba na dv = absurd (omega arith)
  rigid_prime k (suc t) g s r (suc n) a pos lt ba na dv =
      let e = idempotent t g s n a lt ba na dv in
      let be = idempotent_below t g s n a lt ba na dv in
      not_constant t g s n a lt ba na dv (e 0) (r e be (fixed_frob k (suc t, be) (idempotent_square t g s n a lt ba na dv)))
