-- The test for Berlekamp's criterion, as elimination: the images r of x, x^2, .. under h ↦ h^(2^m) + h modulo g, one after another,
-- are reduced by the rows so far; none may become 0. Assumes nothing.
use mathlib.Core.Path.{◌≡◌, refl, sym, ◌∙◌, ap, ap₂, subst}
use mathlib.Core.List.{List, [], ◌∷◌}
use Prim.Native.Nat.{ℕ, zero, suc, ◌+◌, ◌≤◌, ◌<◌}
use native.Mathlib.Omega.{arith}
use Rattle.algebra.proofs.Ring.{ring, add_cancel, mul-zero, one-mul, zero-add}
use Rattle.algebra.proofs.Identities.{unit_cancel}
use Rattle.algebra.proofs.Field.{Field, inv-mul}
use Rattle.algebra.proofs.Points.{All, all_map, pow}
use Rattle.algebra.proofs.Series as S
use Rattle.algebra.proofs.Series.{Series, operations, C-at, C-mul, C-add, C-zero, split}
use Rattle.algebra.proofs.Poly.{Below, Monic, monic-mul, below_add, below_zero, below_tail, below_scale, below_C, below_X, poly_C}
use Rattle.algebra.proofs.Goppa.{Separable}
use Rattle.algebra.proofs.Euclid.{reduce}
use Rattle.algebra.proofs.Factor.{frob, frob_add, frob_mul, Div, div, div_add, div_mul, div_to, div_low, Prime, Rigid, rigid_prime}
use Rattle.algebra.proofs.Berlekamp.{Finite, frob_C, prime_rigid}

module _ (K : Field) where
  open K use {F, 𝟘, 𝟙, ◌⊕◌, ◌⊗◌, inv, laws as L, 𝟙≢𝟘}

  infixl 65 ◌⊕◌
  infixl 70 ◌⊗◌
  open operations L use {◌⊞◌, ◌⊠◌, O, C, X, series}

  infixl 65 ◌⊞◌
  infixl 70 ◌⊠◌
  -- a row and its pivot
  pub record Row : Type 0 where
    pub row : ℕ → F
    pub pivot : ℕ

  -- the newest row stands first
  unfoldable pub reduced : List Row → (ℕ → F) → ℕ → F
  reduced [] v = v
  reduced (b ∷ B) v = reduced B v ⊞ C (reduced B v b.pivot) ⊠ b.row

  abbrev pub Clear : List Row → (ℕ → F) → Type 0
  Clear B v = All (λ b. v b.pivot ≡ 𝟘) B

  pub Echelon : List Row → Type 0
  Echelon [] = Unit {0}
  Echelon (b ∷ B) = (b.row b.pivot ≡ 𝟙) × Clear B b.row × Echelon B

  pub Span : List Row → (ℕ → F) → Type 0
  Span [] v = v ≡ O
  Span (b ∷ B) v = (d : F) × Span B (v ⊞ C d ⊠ b.row)

  clear-add : (B : List Row) (v w : Series F) → Clear B v → Clear B w → Clear B (v ⊞ w)
  unfolding S.◌⊞◌
  clear-add [] v w x y = tt
  clear-add (b ∷ B) v w x y = (ap₂ ◌⊕◌ x.0 y.0 ∙ L.add_self 𝟘, clear-add B v w x.1 y.1)

  clear_scale : (B : List Row) (c : F) (v : Series F) → Clear B v → Clear B (C c ⊠ v)
  clear_scale B c v = all_map _ _ (λ b e. C-at L c v b.pivot ∙ ap (λ x. c ⊗ x) e ∙ mul-zero L c) B

  pub reduce_clear : (B : List Row) (v : Series F) → Echelon B → Clear B (reduced B v)
  unfolding reduced Echelon S.◌⊞◌
  reduce_clear [] v e = tt
  reduce_clear (b ∷ B) v e = (
    ap (λ x. reduced B v b.pivot ⊕ x) (C-at L _ b.row b.pivot ∙ ap (λ x. reduced B v b.pivot ⊗ x) e.0 ∙ L.mul-one _) ∙ L.add_self _,
    clear-add B _ _ (reduce_clear B v e.2) (clear_scale B _ b.row e.1),
  )

  span_to : (B : List Row) {v w : Series F} → v ≡ w → Span B v → Span B w
  span_to B e = subst (Span B) e

  span_zero : (B : List Row) → Span B O
  unfolding Span
  span_zero [] = refl
  span_zero (b ∷ B) = (𝟘, span_to B (sym (ap (λ x. O ⊞ x ⊠ b.row) (C-zero L) ∙ shape b.row)) (span_zero B))
    where
      shape : (v : Series F) → O ⊞ O ⊠ v ≡ O
      shape v = let R = series in simp (ring, R)

  span_add : (B : List Row) (v w : Series F) → Span B v → Span B w → Span B (v ⊞ w)
  unfolding Span
  span_add [] v w x y = ap₂ ◌⊞◌ x y ∙ series.add_self O
  span_add (b ∷ B) v w x y = (x.0 ⊕ y.0, span_to B (shape v w (C x.0) (C y.0) b.row ∙ ap (λ c. (v ⊞ w) ⊞ c ⊠ b.row) (sym (C-add L _ _))) (span_add B _ _ x.1 y.1))
    where
      shape : (v w c d b : Series F) → (v ⊞ c ⊠ b) ⊞ (w ⊞ d ⊠ b) ≡ (v ⊞ w) ⊞ (c ⊞ d) ⊠ b
      shape v w c d b = let R = series in simp (ring, R)

  span_scale : (B : List Row) (c : F) (v : Series F) → Span B v → Span B (C c ⊠ v)
  unfolding Span
  span_scale [] c v x = ap (λ w. C c ⊠ w) x ∙ mul-zero series _
  span_scale (b ∷ B) c v x = (c ⊗ x.0, span_to B (shape (C c) v (C x.0) b.row ∙ ap (λ d. C c ⊠ v ⊞ d ⊠ b.row) (sym (C-mul L _ _))) (span_scale B c _ x.1))
    where
      shape : (c v d b : Series F) → c ⊠ (v ⊞ d ⊠ b) ≡ c ⊠ v ⊞ (c ⊠ d) ⊠ b
      shape c v d b = let R = series in simp (ring, R)

  -- what is taken away
  pub span_reduce : (B : List Row) (v : Series F) → Span B (v ⊞ reduced B v)
  unfolding Span reduced
  span_reduce [] v = series.add_self v
  span_reduce (b ∷ B) v = (reduced B v b.pivot, span_to B (shape v (reduced B v) (C (reduced B v b.pivot) ⊠ b.row)) (span_reduce B v))
    where
      shape : (v w x : Series F) → v ⊞ w ≡ (v ⊞ (w ⊞ x)) ⊞ x
      shape v w x = let R = series in simp (ring, R)

  -- in the span, and 0 at each pivot: 0
  pub span_clear : (B : List Row) (v : Series F) → Echelon B → Span B v → Clear B v → v ≡ O
  unfolding Span Echelon S.◌⊞◌ S.O
  span_clear [] v e x z = x
  span_clear (b ∷ B) v e x z =
      let q = span_clear B (v ⊞ C x.0 ⊠ b.row) e.2 x.1 (clear-add B _ _ z.1 (clear_scale B _ b.row e.1)) in
      let d : x.0 ≡ 𝟘 =
      sym (L.mul-one _) ∙ ap (λ y. x.0 ⊗ y) (sym e.0) ∙ sym (C-at L x.0 b.row b.pivot) ∙ sym (zero-add L _)
      ∙ ap (λ y. y ⊕ (C x.0 ⊠ b.row) b.pivot) (sym z.0) ∙ ap (λ p. p b.pivot) q in
      add_cancel series v (C x.0 ⊠ b.row) q ∙ ap (λ y. C y ⊠ b.row) d ∙ ap (λ y. y ⊠ b.row) (C-zero L) ∙ series.mul_comm _ _ ∙ mul-zero series _

  -- x^j
  abbrev pub power : ℕ → ℕ → F
  power j = pow series (X) j

  pub monic-power : (j : ℕ) → Monic L j (power j)
  unfolding pow S.C S.X
  monic-power zero = record { below = below_C L 𝟙; lead = refl }
  monic-power (suc j) =
      let e : 1 + j ≡ suc j = omega arith in
      subst (λ n. Monic L n (X ⊠ power j)) e (monic-mul L (record { below = below_X L; lead = refl }) (monic-power j))

  module _ {m : ℕ} (fin : Finite K m) (t : ℕ) (g : Series F) (mo : Monic L t g) where
    -- r is the residue of h^(2^m) + h
    pub record Image (h r : ℕ → F) : Type 0 where
      pub below : Below L t r
      pub residue : Div K g ((frob series m h ⊞ h) ⊞ r)

    pub image_add : {h k r s : Series F} → Image h r → Image k s → Image (h ⊞ k) (r ⊞ s)
    image_add {h} {k} {r} {s} a b = record {
      below = below_add L a.below b.below;
      residue = div_to K (shape (frob series m h) h r (frob series m k) k s ∙ ap (λ x. (x ⊞ (h ⊞ k)) ⊞ (r ⊞ s)) (sym (frob_add series m h k))) (div_add K a.residue b.residue);
    }
      where
        shape : (f h r e k s : Series F) → ((f ⊞ h) ⊞ r) ⊞ ((e ⊞ k) ⊞ s) ≡ ((f ⊞ e) ⊞ (h ⊞ k)) ⊞ (r ⊞ s)
        shape f h r e k s = let R = series in simp (ring, R)

    pub image_scale : (c : F) {h r : Series F} → Image h r → Image (C c ⊠ h) (C c ⊠ r)
    image_scale c {h} {r} a = record {
      below = below_scale L c a.below;
      residue = div_to K (shape (frob series m h) h r (C c) ∙ ap (λ x. (x ⊞ C c ⊠ h) ⊞ C c ⊠ r) (ap (λ x. x ⊠ frob series m h) (sym (frob_C K m c ∙ ap C (fin.fermat c))) ∙ sym (frob_mul series m (C c) h)))
          (div_mul K (C c) (poly_C L c) a.residue);
    }
      where
        shape : (f h r c : Series F) → ((f ⊞ h) ⊞ r) ⊠ c ≡ (c ⊠ f ⊞ c ⊠ h) ⊞ c ⊠ r
        shape f h r c = let R = series in simp (ring, R)

    image_to : {h k r s : Series F} → h ≡ k → r ≡ s → Image h r → Image k s
    image_to {h} {k} {r} {s} e d a = subst (λ x. Image x s) e (subst (Image h) d a)

    image_kernel : {h : Series F} → Div K g (frob series m h ⊞ h) → Image h O
    unfolding S.O
    image_kernel d = record { below = λ i k. refl; residue = div_to K (sym (series.add-zero _)) d }

    kernel_image : {h : Series F} → Image h O → Div K g (frob series m h ⊞ h)
    kernel_image a = div_to K (series.add-zero _) a.residue

    image_constant : (c : F) → Image (C c) O
    unfolding S.O
    image_constant c = image_kernel (div K O (0, λ i k. refl) (ap (λ x. x ⊞ C c) (frob_C K m c ∙ ap C (fin.fermat c)) ∙ series.add_self _ ∙ sym (mul-zero series g)))

    -- only one residue
    image_unique : {h r s : Series F} → Image h r → Image h s → r ≡ s
    image_unique {h} {r} {s} a b = add_cancel series r s (div_low K mo (below_add L a.below b.below) (div_to K (shape (frob series m h ⊞ h) r s) (div_add K a.residue b.residue)))
      where
        shape : (f r s : Series F) → (f ⊞ r) ⊞ (f ⊞ s) ≡ r ⊞ s
        shape f r s = let R = series in simp (ring, R)

    -- each row is the residue of a polynomial of degree at most i
    abbrev Made : ℕ → List Row → Type 0
    Made i B = All (λ b. (h : ℕ → F) × Below L (suc i) h × Image h b.row) B

    span_made : (i : ℕ) (B : List Row) (v : Series F) → Made i B → Span B v → (h : Series F) × Below L (suc i) h × Image h v
    unfolding Span S.O
    span_made i [] v mk x = (C 𝟘, (λ j k. below_C L 𝟘 j (omega arith)), image_to refl (sym x) (image_constant 𝟘))
    span_made i (b ∷ B) v mk x =
        let k = span_made i B _ mk.1 x.1 in
        (k.0 ⊞ C x.0 ⊠ mk.0.0, below_add L k.1 (below_scale L _ mk.0.1), image_to refl (shape v (C x.0 ⊠ b.row)) (image_add k.2 (image_scale x.0 mk.0.2)))
      where
        shape : (v w : Series F) → (v ⊞ w) ⊞ w ≡ v
        shape v w = let R = series in simp (ring, R)

    -- the rows of x, .., x^i
    pub record State (i : ℕ) (B : List Row) : Type 0 where
      pub echelon : Echelon B
      pub made : All (λ b. (h : ℕ → F) × Below L (suc i) h × Image h b.row) B
      pub spans : (h v : ℕ → F) → Below L (suc i) h → Image h v → Span B v
      pub kernel : (h : ℕ → F) → Below L (suc i) h → Image h (O) → h ≡ C (h 0)

    pub start : State 0 []
    unfolding Echelon Span S.O
    start = record {
      echelon = tt;
      made = tt;
      spans = λ h v b a. image_unique a (subst (λ x. Image x O) (sym (constant h b)) (image_constant (h 0)));
      kernel = λ h b a. constant h b;
    }
      where
        constant : (h : Series F) → Below L 1 h → h ≡ C (h 0)
        constant h b = split L h ∙ ap (λ x. C (h 0) ⊞ X ⊠ x) (below_zero L (below_tail L b)) ∙ (let R = series in simp (ring, R))

    module _ {i : ℕ} {B : List Row} (s : State i B) {r : Series F} (im : Image (power (suc i)) r) where
      w : Series F
      w = reduced B r

      -- the residue less its reduction is a residue of lower degree
      lower : (k : Series F) × Below L (suc i) k × Image k (r ⊞ w)
      unfolding w
      lower = span_made i B (r ⊞ reduced B r) s.made (span_reduce B r)

      low_image : Image (power (suc i) ⊞ lower.0) w
      low_image = image_to refl (shape r w) (image_add im lower.2)
        where
          shape : (r w : Series F) → r ⊞ (r ⊞ w) ≡ w
          shape r w = let R = series in simp (ring, R)

      -- no row left: a polynomial of degree i + 1 is fixed
      pub fails : suc i < t → reduced B r ≡ O → Rigid K m t g → ⊥
      unfolding w S.◌⊞◌ S.C
      fails l z rigid = 𝟙≢𝟘 (sym (monic-power (suc i)).lead ∙ sym (L.add-zero _) ∙ ap (λ x. power (suc i) (suc i) ⊕ x) (sym (lower.1 (suc i) (omega arith)))
          ∙ ap (λ p. p (suc i)) (rigid (power (suc i) ⊞ lower.0)
          (below_add L (λ j k. (monic-power (suc i)).below j (omega arith)) (λ j k. lower.1 j (omega arith))) (kernel_image (image_to refl z low_image))))

      module _ (p : ℕ) (nz : ¬ (reduced B r p ≡ 𝟘)) where
        unfoldable pub next : Row
        next = record { row = C (inv (reduced B r p)) ⊠ reduced B r; pivot = p }

        module _ (h : Series F) (b : Below L (suc (suc i)) h) where
          c : F
          c = h (suc i)

          h' : Series F
          h' = h ⊞ C c ⊠ power (suc i)

          h'_below : Below L (suc i) h'
          unfolding h' c
          h'_below = reduce K (suc i) h (power (suc i)) b (monic-power (suc i))

          -- the residue of h, less c w
          rest : {v : Series F} → Image h v → Span B (v ⊞ C c ⊠ w)
          unfolding w h'
          rest {v} a = span_to B (shape v (C c) r w) (span_add B _ _ (s.spans h' _ h'_below (image_add a (image_scale c im))) (span_scale B c _ (span_reduce B r)))
            where
              shape : (v c r w : Series F) → (v ⊞ c ⊠ r) ⊞ c ⊠ (r ⊞ w) ≡ v ⊞ c ⊠ w
              shape v c r w = let R = series in simp (ring, R)

          pub next_spans : {v : Series F} → Image h v → Span (next ∷ B) v
          unfolding Span next w
          next_spans {v} a = (c ⊗ w p, span_to B (ap (λ x. v ⊞ x) (sym same)) (rest a))
            where
              turn : (c x y w : Series F) → (c ⊠ x) ⊠ (y ⊠ w) ≡ c ⊠ ((y ⊠ x) ⊠ w)
              turn c x y w = let R = series in simp (ring, R)

              same : C (c ⊗ w p) ⊠ (C (inv (w p)) ⊠ w) ≡ C c ⊠ w
              same = ap (λ x. x ⊠ (C (inv (w p)) ⊠ w)) (C-mul L c (w p)) ∙ turn (C c) (C (w p)) (C (inv (w p))) w
                  ∙ ap (λ x. C c ⊠ x) (ap (λ x. x ⊠ w) (sym (C-mul L _ _) ∙ ap C (inv-mul K (w p) nz)) ∙ one-mul series w)

          pub next_kernel : Image h O → h ≡ C (h 0)
          unfolding w h' S.O S.◌⊞◌ c
          next_kernel a = h_same ∙ s.kernel h' h'_below (image_to h_same refl a) ∙ ap (λ x. C (x 0)) (sym h_same)
            where
              cw : C c ⊠ w ≡ O
              cw = span_clear B (C c ⊠ w) s.echelon (span_to B (zero-add series _) (rest a)) (clear_scale B c w (reduce_clear B r s.echelon))

              c_zero : c ≡ 𝟘
              c_zero = unit_cancel L (inv (w p)) (w p) c (inv-mul K (w p) nz) (L.mul_comm _ _ ∙ sym (C-at L c w p) ∙ ap (λ x. x p) cw)

              h_same : h ≡ h'
              h_same = sym (ap (λ x. h ⊞ C x ⊠ power (suc i)) c_zero ∙ ap (λ x. h ⊞ x ⊠ power (suc i)) (C-zero L) ∙ shape h (power (suc i)))
                where
                  shape : (h p : Series F) → h ⊞ O ⊠ p ≡ h
                  shape h p = let R = series in simp (ring, R)

        pub step : State (suc i) (next ∷ B)
        unfolding Echelon next w
        step = record {
          echelon = (C-at L _ w p ∙ inv-mul K (w p) nz, clear_scale B _ w (reduce_clear B r s.echelon), s.echelon);
          made = (
            (
              C (inv (w p)) ⊠ (power (suc i) ⊞ lower.0),
              below_scale L _ (below_add L (monic-power (suc i)).below (λ j k. lower.1 j (omega arith))),
              image_scale _ low_image,
            ),
            all_map _ _ (λ b x. (x.0, (λ j k. x.1 j (omega arith)), x.2)) B s.made,
          );
          spans = λ h v b a. next_spans h b a;
          kernel = λ h b a. next_kernel h b a;
        }

    -- all rows stand: only the constants are fixed
    pub stands : {i : ℕ} {B : List Row} → State i B → t ≤ suc i → Rigid K m t g
    stands s l h b d = s.kernel h (λ j k. b j (omega arith)) (image_kernel d)

    -- the test: yes where all rows stand, no where one falls
    pub test_yes : {i : ℕ} {B : List Row} → Separable L t g → State i B → t ≤ suc i → Prime K t g
    test_yes sep s l = rigid_prime K m t g sep (stands s l)

    pub test_no : {i : ℕ} {B : List Row} → State i B → {r : Series F} → Image (power (suc i)) r → suc i < t → reduced B r ≡ O → ¬ Prime K t g
    test_no s im l z pr = fails s im l z (prime_rigid K fin t g mo pr)
