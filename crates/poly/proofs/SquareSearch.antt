-- 'A square divides g', a search over lists, is `Square` of g's polynomial, so it fails where g is separable. Assumes nothing.
use mathlib.Core.Path.{◌≡◌, refl, sym, ap, ap₂, ◌∙◌, subst}
use mathlib.Core.Logic.{inl, inr}
use mathlib.Core.Bool.{Bool, true, false, ◌||◌, false≢true}
use mathlib.Core.List.{List, [], ◌∷◌}
use Prim.Native.Nat.{ℕ, zero, suc, ◌+◌, ◌-◌, ◌*◌, ◌^◌, ◌<◌}
use native.Mathlib.Numerals.{add-one}
use native.Mathlib.Omega.{arith}
use native.Mathlib.Decide.{dec_lt}
use lib.Pow.{pow_pos}
use lib.ListN.{length, get_or}
use Rattle.algebra.proofs.Ring.{one-mul, mul-zero}
use Rattle.algebra.proofs.Field.{Field}
use Rattle.algebra.proofs.Series as S
use Rattle.algebra.proofs.Series.{Series, operations}
use Rattle.algebra.proofs.Poly.{Poly, Monic, below_mul, lead_mul, monic-mul}
use Rattle.algebra.proofs.Euclid.{Degree, degree}
use Rattle.algebra.proofs.Goppa.{Separable}
use Rattle.algebra.proofs.Squarefree.{Square, squarefree}
use Rattle.field.proofs.Table.{Width}
use Rattle.field.proofs.Gf.{gf, laws, gf_separable}
use Rattle.field.proofs.Arrays.{Elements, poly, array, length-array, array-elements, poly_below, poly_inj}
use Rattle.poly.specs.Polynomials.{same, monic, product, some_below, some_list, has_square}
use Rattle.poly.proofs.Laws.{same_eq, eq_same, length-product}
use Rattle.poly.proofs.Product.{length-monic, monic-elements, product-elements, poly_monic, monic_poly, product_poly}

-- a number below n that passes
pub record NumberBelow (n : ℕ) (p : ℕ → Bool) : Type 0 where
  pub number : ℕ
  pub below : number < n
  pub passes : p number ≡ true

pub some_below_lem : (n : ℕ) (p : ℕ → Bool) → some_below n p ≡ true → NumberBelow n p
unfolding some_below
some_below_lem zero p e = absurd (false≢true e)
some_below_lem (suc n) p e = go (p n) refl (some_below_lem n p)
  where
    go : (b : Bool) → p n ≡ b → (some_below n p ≡ true → NumberBelow n p) → NumberBelow (suc n) p
    go true f ih = record { number = n; below = omega arith; passes = f }
    go false f ih =
        let r = ih (sym (ap (λ (x : Bool). x || some_below n p) f) ∙ e) in
        record { number = r.number; below = omega arith; passes = r.passes }

pub below_some : (n : ℕ) (p : ℕ → Bool) (k : ℕ) → k < n → p k ≡ true → some_below n p ≡ true
unfolding some_below
below_some zero p k h e = absurd (omega arith)
below_some (suc n) p k h e = elim (dec_lt k n) [
  | yes l ↦ ap (λ (x : Bool). p n || x) (below_some n p k l e) ∙ or_true (p n)
  | no l ↦ (let f : n ≡ k = omega arith in ap (λ (x : Bool). x || some_below n p) (ap p f ∙ e))
]
  where
    or_true : (b : Bool) → b || true ≡ true
    or_true true = refl
    or_true false = refl

-- a list of k numbers below n that passes
pub record ListBelow (n k : ℕ) (p : List ℕ → Bool) : Type 0 where
  pub list : List ℕ
  pub size : length list ≡ k
  pub below : (i : ℕ) → get_or list i 0 < n
  pub passes : p list ≡ true

pub some_list_lem : (n k : ℕ) (p : List ℕ → Bool) → 0 < n → some_list n k p ≡ true → ListBelow n k p
unfolding some_list
some_list_lem n zero p h e = record { list = []; size = refl; below = λ i. h; passes = e }
some_list_lem n (suc k) p h e = go (λ a. some_list_lem n k (λ l. p (a ∷ l)) h) (some_below_lem n _ e)
  where
    go : ((a : ℕ) → some_list n k (λ l. p (a ∷ l)) ≡ true → ListBelow n k (λ l. p (a ∷ l)))
        → NumberBelow n (λ a. some_list n k (λ l. p (a ∷ l))) → ListBelow n (suc k) p
    go ih f =
        let r = ih f.number f.passes in
        record { list = f.number ∷ r.list; size = ap suc r.size; below = at f.number r.list f.below r.below; passes = r.passes }
      where
        at : (x : ℕ) (l : List ℕ) → x < n → ((i : ℕ) → get_or l i 0 < n) → (i : ℕ) → get_or (x ∷ l) i 0 < n
        at x l h b zero = h
        at x l h b (suc i) = b i

pub list_some : (n : ℕ) (p : List ℕ → Bool) (l : List ℕ) → ((i : ℕ) → get_or l i 0 < n) → p l ≡ true → some_list n (length l) p ≡ true
unfolding some_list
list_some n p [] b e = e
list_some n p (x ∷ l) b e =
    below_some n (λ a. some_list n (length l) (λ r. p (a ∷ r))) x (b 0) (list_some n (λ r. p (x ∷ r)) l (λ i. b (suc i)) e)

-- where a monic polynomial divides a monic one, the quotient is monic
module _ (K : Field) where
  open K use {F, 𝟘, 𝟙, ◌⊗◌, laws as L, 𝟙≢𝟘 as one}
  open operations L use {◌⊠◌, O, series}

  infixl 70 ◌⊗◌
  infixl 70 ◌⊠◌
  pub record Quotient (t d : ℕ) (R : Series F) : Type 0 where
    pub deg : ℕ
    pub sum : t ≡ d + deg
    pub monic : Monic L deg R

  pub monic-quotient : (t d : ℕ) (G Q R : Series F) → Monic L t G → Monic L d Q → Poly L R → G ≡ Q ⊠ R → Quotient t d R
  unfolding S.O
  monic-quotient t d G Q R g q r e = elim (degree K r.0 R r.1) [ inl z ↦ absurd (none z) | inr f ↦ found f ]
    where
      none : R ≡ O → ⊥
      none z = one (sym g.lead ∙ ap (λ p. p t) (e ∙ ap (λ x. Q ⊠ x) z ∙ mul-zero series Q))

      found : Degree K r.0 R → Quotient t d R
      found f =
          let k = f.deg in
          let top : G (d + k) ≡ R k = ap (λ p. p (d + k)) e ∙ lead_mul L d k Q R q.below f.below ∙ ap (λ x. x ⊗ R k) q.lead ∙ one-mul L (R k) in
          elim (dec_lt t (d + k)) [
            | yes h ↦ absurd (f.nonzero (sym top ∙ g.below (d + k) h))
            | no h ↦ elim (dec_lt (d + k) t) [
              | yes l ↦ absurd (one (sym g.lead ∙ ap (λ p. p t) e ∙ below_mul L q.below f.below t (omega arith)))
              | no l ↦ (let s : t ≡ d + k = omega arith in record { deg = k; sum = s; monic = record { below = f.below; lead = sym top ∙ ap G (sym s) ∙ g.lead } })
            ]
          ]

module _ (m : ℕ) (W : Width m) (g : List ℕ) (E : Elements m g) where
  open operations (laws m W) use {◌⊠◌}

  infixl 70 ◌⊠◌
  -- q·q·r
  factored : List ℕ → List ℕ → List ℕ
  factored q r = product m (product m (monic q) (monic q)) (monic r)

  square_length : (q : List ℕ) → length (product m (monic q) (monic q)) ≡ suc (2 * length q)
  square_length q = omega (arith, length-product m (monic q) (monic q), length-monic q)

  factored_poly : (q r : List ℕ) → poly m (factored q r) ≡ (poly m (monic q) ⊠ poly m (monic q)) ⊠ poly m (monic r)
  unfolding factored
  factored_poly q r =
      product_poly m W (product m (monic q) (monic q)) (monic r) (omega (arith, square_length q)) (omega (arith, length-monic r))
      ∙ ap (λ x. x ⊠ poly m (monic r)) (product_poly m W (monic q) (monic q) (omega (arith, length-monic q)) (omega (arith, length-monic q)))

  pub has_square_square : has_square m g ≡ true → Square (gf m W) (poly m (monic g))
  unfolding has_square factored
  has_square_square e =
      let d = some_below_lem _ _ e in
      let q = some_list_lem _ _ _ (pow_pos m) d.passes in
      let r = some_list_lem _ _ _ (pow_pos m) q.passes in
      record {
        deg = d.number;
        root = poly m (monic q.list);
        rest = poly m (monic r.list);
        monic = subst (λ n. Monic (laws m W) n (poly m (monic q.list))) (q.size ∙ add-one d.number) (poly_monic m W q.list);
        poly = (length (monic r.list), poly_below m W (monic r.list));
        eq = ap (poly m) (sym (same_eq _ _ r.passes)) ∙ factored_poly q.list r.list;
      }

  pub square_has_square : Square (gf m W) (poly m (monic g)) → has_square m g ≡ true
  unfolding has_square factored
  square_has_square s =
      let n = suc s.deg in
      let R = monic-quotient (gf m W) (length g) (n + n) _ (s.root ⊠ s.root) s.rest (poly_monic m W g) (monic-mul (laws m W) s.monic s.monic) s.poly s.eq in
      let q = array m n s.root in
      let r = array m R.deg s.rest in
      let lq : length q ≡ n = length-array m n s.root in
      let lr : length r ≡ R.deg = length-array m R.deg s.rest in
      let all : factored q r ≡ monic g =
      poly_inj m (factored q r) (monic g)
      (omega (arith, length-product m (product m (monic q) (monic q)) (monic r), square_length q, length-monic r, length-monic g, R.sum))
      (product-elements m _ _) (monic-elements m W g E)
      (factored_poly q r ∙ ap₂ (λ x y. (x ⊠ x) ⊠ y) (monic_poly m W n s.root s.monic) (monic_poly m W R.deg s.rest R.monic) ∙ sym s.eq) in
      below_some _ _ s.deg (omega (arith, R.sum))
      (subst (λ k. some_list (2 ^ m) k (λ q. some_list (2 ^ m) (length g - 2 * (s.deg + 1)) (λ r. same (factored q r) (monic g))) ≡ true) (lq ∙ sym (add-one s.deg))
      (list_some (2 ^ m) _ q (array-elements m n s.root)
      (let k : length r ≡ length g - 2 * (s.deg + 1) = omega (arith, R.sum) in
      subst (λ k. some_list (2 ^ m) k (λ r. same (factored q r) (monic g)) ≡ true) k
      (list_some (2 ^ m) _ r (array-elements m R.deg s.rest) (ap (λ l. same l (monic g)) all ∙ eq_same (monic g) (monic g) refl)))))

  -- the square-free criterion
  pub has_square_separable : has_square m g ≡ false → Separable (laws m W) (length g) (poly m (monic g))
  has_square_separable e = gf_separable m W (length g) _ (poly_monic m W g) (λ s. false≢true (sym e ∙ square_has_square s))

  pub separable_has_square : Separable (laws m W) (length g) (poly m (monic g)) → has_square m g ≡ false
  separable_has_square s = go (has_square m g) refl
    where
      go : (b : Bool) → has_square m g ≡ b → has_square m g ≡ false
      go true e = absurd (squarefree (gf m W) (length g) _ s (has_square_square e))
      go false e = e
