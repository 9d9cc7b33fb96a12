-- A greatest common divisor of g and g' is a constant exactly where no square divides g. Assumes nothing.
use mathlib.Core.Path.{◌≡◌, refl, sym, ap, ◌∙◌, fun_ext, subst}
use mathlib.Core.Bool.{Bool, true, false, ◌&&◌}
use mathlib.Core.List.{List, [], ◌∷◌, ◌++◌}
use Prim.Native.Nat.{ℕ, zero, suc, ◌-◌, ◌≤◌, ◌<◌}
use native.Mathlib.Omega.{arith}
use native.Mathlib.Decide.{dec_lt}
use borrow.Author.Tests.{lt-leb, le-leb}
use lib.Dec.{leb}
use lib.Pow.{pow_pos}
use lib.ListN.{length, replicate}
use Rattle.bits.proofs.Padded.{length-padded}
use Rattle.bits.specs.Bits.{every, padded}
use Rattle.bits.proofs.Bits.{zeros_at}
use Rattle.algebra.proofs.Ring.{ring, mul-zero}
use Rattle.algebra.proofs.Series as S
use Rattle.algebra.proofs.Series.{Series, operations}
use Rattle.algebra.proofs.Derivative.{D}
use Rattle.algebra.proofs.Poly.{Below, Monic, below_zero, below_C, poly_mul_lem, poly_C, monic_multiple}
use Rattle.algebra.proofs.Euclid.{Degree, monic-scaled, scaled_back}
use Rattle.algebra.proofs.Goppa.{Separable}
use Rattle.field.specs.Field.{is_element}
use Rattle.field.proofs.Table.{Width, by_width}
use Rattle.field.proofs.Laws.{one_lt}
use Rattle.field.proofs.Gf.{val, val-zero, one_not_zero, gf}
use Rattle.field.proofs.Arrays.{Elements, poly, every-elements, elements-every}
use Rattle.poly.specs.Polynomials.{monic, has_square}
use Rattle.poly.proofs.Product.{length-monic, monic-elements, poly_monic}
use Rattle.poly.proofs.SquareSearch.{has_square_separable, separable_has_square}
use Rattle.euclid.specs.declared.common.Divisor.{Divisor}
use Rattle.euclid.specs.Euclid.{derivative, accepted, common_divisor, square_test}
use Rattle.euclid.proofs.Coefficients.{length-derivative, derivative_poly, derivative-elements, padded_poly, padded-elements}
use Rattle.euclid.proofs.Combination.{Combination, Multiple, of_multiples}
use Rattle.euclid.proofs.Answers.{accepted_no_width, accepted_short, divisor_not_a, square_no_width, square_no_element, square_in_bounds}
use Rattle.euclid.proofs.Ideal.{top_nonzero, Greatest, common_divisor_lem}

-- g with its leading 1
abbrev pub whole : List ℕ → List ℕ
whole g = padded 129 (monic g)

module _ (m : ℕ) (W : Width m) (g : List ℕ) (d : Divisor) (t : Greatest m W (whole g) (derivative (whole g)) d) where
  open gf m W use {F, 𝟙, inv, laws as L}
  open operations L use {◌⊞◌, ◌⊠◌, O, C, series}

  infixl 65 ◌⊞◌
  infixl 70 ◌⊠◌
  G : Series F
  G = poly m (monic g)

  last : Series F
  last = poly m d.c

  same_g : poly m (whole g) ≡ G
  unfolding G
  same_g = padded_poly m W (monic g)

  same_d : poly m (derivative (whole g)) ≡ D L G
  same_d = derivative_poly m W (whole g) ∙ ap (D L) same_g

  of_g : Multiple L last G
  unfolding last
  of_g = subst (λ x. Multiple L last x) same_g t.divides_a

  of_d : Multiple L last (D L G)
  unfolding last
  of_d = subst (λ x. Multiple L last x) same_d t.divides_b

  combined : Combination L G (D L G) last
  unfolding last
  combined = subst (λ x. Combination L G x last) same_d (subst (λ x. Combination L x (poly m (derivative (whole g))) last) same_g t.combination)

  -- g is not 0, so neither is what divides it
  some : 0 < d.length
  unfolding last G S.O
  some = elim (dec_lt 0 d.length) [
    | yes h ↦ h
    | no h ↦ absurd (one_not_zero m W (sym (poly_monic m W g).lead
        ∙ ap (λ p. p (length g)) (of_g.eq ∙ ap (λ x. of_g.factor ⊠ x) (below_zero L (λ i l. ap (val m) (t.past i (omega arith)) ∙ val-zero m)) ∙ mul-zero series of_g.factor)))
  ]

  degree_last : Degree (gf m W) d.length last
  unfolding last
  degree_last = record {
    deg = d.length - 1;
    small = omega (arith, some);
    below = λ i l. ap (val m) (t.past i (omega (arith, some))) ∙ val-zero m;
    nonzero = top_nonzero m d.c d.length t.elements (record { some = some; nonzero = t.top some });
  }

  lead : F
  lead = last (d.length - 1)

  -- over its leading coefficient
  common : Series F
  common = C (inv lead) ⊠ last

  common_monic : Monic L (d.length - 1) common
  unfolding common lead degree_last
  common_monic = monic-scaled (gf m W) degree_last

  monic_one : (q : Series F) → Monic L 0 q → q ≡ C 𝟙
  unfolding S.C
  monic_one q w = fun_ext go
    where
      go : (i : ℕ) → q i ≡ C 𝟙 i
      go zero = w.lead
      go (suc i) = w.below (suc i) (omega arith)

  -- a constant
  separable : d.length < 2 → Separable L (length g) G
  unfolding common G
  separable h =
      let i = C (inv lead) in
      let e : d.length - 1 ≡ 0 = omega arith in
      record {
        monic = poly_monic m W g;
        u = i ⊠ combined.u;
        v = i ⊠ combined.v;
        poly_u = poly_mul_lem L (poly_C L _) combined.poly_u;
        poly_v = poly_mul_lem L (poly_C L _) combined.poly_v;
        bezout = shape i combined.u combined.v G (D L G) ∙ ap (λ x. i ⊠ x) (sym combined.eq) ∙ monic_one common (subst (λ n. Monic L n common) e common_monic);
      }
    where
      shape : (i u v p q : Series F) → i ⊠ u ⊠ p ⊞ i ⊠ v ⊠ q ≡ i ⊠ (u ⊠ p ⊞ v ⊠ q)
      shape i u v p q = let R = series in simp (ring, R)

  -- degree 1 or more: 1 would be a multiple of it
  not_separable : 2 ≤ d.length → Separable L (length g) G → ⊥
  unfolding common lead last degree_last S.C S.O
  not_separable h s = one_not_zero m W (ap (λ q. q 0) (unit ∙ ap (λ x. common ⊠ x) none ∙ mul-zero series common))
    where
      one : Multiple L last (C 𝟙)
      one = of_multiples L of_g of_d (record { u = s.u; v = s.v; poly_u = s.poly_u; poly_v = s.poly_v; eq = sym s.bezout })

      rest : Series F
      rest = C lead ⊠ one.factor

      move : (c q r : Series F) → r ⊠ (c ⊠ q) ≡ q ⊠ (c ⊠ r)
      move c q r = let R = series in simp (ring, R)

      unit : C 𝟙 ≡ common ⊠ rest
      unit = one.eq ∙ ap (λ x. one.factor ⊠ x) (scaled_back (gf m W) degree_last) ∙ move (C lead) common one.factor

      none : rest ≡ O
      none =
          monic_multiple L rest common_monic (poly_mul_lem L (poly_C L lead) one.poly_factor)
          (subst (Below L (d.length - 1)) unit (λ i l. below_C L 𝟙 i (omega arith)))

  -- two coefficients or more exactly where a square divides g
  divisor_square : Elements m g → leb 2 d.length ≡ has_square m g
  unfolding G
  divisor_square e = elim (dec_lt d.length 2) [
    | yes h ↦ lt-leb 2 d.length h ∙ sym (separable_has_square m W g e (separable h))
    | no h ↦ (let l : 2 ≤ d.length = omega arith in le-leb 2 d.length l ∙ sym (found l (has_square m g) refl))
  ]
    where
      found : 2 ≤ d.length → (b : Bool) → has_square m g ≡ b → has_square m g ≡ true
      found l true f = f
      found l false f = absurd (not_separable l (has_square_separable m W g e f))

-- the leading 1 and the zeros behind it are elements
whole-every : (m : ℕ) → Width m → (g : List ℕ) → every (is_element m) (whole g) ≡ every (is_element m) g
unfolding every padded monic
whole-every m W g = go (129 - length (monic g)) g
  where
    go : (n : ℕ) (l : List ℕ) → every (is_element m) ((l ++ 1 ∷ []) ++ replicate n 0) ≡ every (is_element m) l
    go n [] = elements-every m (1 ∷ replicate n 0) at
      where
        at : Elements m (1 ∷ replicate n 0)
        at zero = one_lt m W
        at (suc k) = rw (zeros_at n k) (pow_pos m)
    go n (x ∷ l) = ap (◌&&◌ (is_element m x)) (go n l)

-- the square test, by the divisor's length
module _ (m : ℕ) (g : List ℕ) (h : length g ≤ 128) where
  abbrev pub divisor : Divisor
  divisor = common_divisor m (whole g) (derivative (whole g))

  long : length (whole g) ≡ 129
  long = length-padded 129 (monic g) (omega (arith, length-monic g))

  pub square_test_lem : leb 2 divisor.length ≡ square_test m g
  square_test_lem = by_width m (λ w. go w (every (is_element m) g) refl) (λ n. none (accepted_no_width m (whole g) n) (square_no_width m g n))
    where
      none : accepted m (whole g) ≡ false → square_test m g ≡ false → leb 2 divisor.length ≡ square_test m g
      none a f = ap (λ r. leb 2 r.length) (divisor_not_a m (whole g) (derivative (whole g)) a) ∙ sym f

      go : Width m → (b : Bool) → every (is_element m) g ≡ b → leb 2 divisor.length ≡ square_test m g
      go w false e =
          none (accepted_short m (whole g) w (omega (arith, long)) ∙ whole-every m w g ∙ e) (square_no_element m g w h e)
      go w true e =
          let E = every-elements m g e in
          let D = derivative-elements m w (whole g) (padded-elements m w (monic g) (monic-elements m w g E)) in
          let a = accepted_short m (whole g) w (omega (arith, long)) ∙ whole-every m w g ∙ e in
          let b = accepted_short m (derivative (whole g)) w (omega (arith, long, length-derivative (whole g))) ∙ elements-every m (derivative (whole g)) D in
          divisor_square m w g divisor (common_divisor_lem m w (whole g) (derivative (whole g)) a b) E ∙ sym (square_in_bounds m g w h e)
