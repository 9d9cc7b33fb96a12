-- Euclid's algorithm: each step keeps the polynomials that the two generate, so what is left at the end is a greatest common
-- divisor. Assumes nothing.
use mathlib.Core.Path.{◌≡◌, sym, ap, ap₂, ◌∙◌, subst}
use mathlib.Core.Logic.{◌≢◌, inl, inr}
use mathlib.Core.Bool.{true}
use mathlib.Core.List.{List}
use Prim.Native.Nat.{ℕ, ◌+◌, ◌-◌, ◌*◌, ◌≤◌, ◌<◌}
use native.Mathlib.Nat.{eq-or-lt_of_le}
use native.Mathlib.Omega.{arith}
use native.Mathlib.Decide.{dec_lt}
use lib.Pow.{pow_pos}
use lib.ListN.{length, get_or}
use Rattle.bits.proofs.Padded.{padded-at, length-padded}
use Rattle.bits.specs.Bits.{padded}
use Rattle.algebra.proofs.Field.{inv-mul}
use Rattle.algebra.proofs.Series as S
use Rattle.algebra.proofs.Series.{Series, operations, C-at, shift, shift_mul, shift_at}
use Rattle.algebra.proofs.Poly.{Below, Poly, below_zero, below_C, below_shift, below_scale}
use Rattle.field.proofs.Table.{Width}
use Rattle.field.proofs.Gf.{Elem, val, val-zero, val_inj, val-mul, val-inv, zero_elem, times, gf}
use Rattle.field.proofs.Arrays.{Elements, poly, every-elements}
use Rattle.euclid.specs.declared.common.Divisor.{Divisor}
use Rattle.euclid.specs.declared.common.Pair.{Pair}
use Rattle.euclid.specs.Euclid.{size, started, lowered, swapped, quotient, reduced, step, steps, accepted, common_divisor}
use Rattle.euclid.proofs.Size.{size-le, size_past, size_top}
use Rattle.euclid.proofs.Coefficients.{padded_poly, padded-elements, added-elements, length-added, added_poly}
use Rattle.euclid.proofs.Combination.{Combination, first, swap, add, change, Multiple, with_zero, of_multiples}
use Rattle.euclid.proofs.Answers.{accepted-parts, divisor_found}
use Rattle.euclid.proofs.Steps.{Low, by_step, at_end}

-- the coefficient before n is not 0
pub record Top (l : List ℕ) (n : ℕ) : Type 0 where
  pub some : 0 < n
  pub nonzero : get_or l (n - 1) 0 ≡ 0 → ⊥

pub top_nonzero : (m : ℕ) (l : List ℕ) (n : ℕ) → Elements m l → Top l n → poly m l (n - 1) ≢ zero_elem m
top_nonzero m l n e t z = t.nonzero (val_inj m (e _) (pow_pos m) (z ∙ sym (val-zero m)))

-- one of the two polynomials has its top coefficient, or both are 0
data Tops (p : Pair) : Type 0 where
  of_a : Top p.a p.da → Tops p
  of_b : Top p.b p.db → Tops p
  none : p.da ≡ 0 → p.db ≡ 0 → Tops p

-- what Euclid's algorithm keeps, from the polynomials P and Q on
module _ (m : ℕ) (W : Width m) (P Q : Series (Elem m)) where
  open gf m W use {F, 𝟘, ◌⊕◌, ◌⊗◌, laws as L}
  open operations L use {◌⊞◌, ◌⊠◌, O, C}

  infixl 65 ◌⊕◌
  infixl 70 ◌⊗◌
  infixl 65 ◌⊞◌
  infixl 70 ◌⊠◌
  -- a and b generate what P and Q generate
  record Ideal (a b : Series F) : Type 0 where
    a_of : Combination L P Q a
    b_of : Combination L P Q b
    p_of : Combination L a b P
    q_of : Combination L a b Q

  -- an array of elements, 0 from n on
  record Side (l : List ℕ) (n : ℕ) : Type 0 where
    places : length l ≡ 129
    fit : n ≤ 129
    elements : Elements m l
    below : Below L n (poly m l)

  record Kept (p : Pair) : Type 0 where
    side_a : Side p.a p.da
    side_b : Side p.b p.db
    tops : Tops p
    ideal : Ideal (poly m p.a) (poly m p.b)

  -- P and Q themselves
  ideal_start : Ideal P Q
  ideal_start = record {
    a_of = first L P Q;
    b_of = swap L (first L Q P);
    p_of = first L P Q;
    q_of = swap L (first L Q P);
  }

  side_start : (l : List ℕ) → length l ≤ 129 → Elements m l → Side (padded 129 l) (size l)
  side_start l h e = record {
    places = length-padded 129 l h;
    fit = omega (arith, size-le l);
    elements = padded-elements m W l e;
    below = λ i b. ap (val m) (padded-at 129 l i ∙ size_past l i b) ∙ val-zero m;
  }

  -- the three kinds of step
  kept_low : (p : Pair) → Kept p → 0 < p.db → Low p → Kept (lowered p)
  kept_low p k h z = record {
    side_a = k.side_a;
    side_b = record { places = k.side_b.places; fit = omega (arith, k.side_b.fit); elements = k.side_b.elements; below = below };
    tops = top k.tops;
    ideal = k.ideal;
  }
    where
      below : Below L (p.db - 1) (poly m p.b)
      below i l = elim (eq-or-lt_of_le l) [
        | inl e ↦ ap (poly m p.b) (sym e) ∙ ap (val m) z ∙ val-zero m
        | inr n ↦ k.side_b.below i (omega arith)
      ]

      top : Tops p → Tops (lowered p)
      top (of_a t) = of_a t
      top (of_b t) = absurd (t.nonzero z)
      top (none a b) = absurd (omega arith)

  kept_swap : (p : Pair) → Kept p → 0 < p.db → ¬ Low p → Kept (swapped p)
  kept_swap p k h n = record {
    side_a = k.side_b;
    side_b = k.side_a;
    tops = of_a (record { some = h; nonzero = n });
    ideal = record { a_of = k.ideal.b_of; b_of = k.ideal.a_of; p_of = swap L k.ideal.p_of; q_of = swap L k.ideal.q_of };
  }

  -- a + k·b for a
  ideal_change : {a b : Series F} (k : Series F) → Poly L k → Ideal a b → Ideal (a ⊞ k ⊠ b) b
  ideal_change k h i = record {
    a_of = add L k h i.a_of i.b_of;
    b_of = i.b_of;
    p_of = change L k h i.p_of;
    q_of = change L k h i.q_of;
  }

  -- a reduced by b: a + c·x^y·b with y = da - db
  module _ (p : Pair) (k : Kept p) (h : 0 < p.db) (n : ¬ Low p) (l : p.db ≤ p.da) where
    A : Series F
    A = poly m p.a

    B : Series F
    B = poly m p.b

    y : ℕ
    y = p.da - p.db

    c : F
    c = val m (quotient m p)

    factor : Series F
    factor = shift L y (C c)

    fit : p.da ≤ length p.a
    fit = omega (arith, k.side_a.places, k.side_a.fit)

    -- the top coefficient of the multiple is a's
    cancel : c ⊗ B (p.db - 1) ≡ A (p.da - 1)
    unfolding A B c
    cancel =
        let b = top_nonzero m p.b p.db k.side_b.elements (record { some = h; nonzero = n }) in
        ap (λ x. x ⊗ B (p.db - 1)) (val-mul m _ _ ∙ ap (times m (A (p.da - 1))) (val-inv m _))
        ∙ L.mul_assoc _ _ _ ∙ ap (λ x. A (p.da - 1) ⊗ x) (inv-mul (gf m W) (B (p.db - 1)) b) ∙ L.mul-one _

    multiple_below : Below L p.da (factor ⊠ B)
    unfolding factor B y
    multiple_below i b =
        ap (λ x. x i) (shift_mul L y (C c) B)
        ∙ below_shift L y p.db (C c ⊠ B) (below_scale L c k.side_b.below) i (omega arith)

    multiple_top : (factor ⊠ B) (p.da - 1) ≡ A (p.da - 1)
    unfolding factor B y
    multiple_top =
        let e : p.da - 1 ≡ y + (p.db - 1) = omega arith in
        ap (λ x. x (p.da - 1)) (shift_mul L y (C c) B) ∙ ap (shift L y (C c ⊠ B)) e ∙ shift_at L y (C c ⊠ B) (p.db - 1)
        ∙ C-at L c B (p.db - 1) ∙ cancel

    sum : poly m (reduced m p).a ≡ A ⊞ factor ⊠ B
    unfolding A B factor y c
    sum = added_poly m W (quotient m p) y p.da p.a p.b fit multiple_below

    sum_below : Below L (p.da - 1) (A ⊞ factor ⊠ B)
    unfolding S.◌⊞◌ A
    sum_below i b = elim (eq-or-lt_of_le b) [
      | inl e ↦ ap (A ⊞ factor ⊠ B) (sym e) ∙ ap (λ x. A (p.da - 1) ⊕ x) multiple_top ∙ L.add_self _
      | inr q ↦ ap₂ ◌⊕◌ (k.side_a.below i (omega arith)) (multiple_below i (omega arith)) ∙ L.add_self 𝟘
    ]

    kept_reduce : Kept (reduced m p)
    unfolding A B factor y
    kept_reduce = record {
      side_a = record {
        places = length-added y p.da p.a _ ∙ k.side_a.places;
        fit = omega (arith, k.side_a.fit);
        elements = added-elements m (quotient m p) y p.da p.a p.b k.side_a.elements;
        below = subst (Below L (p.da - 1)) (sym sum) sum_below;
      };
      side_b = k.side_b;
      tops = of_b (record { some = h; nonzero = n });
      ideal =
          subst (λ x. Ideal x (poly m p.b)) (sym sum)
          (ideal_change factor (y + 1, below_shift L y 1 (C c) (below_C L c)) k.ideal);
    }

  kept_step : (p : Pair) → Kept p → 0 < p.db → Kept (step m p)
  kept_step p k h = by_step m Kept p (kept_low p k h) (λ n l. kept_swap p k h n) (λ n l. kept_reduce p k h n l)

-- before the first step
tops_start : (a b : List ℕ) → Tops (started a b)
unfolding started
tops_start a b = elim (dec_lt 0 (size a)) [
  | yes h ↦ of_a (record { some = h; nonzero = λ z. size_top a h (sym (padded-at 129 a (size a - 1)) ∙ z) })
  | no h ↦ elim (dec_lt 0 (size b)) [
    | yes l ↦ of_b (record { some = l; nonzero = λ z. size_top b l (sym (padded-at 129 b (size b - 1)) ∙ z) })
    | no l ↦ none (omega arith) (omega arith)
  ]
]

module _ (m : ℕ) (W : Width m) where
  open gf m W use {F, laws as L}
  open operations L use {O}

  -- d is a greatest common divisor of a and b: it divides both, and is a combination of both. Its last coefficient is not 0
  pub record Greatest (a b : List ℕ) (d : Divisor) : Type 0 where
    pub places : length d.c ≡ 129
    pub fit : d.length ≤ 129
    pub elements : Elements m d.c
    pub past : (k : ℕ) → d.length ≤ k → get_or d.c k 0 ≡ 0
    pub top : 0 < d.length → get_or d.c (d.length - 1) 0 ≡ 0 → ⊥
    pub divides_a : Multiple L (poly m d.c) (poly m a)
    pub divides_b : Multiple L (poly m d.c) (poly m b)
    pub combination : Combination L (poly m a) (poly m b) (poly m d.c)

  kept-start : (a b : List ℕ) → length a ≤ 129 → length b ≤ 129 → Elements m a → Elements m b → Kept m W (poly m a) (poly m b) (started a b)
  unfolding started
  kept-start a b ha hb ea eb = record {
    side_a = side_start m W _ _ a ha ea;
    side_b = side_start m W _ _ b hb eb;
    tops = tops_start a b;
    ideal = subst (λ x. Ideal m W (poly m a) (poly m b) x (poly m (padded 129 b))) (sym (padded_poly m W a))
        (subst (λ x. Ideal m W (poly m a) (poly m b) (poly m a) x) (sym (padded_poly m W b)) (ideal_start m W (poly m a) (poly m b)));
  }

  -- the end: b is 0
  kept_end : (a b : List ℕ) (p : Pair) → Kept m W (poly m a) (poly m b) p → p.db ≤ 0 → Greatest a b (record { length = p.da; c = p.a })
  kept_end a b p k z = record {
    places = k.side_a.places;
    fit = k.side_a.fit;
    elements = k.side_a.elements;
    past = λ i h. val_inj m (k.side_a.elements i) (pow_pos m) (k.side_a.below i h ∙ sym (val-zero m));
    top = top k.tops;
    divides_a = with_zero L zero_b k.ideal.p_of;
    divides_b = with_zero L zero_b k.ideal.q_of;
    combination = k.ideal.a_of;
  }
    where
      zero_b : poly m p.b ≡ O
      zero_b = below_zero L (λ i l. k.side_b.below i (omega arith))

      top : Tops p → 0 < p.da → get_or p.a (p.da - 1) 0 ≡ 0 → ⊥
      top (of_a t) h = t.nonzero
      top (of_b t) h = absurd (omega (arith, t.some))
      top (none e f) h = absurd (omega arith)

  -- what the call answers for lists of elements
  pub common_divisor_lem : (a b : List ℕ) → accepted m a ≡ true → accepted m b ≡ true → Greatest a b (common_divisor m a b)
  unfolding started
  common_divisor_lem a b ea eb =
      let h = accepted-parts m a ea in
      let k = accepted-parts m b eb in
      let n : ℕ = size a + 2 * size b in
      let e = at_end m (Kept m W (poly m a) (poly m b)) (kept_step m W (poly m a) (poly m b)) n (started a b) (omega arith)
      (kept-start a b h.1 k.1 (every-elements m a h.2) (every-elements m b k.2)) in
      subst (Greatest a b) (sym (divisor_found m a b ea eb)) (kept_end a b (steps m n (started a b)) e.0 e.1)

  -- what divides a and b divides it
  pub divisor_greatest : {a b : List ℕ} {d : Divisor} → Greatest a b d → {e : Series F} → Multiple L e (poly m a) → Multiple L e (poly m b) → Multiple L e (poly m d.c)
  divisor_greatest g x y = of_multiples L x y g.combination
