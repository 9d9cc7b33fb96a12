-- The weighted sums of powers of one level from those of the next. Assumes nothing.
use mathlib.Core.Path.{◌≡◌, refl, sym, ap, ap₂, ◌∙◌}
use mathlib.Core.List.{List, ◌∷◌, ◌++◌, map}
use Prim.Native.Nat.{ℕ, zero, suc, ◌+◌, ◌^◌, ◌<◌}
use native.Mathlib.Nat.{pow-suc, mod-eq_of_lt, zero-add}
use native.Mathlib.Omega.{arith}
use lib.ListN.{length, get_or, take, drop, length-drop}
use lib.Seq.{take_at, drop_at, get_or-take, get_or-drop, length-take-le}
use Rattle.bits.specs.Xor.{◌⊕◌}
use Rattle.bits.specs.Bits.{from, each_with, xor_row}
use Rattle.bits.proofs.Lists.{cons_eq, length-map-from, map-from, map-from-at}
use Rattle.bits.proofs.Each.{each_with-at, length-each_with}
use Rattle.field.specs.Field.{mul, power}
use Rattle.field.proofs.DigitSums.{digit_sum-lt, digit_sum-low, digit_sum_high}
use Rattle.field.proofs.Table.{Width}
use Rattle.field.proofs.Laws.{mul_comm, mul-one, power_zero}
use Rattle.levels.specs.Levels.{point_of, points_of, ratios, lowered}
use Rattle.levels.specs.Twist.{twisted, scaled}
use Rattle.power_sums.specs.Sums.{sum_to, moment, moments_by, folded, collected, zip, merged}
use Rattle.levels.proofs.Basis.{under, over-lt, back, independent_top}
use Rattle.levels.proofs.LevelBases.{Basis, point_ratio, point_next}
use Rattle.power_sums.proofs.Moments.{sum_cong, sum-add, sum-split, sum-mul, sum_small, part, part_small, part_rule, part-zero, part_one, part_end, collected-zip}

scaled-map : (m b : ℕ) (f : ℕ → ℕ) (j k : ℕ) → scaled m b j (map f (from j k)) ≡ map (λ s. mul m (f s) (power m b s)) (from j k)
unfolding scaled from
scaled-map m b f j zero = refl
scaled-map m b f j (suc k) = ap (◌∷◌ (mul m (f j) (power m b j))) (scaled-map m b f (suc j) k)

module _ (m : ℕ) (w : Width m) (n : ℕ) (b : List ℕ) (B : Basis m (suc n) b) (wt : List ℕ) (size : length wt ≡ 2 ^ n + 2 ^ n) where
  top : ℕ
  top = get_or b n 0

  next : List ℕ
  next = lowered m n (ratios m n b)

  t : ℕ → ℕ
  t i = point_of n (ratios m n b) i

  lows : List ℕ
  lows = take (2 ^ n) wt

  highs : List ℕ
  highs = drop (2 ^ n) wt

  length_lows : length lows ≡ 2 ^ n
  unfolding lows
  length_lows = length-take-le (2 ^ n) wt (omega arith)

  length_highs : length highs ≡ 2 ^ n
  unfolding highs
  length_highs = length-drop (2 ^ n) wt ∙ omega arith

  t_small : (i : ℕ) → t i < 2 ^ m
  unfolding t
  t_small i = rw (point_ratio m n b B.long i) (over-lt m (get_or b n 0) (point_of n b i))

  y_form : (i : ℕ) → point_of n next i ≡ mul m (t i) (t i) ⊕ t i
  unfolding next t under
  y_form i = point_next m n b B.long i ∙ ap (λ (x : ℕ). mul m x x ⊕ x) (sym (point_ratio m n b B.long i))

  -- x = b·t
  x_form : (i : ℕ) → point_of n b i ≡ mul m top (t i)
  unfolding t top point_of
  x_form i =
      sym (ap (mul m (get_or b n 0)) (point_ratio m n b B.long i)
      ∙ back m w (get_or b n 0) (B.small n) (independent_top (λ j. get_or b j 0) n B.independent) (point_of n b i)
      ∙ mod-eq_of_lt (digit_sum-lt m (λ j. get_or b j 0) B.small n i))

  M : ℕ → ℕ → ℕ
  M s j = sum_to (2 ^ n) (λ i. part m w (get_or lows i 0) (get_or highs i 0) (t i) s j)

  M-rule : (s j : ℕ) → M (suc (suc s)) j ≡ M (suc s) j ⊕ M s (suc j)
  unfolding M
  M-rule s j =
      sum_cong (2 ^ n) _ _ (λ i h. part_rule m w (get_or lows i 0) (get_or highs i 0) (t i) (t_small i) s j)
      ∙ sum-add (2 ^ n) (λ i. part m w (get_or lows i 0) (get_or highs i 0) (t i) (suc s) j) (λ i. part m w (get_or lows i 0) (get_or highs i 0) (t i) s (suc j))

  -- the next level's weights
  fst : List ℕ
  fst = xor_row lows highs

  snd : List ℕ
  snd = xor_row highs (each_with (mul m) fst (points_of n (ratios m n b)))

  length_fst : length fst ≡ 2 ^ n
  unfolding fst xor_row
  length_fst = length-each_with ◌⊕◌ lows highs ∙ length_lows

  fst_at : (i : ℕ) → i < 2 ^ n → get_or fst i 0 ≡ get_or lows i 0 ⊕ get_or highs i 0
  unfolding fst xor_row
  fst_at i h = each_with-at ◌⊕◌ lows highs i (omega (arith, length_lows)) (omega (arith, length_highs))

  snd_at : (i : ℕ) → i < 2 ^ n → get_or snd i 0 ≡ get_or highs i 0 ⊕ mul m (get_or lows i 0 ⊕ get_or highs i 0) (t i)
  unfolding snd xor_row points_of t
  snd_at i h =
      let g : List ℕ = map (point_of n (ratios m n b)) (from 0 (2 ^ n)) in
      let lg : length g ≡ 2 ^ n = length-map-from (point_of n (ratios m n b)) 0 (2 ^ n) in
      let lf : length fst ≡ 2 ^ n = length_fst in
      each_with-at ◌⊕◌ highs (each_with (mul m) fst g) i (omega (arith, length_highs)) (omega (arith, length-each_with (mul m) fst g))
      ∙ ap (◌⊕◌ (get_or highs i 0)) (each_with-at (mul m) fst g i (omega arith) (omega arith)
      ∙ ap₂ (mul m) (fst_at i h) (map-from-at (point_of n (ratios m n b)) 0 (2 ^ n) i 0 h ∙ ap (point_of n (ratios m n b)) (zero-add i)))

  low-moment : (j : ℕ) → moment m n next fst j ≡ M 0 j
  unfolding moment M
  low-moment j = sum_cong (2 ^ n) _ _ (λ i h.
      ap₂ (λ (a y : ℕ). mul m a (power m y j)) (fst_at i h) (y_form i) ∙ sym (part-zero m w (get_or lows i 0) (get_or highs i 0) (t i) j))

  high_moment : (j : ℕ) → moment m n next snd j ≡ M 1 j
  unfolding moment M
  high_moment j = sum_cong (2 ^ n) _ _ (λ i h.
      ap₂ (λ (a y : ℕ). mul m a (power m y j)) (snd_at i h) (y_form i) ∙ sym (part_one m w (get_or lows i 0) (get_or highs i 0) (t i) (t_small i) j))

  low-at : (i : ℕ) → i < 2 ^ n → get_or lows i 0 ≡ get_or wt i 0
  unfolding lows
  low-at i h = get_or-take (2 ^ n) wt i 0 h

  high_at : (i : ℕ) → get_or highs i 0 ≡ get_or wt (2 ^ n + i) 0
  unfolding highs
  high_at i = get_or-drop (2 ^ n) wt i 0

  term : ℕ → ℕ → ℕ
  term s i = mul m (get_or wt i 0) (power m (point_of (suc n) b i) s)

  term_pair : (s i : ℕ) → i < 2 ^ n → mul m (power m top s) (part m w (get_or lows i 0) (get_or highs i 0) (t i) s 0) ≡ term s i ⊕ term s (2 ^ n + i)
  unfolding term point_of top
  term_pair s i h =
      mul_comm m (power m top s) _ ∙ part_end m w (get_or lows i 0) (get_or highs i 0) (t i) top (point_of n b i) s (x_form i) (B.small n)
      ∙ ap₂ ◌⊕◌ (ap₂ (λ (a x : ℕ). mul m a (power m x s)) (low-at i h) (sym (digit_sum-low (λ j. get_or b j 0) n i h)))
      (ap₂ (λ (a x : ℕ). mul m a (power m x s)) (high_at i) (sym (digit_sum_high (λ j. get_or b j 0) n i h)))

  end_moment : (s : ℕ) → mul m (M s 0) (power m top s) ≡ moment m (suc n) b wt s
  unfolding moment M term
  end_moment s =
      let e : 2 ^ n + 2 ^ n ≡ 2 ^ suc n = omega (arith, pow-suc 2 n) in
      mul_comm m (M s 0) (power m top s) ∙ sym (sum-mul m (power m top s) (2 ^ n) (λ i. part m w (get_or lows i 0) (get_or highs i 0) (t i) s 0))
      ∙ sum_cong (2 ^ n) _ _ (λ i h. term_pair s i h) ∙ sum-add (2 ^ n) (term s) (λ i. term s (2 ^ n + i)) ∙ sym (sum-split (2 ^ n) (2 ^ n) (term s))
      ∙ ap (λ (k : ℕ). sum_to k (term s)) e

  M-small : (s j : ℕ) → M s j < 2 ^ m
  unfolding M
  M-small s j = sum_small m (2 ^ n) _ (λ i. part_small m w (get_or lows i 0) (get_or highs i 0) (t i) s j)

  raised_form : (k : ℕ) (f : ℕ → ℕ) → f 0 < 2 ^ m → twisted m top (map f (from 0 k)) ≡ map (λ s. mul m (f s) (power m top s)) (from 0 k)
  unfolding twisted from
  raised_form zero f h = refl
  raised_form (suc k) f h = cons_eq (sym (ap (mul m (f 0)) (power_zero m top) ∙ mul-one m w h)) (scaled-map m top f 1 k)

  level_moments : (k : ℕ)
      → merged m (get_or b n 0) k (moments_by m n (lowered m n (ratios m n b)) k fst ++ moments_by m n (lowered m n (ratios m n b)) k snd)
      ≡ moments_by m (suc n) b (k + k) wt
  unfolding merged moments_by next top
  level_moments k =
      let a : List ℕ = map (moment m n next fst) (from 0 k) in
      let d : List ℕ = map (moment m n next snd) (from 0 k) in
      let la : length a ≡ k = length-map-from (moment m n next fst) 0 k in
      ap₂ (λ (x y : List ℕ). twisted m top (collected (k + k) (zip x y))) (take_at a d k la) (drop_at a d k la)
      ∙ ap₂ (λ (x y : List ℕ). twisted m top (collected (k + k) (zip x y)))
      (map-from (moment m n next fst) (M 0) 0 0 k (λ i h. low-moment (0 + i))) (map-from (moment m n next snd) (M 1) 0 0 k (λ i h. high_moment (0 + i)))
      ∙ ap (twisted m top) (collected-zip M M-rule k) ∙ raised_form (k + k) (λ i. M i 0) (M-small 0 0)
      ∙ map-from (λ s. mul m (M s 0) (power m top s)) (moment m (suc n) b wt) 0 0 (k + k) (λ i h. end_moment (0 + i))

  -- the code's form of the next level's weights
  folded_form : folded m (points_of n (ratios m n b)) wt ≡ fst ++ snd
  unfolding folded fst snd lows highs points_of
  folded_form =
      ap (λ (h : ℕ). xor_row (take h wt) (drop h wt) ++ xor_row (drop h wt) (each_with (mul m) (xor_row (take h wt) (drop h wt)) (map (point_of n (ratios m n b)) (from 0 (2 ^ n)))))
      (length-map-from (point_of n (ratios m n b)) 0 (2 ^ n))

  pub level_sums : (k : ℕ)
      → merged m (get_or b n 0) k
      (moments_by m n (lowered m n (ratios m n b)) k (take (2 ^ n) (folded m (points_of n (ratios m n b)) wt))
      ++ moments_by m n (lowered m n (ratios m n b)) k (drop (2 ^ n) (folded m (points_of n (ratios m n b)) wt)))
      ≡ moments_by m (suc n) b (k + k) wt
  level_sums k =
      ap (λ (l : List ℕ). merged m (get_or b n 0) k
      (moments_by m n (lowered m n (ratios m n b)) k (take (2 ^ n) l) ++ moments_by m n (lowered m n (ratios m n b)) k (drop (2 ^ n) l))) folded_form
      ∙ ap₂ (λ (x y : List ℕ). merged m (get_or b n 0) k (moments_by m n (lowered m n (ratios m n b)) k x ++ moments_by m n (lowered m n (ratios m n b)) k y))
      (take_at fst snd (2 ^ n) length_fst) (drop_at fst snd (2 ^ n) length_fst)
      ∙ level_moments k
