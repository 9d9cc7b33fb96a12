-- The values by levels. Assumes nothing.
use mathlib.Core.Path.{◌≡◌, refl, sym, ap, ap₂, ◌∙◌}
use mathlib.Core.List.{List, [], ◌∷◌, ◌++◌, map}
use Prim.Native.Nat.{ℕ, suc, ◌+◌, ◌^◌, ◌<◌}
use native.Mathlib.Nat.{pow-suc}
use native.Mathlib.Omega.{arith}
use lib.ListN.{length, get_or, take, drop}
use lib.Seq.{take_at, drop_at}
use Rattle.bits.specs.Xor.{◌⊕◌}
use Rattle.bits.specs.Bits.{from, each_with, xor_row}
use Rattle.bits.proofs.Xor.{xor_comm}
use Rattle.bits.proofs.Lists.{from-add, map-append, map-from, length-map-from}
use Rattle.field.specs.Field.{mul}
use Rattle.field.specs.Poly.{value}
use Rattle.field.proofs.DigitSums.{digit_sum-low, digit_sum_high}
use Rattle.field.proofs.Table.{Width}
use Rattle.field.proofs.Laws.{mul_comm}
use Rattle.levels.specs.Levels.{point_of, points_of, ratios, lowered}
use Rattle.levels.proofs.Basis.{over, under, independent_top}
use Rattle.levels.proofs.LevelBases.{Basis, point_ratio, point_next}
use Rattle.transform.specs.Halves.{halves}
use Rattle.transform.specs.Values.{butterfly, values_by}
use Rattle.transform.proofs.Level.{level_low, level_high}

-- a function of the places of two lists over the same numbers
pub each_with-map : (f : ℕ → ℕ → ℕ) (g e : ℕ → ℕ) (l : List ℕ) → each_with f (map g l) (map e l) ≡ map (λ i. f (g i) (e i)) l
unfolding each_with
each_with-map f g e [] = refl
each_with-map f g e (x ∷ l) = ap (◌∷◌ (f (g x) (e x))) (each_with-map f g e l)

pub butterfly_maps : (m : ℕ) (g u v : ℕ → ℕ) (n : ℕ)
    → butterfly m (map g (from 0 n)) (map u (from 0 n) ++ map v (from 0 n))
    ≡ map (λ i. u i ⊕ mul m (v i) (g i)) (from 0 n) ++ map (λ i. v i ⊕ (u i ⊕ mul m (v i) (g i))) (from 0 n)
unfolding butterfly xor_row
butterfly_maps m g u v n =
    let k : length (map g (from 0 n)) ≡ n = length-map-from g 0 n in
    let a : List ℕ = map u (from 0 n) in
    let d : List ℕ = map v (from 0 n) in
    let e : List ℕ = map g (from 0 n) in
    let top : take (length e) (a ++ d) ≡ a = take_at a d (length e) (length-map-from u 0 n ∙ sym k) in
    let bot : drop (length e) (a ++ d) ≡ d = drop_at a d (length e) (length-map-from u 0 n ∙ sym k) in
    ap₂ (λ (x y : List ℕ). each_with ◌⊕◌ x (each_with (mul m) y e) ++ each_with ◌⊕◌ y (each_with ◌⊕◌ x (each_with (mul m) y e))) top bot
    ∙ ap (λ (x : List ℕ). x ++ each_with ◌⊕◌ d x) (ap (each_with ◌⊕◌ a) (each_with-map (mul m) v g (from 0 n)) ∙ each_with-map ◌⊕◌ u (λ i. mul m (v i) (g i)) (from 0 n))
    ∙ ap (λ (x : List ℕ). map (λ i. u i ⊕ mul m (v i) (g i)) (from 0 n) ++ x) (each_with-map ◌⊕◌ v (λ i. u i ⊕ mul m (v i) (g i)) (from 0 n))

module _ (m : ℕ) (w : Width m) (n : ℕ) (b : List ℕ) (B : Basis m (suc n) b) where
  pos : 0 < get_or b n 0
  pos = independent_top (λ j. get_or b j 0) n B.independent

  top : ℕ
  top = get_or b n 0

  lows : List ℕ → ℕ → ℕ
  lows p i = value m (halves m top p).0 (point_of n (lowered m n (ratios m n b)) i)

  highs : List ℕ → ℕ → ℕ
  highs p i = value m (halves m top p).1 (point_of n (lowered m n (ratios m n b)) i)

  mixed : List ℕ → ℕ → ℕ
  mixed p i = lows p i ⊕ mul m (highs p i) (point_of n (ratios m n b) i)

  mixed_form : (p : List ℕ) (i : ℕ) → value m (halves m top p).0 (under m top (point_of n b i)) ⊕ mul m (over m top (point_of n b i)) (value m (halves m top p).1 (under m top (point_of n b i))) ≡ mixed p i
  unfolding mixed lows highs top
  mixed_form p i =
      ap₂ (λ (y g : ℕ). value m (halves m top p).0 y ⊕ mul m g (value m (halves m top p).1 y)) (sym (point_next m n b B.long i)) (sym (point_ratio m n b B.long i))
      ∙ ap (◌⊕◌ (lows p i)) (mul_comm m _ _)

  low_value : (p : List ℕ) (i : ℕ) → i < 2 ^ n → mixed p i ≡ value m p (point_of (suc n) b i)
  unfolding point_of top
  low_value p i h = sym (ap (value m p) (digit_sum-low (λ j. get_or b j 0) n i h) ∙ level_low m w top (B.small n) pos p _ ∙ mixed_form p i)

  high_value : (p : List ℕ) (i : ℕ) → i < 2 ^ n → highs p i ⊕ mixed p i ≡ value m p (point_of (suc n) b (2 ^ n + i))
  unfolding point_of top highs
  high_value p i h =
      xor_comm (highs p i) (mixed p i)
      ∙ sym (ap (value m p) (digit_sum_high (λ j. get_or b j 0) n i h) ∙ level_high m w top (B.small n) pos p _
      ∙ ap₂ ◌⊕◌ (mixed_form p i) (ap (value m (halves m top p).1) (sym (point_next m n b B.long i))))

  pub level_values : (p : List ℕ) → butterfly m (points_of n (ratios m n b))
      (values_by m n (lowered m n (ratios m n b)) (halves m (get_or b n 0) p).0 ++ values_by m n (lowered m n (ratios m n b)) (halves m (get_or b n 0) p).1)
      ≡ values_by m (suc n) b p
  unfolding points_of values_by mixed lows highs top
  level_values p =
      let two : 2 ^ n + 2 ^ n ≡ 2 ^ suc n = omega (arith, pow-suc 2 n) in
      let val : ℕ → ℕ = λ i. value m p (point_of (suc n) b i) in
      butterfly_maps m (point_of n (ratios m n b)) (lows p) (highs p) (2 ^ n)
      ∙ ap₂ ◌++◌
      (map-from (mixed p) val 0 0 (2 ^ n) (λ i h. low_value p (0 + i) (omega arith)))
      (map-from (λ i. highs p i ⊕ mixed p i) val 0 (0 + 2 ^ n) (2 ^ n) (λ i h. high_value p (0 + i) (omega arith) ∙ ap val (index i)))
      ∙ sym (map-append val (from 0 (2 ^ n)) (from (0 + 2 ^ n) (2 ^ n)))
      ∙ ap (map val) (sym (from-add 0 (2 ^ n) (2 ^ n)) ∙ ap (from 0) two)
    where
      index : (i : ℕ) → 2 ^ n + (0 + i) ≡ 0 + 2 ^ n + i
      index i = omega arith
