-- The loops over places of the bases. Assumes nothing.
use mathlib.Core.Path.{◌≡◌, refl, sym, ap, ap₂, ◌∙◌}
use mathlib.Core.List.{List, [], ◌∷◌, ◌++◌, map, append_assoc}
use Prim.Native.Nat.{ℕ, zero, suc, ◌+◌, ◌^◌, ◌≤◌, ◌<◌}
use native.Mathlib.Nat.{not-suc-le-zero, suc-add, zero-add, pow-suc}
use native.Mathlib.Numerals.{add-one}
use native.Mathlib.Omega.{arith}
use lib.Pow.{pow_mono}
use lib.ListN.{length, get_or, take, drop, set, length-append, length-drop, length-map, take-append-drop, get_or-append}
use lib.Seq.{take_at, take_all, length-take-le, drop-drop}
use Rattle.bits.specs.Xor.{◌⊕◌}
use Rattle.bits.specs.Bits.{from, each_with, over}
use Rattle.bits.proofs.Lists.{length_from, from-add, map-append, map-from, map_at}
use Rattle.bits.proofs.Each.{length-each_with, each_with-nil, each_with-suc}
use Rattle.bits.proofs.Padded.{over-start, over-next}
use Rattle.field.specs.PointTable.{digit_sum}
use Rattle.field.proofs.DigitSums.{digit_sum-low, digit_sum_high, digit_sum-zero}
use Rattle.levels.specs.Levels.{doubled, point_of, points_of}

-- a store in the second of two lists
pub set_right : (p q : List ℕ) (h i x : ℕ) → length p ≡ h → set (p ++ q) (h + i) x ≡ p ++ set q i x
set_right [] q zero i x e = ap (λ (j : ℕ). set q j x) (zero-add i)
set_right [] q (suc h) i x e = absurd (omega arith)
set_right (y ∷ p) q zero i x e = absurd (omega arith)
set_right (y ∷ p) q (suc h) i x e = ap (λ (j : ℕ). set (y ∷ (p ++ q)) j x) (suc-add h i) ∙ ap (◌∷◌ y) (set_right p q h i x (omega arith))

-- x added behind the first w numbers, at i places
module _ (w x : ℕ) (l : List ℕ) where
  unfoldable pub doubled_to : ℕ → List ℕ
  doubled_to i = take w l ++ over (take i (map (λ y. y ⊕ x) (take w l))) (drop w l)

  pub doubled-start : l ≡ doubled_to 0
  unfolding doubled_to
  doubled-start = sym (ap (λ (r : List ℕ). take w l ++ r) (sym (over-start (map (λ y. y ⊕ x) (take w l)) (drop w l))) ∙ take-append-drop w l)

  module _ (e : w + w ≤ length l) where
    length_front : length (take w l) ≡ w
    length_front = length-take-le w l (omega arith)

    pub doubled-next : (i : ℕ) (g : List ℕ) → g ≡ doubled_to i → i < w → set g (w + i) (get_or g i 0 ⊕ x) ≡ doubled_to (i + 1)
    unfolding doubled_to
    doubled-next i g eg k =
        let p : List ℕ = take w l in
        let d : List ℕ = map (λ y. y ⊕ x) p in
        let ld : length d ≡ w = length-map p (λ y. y ⊕ x) ∙ length_front in
        let er : get_or g i 0 ⊕ x ≡ get_or d i 0 = ap (λ (r : List ℕ). get_or r i 0 ⊕ x) eg
        ∙ ap (λ (y : ℕ). y ⊕ x) (get_or-append p (over (take i d) (drop w l)) 0 i (omega (arith, length_front))) ∙ sym (map_at (λ y. y ⊕ x) p i 0 0 (omega (arith, length_front))) in
        ap₂ (λ (r : List ℕ) (y : ℕ). set r (w + i) y) eg er
        ∙ set_right p (over (take i d) (drop w l)) w i (get_or d i 0) length_front
        ∙ ap (◌++◌ p) (over-next i d (drop w l) (omega arith) (omega (arith, length-drop w l)))

    pub doubled_all : (i : ℕ) → w ≤ i → doubled_to i ≡ doubled w x l
    unfolding doubled_to doubled over
    doubled_all i k =
        let d : List ℕ = map (λ y. y ⊕ x) (take w l) in
        let ld : length d ≡ w = length-map (take w l) (λ y. y ⊕ x) ∙ length_front in
        ap (λ (r : List ℕ). take w l ++ (r ++ drop (length r) (drop w l))) (take_all i d (omega arith))
        ∙ ap (λ (r : List ℕ). take w l ++ (d ++ r)) (ap (λ (j : ℕ). drop j (drop w l)) ld ∙ drop-drop w w l)

-- one place more of a list, with a function of the number there
module _ (f : ℕ → ℕ) (n : ℕ) (l : List ℕ) where
  unfoldable pub each_to : ℕ → List ℕ
  each_to i = each_with (λ x j. f x) l (take i (from 0 n))

  pub each_start : l ≡ each_to 0
  unfolding each_to
  each_start = sym (each_with-nil _ l)

  pub length_each_to : (i : ℕ) → length (each_to i) ≡ length l
  unfolding each_to
  length_each_to i = length-each_with _ l (take i (from 0 n))

  pub each_next : (i : ℕ) (r : List ℕ) (x : ℕ) → r ≡ each_to i → i < n → i < length l → x ≡ f (get_or r i 0) → set r i x ≡ each_to (i + 1)
  unfolding each_to
  each_next i r x er k h ex =
      ap₂ (λ (r : List ℕ) (y : ℕ). set r i y) er (ex ∙ ap (λ (r : List ℕ). f (get_or r i 0)) er)
      ∙ each_with-suc (λ x j. f x) l (from 0 n) i (omega (arith, length_from 0 n)) h ∙ ap (λ (j : ℕ). each_with (λ x j. f x) l (take j (from 0 n))) (sym (add-one i))

  pub each_all : (i : ℕ) → n ≤ i → each_to i ≡ each_with (λ x j. f x) l (from 0 n)
  unfolding each_to
  each_all i h = ap (each_with (λ x j. f x) l) (take_all i (from 0 n) (omega (arith, length_from 0 n)))

map-map : (f g : ℕ → ℕ) (l : List ℕ) → map f (map g l) ≡ map (λ i. f (g i)) l
map-map f g [] = refl
map-map f g (x ∷ l) = ap (◌∷◌ (f (g x))) (map-map f g l)

-- points: none yet; one number of the basis more; all
points_suc : (n : ℕ) (b : List ℕ) → points_of (suc n) b ≡ points_of n b ++ map (λ y. y ⊕ get_or b n 0) (points_of n b)
unfolding points_of point_of
points_suc n b =
    let two : 2 ^ suc n ≡ 2 ^ n + 2 ^ n = omega (arith, pow-suc 2 n) in
    let p : ℕ → ℕ = digit_sum (suc n) (λ j. get_or b j 0) in
    ap (λ (i : ℕ). map p (from 0 i)) two ∙ ap (map p) (from-add 0 (2 ^ n) (2 ^ n)) ∙ map-append p (from 0 (2 ^ n)) (from (0 + 2 ^ n) (2 ^ n))
    ∙ ap₂ ◌++◌ (map-from p (point_of n b) 0 0 (2 ^ n) (λ i h. digit_sum-low (λ j. get_or b j 0) n (0 + i) (omega arith)))
    (map-from p (λ i. point_of n b i ⊕ get_or b n 0) (0 + 2 ^ n) 0 (2 ^ n) (λ i h. ap p (index i) ∙ digit_sum_high (λ j. get_or b j 0) n (0 + i) (omega arith))
    ∙ sym (map-map (λ y. y ⊕ get_or b n 0) (point_of n b) (from 0 (2 ^ n))))
  where
    index : (i : ℕ) → 0 + 2 ^ n + i ≡ 2 ^ n + (0 + i)
    index i = omega arith

pub points_start : (b g : List ℕ) → 0 < length g → take 1 (set g 0 0) ≡ points_of 0 b
unfolding points_of point_of from
points_start b [] h = absurd (not-suc-le-zero h)
points_start b (x ∷ g) h = ap (λ (i : ℕ). i ∷ []) (sym (digit_sum-zero (λ j. get_or b j 0) 0))

pub points_next : (j w : ℕ) (b g d : List ℕ) → take (2 ^ j) g ≡ points_of j b → w ≡ 2 ^ j → w + w ≤ length g → d ≡ doubled w (get_or b j 0) g
    → take (2 ^ (j + 1)) d ≡ points_of (j + 1) b
unfolding doubled
points_next j w b g d e ew h ed =
    let x : ℕ = get_or b j 0 in
    let p : List ℕ = take w g in
    let q : List ℕ = map (λ y. y ⊕ x) p in
    let two : 2 ^ (j + 1) ≡ w + w = ap (λ (i : ℕ). 2 ^ i) (add-one j) ∙ omega (arith, pow-suc 2 j) in
    let lp : length p ≡ w = length-take-le w g (omega arith) in
    let l : length (p ++ q) ≡ w + w = length-append p q ∙ ap₂ ◌+◌ lp (length-map p (λ y. y ⊕ x) ∙ lp) in
    let ep : p ≡ points_of j b = ap (λ (i : ℕ). take i g) ew ∙ e in
    ap₂ take two (ed ∙ sym (append_assoc p q (drop (w + w) g))) ∙ take_at (p ++ q) (drop (w + w) g) (w + w) l
    ∙ ap (λ (r : List ℕ). r ++ map (λ y. y ⊕ x) r) ep ∙ sym (points_suc j b) ∙ ap (λ (i : ℕ). points_of i b) (sym (add-one j))

pub length-doubled : (w x : ℕ) (l : List ℕ) → w + w ≤ length l → length (doubled w x l) ≡ length l
unfolding doubled
length-doubled w x l h =
    let q : List ℕ = map (λ y. y ⊕ x) (take w l) in
    let lp : length (take w l) ≡ w = length-take-le w l (omega arith) in
    length-append (take w l) (q ++ drop (w + w) l) ∙ ap (◌+◌ (length (take w l))) (length-append q (drop (w + w) l))
    ∙ omega (arith, lp, length-map (take w l) (λ y. y ⊕ x), length-drop (w + w) l)

pub pow_step : (j n : ℕ) {w : ℕ} → j < n → w ≡ 2 ^ j → w + w ≤ 2 ^ n
pow_step j n h e = omega (arith, e, pow-suc 2 j, pow_mono h)

pub points_all : (j n : ℕ) (b g : List ℕ) → j ≡ n → length g ≡ 2 ^ n → take (2 ^ j) g ≡ points_of j b → g ≡ points_of n b
points_all j n b g e l p =
    sym (take_all (2 ^ n) g (omega arith)) ∙ ap (λ (i : ℕ). take (2 ^ i) g) (sym e) ∙ p ∙ ap (λ (i : ℕ). points_of i b) e
