-- What the levels multiply by, level after level. Assumes nothing.
use mathlib.Core.Path.{◌≡◌, sym, ap, ap₂, ◌∙◌}
use mathlib.Core.Bool.{Bool, true, false, cond}
use mathlib.Core.List.{List, ◌++◌}
use Prim.Native.Nat.{ℕ, zero, suc, ◌+◌, ◌-◌, ◌^◌, ◌≤◌, ◌<◌, min}
use native.Mathlib.Nat.{pow-suc, not-suc-le-zero, min-le_left, min-le_right, min-eq_left, min-eq_right}
use native.Mathlib.Numerals.{add-one}
use native.Mathlib.Omega.{arith}
use native.Mathlib.Decide.{dec_lt}
use lib.Pow.{pow_mono}
use lib.ListN.{length, get_or, take, drop, set, replicate, length-append, length-drop, length-set, length-replicate}
use lib.Seq.{take_at, drop_at, drop-drop, length-take-le, get_or-set_same, get_or-set_other}
use Rattle.bits.proofs.Lists.{length-map-from}
use Rattle.field.specs.Field.{is_width}
use Rattle.field.specs.Answers.{is_unit}
use Rattle.field.proofs.Table.{Width, width_narrow}
use Rattle.field.proofs.Units.{element_unit}
use Rattle.levels.specs.Levels.{point_of, points_of, points_put, ratios, lowered, basis_of, top_of, factors_of, tops_put, factors_put, depth_of, levels_of, Factors, Tops}
use Rattle.levels.specs.declared.levels.Levels.{Levels}
use Rattle.levels.proofs.Blocks.{drop_past}
use Rattle.levels.proofs.Basis.{independent_top}
use Rattle.levels.proofs.LevelBases.{Basis, basis_at}

-- the points in their place
pub put_form : (n h : ℕ) (b g y : List ℕ) → h ≡ 2 ^ n → y ≡ points_of n b → take h g ++ (y ++ drop (h + h - h) (drop h g)) ≡ points_put n b g
unfolding points_put
put_form n h b g y e ey =
    let d : h + h - h ≡ h = omega arith in
    ap₂ (λ (i : ℕ) (z : List ℕ). take h g ++ (z ++ drop i (drop h g))) d ey ∙ ap (λ (i : ℕ). take i g ++ (points_of n b ++ drop i (drop i g))) e

pub length_factors : (m j : ℕ) → length (factors_of m j) ≡ 2 ^ (m - suc j)
unfolding factors_of points_of
length_factors m j = length-map-from (point_of (m - suc j) (ratios m (m - suc j) (basis_of m j))) 0 (2 ^ (m - suc j))

-- level j's points in their place
pub length_points : (n : ℕ) (b : List ℕ) → length (points_of n b) ≡ 2 ^ n
unfolding points_of
length_points n b = length-map-from (point_of n b) 0 (2 ^ n)

module _ (n : ℕ) (b g : List ℕ) (l : 2 ^ n + 2 ^ n ≤ length g) where
  length_front : length (take (2 ^ n) g) ≡ 2 ^ n
  length_front = length-take-le (2 ^ n) g (omega arith)

  pub length-put : length (points_put n b g) ≡ length g
  unfolding points_put
  length-put =
      let d : List ℕ = drop (2 ^ n) (drop (2 ^ n) g) in
      length-append (take (2 ^ n) g) (points_of n b ++ d)
      ∙ ap₂ ◌+◌ length_front (length-append (points_of n b) d ∙ ap₂ ◌+◌ (length_points n b) (length-drop (2 ^ n) (drop (2 ^ n) g)))
      ∙ omega (arith, length-drop (2 ^ n) g)

  put_here : take (2 ^ n) (drop (2 ^ n) (points_put n b g)) ≡ points_of n b
  unfolding points_put
  put_here =
      let d : List ℕ = drop (2 ^ n) (drop (2 ^ n) g) in
      ap (take (2 ^ n)) (drop_at (take (2 ^ n) g) (points_of n b ++ d) (2 ^ n) length_front) ∙ take_at (points_of n b) d (2 ^ n) (length_points n b)

  put_above : (i : ℕ) → n < i → drop (2 ^ i) (points_put n b g) ≡ drop (2 ^ i) g
  unfolding points_put
  put_above i h =
      let d : List ℕ = drop (2 ^ n) (drop (2 ^ n) g) in
      let r : ℕ = 2 ^ i - (2 ^ n + 2 ^ n) in
      let e : 2 ^ i ≡ 2 ^ n + (2 ^ n + r) = omega (arith, pow-suc 2 n, pow_mono h) in
      ap (λ (k : ℕ). drop k (take (2 ^ n) g ++ (points_of n b ++ d))) e
      ∙ drop_past (take (2 ^ n) g) (points_of n b ++ d) (2 ^ n) (2 ^ n + r) length_front ∙ drop_past (points_of n b) d (2 ^ n) r (length_points n b)
      ∙ drop-drop r (2 ^ n) (drop (2 ^ n) g) ∙ drop-drop (2 ^ n + r) (2 ^ n) g ∙ ap (λ (k : ℕ). drop k g) (sym e)

-- level j's part in both lists
pub length_tops : (m j : ℕ) → length (tops_put m j) ≡ 16
unfolding tops_put
length_tops m zero = length-replicate {A = ℕ} 16 0
length_tops m (suc j) = length-set (tops_put m j) j _ ∙ length_tops m j

-- level j's factors lie among 8192 places
half_fits : (m j : ℕ) → m < 14 → j < m → 2 ^ (m - suc j) + 2 ^ (m - suc j) ≤ 8192
half_fits m j s h =
    let d : suc (m - suc j) ≤ 13 = omega arith in
    omega (arith, pow-suc 2 (m - suc j), pow_mono d)

pub length-factors_put : (m j : ℕ) → m < 14 → j ≤ m → length (factors_put m j) ≡ 8192
unfolding factors_put
length-factors_put m zero s h = length-replicate {A = ℕ} 8192 0
length-factors_put m (suc j) s h =
    let e = length-factors_put m j s (omega arith) in
    length-put (m - suc j) _ (factors_put m j) (omega (arith, e, half_fits m j s h)) ∙ e

pub tops_at : (m k : ℕ) → k ≤ 16 → Tops m k (tops_put m k)
unfolding tops_put
tops_at m zero l i h = absurd (not-suc-le-zero h)
tops_at m (suc k) l i h = elim (dec_lt i k) [
  | yes c ↦ get_or-set_other (tops_put m k) k i (top_of m k) 0 (λ x. omega (arith, x, c)) ∙ tops_at m k (omega arith) i c
  | no c ↦
      (let e : i ≡ k = omega arith in
      ap (λ (i : ℕ). get_or (set (tops_put m k) k (top_of m k)) i 0) e ∙ get_or-set_same (tops_put m k) k (top_of m k) 0 (omega (arith, length_tops m k)) ∙ ap (top_of m) (sym e))
]

pub factors_at : (m k : ℕ) → m < 14 → k ≤ m → Factors m k (factors_put m k)
unfolding factors_put factors_of
factors_at m zero s l i h = absurd (not-suc-le-zero h)
factors_at m (suc k) s l i h = elim (dec_lt i k) [
  | yes c ↦ ap (take (2 ^ (m - suc i))) (put_above (m - suc k) (ratios m (m - suc k) (basis_of m k)) (factors_put m k) fits (m - suc i) (omega arith))
      ∙ factors_at m k s (omega arith) i c
  | no c ↦
      (let e : i ≡ k = omega arith in
      ap (λ (i : ℕ). take (2 ^ (m - suc i)) (drop (2 ^ (m - suc i)) (factors_put m (suc k)))) e
      ∙ put_here (m - suc k) (ratios m (m - suc k) (basis_of m k)) (factors_put m k) fits ∙ ap (factors_of m) (sym e))
]
  where
    fits : 2 ^ (m - suc k) + 2 ^ (m - suc k) ≤ length (factors_put m k)
    fits = omega (arith, half_fits m k s l, length-factors_put m k s (omega arith))

-- the loop over the levels: level j
module _ (m j : ℕ) (h : j < m) where
  lower : m - 1 - j ≡ m - suc j
  lower = omega arith

  pub top_unit : Width m → {b : List ℕ} → b ≡ basis_of m j → is_unit m (get_or b (m - 1 - j) 0) ≡ true
  top_unit w {b} e =
      let d : m - j ≡ suc (m - suc j) = omega arith in
      let B : Basis m (suc (m - suc j)) (basis_of m j) = rw d at (basis_at m w j (omega arith)) in
      let p : 0 < get_or (basis_of m j) (m - suc j) 0 = independent_top (λ i. get_or (basis_of m j) i 0) (m - suc j) B.independent in
      ap₂ (λ (l : List ℕ) (n : ℕ). is_unit m (get_or l n 0)) e lower ∙ element_unit m _ (B.small (m - suc j)) (λ z. omega (arith, z))

  module _ (b : List ℕ) (eb : b ≡ basis_of m j) where
    pub tops_next : (t : List ℕ) → t ≡ tops_put m j → set t j (get_or b (m - 1 - j) 0) ≡ tops_put m (j + 1)
    unfolding tops_put top_of
    tops_next t e =
        ap₂ (λ (t : List ℕ) (x : ℕ). set t j x) e (ap₂ (λ (l : List ℕ) (n : ℕ). get_or l n 0) eb lower) ∙ ap (tops_put m) (sym (add-one j))

    module _ (r : List ℕ) (er : r ≡ ratios m (m - 1 - j) b) where
      ratio_form : r ≡ ratios m (m - suc j) (basis_of m j)
      ratio_form = er ∙ ap₂ (λ (n : ℕ) (x : List ℕ). ratios m n x) lower eb

      pub basis_next : (d : List ℕ) → d ≡ lowered m (m - 1 - j) r → d ≡ basis_of m (j + 1)
      unfolding basis_of
      basis_next d ed =
          ed ∙ ap₂ (λ (n : ℕ) (x : List ℕ). lowered m n x) lower ratio_form ∙ ap (basis_of m) (sym (add-one j))

      pub factors_next : (g y : List ℕ) → g ≡ factors_put m j → y ≡ points_put (m - 1 - j) r g → y ≡ factors_put m (j + 1)
      unfolding factors_put
      factors_next g y eg ey =
          ey ∙ ap₂ (λ (n : ℕ) (x : List ℕ). points_put n x g) lower ratio_form
          ∙ ap (points_put (m - suc j) (ratios m (m - suc j) (basis_of m j))) eg ∙ ap (factors_put m) (sym (add-one j))

-- what the call answers
module _ (m : ℕ) where
  pub levels_none : is_width m ≡ false → ◌≡◌ {A = Levels} record { tops = replicate 16 0; factors = replicate 8192 0 } (levels_of m)
  unfolding levels_of depth_of tops_put factors_put
  levels_none e = sym (ap (λ (b : Bool). record { tops = tops_put m (cond b (min m 9) 0); factors = factors_put m (cond b (min m 9) 0) }) e)

  module _ (w : Width m) where
    pub levels_width : {l : Levels} → l.tops ≡ tops_put m (min m 9) → l.factors ≡ factors_put m (min m 9) → l ≡ levels_of m
    unfolding levels_of depth_of
    levels_width {l} et ef =
        ap₂ (λ (t f : List ℕ). record { tops = t; factors = f }) et ef
        ∙ sym (ap (λ (b : Bool). record { tops = tops_put m (cond b (min m 9) 0); factors = factors_put m (cond b (min m 9) 0) }) w)

    module _ {l : Levels} (e : l ≡ levels_of m) (k : ℕ) (a : k ≤ m) (b : k ≤ 9) where
      least : k ≤ min m 9
      least = elim (dec_lt m 9) [
        | yes h ↦ (let e : m ≤ 9 = omega arith in omega (arith, min-eq_left e))
        | no h ↦ (let e : 9 ≤ m = omega arith in omega (arith, min-eq_right e))
      ]

      pub levels_tops : Tops m k l.tops
      unfolding levels_of depth_of
      levels_tops i c =
          ap (λ (l : Levels). get_or l.tops i 0) e ∙ ap (λ (b : Bool). get_or (tops_put m (cond b (min m 9) 0)) i 0) w
          ∙ tops_at m (min m 9) (omega (arith, min-le_right m 9)) i (omega (arith, least))

      pub levels_factors : Factors m k l.factors
      unfolding levels_of depth_of
      levels_factors i c =
          ap (λ (l : Levels). take (2 ^ (m - suc i)) (drop (2 ^ (m - suc i)) l.factors)) e
          ∙ ap (λ (b : Bool). take (2 ^ (m - suc i)) (drop (2 ^ (m - suc i)) (factors_put m (cond b (min m 9) 0)))) w
          ∙ factors_at m (min m 9) (width_narrow m w) (min-le_left m 9) i (omega (arith, least))
