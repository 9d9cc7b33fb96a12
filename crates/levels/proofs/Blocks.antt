-- A function on each part of w numbers of a list. Assumes nothing.
use mathlib.Core.Path.{◌≡◌, refl, sym, ap, ap₂, ◌∙◌}
use mathlib.Core.List.{List, ◌++◌, append_assoc}
use Prim.Native.Nat.{ℕ, zero, suc, ◌+◌, ◌-◌, ◌*◌, ◌≤◌, ◌<◌}
use native.Mathlib.Nat.{suc-mul, zero-mul, add_comm}
use native.Mathlib.Numerals.{add-one}
use native.Mathlib.Omega.{arith}
use lib.ListN.{length, take, drop, length-append, length-take, length-drop}
use lib.Seq.{take_at, drop_at, length-take-le, take-append-add, drop-append-add}
use Rattle.bits.proofs.Parts.{rows_in}
use Rattle.levels.specs.Twist.{each_block}

-- the first w + n numbers of a list that begins with w
take_past : (x y : List ℕ) (w n : ℕ) → length x ≡ w → take (w + n) (x ++ y) ≡ x ++ take n y
take_past x y w n e = ap (λ (k : ℕ). take (k + n) (x ++ y)) (sym e) ∙ take-append-add x y n

pub drop_past : (x y : List ℕ) (w n : ℕ) → length x ≡ w → drop (w + n) (x ++ y) ≡ drop n y
drop_past x y w n e = ap (λ (k : ℕ). drop (k + n) (x ++ y)) (sym e) ∙ drop-append-add x y n

-- a list's first w numbers and the others
pub length_front : (q w : ℕ) (c : List ℕ) → length c ≡ suc q * w → length (take w c) ≡ w
length_front q w c h = simp length-take (omega (arith, h, suc-mul q w))

pub length_rest : (q w : ℕ) (c : List ℕ) → length c ≡ suc q * w → length (drop w c) ≡ q * w
length_rest q w c h = simp length-drop (omega (arith, h, suc-mul q w))

pub block_front : (f : List ℕ → List ℕ) (w q : ℕ) (x l : List ℕ) → length x ≡ w → each_block f w (suc q) (x ++ l) ≡ f x ++ each_block f w q l
unfolding each_block
block_front f w q x l h = ap₂ (λ (a r : List ℕ). f a ++ each_block f w q r) (take_at x l w h) (drop_at x l w h)

-- two levels: each part is split into two by s, each of which v maps, and b joins
module _ (s b v' v : List ℕ → List ℕ) (w w' h : ℕ) where
  pub record Joins : Type 0 where
    pub low : List ℕ → List ℕ
    pub high : List ℕ → List ℕ
    pub parts : (p : List ℕ) → length p ≡ w → s p ≡ low p ++ high p
    pub low_length : (p : List ℕ) → length p ≡ w → length (low p) ≡ w'
    pub high_length : (p : List ℕ) → length p ≡ w → length (high p) ≡ w'
    pub length_values : (p : List ℕ) → length (v' p) ≡ h
    pub joined : (p : List ℕ) → length p ≡ w → b (v' (low p) ++ v' (high p)) ≡ v p

  inner : (J : Joins) (q : ℕ) (p r : List ℕ) → length p ≡ w
      → each_block v' w' (suc q + suc q) (s p ++ r) ≡ (v' (J.low p) ++ v' (J.high p)) ++ each_block v' w' (q + q) r
  inner J q p r e =
      let n : suc q + suc q ≡ suc (suc (q + q)) = omega arith in
      let a : List ℕ = J.low p in
      let d : List ℕ = J.high p in
      ap₂ (λ (k : ℕ) (l : List ℕ). each_block v' w' k l) n (ap (λ (l : List ℕ). l ++ r) (J.parts p e) ∙ append_assoc a d r)
      ∙ block_front v' w' (suc (q + q)) a (d ++ r) (J.low_length p e)
      ∙ ap (λ (l : List ℕ). v' a ++ l) (block_front v' w' (q + q) d r (J.high_length p e))
      ∙ sym (append_assoc (v' a) (v' d) _)

  pub two_levels : Joins → (q : ℕ) (c : List ℕ) → length c ≡ q * w
      → each_block b (h + h) q (each_block v' w' (q + q) (each_block s w q c)) ≡ each_block v w q c
  unfolding each_block
  two_levels J zero c e = refl
  two_levels J (suc q) c e =
      let p : List ℕ = take w c in
      let x : List ℕ = v' (J.low p) ++ v' (J.high p) in
      let l : length x ≡ h + h = length-append (v' (J.low p)) (v' (J.high p)) ∙ ap₂ ◌+◌ (J.length_values (J.low p)) (J.length_values (J.high p)) in
      ap (each_block b (h + h) (suc q)) (inner J q p (each_block s w q (drop w c)) (length_front q w c e))
      ∙ block_front b (h + h) q x _ l
      ∙ ap₂ ◌++◌ (J.joined p (length_front q w c e)) (two_levels J q (drop w c) (length_rest q w c e))

-- part k of q parts of w numbers lies within them
pub block_in : (k q w : ℕ) {at n : ℕ} → k < q → at ≡ k * w → n ≡ q * w → at + w ≤ n
block_in k q w h e l = rw (e, l) (rows_in k q w h)

-- one part more
module _ (f : List ℕ → List ℕ) (w : ℕ) (same : (l : List ℕ) → length l ≡ w → length (f l) ≡ w) where
  block_step : (k at : ℕ) (l : List ℕ) → at ≡ k * w → at + w ≤ length l
      → take at (each_block f w k l) ++ (f (take w (drop at (each_block f w k l))) ++ drop w (drop at (each_block f w k l))) ≡ each_block f w (suc k) l
  unfolding each_block
  block_step zero at l e h =
      let z : at ≡ 0 = e ∙ zero-mul w in
      ap (λ (a : ℕ). take a l ++ (f (take w (drop a l)) ++ drop w (drop a l))) z
  block_step (suc k) at l e h =
      let a : at ≡ w + k * w = e ∙ suc-mul k w ∙ add_comm (k * w) w in
      let x : List ℕ = f (take w l) in
      let y : List ℕ = each_block f w k (drop w l) in
      let lx : length x ≡ w = same (take w l) (length-take-le w l (omega arith)) in
      let d : drop at (x ++ y) ≡ drop (k * w) y = ap (λ (i : ℕ). drop i (x ++ y)) a ∙ drop_past x y w (k * w) lx in
      ap₂ (λ (r s : List ℕ). r ++ (f (take w s) ++ drop w s)) (ap (λ (i : ℕ). take i (x ++ y)) a ∙ take_past x y w (k * w) lx) d
      ∙ append_assoc x (take (k * w) y) _
      ∙ ap (◌++◌ x) (block_step k (k * w) (drop w l) refl (omega (arith, length-drop w l)))

  pub length-each_block : (k : ℕ) (l : List ℕ) → k * w ≤ length l → length (each_block f w k l) ≡ length l
  unfolding each_block
  length-each_block zero l h = refl
  length-each_block (suc k) l h =
      length-append (f (take w l)) (each_block f w k (drop w l))
      ∙ ap₂ ◌+◌ (same (take w l) (length-take-le w l (omega (arith, suc-mul k w)))) (length-each_block k (drop w l) (omega (arith, suc-mul k w, length-drop w l)) ∙ length-drop w l)
      ∙ omega (arith, suc-mul k w)

  pub block_next : (k at : ℕ) (l b y : List ℕ) → b ≡ each_block f w k l → at ≡ k * w → at + w ≤ length l
      → y ≡ f (take (at + w - at) (drop at b)) → take at b ++ (y ++ drop (at + w - at) (drop at b)) ≡ each_block f w (k + 1) l
  block_next k at l b y eb e h ey =
      let n : at + w - at ≡ w = omega arith in
      ap (λ (z : List ℕ). take at b ++ (z ++ drop (at + w - at) (drop at b))) ey
      ∙ ap₂ (λ (i : ℕ) (c : List ℕ). take at c ++ (f (take i (drop at c)) ++ drop i (drop at c))) n eb
      ∙ block_step k at l e h ∙ ap (λ (i : ℕ). each_block f w i l) (sym (add-one k))

pub block_length : (at w : ℕ) (l : List ℕ) → at + w ≤ length l → length (take (at + w - at) (drop at l)) ≡ w
block_length at w l h = length-take-le (at + w - at) (drop at l) (omega (arith, length-drop at l)) ∙ omega arith

-- a function that makes v numbers of w
pub length_blocks : (f : List ℕ → List ℕ) (w v : ℕ) → ((l : List ℕ) → length l ≡ w → length (f l) ≡ v)
    → (q : ℕ) (c : List ℕ) → length c ≡ q * w → length (each_block f w q c) ≡ q * v
unfolding each_block
length_blocks f w v h zero c e = e ∙ omega arith
length_blocks f w v h (suc q) c e =
    length-append (f (take w c)) (each_block f w q (drop w c))
    ∙ ap₂ ◌+◌ (h (take w c) (length_front q w c e)) (length_blocks f w v h q (drop w c) (length_rest q w c e)) ∙ omega (arith, suc-mul q v)
