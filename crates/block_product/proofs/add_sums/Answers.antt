-- The loop's invariant: the first i rows are done, and what follows is as it was. Assumes nothing.
use mathlib.Core.Path.{◌≡◌, refl, sym, ap, ap₂, ◌∙◌, subst}
use mathlib.Core.List.{List, ◌++◌}
use Prim.Native.Nat.{ℕ, ◌+◌, ◌-◌, ◌*◌, ◌%◌, ◌^◌, ◌≤◌, ◌<◌}
use native.Mathlib.Nat.{zero-mul, not-suc-le-zero, mul-le-mul_right}
use native.Mathlib.Omega.{arith}
use borrow.Rule.Slice.PartMut.{put_mid, same_len_mid}
use lib.ListN.{length, get_or, take, drop, length-drop}
use Rattle.bits.specs.Bits.{bytes_for, unpack, xor_row}
use Rattle.bits.proofs.Parts.{rows_in, next_row, part_all, part_back}
use Rattle.block_product.proofs.RowByRow.{rows_next, rest_next}
use Rattle.block_product.proofs.add_sums.Invariants.{added}
use Rattle.block_product.proofs.add_sums.Goals as goal

pub loop-i-init : goal.loop-i-init
loop-i-init c =
    let a = c.args in
    (omega arith, sym (zero-mul (bytes_for a.w)), sym (zero-mul a.step), refl, c.bytes_for-k.ensures, refl, λ j h. absurd (not-suc-le-zero h))

pub slice_bounds-add_sum-count : goal.slice_bounds-add_sum-count
slice_bounds-add_sum-count c =
    let l = c.loop-i in
    let a = c.args in
    omega (arith, l.invariant.1, l.invariant.3, rows_in l.i a.count (bytes_for a.w) (omega arith))

pub slice_bounds-add_sum-start : goal.slice_bounds-add_sum-start
slice_bounds-add_sum-start c =
    let l = c.loop-i in
    let a = c.args in
    omega (arith, l.invariant.1, l.invariant.3, rows_in l.i a.count (bytes_for a.w) (omega arith))

pub bounds-b-from : goal.bounds-b-from
bounds-b-from c =
    let l = c.loop-i in
    subst (λ (x : ℕ). x < length c.args.b.now) (sym l.invariant.2) (c.requires.6 l.i (omega arith))

pub add_sum-requires : goal.add_sum-requires
add_sum-requires c =
    let l = c.loop-i in
    let a = c.args in
    let room : bytes_for a.w ≤ length (drop l.at l.acc) =
    omega (arith, l.invariant.1, l.invariant.3, length-drop l.at l.acc, rows_in l.i a.count (bytes_for a.w) (omega arith)) in
    (omega arith, omega arith, omega arith, rw part_all room)

pub overflow_add-at : goal.overflow_add-at
overflow_add-at c =
    let l = c.loop-i in
    let a = c.args in
    omega (arith, l.invariant.1, l.invariant.4, rows_in l.i a.count (bytes_for a.w) (omega arith))

pub overflow_add-from : goal.overflow_add-from
overflow_add-from c =
    let l = c.loop-i in
    let a = c.args in
    omega (arith, l.invariant.2, rows_in l.i a.count a.step (omega arith), mul-le-mul_right a.step (let e : a.count ≤ 640 = omega arith in e))

pub loop-i-preserved : goal.loop-i-preserved
loop-i-preserved c =
    let l = c.loop-i in
    let a = c.args in
    let called = c.add_sum in
    let k : ℕ = bytes_for a.w in
    let acc : List ℕ = l.acc in
    let acc₀ : List ℕ = a.acc.now in
    let y : List ℕ = called.new.row in
    let new : List ℕ = put_mid l.at (length acc - l.at) acc y in
    let F : ℕ → List ℕ = added acc₀ a.t.now a.b.now a.w a.step a.c in
    let e : new ≡ take l.at acc ++ y = part_back l.at acc y in
    let room : l.at + k ≤ length acc = omega (arith, l.invariant.1, l.invariant.3, rows_in l.i a.count k (omega arith)) in
    let same : length new ≡ length acc = same_len_mid l.at (length acc - l.at) acc y called.auto.row in
    let row : unpack a.w y ≡ F l.i =
    called.ensures.sum
    ∙ ap₂ (λ (x : List ℕ) (d : ℕ). xor_row (unpack a.w x) (unpack a.w (drop (get_or a.b.now d 0 % 2 ^ a.c * k) a.t.now)))
    (part_all l.at acc ∙ l.invariant.5 ∙ ap (λ (x : ℕ). drop x acc₀) l.invariant.1) l.invariant.2 in
    let kept : drop k y ≡ drop k (drop l.at acc) = called.ensures.rest ∙ ap (drop k) (part_all l.at acc) in (
      omega arith,
      omega (arith, l.invariant.1, l.invariant.4, next_row l.i k),
      omega (arith, l.invariant.2, next_row l.i a.step),
      same ∙ l.invariant.3,
      l.invariant.4,
      ap (λ (x : ℕ). drop (l.at + x) new) l.invariant.4 ∙ ap (drop (l.at + k)) e
          ∙ rest_next a.w l.i l.at acc₀ acc y F l.invariant.1 room l.invariant.5 kept ∙ ap (λ (x : ℕ). drop (l.at + x) acc₀) (sym l.invariant.4),
      λ j h. ap (λ (z : List ℕ). unpack a.w (drop (j * k) z)) e ∙ rows_next a.w l.i l.at acc₀ acc y F l.invariant.1 room l.invariant.6 row j h,
    )

pub shape_of-acc : goal.shape_of-acc
shape_of-acc c = c.loop-i.invariant.3

pub returns : goal.returns
returns c =
    let l = c.loop-i in
    let a = c.args in
    λ i h. l.invariant.6 i (omega arith)
