-- The loop's invariant: the first i rows are written, and all else is as it was. Assumes nothing.
use mathlib.Core.Path.{◌≡◌, refl, sym, ap, ap₂, ◌∙◌}
use mathlib.Core.List.{List, ◌++◌}
use Prim.Native.Nat.{ℕ, ◌+◌, ◌-◌, ◌*◌, ◌≤◌}
use native.Mathlib.Nat.{zero-mul, not-suc-le-zero, mul-le-mul_right}
use native.Mathlib.Omega.{arith}
use borrow.Rule.Slice.PartMut.{put_mid, same_len_mid}
use lib.ListN.{length, get_or, take, drop, length-drop}
use Rattle.bits.specs.Bits.{bytes_for, unpack, pack, over, row_written}
use Rattle.bits.proofs.Pack.{length-unpack, length-pack}
use Rattle.bits.proofs.Parts.{rows_in, next_row, part_all, part_back}
use Rattle.block_product.proofs.Placing.{row_written_lem, placed_inside, placed_outside}
use Rattle.block_product.proofs.write_rows.Goals as goal

pub loop-i-init : goal.loop-i-init
loop-i-init c =
    let a = c.args in (
      omega arith,
      sym (zero-mul a.size),
      sym (zero-mul (bytes_for a.w)),
      refl,
      c.bytes_for-k.ensures,
      λ j x h. absurd (not-suc-le-zero h),
      λ y h. refl,
    )

pub slice_bounds-write_row-count : goal.slice_bounds-write_row-count
slice_bounds-write_row-count c =
    let l = c.loop-i in
    let a = c.args in
    omega (arith, l.invariant.1, l.invariant.3, c.requires.5 l.i (omega arith))

pub slice_bounds-write_row-start : goal.slice_bounds-write_row-start
slice_bounds-write_row-start c =
    let l = c.loop-i in
    let a = c.args in
    omega (arith, l.invariant.1, l.invariant.3, c.requires.5 l.i (omega arith))

pub slice_bounds-write_row-count-in-loop-i : goal.slice_bounds-write_row-count-in-loop-i
slice_bounds-write_row-count-in-loop-i c =
    let l = c.loop-i in
    let a = c.args in
    omega (arith, l.invariant.2, rows_in l.i a.count (bytes_for a.w) (omega arith))

pub slice_bounds-write_row-start-in-loop-i : goal.slice_bounds-write_row-start-in-loop-i
slice_bounds-write_row-start-in-loop-i c =
    let l = c.loop-i in
    let a = c.args in
    omega (arith, l.invariant.2, rows_in l.i a.count (bytes_for a.w) (omega arith))

pub overflow_add-at : goal.overflow_add-at
overflow_add-at c =
    let l = c.loop-i in
    let a = c.args in
    omega (arith, l.invariant.1, rows_in l.i a.count a.size (omega arith), mul-le-mul_right a.size (let e : a.count ≤ 640 = omega arith in e))

pub overflow_add-from : goal.overflow_add-from
overflow_add-from c =
    let l = c.loop-i in
    let a = c.args in
    omega (arith, l.invariant.2, l.invariant.4, rows_in l.i a.count (bytes_for a.w) (omega arith))

pub loop-i-preserved : goal.loop-i-preserved
loop-i-preserved c =
    let l = c.loop-i in
    let a = c.args in
    let k : ℕ = bytes_for a.w in
    let out : List ℕ = l.out in
    let F : ℕ → List ℕ = λ j. pack (unpack a.w (drop (j * k) a.acc.now)) in
    let called = c.write_row in
    let room : l.at + k ≤ length out = omega (arith, l.invariant.1, l.invariant.3, c.requires.5 l.i (omega arith)) in
    let long : length (F l.i) ≡ k = length-pack (unpack a.w (drop (l.i * k) a.acc.now)) ∙ ap bytes_for (length-unpack a.w (drop (l.i * k) a.acc.now)) in
    let y : called.new.out ≡ over (F l.i) (drop l.at out) =
    called.ensures
    ∙ ap₂ (λ (s o : List ℕ). row_written s 0 a.w o) (part_all l.from a.acc.now) (part_all l.at out)
    ∙ row_written_lem (drop l.from a.acc.now) a.w (drop l.at out) (omega (arith, length-drop l.at out))
    ∙ ap (λ (d : ℕ). over (pack (unpack a.w (drop d a.acc.now))) (drop l.at out)) l.invariant.2 in
    let new : List ℕ = put_mid l.at (length out - l.at) out called.new.out in
    let e : new ≡ take l.at out ++ over (F l.i) (drop l.at out) =
    part_back l.at out called.new.out ∙ ap (λ (z : List ℕ). take l.at out ++ z) y in
    let same : length new ≡ length out = same_len_mid l.at (length out - l.at) out called.new.out called.auto.out in (
      omega arith,
      omega (arith, l.invariant.1, next_row l.i a.size),
      omega (arith, l.invariant.2, l.invariant.4, next_row l.i k),
      same ∙ l.invariant.3,
      l.invariant.4,
      λ j x h m.
          ap (λ (z : List ℕ). get_or z (j * a.size + x) 0) e
          ∙ placed_inside l.i l.at a.size k a.out.now out (F l.i) F l.invariant.1 (omega arith) long room l.invariant.5 refl j x h m,
      λ x h.
          ap (λ (z : List ℕ). get_or z x 0) e
          ∙ placed_outside l.i l.at a.size k a.out.now out (F l.i) F l.invariant.1 (omega arith) long room l.invariant.6 x h,
    )

pub shape_of-out : goal.shape_of-out
shape_of-out c = c.loop-i.invariant.3

pub returns : goal.returns
returns c =
    let l = c.loop-i in
    let a = c.args in
    record { inside = λ i x h m. l.invariant.5 i x (omega arith) m; outside = λ y h. l.invariant.6 y (λ j m. h j (omega arith)) }
