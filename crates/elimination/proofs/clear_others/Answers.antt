-- Row i is copied out, and the other rows are cleared by the copy. Assumes nothing.
use mathlib.Core.Path.{◌≡◌, sym, ap, ◌∙◌}
use Prim.Native.Nat.{ℕ, ◌*◌}
use native.Mathlib.Omega.{arith}
use lib.ListN.{length, take, drop, replicate, length-drop}
use lib.Seq.{length-take-le}
use Rattle.bits.specs.Bits.{bytes_for}
use Rattle.bits.proofs.Parts.{row_size, part_all}
use Rattle.elimination.proofs.Flat.{row_room, row_copied}
use Rattle.elimination.proofs.clear_others.Goals as goal

pub overflow_mul-at : goal.overflow_mul-at
overflow_mul-at c =
    let a = c.args in
    omega (arith, row_room a.i a.rows a.n c.bytes_for-b.result (length a.w.now) c.bytes_for-b.ensures (omega arith) (omega arith))

pub slice_bounds-copy-count : goal.slice_bounds-copy-count
slice_bounds-copy-count c =
    let a = c.args in
    omega (arith, row_room a.i a.rows a.n c.bytes_for-b.result (length a.w.now) c.bytes_for-b.ensures (omega arith) (omega arith))

pub slice_bounds-copy-start : goal.slice_bounds-copy-start
slice_bounds-copy-start c =
    let a = c.args in
    omega (arith, row_room a.i a.rows a.n c.bytes_for-b.result (length a.w.now) c.bytes_for-b.ensures (omega arith) (omega arith))

pub copy-requires : goal.copy-requires
copy-requires c =
    let a = c.args in
    let b : ℕ = c.bytes_for-b.result in
    let e : b ≡ bytes_for a.n = c.bytes_for-b.ensures in
    let f = row_room a.i a.rows a.n b (length a.w.now) e (omega arith) (omega arith) in
    let g = ap length (part_all (a.i * b) a.w.now) ∙ length-drop (a.i * b) a.w.now in
    (omega (arith, row_size a.n (omega arith)), omega arith)

pub slice_bounds-t-end : goal.slice_bounds-t-end
slice_bounds-t-end c =
    let a = c.args in
    let e : length c.copy.new.dst ≡ 1024 = c.copy.auto.dst in
    omega (arith, row_size a.n (omega arith))

pub slice_bounds-clear_around-end : goal.slice_bounds-clear_around-end
slice_bounds-clear_around-end c =
    let a = c.args in
    let e : length c.copy.new.dst ≡ 1024 = c.copy.auto.dst in
    sym (length-take-le c.bytes_for-b.result c.copy.new.dst (omega (arith, row_size a.n (omega arith))))

pub clear_around-requires : goal.clear_around-requires
clear_around-requires c =
    let b = c.bytes_for-b in
    let a = c.args in (
      c.requires.0,
      c.requires.1,
      c.requires.2,
      ap (take b.result) c.copy.ensures
          ∙ row_copied a.i a.rows a.n a.w.now c.requires.0 c.requires.1 b.result (drop b.result (replicate 1024 0)) b.ensures,
    )

pub returns : goal.returns
returns c =
    let both = c.clear_around.ensures in
    record { w_after = both.w_after; w_unchanged = both.w_unchanged }
