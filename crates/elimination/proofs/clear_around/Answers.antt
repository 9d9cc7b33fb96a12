-- The rows before row i are cleared, and then those behind it, as a part that starts there. Assumes nothing.
use mathlib.Core.Path.{◌≡◌, ap, ◌∙◌}
use mathlib.Core.List.{List, ◌++◌, map}
use Prim.Native.Nat.{ℕ, ◌+◌, ◌-◌, ◌*◌}
use native.Mathlib.Omega.{arith}
use borrow.Rule.Slice.PartMut.{put_mid}
use lib.ListN.{length, take, drop, length-drop}
use Rattle.bits.specs.Bits.{bytes_for, unpack}
use Rattle.bits.proofs.Parts.{rows_in, next_row, part_all, part_back}
use Rattle.code.specs.PublicKey.{clear}
use Rattle.code.specs.Lock.{rows_of}
use Rattle.elimination.specs.Elimination.{stage}
use Rattle.elimination.proofs.Flat.{rows_split, length_row}
use Rattle.elimination.proofs.Stages.{around-stage, around_past}
use Rattle.elimination.proofs.clear_around.Goals as goal

pub clear_rows-requires : goal.clear_rows-requires
clear_rows-requires c =
    let a = c.args in
    let e = rows_in a.i a.rows (bytes_for a.n) (omega arith) in
    (omega arith, ap length c.requires.3 ∙ length_row a.i a.rows a.n a.w.now c.requires.0 c.requires.1, omega arith)

pub overflow_mul-at : goal.overflow_mul-at
overflow_mul-at c =
    let a = c.args in
    let e : (a.i + 1) * c.bytes_for.result ≡ (a.i + 1) * bytes_for a.n = ap (◌*◌ (a.i + 1)) c.bytes_for.ensures in
    omega (arith, rows_in a.i a.rows (bytes_for a.n) (omega arith), next_row a.i (bytes_for a.n))

pub slice_bounds-clear_rows-count : goal.slice_bounds-clear_rows-count
slice_bounds-clear_rows-count c =
    let a = c.args in
    let e : (a.i + 1) * c.bytes_for.result ≡ (a.i + 1) * bytes_for a.n = ap (◌*◌ (a.i + 1)) c.bytes_for.ensures in
    omega (arith, rows_in a.i a.rows (bytes_for a.n) (omega arith), next_row a.i (bytes_for a.n))

pub slice_bounds-clear_rows-start : goal.slice_bounds-clear_rows-start
slice_bounds-clear_rows-start c =
    let a = c.args in
    let e : (a.i + 1) * c.bytes_for.result ≡ (a.i + 1) * bytes_for a.n = ap (◌*◌ (a.i + 1)) c.bytes_for.ensures in
    omega (arith, rows_in a.i a.rows (bytes_for a.n) (omega arith), next_row a.i (bytes_for a.n))

pub clear_rows-requires-2 : goal.clear_rows-requires-2
clear_rows-requires-2 c =
    let a = c.args in
    let w : List ℕ = c.clear_rows.new.w in
    let at : ℕ = (a.i + 1) * c.bytes_for.result in
    let e : at ≡ (a.i + 1) * bytes_for a.n = ap (◌*◌ (a.i + 1)) c.bytes_for.ensures in
    let f : length (take (length w - at) (drop at w)) ≡ length w - at = ap length (part_all at w) ∙ length-drop at w in
    (omega (arith, rows_split (a.i + 1) a.rows (bytes_for a.n) (omega arith)), ap length c.requires.3 ∙ length_row a.i a.rows a.n a.w.now c.requires.0 c.requires.1, omega arith)

pub returns : goal.returns
returns c =
    let a = c.args in
    let first = c.clear_rows in
    let second = c.clear_rows-2 in
    let b : ℕ = bytes_for a.n in
    let w : List ℕ = first.new.w in
    let z : List ℕ = second.new.w in
    let at : ℕ = (a.i + 1) * c.bytes_for.result in
    let e : at ≡ (a.i + 1) * b = ap (◌*◌ (a.i + 1)) c.bytes_for.ensures in
    let whole : put_mid at (length w - at) w z ≡ take ((a.i + 1) * b) w ++ z = part_back at w z ∙ ap (λ (k : ℕ). take k w ++ z) e in
    let part : take (length w - at) (drop at w) ≡ drop ((a.i + 1) * b) w = part_all at w ∙ ap (λ (k : ℕ). drop k w) e in
    let same : length w ≡ length a.w.now = first.auto.w in
    let behind = second.ensures.w_after ∙ ap (λ (l : List ℕ). map (clear a.i (unpack a.n a.t.now)) (rows_of (a.rows - (a.i + 1)) a.n l)) part in
    let past = second.ensures.w_unchanged ∙ ap (drop ((a.rows - (a.i + 1)) * b)) part in
    record {
      w_after = ap (stage (a.i + 1) a.rows a.n) whole ∙ around-stage a.i a.rows a.n a.t.now a.w.now w z (omega arith) (omega arith) same c.requires.3 first.ensures.w_after first.ensures.w_unchanged behind past;
      w_unchanged = ap (drop (a.rows * b)) whole ∙ around_past a.i a.rows a.n a.t.now a.w.now w z (omega arith) (omega arith) same c.requires.3 first.ensures.w_after first.ensures.w_unchanged behind past;
    }
