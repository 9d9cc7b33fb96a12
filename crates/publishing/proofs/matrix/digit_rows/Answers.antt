-- The loop's invariant: the rows of the first k digits are written, and what follows is as it was. Assumes nothing.
use mathlib.Core.Path.{◌≡◌, refl, sym, ap, ap₂, ◌∙◌, subst}
use mathlib.Core.List.{List, [], ◌∷◌, ◌++◌}
use Prim.Native.Nat.{ℕ, ◌+◌, ◌-◌, ◌*◌}
use native.Mathlib.Nat.{zero-mul}
use native.Mathlib.Omega.{arith}
use borrow.Rule.Slice.PartMut.{put_mid, same_len_mid}
use lib.ListN.{length, take, drop, length-drop}
use lib.Seq.{length-take-le}
use Rattle.bits.specs.Bits.{bytes_for, put_bits, unpack}
use Rattle.bits.proofs.Pack.{bytes_enough}
use Rattle.bits.proofs.Parts.{rows_in, next_row, part_all, part_back}
use Rattle.code.specs.PublicKey.{Matrix}
use Rattle.code.specs.Lock.{rows_of}
use Rattle.code.proofs.PackedRows.{rows_one}
use Rattle.parity.specs.Rows.{digit_row, digit_rows}
use Rattle.parity.proofs.RowsOver.{put_rest, part_rest}
use Rattle.parity.proofs.DigitRows.{length-digit_row, digit_rows-next}
use Rattle.publishing.proofs.DigitRows.{unpack-digits, digit_rows_none, rows_placed}
use Rattle.publishing.proofs.matrix.digit_rows.Goals as goal

pub loop-k-init : goal.loop-k-init
loop-k-init c =
    let a = c.args in
    (omega arith, sym (zero-mul (bytes_for a.n)), refl, digit_rows_none a.n (take a.n a.p.now) a.out.now, refl)

pub slice_bounds-digit_row-count : goal.slice_bounds-digit_row-count
slice_bounds-digit_row-count c =
    let a = c.args in
    let e = rows_in c.loop-k.k a.m (bytes_for a.n) (omega arith) in
    omega arith

pub slice_bounds-digit_row-start : goal.slice_bounds-digit_row-start
slice_bounds-digit_row-start c =
    let a = c.args in
    let e = rows_in c.loop-k.k a.m (bytes_for a.n) (omega arith) in
    omega arith

pub slice_bounds-digit_row-end : goal.slice_bounds-digit_row-end
slice_bounds-digit_row-end c =
    let a = c.args in
    let e = rows_in c.loop-k.k a.m (bytes_for a.n) (omega arith) in
    omega arith

pub overflow_add-at : goal.overflow_add-at
overflow_add-at c =
    let a = c.args in
    let e = rows_in c.loop-k.k a.m (bytes_for a.n) (omega arith) in
    let size : c.bytes_for-size.result ≡ bytes_for a.n = c.bytes_for-size.ensures in
    omega arith

pub loop-k-preserved : goal.loop-k-preserved
loop-k-preserved c =
    let l = c.loop-k in
    let a = c.args in
    let q = c.digit_row in
    let b : ℕ = bytes_for a.n in
    let s = next_row l.k b in
    let f = rows_in l.k a.m b (omega arith) in
    let p : List ℕ = take a.n a.p.now in
    let size : c.bytes_for-size.result ≡ b = c.bytes_for-size.ensures in
    let count : length (digit_row p l.k) ≡ a.n = length-digit_row p l.k ∙ length-take-le a.n a.p.now (omega arith) in
    let put : q.new.row ≡ put_bits (digit_row p l.k) 0 (drop l.at l.out) = q.ensures ∙ ap (put_bits (digit_row p l.k) 0) (part_all l.at l.out) in
    let rest : drop b q.new.row ≡ drop b (drop l.at l.out) =
    ap (drop b) put ∙ put_rest (digit_row p l.k) 0 (drop l.at l.out) b (omega (arith, bytes_enough a.n)) in
    let row : unpack a.n q.new.row ≡ digit_row p l.k =
    ap (unpack a.n) put ∙ unpack-digits a.n a.p.now l.k (drop l.at l.out) (omega arith) (rw (length-drop l.at l.out) (omega arith)) in (
      omega arith,
      omega arith,
      same_len_mid l.at (length l.out - l.at) l.out q.new.row q.auto.row ∙ l.invariant.2,
      ap (rows_of (l.k + 1) a.n) (part_back l.at l.out q.new.row)
          ∙ rows_placed l.k 1 a.n l.at l.out q.new.row l.invariant.1 (omega arith)
          ∙ ap₂ (λ (x y : Matrix). x ++ y) l.invariant.3 (rows_one a.n q.new.row ∙ ap (λ (r : List ℕ). r ∷ []) row)
          ∙ sym (digit_rows-next l.k p),
      ap (λ (i : ℕ). drop (l.at + i) (put_mid l.at (length l.out - l.at) l.out q.new.row)) size
          ∙ ap (drop (l.at + b)) (part_back l.at l.out q.new.row)
          ∙ part_rest l.at b a.out.now l.out q.new.row (omega arith) l.invariant.4 rest
          ∙ ap (λ (i : ℕ). drop (l.at + i) a.out.now) (sym size),
    )

pub shape_of-out : goal.shape_of-out
shape_of-out c = c.loop-k.invariant.2

pub returns : goal.returns
returns c =
    let l = c.loop-k in
    let a = c.args in
    let e : l.k ≡ a.m = omega arith in
    let f : l.at ≡ a.m * bytes_for a.n = l.invariant.1 ∙ ap (λ (k : ℕ). k * bytes_for a.n) e in
    record {
      rows = ap (λ (k : ℕ). rows_of k a.n l.out) (sym e) ∙ l.invariant.3 ∙ ap (λ (k : ℕ). digit_rows k (take a.n a.p.now)) e;
      rest = subst (λ (k : ℕ). drop k l.out ≡ drop k a.out.now) f l.invariant.4;
    }
