-- The loop's invariant: the rows of the first k digits are written over what was there, and what follows is as it was. Assumes nothing.
use mathlib.Core.Path.{◌≡◌, refl, sym, ap, ◌∙◌, subst}
use mathlib.Core.List.{List, [], ◌∷◌}
use Prim.Native.Nat.{ℕ, ◌+◌, ◌-◌, ◌*◌, ◌≤◌}
use native.Mathlib.Nat.{zero-mul}
use native.Mathlib.Omega.{arith}
use borrow.Rule.Slice.PartMut.{same_len_mid}
use lib.ListN.{length, take, drop, length-drop}
use lib.Seq.{length-take-le}
use Rattle.bits.specs.Bits.{put_bits, unpack}
use Rattle.bits.proofs.Pack.{bytes_enough}
use Rattle.bits.proofs.Parts.{rows_in, next_row, part_all, part_back}
use Rattle.code.specs.PublicKey.{Matrix}
use Rattle.code.specs.Lock.{rows_of}
use Rattle.code.proofs.PackedRows.{rows_one, bytes_whole}
use Rattle.parity.specs.Rows.{digit_row, digit_rows, over_rows}
use Rattle.parity.proofs.RowsOver.{put_rest, part_rest, over_none, over_one, over-placed}
use Rattle.parity.proofs.DigitRows.{length-digit_row, length-digit_rows, unpack-digits, digit_rows_none, digit_rows-next}
use Rattle.parity.proofs.digit_rows.Goals as goal

pub loop-k-init : goal.loop-k-init
loop-k-init c =
    let a = c.args in
    let p : List ℕ = take a.n a.p.now in (
      omega arith,
      sym (zero-mul a.step),
      refl,
      over_none (8 * a.step) a.out.now a.out.now ∙ ap (λ (d : Matrix). over_rows d (rows_of 0 (8 * a.step) a.out.now)) (sym (digit_rows_none p)),
      refl,
    )

pub slice_bounds-digit_row-count : goal.slice_bounds-digit_row-count
slice_bounds-digit_row-count c =
    let a = c.args in
    let e = rows_in c.loop-k.k a.m a.step (omega arith) in
    omega arith

pub slice_bounds-digit_row-start : goal.slice_bounds-digit_row-start
slice_bounds-digit_row-start c =
    let a = c.args in
    let e = rows_in c.loop-k.k a.m a.step (omega arith) in
    omega arith

pub slice_bounds-digit_row-end : goal.slice_bounds-digit_row-end
slice_bounds-digit_row-end c =
    let a = c.args in
    let e = rows_in c.loop-k.k a.m a.step (omega arith) in
    omega arith

pub overflow_add-at : goal.overflow_add-at
overflow_add-at c =
    let a = c.args in
    let e = rows_in c.loop-k.k a.m a.step (omega arith) in
    omega arith

pub loop-k-preserved : goal.loop-k-preserved
loop-k-preserved c =
    let l = c.loop-k in
    let a = c.args in
    let q = c.digit_row in
    let s = next_row l.k a.step in
    let f = rows_in l.k a.m a.step (omega arith) in
    let wide : ℕ = 8 * a.step in
    let fits : a.n ≤ wide = omega (arith, bytes_enough a.n) in
    let p : List ℕ = take a.n a.p.now in
    let behind : List ℕ = drop l.at l.out in
    let room : length behind ≡ length l.out - l.at = length-drop l.at l.out in
    let count : length (digit_row p l.k) ≡ a.n = length-digit_row p l.k ∙ length-take-le a.n a.p.now (omega arith) in
    let put : q.new.row ≡ put_bits (digit_row p l.k) 0 behind = q.ensures ∙ ap (put_bits (digit_row p l.k) 0) (part_all l.at l.out) in
    let rest : drop a.step q.new.row ≡ drop a.step behind =
    ap (drop a.step) put ∙ put_rest (digit_row p l.k) 0 behind a.step (omega arith) in
    let row : rows_of 1 wide q.new.row ≡ over_rows (digit_row p l.k ∷ []) (rows_of 1 wide behind) =
    rows_one wide q.new.row
    ∙ ap (λ (r : List ℕ). r ∷ []) (ap (unpack wide) put ∙ unpack-digits a.n wide a.p.now l.k behind (omega arith) fits (omega arith))
    ∙ sym (over_one wide (digit_row p l.k) behind) in (
      omega arith,
      omega arith,
      same_len_mid l.at (length l.out - l.at) l.out q.new.row q.auto.row ∙ l.invariant.2,
      ap (rows_of (l.k + 1) wide) (part_back l.at l.out q.new.row)
          ∙ over-placed l.k 1 wide l.at (digit_rows l.k p) (digit_row p l.k ∷ []) a.out.now l.out q.new.row
          (l.invariant.1 ∙ ap (◌*◌ l.k) (sym (bytes_whole a.step))) (omega arith) (length-digit_rows l.k p) l.invariant.4 l.invariant.3 row
          ∙ ap (λ (d : Matrix). over_rows d (rows_of (l.k + 1) wide a.out.now)) (sym (digit_rows-next l.k p)),
      ap (drop (l.at + a.step)) (part_back l.at l.out q.new.row)
          ∙ part_rest l.at a.step a.out.now l.out q.new.row (omega arith) l.invariant.4 rest,
    )

pub shape_of-out : goal.shape_of-out
shape_of-out c = c.loop-k.invariant.2

pub returns : goal.returns
returns c =
    let l = c.loop-k in
    let a = c.args in
    let e : l.k ≡ a.m = omega arith in
    record {
      rows = subst (λ (k : ℕ). rows_of k (8 * a.step) l.out ≡ over_rows (digit_rows k (take a.n a.p.now)) (rows_of k (8 * a.step) a.out.now)) e l.invariant.3;
      rest = subst (λ (k : ℕ). drop k l.out ≡ drop k a.out.now) (l.invariant.1 ∙ ap (λ (k : ℕ). k * a.step) e) l.invariant.4;
    }
