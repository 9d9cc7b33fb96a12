-- The loop's invariant: the rows of the powers below s are written, what follows is as it was, and p has α^s / g(α) at
-- the support's places. Assumes nothing.
use mathlib.Core.Path.{◌≡◌, refl, sym, ap, ap₂, ◌∙◌, subst}
use mathlib.Core.List.{List, ◌++◌, map}
use Prim.Native.Nat.{ℕ, ◌+◌, ◌-◌, ◌*◌, ◌≤◌}
use native.Mathlib.Nat.{zero-mul, mul_comm, mul-le-mul}
use native.Mathlib.Omega.{arith}
use borrow.Rule.Slice.PartMut.{put_mid, same_len_mid}
use lib.ListN.{length, take, drop, length-drop, length-append, length-map}
use lib.Seq.{take_at, length-take-le}
use Rattle.bits.specs.Bits.{from, bytes_for}
use Rattle.bits.proofs.Parts.{next_row, row_size, part_all, part_back}
use Rattle.field.specs.Field.{inv}
use Rattle.field.proofs.Places.{length-horner_each}
use Rattle.field.proofs.Table.{width_narrow}
use Rattle.field.proofs.Verdicts.{verdict_accepted}
use Rattle.field.proofs.Units.{inverses_given, inverses_not_refused}
use Rattle.poly.proofs.AtPoints.{length_values}
use Rattle.key.specs.Keys.{key_of}
use Rattle.code.specs.PublicKey.{Matrix}
use Rattle.code.specs.Code.{entry, parity_row}
use Rattle.code.specs.Lock.{rows_of}
use Rattle.parity.specs.Rows.{digit_rows}
use Rattle.parity.proofs.RowsOver.{part_rest}
use Rattle.parity.proofs.DigitRows.{group_next, group_in}
use Rattle.parity.proofs.Entries.{entries_next, parity-next, parity_all}
use Rattle.publishing.proofs.DigitRows.{rows_placed}
use Rattle.publishing.proofs.Entries.{values_units, entries_start, parity_none}
use Rattle.publishing.proofs.matrix.parity_rows.Goals as goal

pub overflow_mul-size : goal.overflow_mul-size
overflow_mul-size c =
    let n : ℕ = length c.args.support.now in
    let w : c.args.m ≤ 16 = omega (arith, width_narrow c.args.m c.requires.0) in
    let e : c.args.m * bytes_for n ≤ 16 * 1024 = mul-le-mul w (row_size n (omega arith)) in
    omega (arith, ap (◌*◌ c.args.m) c.bytes_for.ensures)

pub slice_bounds-inverse_each-end : goal.slice_bounds-inverse_each-end
slice_bounds-inverse_each-end c =
    let e : length c.values-p.result ≡ 8192 = ap length c.values-p.ensures ∙ length_values _ _ _ in
    sym (length-take-le _ _ (omega arith))

-- g has no root in the support, so that its values have inverses
pub returns-in_default : goal.returns-in_default
returns-in_default c =
    let a = c.args in
    let u = values_units a.m c.requires.0 a.support.now a.g.now c.requires.1 c.requires.3 in
    absurd (inverses_not_refused _ _ c.requires.0 (rw c.values-p.ensures u) c.inverse_each-x.ensures.answer c.in_default.is)

pub loop-s-init : goal.loop-s-init
loop-s-init c =
    let a = c.args in
    let n : ℕ = length a.support.now in
    let v : List ℕ = c.inverse_each-x.new.v in
    let z = verdict_accepted _ c.inverse_each-x.ensures.answer c.in-Accepted.is in
    let e : v ≡ map (entry (key_of a.m a.support.now a.g.now) 0) a.support.now =
    inverses_given _ _ z c.inverse_each-x.ensures.output
    ∙ ap (λ (w : List ℕ). map (inv a.m) (take n w)) c.values-p.ensures
    ∙ entries_start a.m c.requires.0 a.support.now a.g.now c.requires.1 in
    let l : length v ≡ n = ap length e ∙ length-map a.support.now _ in
    let k : length c.values-p.result ≡ 8192 = ap length c.values-p.ensures ∙ length_values _ _ _ in (
      omega arith,
      sym (ap (λ (x : ℕ). x * bytes_for n) (zero-mul a.m) ∙ zero-mul (bytes_for n)),
      refl,
      omega (arith, length-append v (drop n c.values-p.result), length-drop n c.values-p.result),
      take_at v _ n l ∙ e,
      parity_none a.m c.requires.0 a.support.now a.g.now a.work.now,
      refl,
    )

pub slice_bounds-digit_rows-count : goal.slice_bounds-digit_rows-count
slice_bounds-digit_rows-count c =
    let a = c.args in
    let e = group_in c.loop-s.s (length a.g.now) a.m (bytes_for (length a.support.now)) (omega arith) in
    omega arith

pub slice_bounds-digit_rows-start : goal.slice_bounds-digit_rows-start
slice_bounds-digit_rows-start c =
    let a = c.args in
    let e = group_in c.loop-s.s (length a.g.now) a.m (bytes_for (length a.support.now)) (omega arith) in
    omega arith

pub slice_bounds-digit_rows-end : goal.slice_bounds-digit_rows-end
slice_bounds-digit_rows-end c =
    let a = c.args in
    let e = group_in c.loop-s.s (length a.g.now) a.m (bytes_for (length a.support.now)) (omega arith) in
    omega arith

pub digit_rows-requires : goal.digit_rows-requires
digit_rows-requires c =
    let l = c.loop-s in
    let a = c.args in
    let e = group_in l.s (length a.g.now) a.m (bytes_for (length a.support.now)) (omega arith) in
    let w = width_narrow a.m c.requires.0 in
    (omega arith, omega arith, omega arith, rw (part_all l.at l.work, length-drop l.at l.work) (omega arith))

pub overflow_add-at : goal.overflow_add-at
overflow_add-at c =
    let a = c.args in
    let e = group_in c.loop-s.s (length a.g.now) a.m (bytes_for (length a.support.now)) (omega arith) in
    let f = ap (◌*◌ a.m) c.bytes_for.ensures in
    omega arith

pub loop-s-preserved : goal.loop-s-preserved
loop-s-preserved c =
    let l = c.loop-s in
    let a = c.args in
    let q = c.digit_rows in
    let h = c.horner_each in
    let n : ℕ = length a.support.now in
    let b : ℕ = a.m * bytes_for n in
    let e = group_in l.s (length a.g.now) a.m (bytes_for n) (omega arith) in
    let f = group_next l.s a.m (bytes_for n) in
    let size = ap (◌*◌ a.m) c.bytes_for.ensures in
    let row : ℕ → List ℕ = parity_row (key_of a.m a.support.now a.g.now) in (
      omega arith,
      omega arith,
      same_len_mid l.at (length l.work - l.at) l.work q.new.out q.auto.out ∙ l.invariant.2,
      ap length h.ensures ∙ length-horner_each _ _ _ _ ∙ l.invariant.3,
      ap (take n) h.ensures ∙ entries_next a.m c.requires.0 a.support.now a.g.now l.s l.p l.invariant.4,
      ap₂ (λ (k : ℕ) (w : List ℕ). rows_of k n w) (sym (next_row l.s a.m)) (part_back l.at l.work q.new.out)
          ∙ rows_placed (l.s * a.m) a.m n l.at l.work q.new.out l.invariant.1 (omega arith)
          ∙ ap₂ (λ (x y : Matrix). x ++ y) l.invariant.5 (q.ensures.rows ∙ ap (digit_rows a.m) l.invariant.4)
          ∙ parity-next a.m c.requires.0 a.support.now a.g.now l.s
          ∙ ap (λ (k : ℕ). map row (from 0 k)) (next_row l.s a.m),
      ap (λ (i : ℕ). drop (l.at + i) (put_mid l.at (length l.work - l.at) l.work q.new.out)) size
          ∙ ap (drop (l.at + b)) (part_back l.at l.work q.new.out)
          ∙ part_rest l.at b a.work.now l.work q.new.out (omega arith) l.invariant.6
          (q.ensures.rest ∙ ap (drop b) (part_all l.at l.work))
          ∙ ap (λ (i : ℕ). drop (l.at + i) a.work.now) (sym size),
    )

pub shape_of-work : goal.shape_of-work
shape_of-work c = c.loop-s.invariant.2

pub returns : goal.returns
returns c =
    let l = c.loop-s in
    let a = c.args in
    let e : l.s ≡ length a.g.now = omega arith in
    let f : l.s * a.m ≡ a.m * length a.g.now = ap (λ (s : ℕ). s * a.m) e ∙ mul_comm (length a.g.now) a.m in
    record {
      rows = ap (λ (k : ℕ). rows_of k (length a.support.now) l.work) (sym f) ∙ l.invariant.5 ∙ parity_all a.m c.requires.0 a.support.now a.g.now l.s e;
      rest = subst (λ (k : ℕ). drop k l.work ≡ drop k a.work.now) (l.invariant.1 ∙ ap (λ (k : ℕ). k * bytes_for (length a.support.now)) f) l.invariant.6;
    }
