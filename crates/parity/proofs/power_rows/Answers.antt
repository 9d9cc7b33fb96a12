-- The loop's invariant: the rows of the powers below s are written over what was there, what follows is as it was, and p has
-- α^s / g(α) at the support's places. Assumes nothing.
use mathlib.Core.Path.{◌≡◌, refl, sym, ap, ap₂, ◌∙◌, subst}
use mathlib.Core.List.{List, ◌++◌, map}
use Prim.Native.Nat.{ℕ, ◌+◌, ◌-◌, ◌*◌, ◌≤◌}
use native.Mathlib.Nat.{zero-mul, mul_comm, mul-le-mul}
use native.Mathlib.Omega.{arith}
use borrow.Rule.Slice.PartMut.{same_len_mid}
use lib.ListN.{length, take, drop, length-drop, length-map}
use Rattle.bits.specs.Bits.{from}
use Rattle.bits.proofs.Lists.{length_from}
use Rattle.bits.proofs.Parts.{next_row, part_all, part_back}
use Rattle.field.proofs.Places.{length-horner_each}
use Rattle.field.proofs.Table.{width_narrow}
use Rattle.key.specs.Keys.{key_of}
use Rattle.code.specs.PublicKey.{Matrix}
use Rattle.code.specs.Code.{parity_row}
use Rattle.code.specs.Lock.{rows_of}
use Rattle.code.proofs.PackedRows.{bytes_whole}
use Rattle.parity.specs.Rows.{digit_rows, over_rows}
use Rattle.parity.proofs.RowsOver.{part_rest, over-placed}
use Rattle.parity.proofs.DigitRows.{group_next, group_in}
use Rattle.parity.proofs.Entries.{entries_next, parity-start, parity-next, parity_all}
use Rattle.parity.proofs.power_rows.Goals as goal

pub overflow_mul-size : goal.overflow_mul-size
overflow_mul-size c =
    let w : c.args.m ≤ 16 = omega (arith, width_narrow c.args.m c.requires.0) in
    let e : c.args.m * c.args.step ≤ 16 * 1024 = mul-le-mul w c.requires.5 in
    omega arith

pub loop-s-init : goal.loop-s-init
loop-s-init c =
    let a = c.args in (
      omega arith,
      sym (ap (λ (x : ℕ). x * a.step) (zero-mul a.m) ∙ zero-mul a.step),
      refl,
      refl,
      c.requires.3,
      parity-start a.m c.requires.0 a.support.now a.g.now (8 * a.step) a.work.now,
      refl,
    )

pub slice_bounds-digit_rows-count : goal.slice_bounds-digit_rows-count
slice_bounds-digit_rows-count c =
    let a = c.args in
    let e = group_in c.loop-s.s (length a.g.now) a.m a.step (omega arith) in
    omega arith

pub slice_bounds-digit_rows-start : goal.slice_bounds-digit_rows-start
slice_bounds-digit_rows-start c =
    let a = c.args in
    let e = group_in c.loop-s.s (length a.g.now) a.m a.step (omega arith) in
    omega arith

pub slice_bounds-digit_rows-end : goal.slice_bounds-digit_rows-end
slice_bounds-digit_rows-end c =
    let a = c.args in
    let e = group_in c.loop-s.s (length a.g.now) a.m a.step (omega arith) in
    omega arith

pub digit_rows-requires : goal.digit_rows-requires
digit_rows-requires c =
    let l = c.loop-s in
    let a = c.args in
    let e = group_in l.s (length a.g.now) a.m a.step (omega arith) in
    let w = width_narrow a.m c.requires.0 in
    (omega arith, omega arith, omega arith, omega arith, omega arith, rw (part_all l.at l.work, length-drop l.at l.work) (omega arith))

pub overflow_add-at : goal.overflow_add-at
overflow_add-at c =
    let a = c.args in
    let e = group_in c.loop-s.s (length a.g.now) a.m a.step (omega arith) in
    omega arith

pub loop-s-preserved : goal.loop-s-preserved
loop-s-preserved c =
    let l = c.loop-s in
    let a = c.args in
    let q = c.digit_rows in
    let h = c.horner_each in
    let n : ℕ = length a.support.now in
    let wide : ℕ = 8 * a.step in
    let e = group_in l.s (length a.g.now) a.m a.step (omega arith) in
    let f = group_next l.s a.m a.step in
    let row : ℕ → List ℕ = parity_row (key_of a.m a.support.now a.g.now) in
    let done : Matrix = map row (from 0 (l.s * a.m)) in
    let count : length done ≡ l.s * a.m = length-map (from 0 (l.s * a.m)) row ∙ length_from 0 (l.s * a.m) in
    let group : rows_of a.m wide q.new.out ≡ over_rows (digit_rows a.m (take n l.p)) (rows_of a.m wide (drop l.at l.work)) =
    q.ensures.rows ∙ ap (λ (w : List ℕ). over_rows (digit_rows a.m (take n l.p)) (rows_of a.m wide w)) (part_all l.at l.work) in
    let next : done ++ digit_rows a.m (take n l.p) ≡ map row (from 0 (l.s * a.m + a.m)) =
    ap (λ (v : List ℕ). done ++ digit_rows a.m v) l.invariant.4 ∙ parity-next a.m c.requires.0 a.support.now a.g.now l.s in (
      omega arith,
      omega arith,
      same_len_mid l.at (length l.work - l.at) l.work q.new.out q.auto.out ∙ l.invariant.2,
      ap length h.ensures ∙ length-horner_each _ _ _ _ ∙ l.invariant.3,
      ap (take n) h.ensures ∙ entries_next a.m c.requires.0 a.support.now a.g.now l.s l.p l.invariant.4,
      ap₂ (λ (k : ℕ) (w : List ℕ). rows_of k wide w) (sym (next_row l.s a.m)) (part_back l.at l.work q.new.out)
          ∙ over-placed (l.s * a.m) a.m wide l.at done (digit_rows a.m (take n l.p)) a.work.now l.work q.new.out
          (l.invariant.1 ∙ ap (◌*◌ (l.s * a.m)) (sym (bytes_whole a.step))) (omega arith) count l.invariant.6 l.invariant.5 group
          ∙ ap (λ (d : Matrix). over_rows d (rows_of (l.s * a.m + a.m) wide a.work.now)) next
          ∙ ap (λ (k : ℕ). over_rows (map row (from 0 k)) (rows_of k wide a.work.now)) (next_row l.s a.m),
      ap (drop (l.at + a.m * a.step)) (part_back l.at l.work q.new.out)
          ∙ part_rest l.at (a.m * a.step) a.work.now l.work q.new.out (omega arith) l.invariant.6
          (q.ensures.rest ∙ ap (drop (a.m * a.step)) (part_all l.at l.work)),
    )

pub shape_of-work : goal.shape_of-work
shape_of-work c = c.loop-s.invariant.2

pub shape_of-p : goal.shape_of-p
shape_of-p c = c.loop-s.invariant.3

pub returns : goal.returns
returns c =
    let l = c.loop-s in
    let a = c.args in
    let e : l.s ≡ length a.g.now = omega arith in
    let f : l.s * a.m ≡ a.m * length a.g.now = ap (λ (s : ℕ). s * a.m) e ∙ mul_comm (length a.g.now) a.m in
    record {
      rows = ap (λ (k : ℕ). rows_of k (8 * a.step) l.work) (sym f) ∙ l.invariant.5 ∙ ap₂ (λ (d : Matrix) (k : ℕ). over_rows d (rows_of k (8 * a.step) a.work.now)) (parity_all a.m c.requires.0 a.support.now a.g.now l.s e) f;
      rest = subst (λ (k : ℕ). drop k l.work ≡ drop k a.work.now) (l.invariant.1 ∙ ap (λ (k : ℕ). k * a.step) f) l.invariant.6;
    }
