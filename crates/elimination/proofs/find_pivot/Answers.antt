-- The loop's invariant: r rows are passed, and the pivot's number among the others is to be added. Assumes nothing.
use mathlib.Core.Path.{◌≡◌, sym, ap, ◌∙◌}
use mathlib.Core.List.{List}
use Prim.Native.Nat.{ℕ, suc, ◌+◌, ◌-◌, ◌≤◌}
use native.Mathlib.Nat.{zero-mul, zero-add, add-zero, sub-zero}
use native.Mathlib.Omega.{arith}
use borrow.Author.Rules.{rules}
use lib.ListN.{length, drop}
use lib.Seq.{drop-drop}
use Rattle.bits.specs.Bits.{from, bytes_for, bit_at}
use Rattle.bits.proofs.Parts.{rows_in, next_row, part_all}
use Rattle.code.specs.Lock.{rows_of}
use Rattle.elimination.specs.Elimination.{pivot_row}
use Rattle.elimination.proofs.Pivots.{pivot_here, pivot_later}
use Rattle.elimination.proofs.find_pivot.Goals as goal

pub loop-r-init : goal.loop-r-init
loop-r-init c = let a = c.args in (omega arith, sym (zero-mul (bytes_for a.n)), omega arith, simp (zero-add, sub-zero))

pub returns-then-bit_at-eq1 : goal.returns-then-bit_at-eq1
returns-then-bit_at-eq1 c =
    let l = c.loop-r in
    let a = c.args in
    let w : List ℕ = drop l.at a.w.now in
    let bit : bit_at w a.j ≡ 1 = sym (c.bit_at.ensures ∙ ap (λ (s : List ℕ). bit_at s a.j) (part_all l.at a.w.now)) ∙ c.if-bit_at-eq1.true in
    let e : pivot_row a.j (rows_of (a.rows - l.r) a.n w) ≡ 0 = pivot_here a.rows l.r a.n a.j w (omega arith) (omega arith) bit in
    omega arith

pub overflow_add-at : goal.overflow_add-at
overflow_add-at c =
    let l = c.loop-r in
    let a = c.args in
    omega (arith, rows_in l.r a.rows (bytes_for a.n) (omega arith))

pub loop-r-preserved : goal.loop-r-preserved
loop-r-preserved c =
    let l = c.loop-r in
    let a = c.args in
    let b : ℕ = bytes_for a.n in
    let w : List ℕ = drop l.at a.w.now in
    let size : c.bytes_for-b.result ≡ b = search rules in
    let room : l.at + b ≤ length a.w.now = omega (arith, rows_in l.r a.rows b (omega arith)) in
    let e : pivot_row a.j (rows_of (a.rows - l.r) a.n w) ≡ suc (pivot_row a.j (rows_of (a.rows - (l.r + 1)) a.n (drop b w))) =
    pivot_later a.rows l.r a.n a.j w (omega arith) (omega arith)
    (λ f. c.if-bit_at-eq1.false (c.bit_at.ensures ∙ ap (λ (s : List ℕ). bit_at s a.j) (part_all l.at a.w.now) ∙ f)) in
    let g : drop (l.at + c.bytes_for-b.result) a.w.now ≡ drop b w =
    ap (λ (k : ℕ). drop (l.at + k) a.w.now) size ∙ sym (drop-drop b l.at a.w.now) in (
      omega arith,
      omega (arith, next_row l.r b),
      omega arith,
      omega (arith, ap (λ (s : List ℕ). pivot_row a.j (rows_of (a.rows - (l.r + 1)) a.n s)) g),
    )

pub returns : goal.returns
unfolding rows_of from pivot_row
returns c =
    let l = c.loop-r in
    let a = c.args in
    let e : a.rows - l.r ≡ 0 = omega arith in
    sym (add-zero l.r) ∙ ap (λ (k : ℕ). l.r + pivot_row a.j (rows_of k a.n (drop l.at a.w.now))) (sym e) ∙ l.invariant.3
