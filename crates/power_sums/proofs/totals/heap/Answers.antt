-- `power_sums::totals::heap` meets its contract. Assumes nothing.
use mathlib.Core.Path.{◌≡◌, refl, sym, ap, ◌∙◌}
use Prim.Native.Nat.{ℕ, ◌+◌, ◌*◌}
use native.Mathlib.Omega.{arith}
use lib.ListN.{length, length-set}
use Rattle.power_sums.specs.Sums.{heaped}
use Rattle.levels.proofs.Blocks.{block_in}
use Rattle.power_sums.proofs.Summing.{heap_next, heap_all}
use native.Mathlib.Nat.{zero-mul}
use Rattle.bits.proofs.Parts.{next_row}
use Rattle.bits.proofs.Padded.{over-start}
use Rattle.power_sums.proofs.totals.heap.Goals as goal

pub loop-k-init : goal.loop-k-init
loop-k-init c = let a = c.args in (omega arith, sym (zero-mul a.r), refl, over-start (heaped a.m a.r (length a.c.now) a.d.now) a.c.now)

pub overflow_add-at : goal.overflow_add-at
overflow_add-at c = let e = block_in c.loop-k.k (length c.args.c.now) c.args.r (omega arith) c.loop-k.invariant.1 c.requires in omega arith

pub offset_bounds-d-at : goal.offset_bounds-d-at
offset_bounds-d-at c = let e = block_in c.loop-k.k (length c.args.c.now) c.args.r (omega arith) c.loop-k.invariant.1 c.requires in omega arith

pub slice_bounds-total-count : goal.slice_bounds-total-count
slice_bounds-total-count c = let e = block_in c.loop-k.k (length c.args.c.now) c.args.r (omega arith) c.loop-k.invariant.1 c.requires in omega arith

pub slice_bounds-total-start : goal.slice_bounds-total-start
slice_bounds-total-start c = let e = block_in c.loop-k.k (length c.args.c.now) c.args.r (omega arith) c.loop-k.invariant.1 c.requires in omega arith

pub slice_bounds-total-end : goal.slice_bounds-total-end
slice_bounds-total-end c = let e = block_in c.loop-k.k (length c.args.c.now) c.args.r (omega arith) c.loop-k.invariant.1 c.requires in omega arith

pub overflow_add-at-in-loop-k : goal.overflow_add-at-in-loop-k
overflow_add-at-in-loop-k c = let e = block_in c.loop-k.k (length c.args.c.now) c.args.r (omega arith) c.loop-k.invariant.1 c.requires in omega arith

pub loop-k-preserved : goal.loop-k-preserved
loop-k-preserved c =
    let l = c.loop-k in
    let a = c.args in
    let e = block_in l.k (length a.c.now) a.r (omega arith) l.invariant.1 c.requires in
    let n : l.at + a.r ≡ (l.k + 1) * a.r = ap (λ (x : ℕ). x + a.r) l.invariant.1 ∙ next_row l.k a.r in (
      omega arith,
      n,
      simp length-set l.invariant.2,
      heap_next a.m a.r l.k l.at _ _ a.c.now l.c a.d.now l.invariant.3 (omega arith) l.invariant.1 c.requires (omega arith) c.total.ensures c.times.ensures,
    )

pub returns : goal.returns
returns c = let l = c.loop-k in let a = c.args in l.invariant.3 ∙ heap_all a.m a.r l.k a.c.now a.d.now (omega arith)
