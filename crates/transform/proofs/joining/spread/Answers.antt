-- `transform::joining::spread` meets its contract. Assumes nothing.
use mathlib.Core.Path.{◌≡◌, refl, sym, ap, ◌∙◌}
use Prim.Native.Nat.{ℕ, ◌+◌, ◌*◌}
use native.Mathlib.Omega.{arith}
use lib.ListN.{length}
use Rattle.levels.proofs.Blocks.{block_in}
use Rattle.transform.proofs.Loops.{spread-start, spread-next, spread_all}
use native.Mathlib.Nat.{zero-mul}
use Rattle.bits.proofs.Parts.{next_row}
use Rattle.transform.proofs.Loops.{length_spread_to}
use Rattle.transform.proofs.joining.spread.Goals as goal

pub loop-k-init : goal.loop-k-init
loop-k-init c = let a = c.args in (omega arith, sym (zero-mul a.r), refl, spread-start a.r a.c.now a.d.now)

pub overflow_add-at : goal.overflow_add-at
overflow_add-at c = let e = block_in c.loop-k.k (length c.args.c.now) c.args.r (omega arith) c.loop-k.invariant.1 (c.loop-k.invariant.2 ∙ c.requires) in omega arith

pub offset_bounds-d-at : goal.offset_bounds-d-at
offset_bounds-d-at c = let e = block_in c.loop-k.k (length c.args.c.now) c.args.r (omega arith) c.loop-k.invariant.1 (c.loop-k.invariant.2 ∙ c.requires) in omega arith

pub slice_bounds-fill-count : goal.slice_bounds-fill-count
slice_bounds-fill-count c = let e = block_in c.loop-k.k (length c.args.c.now) c.args.r (omega arith) c.loop-k.invariant.1 (c.loop-k.invariant.2 ∙ c.requires) in omega arith

pub slice_bounds-fill-start : goal.slice_bounds-fill-start
slice_bounds-fill-start c = let e = block_in c.loop-k.k (length c.args.c.now) c.args.r (omega arith) c.loop-k.invariant.1 (c.loop-k.invariant.2 ∙ c.requires) in omega arith

pub slice_bounds-fill-end : goal.slice_bounds-fill-end
slice_bounds-fill-end c = let e = block_in c.loop-k.k (length c.args.c.now) c.args.r (omega arith) c.loop-k.invariant.1 (c.loop-k.invariant.2 ∙ c.requires) in omega arith

pub overflow_add-at-in-loop-k : goal.overflow_add-at-in-loop-k
overflow_add-at-in-loop-k c = let e = block_in c.loop-k.k (length c.args.c.now) c.args.r (omega arith) c.loop-k.invariant.1 (c.loop-k.invariant.2 ∙ c.requires) in omega arith

pub loop-k-preserved : goal.loop-k-preserved
loop-k-preserved c =
    let l = c.loop-k in
    let a = c.args in
    let e = block_in l.k (length a.c.now) a.r (omega arith) l.invariant.1 (l.invariant.2 ∙ c.requires) in
    let n : l.at + a.r ≡ (l.k + 1) * a.r = ap (λ (x : ℕ). x + a.r) l.invariant.1 ∙ next_row l.k a.r in
    let z = spread-next a.r a.c.now a.d.now l.k l.at l.d _ l.invariant.3 l.invariant.1 (omega arith) c.requires c.fill.ensures in
    (omega arith, n, ap length z ∙ length_spread_to a.r a.c.now a.d.now (l.k + 1) (omega arith) c.requires, z)

pub returns : goal.returns
returns c = let l = c.loop-k in let a = c.args in l.invariant.3 ∙ spread_all a.r a.c.now a.d.now l.k (omega arith) (omega arith) c.requires
