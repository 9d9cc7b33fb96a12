-- The invariant: the counts of the bytes passed. Assumes nothing.
use mathlib.Core.Path.{◌≡◌, sym, ap, ◌∙◌}
use Prim.Native.Nat.{ℕ, ◌<◌}
use native.Mathlib.Omega.{arith}
use mir.Syntax.{w8}
use mir.Val.{Fits}
use lib.ListN.{take}
use lib.Seq.{length-take-le, take_all}
use Rattle.records.specs.Records.{counts_of}
use Rattle.records.proofs.Counts.{counts_none, counts_most, counts_next}
use Rattle.reporting.proofs.count.Goals as goal

-- a byte read is below 256
byte : {r x : ℕ} → r ≡ x → Fits w8 x → r < 256
byte e f = omega arith

pub loop-p-init : goal.loop-p-init
loop-p-init c = (omega arith, sym counts_none)

pub offset_bounds-counts-v : goal.offset_bounds-counts-v
offset_bounds-counts-v c = omega (arith, byte c.wide-v.ensures (c.type_inv.records _))

pub bounds-counts-v : goal.bounds-counts-v
bounds-counts-v c = omega (arith, byte c.wide-v.ensures (c.type_inv.records _))

pub overflow_add-counts : goal.overflow_add-counts
overflow_add-counts c =
    let l = c.loop-p in
    let s = c.args.records.now in
    let b : c.wide-v.result < 256 = byte c.wide-v.ensures (c.type_inv.records _) in
    rw l.invariant.1 (omega (arith, counts_most (take l.p s) c.wide-v.result b, length-take-le l.p s l.invariant.0))

pub bounds-counts-v-in-loop-p : goal.bounds-counts-v-in-loop-p
bounds-counts-v-in-loop-p c = omega (arith, byte c.wide-v.ensures (c.type_inv.records _))

pub loop-p-preserved : goal.loop-p-preserved
loop-p-preserved c =
    let l = c.loop-p in
    let s = c.args.records.now in (
      omega arith,
      rw (l.invariant.1, c.wide-v.ensures) (counts_next s l.p (omega arith) (omega (arith, c.type_inv.records l.p))),
    )

pub returns : goal.returns
returns c =
    let l = c.loop-p in
    let s = c.args.records.now in
    l.invariant.1 ∙ ap counts_of (take_all l.p s (omega arith))
