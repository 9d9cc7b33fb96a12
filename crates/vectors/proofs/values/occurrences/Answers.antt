-- The invariant: those that were met and those from i on are all. Assumes nothing.
use mathlib.Core.Path.{◌≡◌}
use Prim.Native.Nat.{◌+◌, ◌≤◌}
use native.Mathlib.Omega.{arith}
use lib.ListN.{drop}
use Rattle.vectors.specs.Values.{occurrences_of}
use Rattle.vectors.proofs.Places.{occurs_none, occurs_here, occurs_not}
use Rattle.vectors.proofs.values.occurrences.Goals as goal
use Rattle.vectors.proofs.values.occurrences.Goals.{then-bytes-i, else-bytes-i}

pub loop-i-init : goal.loop-i-init
loop-i-init c = (omega arith, omega arith, omega arith)

pub loop-i-preserved : goal.loop-i-preserved
loop-i-preserved c =
    let l = c.loop-i in
    let a = c.args in
    let v = a.value in
    let b = a.bytes.now in
    let kept : (c.if-bytes-i.k ≤ l.i + 1) × (c.if-bytes-i.k + occurrences_of v (drop (l.i + 1) b) ≡ occurrences_of v b) =
    elim c.if-bytes-i.branch [
      | then-bytes-i w ↦ let e = occurs_here v b l.i (omega arith) w.if-bytes-i.true in (omega arith, omega (arith, e))
      | else-bytes-i w ↦ let e = occurs_not v b l.i (omega arith) w.if-bytes-i.false in (omega arith, omega (arith, e))
    ] in
    (omega arith, kept.0, kept.1)

pub returns : goal.returns
returns c =
    let l = c.loop-i in
    let a = c.args in
    let e = occurs_none a.value a.bytes.now l.i c.loop-i-test.false in
    omega (arith, e, l.invariant.2)
