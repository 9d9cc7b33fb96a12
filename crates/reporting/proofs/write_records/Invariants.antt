-- The invariant: the first i records stand at the buffer's start. Assumes nothing.
use mathlib.Core.Path.{◌≡◌}
use Prim.Native.Nat.{◌-◌, ◌≤◌}
use lib.ListN.{length, take}
use Rattle.bits.specs.Bits.{over}
use Rattle.key.specs.Kept.{kept, parts}
use Rattle.records.specs.Records.{capsules_of, records_of}
use Rattle.reporting.proofs.write_records.Given as goal

abbrev pub invariant-loop-i : goal.invariant-loop-i
invariant-loop-i l =
    (l.count ≡ length (capsules_of (kept (parts l.m l.n l.t l.support l.g)) l.capsules)) × (l.i ≤ l.count) × (length l.records ≡ length l.initial.records)
    × (l.records ≡ over (take l.i (records_of (kept (parts l.m l.n l.t l.support l.g)) l.capsules)) l.initial.records)

abbrev pub decreases-loop-i : goal.decreases-loop-i
decreases-loop-i l = l.count - l.i
