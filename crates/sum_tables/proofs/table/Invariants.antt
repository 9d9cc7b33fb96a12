-- The loop's invariant: the table of the first z rows. Assumes nothing.
use mathlib.Core.Path.{◌≡◌}
use mathlib.Core.List.{map}
use Prim.Native.Nat.{◌-◌, ◌*◌, ◌^◌, ◌≤◌}
use lib.ListN.{length}
use Rattle.bits.specs.Bits.{from, bytes_for}
use Rattle.code.specs.Lock.{rows_of}
use Rattle.small_key.specs.Sums.{table_row}
use Rattle.sum_tables.specs.Apart.{rows_apart}
use Rattle.sum_tables.proofs.table.Given as goal

abbrev pub invariant-loop-z : goal.invariant-loop-z
invariant-loop-z l =
    (l.z ≤ l.c) × (l.half ≡ 2 ^ l.z) × (l.at ≡ l.z * l.step) × (length l.t ≡ length l.initial.t)
    × (rows_of l.half l.n l.t ≡ map (table_row l.n (rows_apart l.z l.n l.step l.h)) (from 0 l.half)) × (l.k ≡ bytes_for l.n)

abbrev pub decreases-loop-z : goal.decreases-loop-z
decreases-loop-z l = l.c - l.z
