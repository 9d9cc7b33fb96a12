-- The invariant: the bytes of what is left, behind those read, are the field's. Assumes nothing.
use mathlib.Core.Path.{◌≡◌}
use Prim.Native.Nat.{◌-◌, ◌≤◌}
use lib.ListN.{length, drop}
use Rattle.vectors.specs.Lines.{hex_bytes, with_bytes, bytes_of}
use Rattle.vectors.proofs.line.bytes_of.Given as goal

abbrev pub invariant-loop-i : goal.invariant-loop-i
invariant-loop-i l = (l.i ≤ length l.line) × (with_bytes l.b (hex_bytes (drop l.i l.line)) ≡ bytes_of l.line l.k)

abbrev pub decreases-loop-i : goal.decreases-loop-i
decreases-loop-i l = length l.line - l.i
