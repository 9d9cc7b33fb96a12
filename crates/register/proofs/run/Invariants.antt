-- The loop's invariant: a multiple of the figure's register after n turns. Assumes nothing.
use mathlib.Core.Path.{◌≡◌}
use Prim.Native.Nat.{◌-◌, ◌≤◌}
use lib.ListN.{length}
use Rattle.poly.proofs.Steps.{after}
use Rattle.register.specs.Registered.{figure}
use Rattle.register.proofs.Across.{Multiple}
use Rattle.register.proofs.run.Given as goal

abbrev pub invariant-loop-n : goal.invariant-loop-n
invariant-loop-n l = (l.n ≤ length l.s) × (length l.c ≡ 257) × (length l.b ≡ 257) × Multiple l.m (figure l.c l.b l.k) (after l.m l.s l.n)

abbrev pub decreases-loop-n : goal.decreases-loop-n
decreases-loop-n l = length l.s - l.n
