-- The smaller of both. Assumes nothing.
use mathlib.Core.Path.{sym}
use native.Mathlib.Nat.{min-eq_left, min-eq_right}
use native.Mathlib.Omega.{arith}
use lib.Seq.{length-take-le}
use Rattle.vectors.proofs.line.size.Goals as goal

pub returns-then-count-bytes : goal.returns-then-count-bytes
returns-then-count-bytes c = record { value = sym (min-eq_left (omega arith)); counts = (omega arith, sym (length-take-le _ _ (omega arith))) }

pub returns-else-count-bytes : goal.returns-else-count-bytes
returns-else-count-bytes c = record { value = sym (min-eq_right (omega arith)); counts = (omega arith, sym (length-take-le _ _ (omega arith))) }
