-- The pattern's first bytes, or the secret. Assumes nothing.
use mathlib.Core.Path.{sym}
use native.Mathlib.Omega.{arith}
use lib.Seq.{length-take-le}
use Rattle.session_key.proofs.row.Goals as goal

pub slice_bounds-result-end : goal.slice_bounds-result-end
slice_bounds-result-end c = sym (length-take-le _ _ (omega arith))

pub returns-then-opened : goal.returns-then-opened
returns-then-opened c = rw c.if-opened.true

pub returns : goal.returns
returns c = rw c.if-opened.false
