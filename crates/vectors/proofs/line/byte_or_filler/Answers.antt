-- Below the count or not. Assumes nothing.
use mathlib.Core.Path.{refl}
use borrow.Author.Tests.{lt-ltb, le-ltb}
use Rattle.vectors.specs.Lines.{byte_or_filler}
use Rattle.vectors.proofs.line.byte_or_filler.Goals as goal

pub returns-then-i-b : goal.returns-then-i-b
unfolding byte_or_filler
returns-then-i-b c = let a = c.args in rw (lt-ltb a.i a.b.count c.if-i-b.true) refl

pub returns-else-i-b : goal.returns-else-i-b
unfolding byte_or_filler
returns-else-i-b c = let a = c.args in rw (le-ltb a.i a.b.count c.if-i-b.false) refl
