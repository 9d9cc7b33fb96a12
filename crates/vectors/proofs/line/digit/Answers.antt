-- Below `a` or not. Assumes nothing.
use mathlib.Core.Path.{refl}
use native.Mathlib.Omega.{arith}
use borrow.Author.Tests.{lt-ltb, le-ltb}
use Rattle.vectors.specs.Lines.{digit_of}
use Rattle.vectors.proofs.line.digit.Goals as goal

pub returns-then-b-lt97 : goal.returns-then-b-lt97
unfolding digit_of
returns-then-b-lt97 c = let b = c.args.b in record { value = rw (lt-ltb b 97 c.if-b-lt97.true) refl; below = omega arith }

pub returns : goal.returns
unfolding digit_of
returns c = let b = c.args.b in record { value = rw (le-ltb b 97 c.if-b-lt97.false) refl; below = omega arith }
