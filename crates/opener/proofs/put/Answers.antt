-- Past the end nothing is stored. Assumes nothing.
use mathlib.Core.Path.{refl, sym}
use lib.Seq.{set_out}
use Rattle.opener.proofs.put.Goals as goal

pub returns-then-out-at : goal.returns-then-out-at
returns-then-out-at c = let a = c.args in record { place = refl; output = sym (set_out a.out.now a.at a.b c.if-out-at.true) }
