-- The width, then the limits. Assumes nothing.
use mathlib.Core.Path.{◌∙◌}
use Rattle.key.specs.Kept.{kept}
use Rattle.slot.specs.Replies.{view}
use Rattle.opener.specs.Prepared.{slot_a}
use Rattle.opener.proofs.Shape.{four_other, four_limits}
use Rattle.opener.proofs.is_four.Goals as goal

pub returns-then-key-ne4 : goal.returns-then-key-ne4
unfolding view kept
returns-then-key-ne4 c = four_other (slot_a c.args.station).key c.if-key-ne4.true

pub returns : goal.returns
unfolding view kept
returns c = c.in_limits.ensures ∙ four_limits (slot_a c.args.station).key c.if-key-ne4.false
