-- The state alone. Assumes nothing.
use mathlib.Core.Path.{sym, ◌∙◌}
use Rattle.field.proofs.Verdicts.{refuses, accepts}
use Rattle.ledger.specs.Calls.{drop_key}
use Rattle.slot.specs.Parts.{keyless}
use Rattle.slot.proofs.ReplyLaws.{stop, lower, stopped_number, lower_number}
use Rattle.slot.proofs.drop.Goals as goal

pub returns-then-is_empty : goal.returns-then-is_empty
unfolding stop
returns-then-is_empty c = refuses (stopped_number (keyless c.args.state) drop_key (sym c.is_empty.ensures ∙ c.if-is_empty.true))

pub returns : goal.returns
unfolding stop lower
returns c = accepts (lower_number (keyless c.args.state) drop_key (sym c.is_empty.ensures ∙ c.if-is_empty.false))
