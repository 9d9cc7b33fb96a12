-- The state, then the file. Assumes nothing.
use mathlib.Core.Path.{sym, ap, ◌∙◌}
use mathlib.Core.Bool.{not}
use Rattle.key.specs.Answers.{shape_answer}
use Rattle.ledger.specs.Calls.{load}
use Rattle.loading.specs.Forms.{loading_of}
use Rattle.slot.specs.Replies.{Reply, refusal}
use Rattle.slot.specs.Parts.{keyless, loaded_of}
use Rattle.slot.proofs.ReplyLaws.{stop, stopped}
use Rattle.slot.proofs.LowerLaws.{load_answer}
use Rattle.slot.proofs.load.Goals as goal

pub returns-then-not-is_empty : goal.returns-then-not-is_empty
unfolding stop refusal loaded_of shape_answer
returns-then-not-is_empty c =
    let a = c.args in
    ap (λ (r : Reply). shape_answer r.refused (r.slot.key.m, r.slot.key.n, r.slot.key.t))
    (stopped (keyless a.state) (load (loading_of a.form a.file.now)) (ap not (sym c.is_empty.ensures ∙ c.if-not-is_empty.true))).0

pub returns : goal.returns
returns c =
    let a = c.args in
    c.shape.ensures ∙ load_answer (keyless a.state) (loading_of a.form a.file.now) (sym c.is_empty.ensures ∙ c.if-not-is_empty.false)
