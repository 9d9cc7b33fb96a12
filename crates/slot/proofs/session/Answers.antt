-- The state, then the lower call. Assumes nothing.
use mathlib.Core.Path.{refl, sym, ◌∙◌}
use Rattle.session_key.specs.Answers.{session_answer}
use Rattle.slot.specs.Parts.{slot_in}
use Rattle.ledger.specs.Questions.{answer_size}
use Rattle.ledger.specs.Calls.{no_answer}
use Rattle.slot.proofs.SessionLaws.{session_stopped, session_lower}
use Rattle.slot.proofs.session.Goals as goal

pub returns-then-is_empty : goal.returns-then-is_empty
unfolding no_answer answer_size
returns-then-is_empty c =
    let a = c.args in
    let s = slot_in a.state a.m a.n a.t a.support.now a.g.now in
    session_stopped s a.capsule.now a.secret.now (sym c.is_empty.ensures ∙ c.if-is_empty.true) refl

pub returns : goal.returns
unfolding session_answer
returns c =
    let a = c.args in
    let s = slot_in a.state a.m a.n a.t a.support.now a.g.now in
    let k = sym c.is_empty.ensures ∙ c.if-is_empty.false in
    c.session.ensures ∙ session_lower s a.capsule.now a.secret.now k _ c.is_published-marked.ensures
