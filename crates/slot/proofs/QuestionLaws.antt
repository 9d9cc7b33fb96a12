-- The number and the answer of a question, from the slot's state and the lower call's number. Assumes nothing.
use mathlib.Core.Path.{◌≡◌, ap, ◌∙◌}
use mathlib.Core.Bool.{Bool, true, false, not, cond}
use lib.Dec.{eqb}
use Rattle.ledger.specs.Slot.{is_empty, is_unpublished}
use Rattle.ledger.specs.Questions.{Question}
use Rattle.ledger.specs.Calls.{ask, no_answer, made}
use Rattle.slot.specs.Replies.{state_of, view, handed}
use Rattle.slot.specs.declared.Slot.{Slot}
use Rattle.slot.proofs.ReplyLaws.{stop, lower, stopped, stopped_number, lower_number, lower_answer}
use Rattle.slot.proofs.LowerLaws.{not_not}

module _ (s : Slot) (q : Question) where
  -- without a key
  pub question_stopped : is_empty (state_of s.state) ≡ true → (21 ≡ (handed s (ask q)).reply.refused) × (no_answer (ask q) ≡ (handed s (ask q)).answer)
  unfolding stop
  question_stopped h = (stopped_number s (ask q) h, (stopped s (ask q) h).2)

  -- with a key
  pub question_lower : is_empty (state_of s.state) ≡ false
      → (lower s (ask q) ≡ (handed s (ask q)).reply.refused)
      × (cond (eqb (lower s (ask q)) 0) (made (view s) (ask q)).answer (no_answer (ask q)) ≡ (handed s (ask q)).answer)
  unfolding stop
  question_lower h = (lower_number s (ask q) h, lower_answer s (ask q) h)

-- published or not by b
pub not_published : (s : Slot) (b : Bool) → b ≡ not (is_unpublished (state_of s.state)) → not b ≡ is_unpublished (state_of s.state)
not_published s b e = ap not e ∙ not_not _
