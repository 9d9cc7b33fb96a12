-- What the slot's calls answer, from its parts: the state and the key's sizes and arrays. Assumes nothing.
use Rattle.std.specs.Prelude.{ℕ, List}
use Rattle.key.specs.Kept.{parts, no_key}
use Rattle.key.specs.Answers.{shape_answer}
use Rattle.key.specs.declared.kept.Key.{Key}
use Rattle.key.specs.declared.shape.ShapeAnswer.{ShapeAnswer}
use Rattle.reading.specs.Answers.{answer_of}
use Rattle.reading.specs.declared.calls.Answer.{Answer}
use Rattle.reporting.specs.declared.Counted.{Counted}
use Rattle.session_key.specs.declared.SessionKey.{SessionKey}
use Rattle.slot.specs.Replies.{Handed}
use Rattle.slot.specs.declared.Slot.{Slot}

-- the slot of these parts
abbrev pub slot_in : ℕ → ℕ → ℕ → ℕ → List ℕ → List ℕ → Slot
slot_in state m n t support g = record { state = state; key = parts m n t support g }

-- a slot in a state, without a key
abbrev pub keyless : ℕ → Slot
keyless state = record { state = state; key = no_key }

-- of what a call hands back: the shape of the key after a load; the number of ones; the counts of a report; the key of a session
unfoldable pub loaded_of : Handed → ShapeAnswer
loaded_of h = let k : Key = h.reply.slot.key in shape_answer h.reply.refused (k.m, k.n, k.t)

unfoldable pub answered_of : Handed → Answer
answered_of h = answer_of h.reply.refused h.reply.ones

unfoldable pub counted_of : Handed → Counted
counted_of h = record { refused = h.reply.refused; counts = h.answer }

unfoldable pub derived_of : Handed → SessionKey
derived_of h = record { refused = h.reply.refused; key = h.answer }
