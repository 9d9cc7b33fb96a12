-- Calls by their kinds, and lists of calls: each gets the station that the one before handed back, after a refusal too.
-- Assumes nothing.
use Rattle.std.specs.Prelude.{ℕ, zero, suc, Bool, not, cond, List, [], ◌∷◌, replicate}
use Rattle.field.specs.Numbers.{first_of}
use Rattle.ledger.specs.Slot.{loaded, published, Slot, fresh, Held, is_empty, held_by, Outcome, Result}
use Rattle.ledger.specs.Loading.{Loading, loading_conditions, loaded_key}
use Rattle.ledger.specs.Publishing.{Publishing, public_buffer, publishing_conditions, publication, freed_bytes}
use Rattle.ledger.specs.Questions.{Question, answer_buffer, question_conditions, Given, given, answer_size}

-- the four kinds, each with its form, arguments and buffers with their contents included
pub data Call : Type 0 where
  load : Loading → Call
  publish : Publishing → Call
  ask : Question → Call
  drop_key : Call

-- the conditions of a call, each with its number, in the documents' order: 22, or 21, then those of the form
unfoldable pub conditions_of : Held → Call → List (Bool × ℕ)
conditions_of h (load f) = (not h.missing, 22) ∷ loading_conditions f
conditions_of h (publish p) = (h.missing, 21) ∷ publishing_conditions h p
conditions_of h (ask q) = (h.missing, 21) ∷ question_conditions h q
conditions_of h drop_key = (h.missing, 21) ∷ []

-- the buffer that a call writes to
unfoldable pub output_of : Call → List ℕ
output_of (load f) = []
output_of (publish p) = public_buffer p
output_of (ask q) = answer_buffer q
output_of drop_key = []

-- what a call answers besides where it is refused: zeros
unfoldable pub no_answer : Call → List ℕ
no_answer (load f) = []
no_answer (publish p) = []
no_answer (ask q) = replicate (answer_size q) 0
no_answer drop_key = []

-- What an accepted call hands back. Load: the key is kept, and is not published. Publish: the key is published; the workspace is
-- free once 21 and its form's checks have passed. A question leaves the slot. Drop: the slot is fresh.
unfoldable pub made : Slot → Call → Result
made s (load f) =
    record { station = record { state = loaded; key = loaded_key f }; number = 0; output = []; count = 0; answer = []; free = 0 }
made s (publish p) =
    record {
      station = record { state = published; key = s.key };
      number = 0;
      output = publication s.key p;
      count = 0;
      answer = [];
      free = cond (is_empty s.state) 0 (freed_bytes s.key p);
    }
made s (ask q) =
    let a : Given = given s.key q in
    record { station = s; number = 0; output = a.output; count = a.count; answer = a.answer; free = 0 }
made s drop_key = record { station = fresh; number = 0; output = []; count = 0; answer = []; free = 0 }

-- a refusal returns its number and changes nothing
unfoldable pub unless : ℕ → Slot → Call → Result → Result
unless zero s c r = r
unless (suc n) s c r =
    record { station = s; number = suc n; output = output_of c; count = 0; answer = no_answer c; free = r.free }

-- one call
unfoldable pub step : Slot → Call → Result
step s c = unless (first_of (conditions_of (held_by s) c)) s c (made s c)

-- Lists of calls, whatever a call and a station are: the station after the list,
unfoldable pub run : {S C : Type 0} → (S → C → Outcome S) → S → List C → S
run call s [] = s
run call s (c ∷ cs) = run call (call s c).station cs

-- and the number that each call was answered with
unfoldable pub answered : {S C : Type 0} → (S → C → Outcome S) → S → List C → List ℕ
answered call s [] = []
answered call s (c ∷ cs) = (call s c).number ∷ answered call (call s c).station cs
