-- What the calls hand back: the numbers, answers and bytes of the slot's definitions, and the new slot with its arrays.
-- Assumes nothing.
use Rattle.std.specs.Prelude.{ℕ, zero, suc, List}
use Rattle.key.specs.Kept.{kept, keep, no_key}
use Rattle.reading.specs.declared.calls.Answer.{Answer}
use Rattle.reading.specs.declared.calls.Answer.TheVariants as answers
use Rattle.ledger.specs.Slot.{Outcome}
use Rattle.ledger.specs.Slot as Definition
use Rattle.ledger.specs.Loading.{loaded_key}
use Rattle.ledger.specs.Calls.{Call, load, publish, ask, drop_key, step}
use Rattle.ledger.specs.Systems.{System}
use Rattle.slot.specs.declared.Slot.{Slot}

-- the state of a state byte: 0 empty, 1 loaded, any other published
unfoldable pub state_of : ℕ → Definition.State
state_of zero = Definition.empty
state_of (suc zero) = Definition.loaded
state_of (suc (suc b)) = Definition.published

-- the byte that a call writes for a state
unfoldable pub byte_of : Definition.State → ℕ
byte_of Definition.empty = 0
byte_of Definition.loaded = 1
byte_of Definition.published = 2

-- the slot of the definitions: the state, and the key without what lies past n and t
unfoldable pub view : Slot → Definition.Slot
view s = record { state = state_of s.state; key = kept s.key }

-- the number of a refusal to open or read, and 0 where the pattern is written
unfoldable pub answer_number : Answer → ℕ
answer_number (answers.Ones w) = 0
answer_number (answers.Refused n) = n

-- the empty slot, with zeros only
unfoldable pub fresh_slot : Slot
fresh_slot = record { state = byte_of Definition.empty; key = no_key }

-- the slot after a call that is accepted
unfoldable pub moved : Slot → Call → Slot
moved s (load f) = record { state = byte_of Definition.loaded; key = keep (loaded_key f) }
moved s (publish p) = record { state = byte_of Definition.published; key = s.key }
moved s (ask q) = s
moved s drop_key = fresh_slot

-- the new slot, the number of the refusal, 0 for none, and the number of ones written
pub record Reply : Type 0 where
  pub slot : Slot
  pub refused : ℕ
  pub ones : ℕ

-- refused: the slot as it was
unfoldable pub refusal : Slot → ℕ → Reply
refusal s n = record { slot = s; refused = n; ones = 0 }

unfoldable pub acceptance : Slot → ℕ → Reply
acceptance s w = record { slot = s; refused = 0; ones = w }

unfoldable pub reply_of : ℕ → Slot → Slot → ℕ → Reply
reply_of zero s next w = acceptance next w
reply_of (suc n) s next w = refusal s (suc n)

-- What a call leaves: its reply, what its form answers besides, the output buffer, and how many of the first bytes of publish's
-- workspace have free contents.
pub record Handed : Type 0 where
  pub reply : Reply
  pub answer : List ℕ
  pub output : List ℕ
  pub free : ℕ

-- a call on a slot
unfoldable pub handed : Slot → Call → Handed
handed s c =
    let r : Definition.Result = step (view s) c in
    record { reply = reply_of r.number s (moved s c) r.count; answer = r.answer; output = r.output; free = r.free }

-- The code's calls as a system: its slots are the structs with their arrays. The demands are about it.
unfoldable pub outcome_of : Handed → Outcome Slot
outcome_of h =
    record {
      station = h.reply.slot;
      number = h.reply.refused;
      output = h.output;
      count = h.reply.ones;
      answer = h.answer;
      free = h.free;
    }

abbrev pub code : System
code =
    record {
      Stations = Slot;
      fresh = fresh_slot;
      view = view;
      marked = λ s. record { state = byte_of Definition.published; key = s.key };
      call = λ s c. outcome_of (handed s c);
    }
