-- Request L6: what one recipient's calls answer, and the slot that they leave, does not depend on the other's calls. Statements
-- about two recipients, for every station and every list of calls. Assumes nothing.
use Rattle.std.specs.Prelude.{ℕ, ◌≡◌, not, List, [], ◌∷◌, map}
use Rattle.ledger.specs.Slot.{Outcome}
use Rattle.ledger.specs.Calls.{Call, run}
use Rattle.ledger.specs.Ledger.{Ledger, ledger_after}
use Rattle.ledger.specs.Demands.{key_held}
use Rattle.recipients.specs.Names.{Name, NamedCall, names, keep, leave_out, calls_of}
use Rattle.recipients.specs.Recipients.{Recipients}

-- An answer: all that a call hands back or writes, but the station. `free` says which bytes of publish's workspace have free
-- contents.
pub record Answer : Type 0 where
  pub number : ℕ
  pub output : List ℕ
  pub count : ℕ
  pub answer : List ℕ
  pub free : ℕ

unfoldable pub answer_of : {S : Type 0} → Outcome S → Answer
answer_of r = record { number = r.number; output = r.output; count = r.count; answer = r.answer; free = r.free }

-- the calls of a list, each with its answer
unfoldable pub transcript : {S C : Type 0} → (S → C → Outcome S) → S → List C → List (C × Answer)
transcript call s [] = []
transcript call s (c ∷ cs) = (c, answer_of (call s c)) ∷ transcript call (call s c).station cs

-- a transcript's part that names x, as one of x's slot
abbrev pub transcript_of : Name → List (NamedCall × Answer) → List (Call × Answer)
transcript_of x entries = map (λ e. (e.0.call, e.1)) (keep (λ e. names x e.0) entries)

module _ (r : Recipients) where
  -- the slot of x, and the answers to the calls that name x, are those of the slot alone and the list's calls that name x
  pub record Alone (x : Name) (s : r.Stations) (calls : List NamedCall) : Type 0 where
    pub slot : r.slot x (run r.call s calls) ≡ run r.slots.call (r.slot x s) (calls_of x calls)
    pub answers : transcript_of x (transcript r.call s calls) ≡ transcript r.slots.call (r.slot x s) (calls_of x calls)

  -- Leaving out the calls that name x, from stations s and t with the same slot of another recipient y: every answer to another
  -- call, those with unknown names included, is the same, and so is the slot of y with its arrays, its key, and what its ledger has.
  pub record LeftOut (x y : Name) (s t : r.Stations) (calls : List NamedCall) : Type 0 where
    pub answers : keep (λ e. not (names x e.0)) (transcript r.call s calls) ≡ transcript r.call t (leave_out x calls)
    pub slot : r.slot y (run r.call s calls) ≡ r.slot y (run r.call t (leave_out x calls))
    pub key : key_held (r.slots.view (r.slot y (run r.call s calls))) ≡ key_held (r.slots.view (r.slot y (run r.call t (leave_out x calls))))
    pub ledger : (l : Ledger) → ledger_after l (calls_of y calls) ≡ ledger_after l (calls_of y (leave_out x calls))
    -- the slot of x stays as it was
    pub stays : r.slot x (run r.call t (leave_out x calls)) ≡ r.slot x t

  -- one law about the two, and what follows from it
  pub record Apart : Type 0 where
    pub alone : (x : Name) (s : r.Stations) (calls : List NamedCall) → Alone x s calls
    pub left_out : (x y : Name) → (x ≡ y → ⊥) → (s t : r.Stations) → r.slot y s ≡ r.slot y t → (calls : List NamedCall) → LeftOut x y s t calls
