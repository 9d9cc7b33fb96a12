-- Document 01, 'Station': the ledger beside a list of calls, fed with the calls' arguments only. Assumes nothing.
use Rattle.std.specs.Prelude.{ℕ, zero, suc, Bool, true, false, not, List, [], ◌∷◌}
use Rattle.std.proofs.Math.Option.{Option, none, some}
use Rattle.field.specs.Numbers.{first_of}
use Rattle.key.specs.Keys.{Key}
use Rattle.ledger.specs.Slot.{Held, empty_key}
use Rattle.ledger.specs.Loading.{loaded_key}
use Rattle.ledger.specs.Calls.{Call, load, publish, ask, drop_key, conditions_of}

-- a key or none, and a mark for published
pub record Ledger : Type 0 where
  pub key : Option Key
  pub mark : Bool

-- it starts with no key and no mark
unfoldable pub blank : Ledger
blank = record { key = none; mark = false }

-- 21 holds without a key, 22 with one, 24 without the mark, 25 never
unfoldable pub held_in : Ledger → Held
held_in l = elim l.key [
  | none ↦ record { missing = true; unsound = false; unpublished = not l.mark; key = empty_key }
  | some k ↦ record { missing = false; unsound = false; unpublished = not l.mark; key = k }
]

-- a call's number is the first whose condition holds for its arguments and the ledger
unfoldable pub ledger_number : Ledger → Call → ℕ
ledger_number l c = first_of (conditions_of (held_in l) c)

-- load enters its file's key, publish sets the mark, a question changes nothing, drop takes key and mark away
unfoldable pub entered : Ledger → Call → Ledger
entered l (load f) = record { key = some (loaded_key f); mark = false }
entered l (publish p) = record { key = l.key; mark = true }
entered l (ask q) = l
entered l drop_key = blank

-- with a number the ledger stays
unfoldable pub fed : ℕ → Ledger → Call → Ledger
fed zero l c = entered l c
fed (suc n) l c = l

-- the ledger after a list of calls
unfoldable pub ledger_after : Ledger → List Call → Ledger
ledger_after l [] = l
ledger_after l (c ∷ cs) = ledger_after (fed (ledger_number l c) l c) cs

-- each call's number
unfoldable pub expected : Ledger → List Call → List ℕ
expected l [] = []
expected l (c ∷ cs) = ledger_number l c ∷ expected (fed (ledger_number l c) l c) cs
