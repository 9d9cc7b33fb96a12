-- Demand 3 with request L6: a ledger for each recipient beside a list of calls, fed with the arguments of the calls that name it.
-- Assumes nothing.
use Rattle.std.specs.Prelude.{ℕ, List, [], ◌∷◌}
use Rattle.std.proofs.Math.Option.{none, some}
use Rattle.field.specs.Numbers.{first_of}
use Rattle.ledger.specs.Ledger.{Ledger, blank, held_in, ledger_number, fed}
use Rattle.recipients.specs.Names.{name_of, NamedCall}
use Rattle.recipients.specs.Recipients.{named_conditions, Both, of, put}

abbrev pub Ledgers : Type 0
Ledgers = Both Ledger

-- both start with no key and no mark
abbrev pub blanks : Ledgers
blanks = record { a = blank; b = blank }

-- a call's number is the first whose condition holds for its arguments and the ledgers
unfoldable pub named_number : Ledgers → NamedCall → ℕ
named_number l c = first_of (named_conditions (λ x. held_in (of x l)) c)

-- only the ledger of the recipient that is named is fed
unfoldable pub fed_named : Ledgers → NamedCall → Ledgers
fed_named l c = elim (name_of c.name) [
  | none ↦ l
  | some x ↦ put x (fed (ledger_number (of x l) c.call) (of x l) c.call) l
]

-- the ledgers after a list of calls
unfoldable pub ledgers_after : Ledgers → List NamedCall → Ledgers
ledgers_after l [] = l
ledgers_after l (c ∷ cs) = ledgers_after (fed_named l c) cs

-- each call's number
unfoldable pub expected_named : Ledgers → List NamedCall → List ℕ
expected_named l [] = []
expected_named l (c ∷ cs) = named_number l c ∷ expected_named (fed_named l c) cs
