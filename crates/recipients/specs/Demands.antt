-- The demands with request L6, as statements about two recipients: for every station, every call and every list of calls that name
-- either, or neither. Assumes nothing.
use Rattle.std.specs.Prelude.{ℕ, suc, ◌≡◌, ◌↔◌, ◌⊎◌, true, List}
use Rattle.std.proofs.Math.Option.{none, some}
use Rattle.field.specs.Numbers.{First, Clear}
use Rattle.key.specs.Keys.{Key, reducible}
use Rattle.ledger.specs.Slot.{loaded, published, held_by}
use Rattle.ledger.specs.Calls.{load, output_of, no_answer, run, answered}
use Rattle.ledger.specs.Ledger.{blank, ledger_after}
use Rattle.ledger.specs.Demands.{key_held, workspace_of, at, After, Demand2}
use Rattle.ledger.specs.OwnWords.{Loaded, SomePublish, LocksAndOpens, ReadsCodeWords}
use Rattle.ledger.specs.Reports.{ImportReport}
use Rattle.ledger.specs.Sessions.{SessionKeys}
use Rattle.ledger.specs.Marks.{MarkedReading}
use Rattle.ledger.specs.Exchange.{ExchangeKeys}
use Rattle.ledger.specs.SmallPublish.{SmallPublish}
use Rattle.recipients.specs.Names.{Name, name_of, NamedCall, calls_of}
use Rattle.recipients.specs.Recipients.{named_conditions, unknown, Recipients, recipient}
use Rattle.recipients.specs.Ledgers.{blanks, expected_named}
use Rattle.recipients.specs.Apart.{Apart}

module _ (r : Recipients) where
  -- Demand 1: a number only where its condition is the first that holds, and then nothing changes, the workspace under 23 aside;
  -- none where none holds. No byte of the workspace is free, or the first ones that publish's form needs for the key that is named.
  pub record RefusesNamed (s : r.Stations) (c : NamedCall) : Type 0 where
    pub number : (n : ℕ) → (r.call s c).number ≡ suc n → First (named_conditions (λ x. held_by (r.slots.view (r.slot x s))) c) (suc n)
    pub accepts : (r.call s c).number ≡ 0 → Clear (named_conditions (λ x. held_by (r.slots.view (r.slot x s))) c)
    pub station : (n : ℕ) → (r.call s c).number ≡ suc n → (r.call s c).station ≡ s
    pub ones : (n : ℕ) → (r.call s c).number ≡ suc n → (r.call s c).count ≡ 0
    pub answer : (n : ℕ) → (r.call s c).number ≡ suc n → (r.call s c).answer ≡ no_answer c.call
    pub output : (n : ℕ) → (r.call s c).number ≡ suc n → (r.call s c).output ≡ output_of c.call
    pub work : (n : ℕ) → (r.call s c).number ≡ suc n → (suc n ≡ 23 → ⊥) → (r.call s c).free ≡ 0
    pub workspace : ((r.call s c).free ≡ 0) ⊎ ((x : Name) × (name_of c.name ≡ some x) × ((r.call s c).free ≡ workspace_of (r.slots.view (r.slot x s)).key c.call))
    -- 35 where no recipient has the name, and nowhere else; then nothing changes, whatever else holds
    pub unknown_name : name_of c.name ≡ none → r.call s c ≡ unknown s c.call
    pub known_name : (r.call s c).number ≡ 35 → name_of c.name ≡ none

  -- Demand 3, after one list of calls over both: each call's number, and for each recipient its key, by the calls that name it, and
  -- any open, read or marked reading that names it next
  pub record AfterNamed (calls : List NamedCall) (s : r.Stations) : Type 0 where
    pub numbers : answered r.call r.fresh calls ≡ expected_named blanks calls
    pub named : (x : Name) → After (recipient r x) (calls_of x calls) s (ledger_after blank (calls_of x calls))

  -- Demand 3: one claim about every list of calls from a fresh station
  abbrev pub AfterEveryNamedList : Type 0
  AfterEveryNamedList = (calls : List NamedCall) → AfterNamed calls (run r.call r.fresh calls)

  -- in its own words, by the calls that name x: which key x holds, by its loads and drops, and whether its publish marked it; a key
  -- whose g has a proper factor is never published
  pub record HoldsNamed (x : Name) (calls : List NamedCall) (k : Key) : Type 0 where
    pub held : (key_held ((recipient r x).view (run r.call r.fresh calls)) ≡ some k) ↔ Loaded (recipient r x) r.fresh (calls_of x calls) k
    pub marked : ((recipient r x).view (run r.call r.fresh calls) ≡ at published k)
        ↔ ((l : Loaded (recipient r x) r.fresh (calls_of x calls) k)
        × SomePublish (recipient r x) ((recipient r x).call (run (recipient r x).call r.fresh l.before) (load l.form)).station l.after)
    pub reading_only : (ledger_after blank (calls_of x calls)).key ≡ some k → reducible k ≡ true
        → (recipient r x).view (run r.call r.fresh calls) ≡ at loaded k

  -- all of them, and for each recipient what is said of one key from every station
  pub record NamedDemands : Type 0 where
    pub demand_1 : (s : r.Stations) (c : NamedCall) → RefusesNamed s c
    pub demand_2 : (x : Name) → Demand2 (recipient r x)
    pub after_every_list : AfterEveryNamedList
    pub holds : (x : Name) (calls : List NamedCall) (k : Key) → HoldsNamed x calls k
    pub locks_and_opens : (x : Name) → LocksAndOpens (recipient r x)
    pub reads_code_words : (x : Name) → ReadsCodeWords (recipient r x)
    pub import_report : (x : Name) → ImportReport (recipient r x)
    pub session_keys : (x : Name) → SessionKeys (recipient r x)
    pub marked_readings : (x : Name) → MarkedReading (recipient r x)
    pub exchange_keys : (x : Name) → ExchangeKeys (recipient r x)
    pub small_publish : (x : Name) → SmallPublish (recipient r x)
    pub apart : Apart r
