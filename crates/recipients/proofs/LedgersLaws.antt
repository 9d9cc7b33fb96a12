-- The two ledgers: each is the ledger of the calls that name its recipient, and they agree with the slots. Assumes nothing.
use mathlib.Core.Path.{◌≡◌, refl, sym, ap, ap₂, ◌∙◌}
use mathlib.Core.Bool.{true, false, true≢false}
use mathlib.Core.List.{List, [], ◌∷◌}
use mathlib.Core.Option.{none, some}
use Rattle.field.specs.Numbers.{first_of}
use Rattle.ledger.specs.Slot.{Held, Outcome}
use Rattle.ledger.specs.Calls.{Call, conditions_of, answered}
use Rattle.ledger.specs.Ledger.{Ledger, held_in, ledger_number, ledger_after}
use Rattle.ledger.proofs.StepLaws.{step-number}
use Rattle.ledger.proofs.LedgerLaws.{ledger_next}
use Rattle.ledger.proofs.Agreement.{Agree, agree_number, agree_step}
use Rattle.ledger.proofs.Simulation.{Simulates, same_station, same_number}
use Rattle.recipients.specs.Names.{Name, name_of, NamedCall, naming, names, keep, calls_of}
use Rattle.recipients.specs.Recipients.{named_conditions, unknown, Recipients, recipient, of, put}
use Rattle.recipients.specs.Ledgers.{Ledgers, named_number, fed_named, ledgers_after, expected_named}
use Rattle.recipients.proofs.NameLaws.{by_bool, name_byte, names_name, names_one, Addressed, one, nobody, addressed, calls_named, calls_other}
use Rattle.recipients.proofs.Slotted.{Slotted, of-put, of_other, named_slot, nobody_call, other_slot}
use Rattle.recipients.proofs.Simulation.{recipient_simulates}

-- the conditions of a call that names x, and of one that names nobody
pub conditions_one : (h : Name → Held) (x : Name) (d : Call) → named_conditions h (naming x d) ≡ (false, 35) ∷ conditions_of (h x) d
unfolding named_conditions
conditions_one h x d = rw (name_byte x, named_conditions) refl

pub conditions_nobody : (h : Name → Held) (c : NamedCall) → name_of c.name ≡ none → named_conditions h c ≡ (true, 35) ∷ []
unfolding named_conditions
conditions_nobody h c e = rw (e, named_conditions) refl

-- a call's number by the ledgers
number_one : (l : Ledgers) (x : Name) (d : Call) → named_number l (naming x d) ≡ ledger_number (of x l) d
unfolding named_number ledger_number first_of
number_one l x d = ap first_of (conditions_one (λ y. held_in (of y l)) x d)

number_nobody : (l : Ledgers) (c : NamedCall) → name_of c.name ≡ none → named_number l c ≡ 35
unfolding named_number first_of
number_nobody l c e = ap first_of (conditions_nobody (λ y. held_in (of y l)) c e)

-- what a call feeds
fed_some : (l : Ledgers) (c : NamedCall) (x : Name) → name_of c.name ≡ some x → fed_named l c ≡ put x (ledger_next (of x l) c.call) l
unfolding fed_named
fed_some l c x e = rw (e, fed_named) refl

fed_none : (l : Ledgers) (c : NamedCall) → name_of c.name ≡ none → fed_named l c ≡ l
unfolding fed_named
fed_none l c e = rw (e, fed_named) refl

-- the ledger of x after a call that names x, and after another
fed_one : (x : Name) (l : Ledgers) (c : NamedCall) → names x c ≡ true → of x (fed_named l c) ≡ ledger_next (of x l) c.call
fed_one x l c e = ap (of x) (fed_some l c x (names_name x c e)) ∙ of-put x _ l

fed_other : (x : Name) (l : Ledgers) (c : NamedCall) → names x c ≡ false → of x (fed_named l c) ≡ of x l
fed_other x l c = go (addressed c)
  where
    go : {c : NamedCall} → Addressed c → names x c ≡ false → of x (fed_named l c) ≡ of x l
    go (one y d) e =
        ap (of x) (fed_some l (naming y d) y (name_byte y))
        ∙ of_other y x (λ q. true≢false (sym (names_one y d) ∙ ap (λ (z : Name). names z (naming y d)) q ∙ e)) _ l
    go (nobody {c = c} h) e = ap (of x) (fed_none l c h)

-- so after every list of calls the ledger of x is that of the calls that name x
pub ledger_named : (x : Name) (l : Ledgers) (calls : List NamedCall) → of x (ledgers_after l calls) ≡ ledger_after (of x l) (calls_of x calls)
unfolding ledgers_after ledger_after keep
ledger_named x l [] = refl
ledger_named x l (c ∷ cs) =
    ledger_named x (fed_named l c) cs
    ∙ by_bool (names x c)
    (λ e. ap (λ (k : Ledger). ledger_after k (calls_of x cs)) (fed_one x l c e) ∙ ap (ledger_after (of x l)) (sym (calls_named x c cs e)))
    (λ e. ap₂ ledger_after (fed_other x l c e) (sym (calls_other x c cs e)))

module _ (r : Recipients) (p : Slotted r) (sim : Simulates r.slots) where
  -- each slot agrees with its recipient's ledger
  abbrev pub AgreeNamed : r.Stations → Ledgers → Type 0
  AgreeNamed s l = (x : Name) → Agree (r.slots.view (r.slot x s)) (of x l)

  -- then a call's number is the same by both, and they go on agreeing
  agree_named : (s : r.Stations) (l : Ledgers) → AgreeNamed s l → (c : NamedCall) → (r.call s c).number ≡ named_number l c
  unfolding unknown
  agree_named s l a c = go (addressed c)
    where
      go : {c : NamedCall} → Addressed c → (r.call s c).number ≡ named_number l c
      go (one x d) =
          same_number (recipient r x) (recipient_simulates r p sim x) s d
          ∙ step-number (r.slots.view (r.slot x s)) d
          ∙ agree_number (a x) d
          ∙ sym (number_one l x d)
      go (nobody {c = c} h) = ap (λ (o : Outcome r.Stations). o.number) (nobody_call r p s c h) ∙ sym (number_nobody l c h)

  agree_next : (s : r.Stations) (l : Ledgers) → AgreeNamed s l → (c : NamedCall) → AgreeNamed (r.call s c).station (fed_named l c)
  agree_next s l a c x =
      by_bool (names x c)
      (λ e. rw (named_slot r p s c x e, same_station r.slots sim (r.slot x s) c.call, fed_one x l c e) (agree_step (a x) c.call))
      (λ e. rw (other_slot r p x s c e, fed_other x l c e) (a x))

  pub numbers-named : (s : r.Stations) (l : Ledgers) → AgreeNamed s l → (calls : List NamedCall) → answered r.call s calls ≡ expected_named l calls
  unfolding answered expected_named
  numbers-named s l a [] = refl
  numbers-named s l a (c ∷ cs) = ap₂ ◌∷◌ (agree_named s l a c) (numbers-named (r.call s c).station (fed_named l c) (agree_next s l a c) cs)
