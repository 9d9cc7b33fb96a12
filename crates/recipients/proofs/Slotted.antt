-- What is asked of two recipients: a slot for each name, and calls that go to the slot that they name. Assumes nothing.
use mathlib.Core.Path.{◌≡◌, refl, sym, ap, ◌∙◌}
use mathlib.Core.Bool.{true, false, true≢false}
use mathlib.Core.Option.{none, some}
use Rattle.ledger.specs.Slot.{Outcome}
use Rattle.ledger.specs.Calls.{Call}
use Rattle.recipients.specs.Names.{Name, A, B, name_of, NamedCall, naming, names}
use Rattle.recipients.specs.Recipients.{unknown, within, called, Recipients, Both, of, put, definitions}
use Rattle.recipients.specs.Apart.{answer_of}
use Rattle.recipients.proofs.NameLaws.{names_name, names_one, Addressed, one, nobody, addressed}

-- the fresh station has fresh slots; a slot that was put is found, and the other stays; a call is `called`
pub record Slotted (r : Recipients) : Type 0 where
  pub fresh : (x : Name) → r.slot x r.fresh ≡ r.slots.fresh
  pub got : (x : Name) (t : r.slots.Stations) (s : r.Stations) → r.slot x (r.put x t s) ≡ t
  pub other : (x y : Name) → (x ≡ y → ⊥) → (t : r.slots.Stations) (s : r.Stations) → r.slot y (r.put x t s) ≡ r.slot y s
  pub same : (x : Name) (s : r.Stations) → r.put x (r.slot x s) s ≡ s
  pub calls : (s : r.Stations) (c : NamedCall) → r.call s c ≡ called r.slot r.put r.slots.call s c

-- one for A and one for B
module _ {S : Type 0} where
  pub of-put : (x : Name) (t : S) (s : Both S) → of x (put x t s) ≡ t
  unfolding of put
  of-put A t s = refl
  of-put B t s = refl

  pub of_other : (x y : Name) → (x ≡ y → ⊥) → (t : S) (s : Both S) → of y (put x t s) ≡ of y s
  unfolding of put
  of_other A A h t s = absurd (h refl)
  of_other A B h t s = refl
  of_other B A h t s = refl
  of_other B B h t s = absurd (h refl)

  pub put_of : (x : Name) (s : Both S) → put x (of x s) s ≡ s
  unfolding of put
  put_of A s = refl
  put_of B s = refl

  pub of_both : (x : Name) (t : S) → of x (record { a = t; b = t }) ≡ t
  unfolding of
  of_both A t = refl
  of_both B t = refl

-- so are the definitions
pub definitions_slotted : Slotted definitions
definitions_slotted =
    record {
      fresh = λ x. of_both x _;
      got = of-put;
      other = of_other;
      same = put_of;
      calls = λ s c. refl;
    }

-- what a call hands back, by what its byte gives
module _ {S T : Type 0} (slot : Name → T → S) (replace : Name → S → T → T) (call : S → Call → Outcome S) (s : T) (c : NamedCall) where
  called_some : (x : Name) → name_of c.name ≡ some x → called slot replace call s c ≡ within (λ t. replace x t s) (call (slot x s) c.call)
  unfolding called
  called_some x e = rw (e, called) refl

  called_none : name_of c.name ≡ none → called slot replace call s c ≡ unknown s c.call
  unfolding called
  called_none e = rw (e, called) refl

module _ (r : Recipients) (p : Slotted r) where
  module _ (s : r.Stations) (c : NamedCall) where
    -- a call that names x is the call of the slot of x
    pub named_call : (x : Name) → names x c ≡ true → r.call s c ≡ within (λ t. r.put x t s) (r.slots.call (r.slot x s) c.call)
    named_call x e = p.calls s c ∙ called_some r.slot r.put r.slots.call s c x (names_name x c e)

    pub named_slot : (x : Name) → names x c ≡ true → r.slot x (r.call s c).station ≡ (r.slots.call (r.slot x s) c.call).station
    unfolding within
    named_slot x e = ap (λ (o : Outcome r.Stations). r.slot x o.station) (named_call x e) ∙ p.got x _ s

    pub named-answer : (x : Name) → names x c ≡ true → answer_of (r.call s c) ≡ answer_of (r.slots.call (r.slot x s) c.call)
    unfolding within answer_of
    named-answer x e = ap (λ (o : Outcome r.Stations). answer_of o) (named_call x e)

    -- one whose byte is no name is refused
    pub nobody_call : name_of c.name ≡ none → r.call s c ≡ unknown s c.call
    nobody_call h = p.calls s c ∙ called_none r.slot r.put r.slots.call s c h

  -- a call that does not name x leaves the slot of x
  pub other_slot : (x : Name) (s : r.Stations) (c : NamedCall) → names x c ≡ false → r.slot x (r.call s c).station ≡ r.slot x s
  unfolding within unknown
  other_slot x s c = go (addressed c)
    where
      go : {c : NamedCall} → Addressed c → names x c ≡ false → r.slot x (r.call s c).station ≡ r.slot x s
      go (one y d) e =
          ap (λ (o : Outcome r.Stations). r.slot x o.station) (named_call s (naming y d) y (names_one y d))
          ∙ p.other y x (λ q. true≢false (sym (names_one y d) ∙ ap (λ (z : Name). names z (naming y d)) q ∙ e)) _ s
      go (nobody {c = c} h) e = ap (λ (o : Outcome r.Stations). r.slot x o.station) (nobody_call s c h)
