-- Document 01's rows P1 to P13, its facts by running, the orders of the numbers and the reports hold of a slot's calls. Assumes nothing.
use mathlib.Core.Path.{◌≡◌, refl, ap₂}
use mathlib.Core.Bool.{true}
use lib.Dec.{eqb}
use lib.ListN.{length}
use borrow.Author.Tests.{eqb-true}
use Rattle.bits.proofs.Lists.{and_left, and_right}
use Rattle.key.specs.Keys.{Key}
use Rattle.key.specs.Kept.{keep}
use Rattle.key.proofs.Filled.{kept-keep}
use Rattle.ledger.specs.Slot.{empty, loaded, published}
use Rattle.ledger.specs.Slot as Definition
use Rattle.ledger_tables.proofs.TableOf.{sized, Tables, tables_hold}
use Rattle.slot.specs.Replies.{state_of, byte_of, view, code}
use Rattle.slot.specs.declared.Slot.{Slot}
use Rattle.slot.proofs.StepView.{code_simulates}

-- the code's slot for one of the definitions
unfoldable pub stored : Definition.Slot → Slot
stored s = record { state = byte_of s.state; key = keep s.key }

state_for : (t : Definition.State) → state_of (byte_of t) ≡ t
unfolding state_of byte_of
state_for empty = refl
state_for loaded = refl
state_for published = refl

pub view-stored : (s : Definition.Slot) → sized s ≡ true → view (stored s) ≡ s
unfolding sized view stored
view-stored s h =
    let k = s.key in
    let a : eqb (length k.support) k.n ≡ true = and_left (eqb (length k.support) k.n) (eqb (length k.g) k.t) h in
    let b : eqb (length k.g) k.t ≡ true = and_right (eqb (length k.support) k.n) (eqb (length k.g) k.t) h in
    ap₂ (λ (t : Definition.State) (j : Key). record { state = t; key = j }) (state_for s.state) (kept-keep k (eqb-true _ _ a) (eqb-true _ _ b))

pub slot_tables : Tables code stored
slot_tables = tables_hold code stored code_simulates view-stored
