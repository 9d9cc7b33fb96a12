-- Slot and ledger agree after every list of calls: the key, and the number of each call. Assumes nothing.
use Prim.Native.Nat.{ℕ, zero, suc}
use mathlib.Core.Path.{◌≡◌, refl, ap, ap₂, ◌∙◌}
use mathlib.Core.Bool.{Bool, true, false, not}
use mathlib.Core.List.{List, [], ◌∷◌}
use mathlib.Core.Option.{Option, some}
use native.Mathlib.Omega.{arith}
use lib.Dec.{eqb}
use Rattle.field.specs.Numbers.{first_of}
use Rattle.key.specs.Keys.{Key, key_number, unsound, reducible}
use Rattle.code.specs.PublicKey.{Matrix, public_key}
use Rattle.ledger.specs.Slot.{State, loaded, published, Slot, fresh, Held, is_empty, is_unpublished, held_by}
use Rattle.ledger.specs.Calls.{Call, load, publish, ask, drop_key, conditions_of, made, step, run, answered}
use Rattle.ledger.specs.Ledger.{Ledger, blank, held_in, ledger_number, entered, ledger_after, expected}
use Rattle.ledger.specs.Demands.{key_held}
use Rattle.ledger.proofs.Forms.{loading_good, publishing_public}
use Rattle.ledger.proofs.StepLaws.{call_number, step-number, step-made, step_stays}
use Rattle.ledger.proofs.LedgerLaws.{ledger_next, next_refused, next-accepted}

abbrev pub slot_of : State → Key → Slot
slot_of s k = record { state = s; key = k }

abbrev pub ledger_of : Option Key → Bool → Ledger
ledger_of k b = record { key = k; mark = b }

-- the slot holds the ledger's key, one that load accepts, and is published where the ledger has the mark; the key is
-- irreducible then and has a public key
pub data Agree : Slot → Ledger → Type 0 where
  nothing : Agree fresh blank
  held : {k : Key} → key_number k ≡ 0 → Agree (slot_of loaded k) (ledger_of (some k) false)
  marked : {k : Key} {rows : Matrix} → key_number k ≡ 0 → reducible k ≡ false → public_key k ≡ some rows → Agree (slot_of published k) (ledger_of (some k) true)

-- then 25 does not hold, and a call's number is the same by both
pub sound_held : (s : State) (k : Key) → key_number k ≡ 0 → held_by (slot_of s k) ≡ record { missing = is_empty s; unsound = false; unpublished = is_unpublished s; key = k }
unfolding held_by unsound
sound_held s k h = ap (λ (x : ℕ). record { missing = is_empty s; unsound = not (eqb x 0); unpublished = is_unpublished s; key = k }) h

pub agree_number : {s : Slot} {l : Ledger} → Agree s l → (c : Call) → call_number s c ≡ ledger_number l c
unfolding held_by held_in ledger_number conditions_of fresh blank is_empty is_unpublished first_of
agree_number nothing (load f) = refl
agree_number nothing (publish p) = refl
agree_number nothing (ask q) = refl
agree_number nothing drop_key = refl
agree_number (held {k = k} h) c = ap (λ (x : Held). first_of (conditions_of x c)) (sound_held loaded k h)
agree_number (marked {k = k} h r p) c = ap (λ (x : Held). first_of (conditions_of x c)) (sound_held published k h)

-- they go on agreeing after an accepted call
agree_accepted : {s : Slot} {l : Ledger} → Agree s l → (c : Call) → ledger_number l c ≡ 0 → Agree (made s c).station (entered l c)
unfolding made entered ledger_number held_in conditions_of first_of fresh blank
agree_accepted nothing (load f) e = held (loading_good f e)
agree_accepted nothing (publish p) e = absurd (omega arith)
agree_accepted nothing (ask q) e = nothing
agree_accepted nothing drop_key e = nothing
agree_accepted (held h) (load f) e = absurd (omega arith)
agree_accepted (held h) (publish p) e = let q = publishing_public _ p e in marked h q.irreducible q.public
agree_accepted (held h) (ask q) e = held h
agree_accepted (held h) drop_key e = nothing
agree_accepted (marked h r p) (load f) e = absurd (omega arith)
agree_accepted (marked h r p) (publish q) e = marked h r p
agree_accepted (marked h r p) (ask q) e = marked h r p
agree_accepted (marked h r p) drop_key e = nothing

-- and after any call, and any list of calls
pub agree_step : {s : Slot} {l : Ledger} → Agree s l → (c : Call) → Agree (step s c).station (ledger_next l c)
agree_step {s} {l} a c = go (ledger_number l c) refl
  where
    go : (n : ℕ) → ledger_number l c ≡ n → Agree (step s c).station (ledger_next l c)
    go zero e = rw (step-made s c (step-number s c ∙ agree_number a c ∙ e), next-accepted l c e) (agree_accepted a c e)
    go (suc n) e = rw (step_stays s c n (step-number s c ∙ agree_number a c ∙ e), next_refused l c n e) a

pub agree_run : {s : Slot} {l : Ledger} → Agree s l → (calls : List Call) → Agree (run step s calls) (ledger_after l calls)
unfolding run ledger_after
agree_run a [] = a
agree_run {s = s} {l = l} a (c ∷ cs) = agree_run {s = (step s c).station} {l = ledger_next l c} (agree_step a c) cs

-- each call was refused with its number, or accepted where it has none
pub agree_numbers : {s : Slot} {l : Ledger} → Agree s l → (calls : List Call) → answered step s calls ≡ expected l calls
unfolding answered expected
agree_numbers a [] = refl
agree_numbers {s = s} {l = l} a (c ∷ cs) = ap₂ ◌∷◌ (step-number s c ∙ agree_number a c) (agree_numbers {s = (step s c).station} {l = ledger_next l c} (agree_step a c) cs)

-- the slot holds the ledger's key, or none where the ledger has none
pub agree_key : {s : Slot} {l : Ledger} → Agree s l → key_held s ≡ l.key
unfolding key_held fresh blank
agree_key nothing = refl
agree_key (held h) = refl
agree_key (marked h r p) = refl
