-- The ledger after each call, and lists of calls one behind another. Assumes nothing.
use Prim.Native.Nat.{ℕ, zero, suc}
use mathlib.Core.Path.{◌≡◌, refl, ap}
use mathlib.Core.Bool.{true, false}
use mathlib.Core.List.{List, [], ◌∷◌, ◌++◌}
use mathlib.Core.Option.{some}
use Rattle.ledger.specs.Slot.{Outcome}
use Rattle.ledger.specs.Loading.{Loading, loaded_key}
use Rattle.ledger.specs.Publishing.{Publishing}
use Rattle.ledger.specs.Questions.{Question}
use Rattle.ledger.specs.Calls.{Call, load, publish, ask, drop_key, run, answered}
use Rattle.ledger.specs.Ledger.{Ledger, blank, ledger_number, entered, fed, ledger_after, expected}

-- the ledger after one call
abbrev pub ledger_next : Ledger → Call → Ledger
ledger_next l c = fed (ledger_number l c) l c

-- with a number it stays
pub next_refused : (l : Ledger) (c : Call) (n : ℕ) → ledger_number l c ≡ suc n → ledger_next l c ≡ l
unfolding fed
next_refused l c n e = ap (λ (i : ℕ). fed i l c) e

pub next-accepted : (l : Ledger) (c : Call) → ledger_number l c ≡ 0 → ledger_next l c ≡ entered l c
unfolding fed
next-accepted l c e = ap (λ (i : ℕ). fed i l c) e

-- load enters its key, without mark
pub next_load : (l : Ledger) (f : Loading) → ledger_number l (load f) ≡ 0 → ledger_next l (load f) ≡ record { key = some (loaded_key f); mark = false }
unfolding entered
next_load l f e = next-accepted l (load f) e

-- publish sets the mark beside the same key
pub next_publish : (l : Ledger) (p : Publishing) → ledger_number l (publish p) ≡ 0 → ledger_next l (publish p) ≡ record { key = l.key; mark = true }
unfolding entered
next_publish l p e = next-accepted l (publish p) e

-- drop takes key and mark away
pub next-drop : (l : Ledger) → ledger_number l drop_key ≡ 0 → ledger_next l drop_key ≡ blank
unfolding entered
next-drop l e = next-accepted l drop_key e

-- a question leaves it, with and without a number
pub next_question : (l : Ledger) (q : Question) → ledger_next l (ask q) ≡ l
unfolding entered fed
next_question l q = go (ledger_number l (ask q))
  where
    go : (n : ℕ) → fed n l (ask q) ≡ l
    go zero = refl
    go (suc n) = refl

-- Lists of calls one behind another.
pub ledger_append : (l : Ledger) (cs ds : List Call) → ledger_after l (cs ++ ds) ≡ ledger_after (ledger_after l cs) ds
unfolding ledger_after
ledger_append l [] ds = refl
ledger_append l (c ∷ cs) ds = ledger_append (ledger_next l c) cs ds

pub run-append : {S C : Type 0} (call : S → C → Outcome S) (s : S) (cs ds : List C) → run call s (cs ++ ds) ≡ run call (run call s cs) ds
unfolding run
run-append call s [] ds = refl
run-append call s (c ∷ cs) ds = run-append call _ cs ds

pub answered-append : {S C : Type 0} (call : S → C → Outcome S) (s : S) (cs ds : List C)
    → answered call s (cs ++ ds) ≡ answered call s cs ++ answered call (run call s cs) ds
unfolding answered run
answered-append call s [] ds = refl
answered-append call s (c ∷ cs) ds = ap (◌∷◌ (call s c).number) (answered-append call (call s c).station cs ds)

pub expected-append : (l : Ledger) (cs ds : List Call) → expected l (cs ++ ds) ≡ expected l cs ++ expected (ledger_after l cs) ds
unfolding expected ledger_after
expected-append l [] ds = refl
expected-append l (c ∷ cs) ds = ap (◌∷◌ (ledger_number l c)) (expected-append (ledger_next l c) cs ds)

-- one call more: what it finds is what the calls before left
pub ledger_last : (l : Ledger) (cs : List Call) (c : Call) → ledger_after l (cs ++ (c ∷ [])) ≡ ledger_next (ledger_after l cs) c
unfolding ledger_after
ledger_last l cs c = ledger_append l cs (c ∷ [])

pub run-last : {S C : Type 0} (call : S → C → Outcome S) (s : S) (cs : List C) (c : C) → run call s (cs ++ (c ∷ [])) ≡ (call (run call s cs) c).station
unfolding run
run-last call s cs c = run-append call s cs (c ∷ [])
