-- Demand 3's claim about every list of calls that name one recipient follows from the claim about every list of calls over both.
-- Assumes nothing.
use mathlib.Core.Path.{◌≡◌, refl, subst}
use mathlib.Core.List.{List, [], ◌∷◌, map}
use Rattle.ledger.specs.Slot.{Outcome}
use Rattle.ledger.specs.Calls.{Call, run}
use Rattle.ledger.specs.Ledger.{blank, ledger_after}
use Rattle.ledger.specs.Demands.{After, AfterEveryList}
use Rattle.recipients.specs.Names.{Name, naming}
use Rattle.recipients.specs.Recipients.{Recipients, recipient}
use Rattle.recipients.specs.Demands.{AfterEveryNamedList}
use Rattle.recipients.proofs.NameLaws.{calls_naming}

-- calls made from others
run-map : {S C D : Type 0} (call : S → D → Outcome S) (f : C → D) (s : S) (cs : List C)
    → run call s (map f cs) ≡ run (λ t c. call t (f c)) s cs
unfolding run
run-map call f s [] = refl
run-map call f s (c ∷ cs) = run-map call f (call s (f c)).station cs

pub one_recipient : (r : Recipients) → AfterEveryNamedList r → (x : Name) → AfterEveryList (recipient r x)
one_recipient r every x calls =
    subst (λ (s : r.Stations). After (recipient r x) calls s (ledger_after blank calls)) (run-map r.call (naming x) r.fresh calls)
    (subst (λ (cs : List Call). After (recipient r x) cs (run r.call r.fresh (map (naming x) calls)) (ledger_after blank cs)) (calls_naming x calls)
    ((every (map (naming x) calls)).named x))
