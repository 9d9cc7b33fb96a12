-- The computed tables hold of every system that shows what the definitions do. Assumes nothing.
use mathlib.Core.Path.{◌≡◌, refl, ap, ap₂, ◌∙◌}
use mathlib.Core.Bool.{Bool, true, ◌&&◌}
use mathlib.Core.List.{List, [], ◌∷◌, map, flat_map}
use lib.Dec.{eqb}
use lib.ListN.{length}
use Rattle.bits.specs.Bits.{from}
use Rattle.bits.proofs.Lists.{and_left, and_right}
use Rattle.key.specs.Keys.{pair, elements, parse, two_bytes, file_of}
use Rattle.key.specs.Bench.{K1, K1-with}
use Rattle.ledger.specs.Slot.{Slot, Result}
use Rattle.ledger.specs.Calls.{step, run}
use Rattle.ledger.specs.Systems.{System}
use Rattle.ledger.proofs.Simulation.{Simulates, seen, run-fresh}
use Rattle.ledger_tables.proofs.Table.{Asked, after, on, frees, counts, lock_shape, locks, times, Answer, free, answer_of, counts_in, rows, running, orders, small_orders, bad, file, factored_file, factored, bad_factored, published_1, two_bytes_lem, reports}
use Rattle.ledger_tables.proofs.Table as Definitions

-- the key's lists have the lengths n and t, so that it can be kept
unfoldable pub sized : Slot → Bool
sized s = eqb (length s.key.support) s.key.n && eqb (length s.key.g) s.key.t

unfoldable fits : Asked → Bool
fits (after calls c) = true
fits (on s c) = sized s
fits (frees s c) = sized s
fits (counts s c) = sized s
fits (lock_shape m n t public pattern out) = true
fits (locks file pattern out) = true
fits (times m a b) = true

unfoldable all_fit : List (Asked × Answer) → Bool
all_fit [] = true
all_fit (r ∷ rs) = fits r.0 && all_fit rs

-- a system, and its station for a slot of the definitions
module _ (sys : System) (store : Slot → sys.Stations) where
  -- what a row asks, of the system's calls; locking and products are no calls of a station
  unfoldable pub answer : Asked → Answer
  answer (after calls c) = answer_of (sys.call (run sys.call sys.fresh calls) c)
  answer (on s c) = answer_of (sys.call (store s) c)
  answer (frees s c) = free (sys.call (store s) c).free
  answer (counts s c) = counts_in (sys.call (store s) c).answer
  answer (lock_shape m n t public pattern out) = Definitions.answer (lock_shape m n t public pattern out)
  answer (locks file pattern out) = Definitions.answer (locks file pattern out)
  answer (times m a b) = Definitions.answer (times m a b)

  -- every row of the table has its answer
  abbrev pub HoldsOf : List (Asked × Answer) → Type 0
  HoldsOf table = map (λ r. answer r.0) table ≡ map (λ r. r.1) table

  -- rows P1 to P13; document 01's facts by running; the orders of the numbers, in the small workspace too; the reports
  pub record Tables : Type 0 where
    pub rows_hold : HoldsOf rows
    pub running_holds : HoldsOf running
    pub orders_hold : HoldsOf orders
    pub small_orders_hold : HoldsOf small_orders
    pub reports_hold : HoldsOf reports

  module _ (sim : Simulates sys) (shown : (s : Slot) → sized s ≡ true → sys.view (store s) ≡ s) where
    same_answer : (a : Asked) → fits a ≡ true → answer a ≡ Definitions.answer a
    unfolding answer fits Definitions.answer seen answer_of
    same_answer (after calls c) h =
        ap (λ (r : Result). answer_of r) (sim.steps (run sys.call sys.fresh calls) c ∙ ap (λ (s : Slot). step s c) (run-fresh sys sim calls))
    same_answer (on s c) h = ap (λ (r : Result). answer_of r) (sim.steps (store s) c ∙ ap (λ (t : Slot). step t c) (shown s h))
    same_answer (frees s c) h = ap (λ (r : Result). free r.free) (sim.steps (store s) c ∙ ap (λ (t : Slot). step t c) (shown s h))
    same_answer (counts s c) h = ap (λ (r : Result). counts_in r.answer) (sim.steps (store s) c ∙ ap (λ (t : Slot). step t c) (shown s h))
    same_answer (lock_shape m n t public pattern out) h = refl
    same_answer (locks file pattern out) h = refl
    same_answer (times m a b) h = refl

    -- a table of rows that fit has the same answers
    same_answers : (table : List (Asked × Answer)) → all_fit table ≡ true → map (λ r. answer r.0) table ≡ map (λ r. Definitions.answer r.0) table
    unfolding all_fit
    same_answers [] h = refl
    same_answers (r ∷ rs) h =
        ap₂ ◌∷◌ (same_answer r.0 (and_left (fits r.0) (all_fit rs) h)) (same_answers rs (and_right (fits r.0) (all_fit rs) h))

    pub tables_hold : Tables
    unfolding all_fit fits sized rows running orders small_orders reports bad file factored_file factored bad_factored published_1 two_bytes_lem K1 parse elements pair from K1-with file_of two_bytes flat_map
    tables_hold =
        record {
          rows_hold = same_answers rows refl ∙ Definitions.rows_hold;
          running_holds = same_answers running refl ∙ Definitions.running_holds;
          orders_hold = same_answers orders refl ∙ Definitions.orders_hold;
          small_orders_hold = same_answers small_orders refl ∙ Definitions.small_orders_hold;
          reports_hold = same_answers reports refl ∙ Definitions.reports_hold;
        }
