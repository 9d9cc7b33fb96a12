-- A system whose calls show what the definitions' calls hand back meets the demands. Assumes nothing.
use Prim.Native.Nat.{ℕ, suc}
use mathlib.Core.Path.{◌≡◌, refl, sym, ap, ap₂, ◌∙◌}
use mathlib.Core.Logic.{inl, inr, ⊎_elim}
use mathlib.Core.List.{List, [], ◌∷◌}
use lib.ListN.{take}
use Rattle.bits.specs.Bits.{bytes_for}
use Rattle.code.specs.Publish.{public_bytes}
use Rattle.ledger.specs.Slot.{published, Slot, Outcome, Result}
use Rattle.ledger.specs.Slot as Definition
use Rattle.ledger.specs.Publishing.{Publishing}
use Rattle.ledger.specs.Questions.{Question, open_capsule, read_word, read_marked}
use Rattle.ledger.specs.Calls.{Call, publish, ask, step, run, answered}
use Rattle.ledger.specs.Ledger.{blank, ledger_after}
use Rattle.ledger.specs.Systems.{System, definitions}
use Rattle.ledger.specs.Demands.{capsule_of, lock_answer, Decides, Demand1, Demand2, RoundTrips, After, AfterEveryList, Demands}
use Rattle.ledger.proofs.StepLaws.{outcome, publish_station, question_station}
use Rattle.ledger.proofs.StepLaws as Step
use Rattle.ledger.proofs.Demand1 as Definitions1
use Rattle.ledger.proofs.Demand2 as Definitions2
use Rattle.ledger.proofs.Demand3 as Definitions3

-- what is handed back, with what its station shows
unfoldable pub seen : (sys : System) → Outcome sys.Stations → Result
seen sys r = record { station = sys.view r.station; number = r.number; output = r.output; count = r.count; answer = r.answer; free = r.free }

-- the calls show the definitions' step; where these leave the station or only mark it, so do the calls, in all that a station has
pub record Simulates (sys : System) : Type 0 where
  pub fresh : sys.view sys.fresh ≡ Definition.fresh
  pub marked : (s : sys.Stations) → sys.view (sys.marked s) ≡ record { state = published; key = (sys.view s).key }
  pub steps : (s : sys.Stations) (c : Call) → seen sys (sys.call s c) ≡ step (sys.view s) c
  pub stays : (s : sys.Stations) (c : Call) (n : ℕ) → (sys.call s c).number ≡ suc n → (sys.call s c).station ≡ s
  pub marks : (s : sys.Stations) (p : Publishing) → (sys.call s (publish p)).number ≡ 0 → (sys.call s (publish p)).station ≡ sys.marked s
  pub leaves : (s : sys.Stations) (q : Question) → (sys.call s (ask q)).station ≡ s

-- so do the definitions
pub definitions_simulate : Simulates definitions
unfolding seen
definitions_simulate =
    record {
      fresh = refl;
      marked = λ s. refl;
      steps = λ s c. refl;
      stays = Step.step_stays;
      marks = publish_station;
      leaves = question_station;
    }

module _ (sys : System) (sim : Simulates sys) where
  module _ (s : sys.Stations) (c : Call) where
    pub same_station : sys.view (sys.call s c).station ≡ (step (sys.view s) c).station
    unfolding seen
    same_station = ap (λ (r : Result). r.station) (sim.steps s c)

    pub same_number : (sys.call s c).number ≡ (step (sys.view s) c).number
    unfolding seen
    same_number = ap (λ (r : Result). r.number) (sim.steps s c)

    pub same_output : (sys.call s c).output ≡ (step (sys.view s) c).output
    unfolding seen
    same_output = ap (λ (r : Result). r.output) (sim.steps s c)

    pub same_count : (sys.call s c).count ≡ (step (sys.view s) c).count
    unfolding seen
    same_count = ap (λ (r : Result). r.count) (sim.steps s c)

    pub same_answer : (sys.call s c).answer ≡ (step (sys.view s) c).answer
    unfolding seen
    same_answer = ap (λ (r : Result). r.answer) (sim.steps s c)

    pub same_free : (sys.call s c).free ≡ (step (sys.view s) c).free
    unfolding seen
    same_free = ap (λ (r : Result). r.free) (sim.steps s c)

    -- all that a call hands back
    whole : (t : sys.Stations) (r : Result) → step (sys.view s) c ≡ r → (sys.call s c).station ≡ t
        → sys.call s c ≡ record { station = t; number = r.number; output = r.output; count = r.count; answer = r.answer; free = r.free }
    whole t r e q =
        outcome q
        (same_number ∙ ap (λ (x : Result). x.number) e)
        (same_output ∙ ap (λ (x : Result). x.output) e)
        (same_count ∙ ap (λ (x : Result). x.count) e)
        (same_answer ∙ ap (λ (x : Result). x.answer) e)
        (same_free ∙ ap (λ (x : Result). x.free) e)

    pub decides : (P : List ℕ → Type 0) (counted : List ℕ → ℕ) (refusal : ℕ) (out : List ℕ)
        → Decides P counted refusal out (step (sys.view s) c) → Decides P counted refusal out (sys.call s c)
    unfolding seen
    decides P counted refusal out d =
        let e : Decides P counted refusal out (seen sys (sys.call s c)) = rw (sim.steps s c) d in
        record { refuses = e.refuses; only = e.only; writes = e.writes }

  -- every list of calls
  pub same-run : (s : sys.Stations) (calls : List Call) → sys.view (run sys.call s calls) ≡ run step (sys.view s) calls
  unfolding run
  same-run s [] = refl
  same-run s (c ∷ cs) = same-run (sys.call s c).station cs ∙ ap (λ (t : Slot). run step t cs) (same_station s c)

  pub same-answered : (s : sys.Stations) (calls : List Call) → answered sys.call s calls ≡ answered step (sys.view s) calls
  unfolding answered
  same-answered s [] = refl
  same-answered s (c ∷ cs) =
      ap₂ ◌∷◌ (same_number s c)
      (same-answered (sys.call s c).station cs ∙ ap (λ (t : Slot). answered step t cs) (same_station s c))

  pub run-fresh : (calls : List Call) → sys.view (run sys.call sys.fresh calls) ≡ run step Definition.fresh calls
  run-fresh calls = same-run sys.fresh calls ∙ ap (λ (s : Slot). run step s calls) sim.fresh

  demand_1 : Demand1 sys
  demand_1 s c =
      let d = Definitions1.demand_1 (sys.view s) c in
      let q = sym (same_number s c) in
      record {
        number = λ n e. d.number n (q ∙ e);
        accepts = λ e. d.accepts (q ∙ e);
        station = sim.stays s c;
        ones = λ n e. same_count s c ∙ d.ones n (q ∙ e);
        answer = λ n e. same_answer s c ∙ d.answer n (q ∙ e);
        output = λ n e. same_output s c ∙ d.output n (q ∙ e);
        work = λ n e other. same_free s c ∙ d.work n (q ∙ e) other;
        workspace = ⊎_elim (λ z. inl (same_free s c ∙ z)) (λ z. inr (same_free s c ∙ z)) d.workspace;
      }

  demand_2 : Demand2 sys
  demand_2 k rows good irreducible public =
      let d : RoundTrips definitions k rows = Definitions2.demand_2 k rows good irreducible public in
      record {
        publishes = λ s p h long room.
            let e = d.publishes (sys.view s) p h long room in
            whole s (publish p) (sys.marked s) _ e (sim.marks s p (same_number s (publish p) ∙ ap (λ (x : Result). x.number) e));
        marks = λ s h. sim.marked s ∙ d.marks (sys.view s) h;
        public = λ s p h e.
            ap (take (public_bytes k)) (same_output s (publish p)) ∙ d.public (sys.view s) p h (sym (same_number s (publish p)) ∙ e);
        locks = d.locks;
        locked_opened = λ s pattern out p bytes formed count long.
            let q = open_capsule (capsule_of k rows pattern) out in
            whole s (ask q) s _ (d.locked_opened (sys.view s) pattern out p bytes formed count long) (sim.leaves s q);
        opened_locks = λ s capsule out buffer p e room.
            ap (λ (b : List ℕ). lock_answer k rows (take (bytes_for k.n) b) buffer) (same_output s (ask (open_capsule capsule out)))
            ∙ d.opened_locks (sys.view s) capsule out buffer p (sym (same_number s (ask (open_capsule capsule out))) ∙ e) room;
        opened_locked = λ s capsule out p bytes e.
            ap (λ (b : List ℕ). capsule_of k rows (take (bytes_for k.n) b)) (same_output s (ask (open_capsule capsule out)))
            ∙ d.opened_locked (sys.view s) capsule out p bytes (sym (same_number s (ask (open_capsule capsule out))) ∙ e);
      }

  -- after a list of calls, on every station that shows the definitions' slot after it
  pub after_shown : (calls : List Call) (s : sys.Stations) → sys.view s ≡ run step Definition.fresh calls → After sys calls s (ledger_after blank calls)
  after_shown calls s v =
      let a = rw (← v) at (Definitions3.after_every_list calls) in
      record {
        key = a.key;
        numbers = same-answered sys.fresh calls ∙ ap (λ (t : Slot). answered step t calls) sim.fresh ∙ a.numbers;
        opening = λ k e m. let o = a.opening k e m in (o.0, o.1, o.2, λ capsule out w long. decides s (ask (open_capsule capsule out)) _ _ _ out (o.3 capsule out w long));
        reading = λ k word out e w long. decides s (ask (read_word word out)) _ _ _ out (a.reading k word out e w long);
        marked_readings = λ k word marks out e w z long.
            decides s (ask (read_marked word marks out)) _ _ _ out (a.marked_readings k word marks out e w z long);
      }

  after_every_list : AfterEveryList sys
  after_every_list calls = after_shown calls (run sys.call sys.fresh calls) (run-fresh calls)

  pub demands : Demands sys
  demands = record { demand_1 = demand_1; demand_2 = demand_2; after_every_list = after_every_list }

-- the definitions themselves
pub definitions_demands : Demands definitions
definitions_demands = demands definitions definitions_simulate
