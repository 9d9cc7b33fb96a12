-- Two recipients whose slots show what the definitions' do meet the demands. Assumes nothing.
use Prim.Native.Nat.{ℕ, suc}
use mathlib.Core.Path.{◌≡◌, sym, ap, ◌∙◌, subst}
use mathlib.Core.Logic.{◌↔◌, inl, inr, ⊎_elim}
use mathlib.Core.Bool.{Bool, true}
use mathlib.Core.List.{List, [], ◌∷◌}
use mathlib.Core.Option.{none, some}
use native.Mathlib.Omega.{arith}
use Rattle.field.specs.Numbers.{First, Clear}
use Rattle.field.specs.Numbers as Numbers
use Rattle.key.specs.Keys.{Key}
use Rattle.ledger.specs.Slot.{published, Slot, Held, held_by, Outcome}
use Rattle.ledger.specs.Calls.{Call, load, run}
use Rattle.ledger.specs.Ledger.{blank}
use Rattle.ledger.specs.Systems.{System}
use Rattle.ledger.specs.Demands.{key_held, at, Refuses}
use Rattle.ledger.specs.OwnWords.{SomePublish, Loaded}
use Rattle.ledger.proofs.StepLaws.{step-number}
use Rattle.ledger.proofs.Numbers.{without_first, calls_without_35}
use Rattle.ledger.proofs.Agreement.{nothing}
use Rattle.ledger.proofs.Demand3.{differ}
use Rattle.ledger.proofs.Simulation.{Simulates, definitions_simulate, same_number, run-fresh, after_shown, demands}
use Rattle.ledger.proofs.OwnWords.{own_words}
use Rattle.ledger.proofs.Reports.{import_report}
use Rattle.ledger.proofs.Sessions.{session_keys}
use Rattle.ledger.proofs.Marks.{marked_readings}
use Rattle.ledger.proofs.Exchange.{exchange_keys}
use Rattle.ledger.proofs.SmallPublish.{small_publish}
use Rattle.recipients.specs.Names.{Name, name_of, NamedCall, naming, calls_of}
use Rattle.recipients.specs.Recipients.{unknown, Recipients, recipient, definitions}
use Rattle.recipients.specs.Ledgers.{blanks}
use Rattle.recipients.specs.Demands.{RefusesNamed, AfterEveryNamedList, HoldsNamed, NamedDemands}
use Rattle.recipients.proofs.NameLaws.{name_byte, Addressed, one, nobody, addressed}
use Rattle.recipients.proofs.Slotted.{Slotted, definitions_slotted, of_both, nobody_call}
use Rattle.recipients.proofs.Apart.{apart}
use Rattle.recipients.proofs.Simulation.{recipient_simulates, shown_after}
use Rattle.recipients.proofs.LedgersLaws.{conditions_one, conditions_nobody, numbers-named}

module _ (r : Recipients) (p : Slotted r) (sim : Simulates r.slots) where
  sims : (x : Name) → Simulates (recipient r x)
  sims x = recipient_simulates r p sim x

  -- what the slots of a station hold
  abbrev holding : r.Stations → Name → Held
  holding s x = held_by (r.slots.view (r.slot x s))

  -- no slot's call answers 35
  never_35 : (x : Name) (s : r.Stations) (d : Call) → (r.call s (naming x d)).number ≡ 35 → ⊥
  never_35 x s d e =
      without_first 34 _ (calls_without_35 (holding s x) d)
      (sym (same_number (recipient r x) (sims x) s d ∙ step-number (r.slots.view (r.slot x s)) d) ∙ e)

  -- a call that names x is refused as that recipient's
  refuses_one : (s : r.Stations) (x : Name) (d : Call) → RefusesNamed r s (naming x d)
  refuses_one s x d =
      let q : Refuses (recipient r x) s d = (demands (recipient r x) (sims x)).demand_1 s d in
      let cs = sym (conditions_one (holding s) x d) in
      record {
        number = λ n e. subst (λ (l : List (Bool × ℕ)). First l (suc n)) cs (Numbers.later (q.number n e));
        accepts = λ e. subst Clear cs (Numbers.later (q.accepts e));
        station = q.station;
        ones = q.ones;
        answer = q.answer;
        output = q.output;
        work = q.work;
        workspace = ⊎_elim (λ z. inl z) (λ z. inr (x, name_byte x, z)) q.workspace;
        unknown_name = λ h. let i : none ≡ some x = sym h ∙ name_byte x in differ (cc);
        known_name = λ e. absurd (never_35 x s d e);
      }

  -- one that names nobody is refused with 35
  refuses_nobody : (s : r.Stations) (c : NamedCall) → name_of c.name ≡ none → RefusesNamed r s c
  unfolding unknown
  refuses_nobody s c h =
      let q = nobody_call r p s c h in
      let cs = sym (conditions_nobody (holding s) c h) in
      record {
        number = λ n e.
            let i : suc n ≡ 35 = sym e ∙ ap (λ (o : Outcome r.Stations). o.number) q in
            subst (λ (l : List (Bool × ℕ)). First l (suc n)) cs (subst (λ (k : ℕ). First ((true, 35) ∷ []) k) (sym i) Numbers.holds);
        accepts = λ e. absurd (omega (arith, ap (λ (o : Outcome r.Stations). o.number) q));
        station = λ n e. ap (λ (o : Outcome r.Stations). o.station) q;
        ones = λ n e. ap (λ (o : Outcome r.Stations). o.count) q;
        answer = λ n e. ap (λ (o : Outcome r.Stations). o.answer) q;
        output = λ n e. ap (λ (o : Outcome r.Stations). o.output) q;
        work = λ n e other. ap (λ (o : Outcome r.Stations). o.free) q;
        workspace = inl (ap (λ (o : Outcome r.Stations). o.free) q);
        unknown_name = λ i. q;
        known_name = λ e. h;
      }

  refuses-named : (s : r.Stations) (c : NamedCall) → RefusesNamed r s c
  refuses-named s c = go (addressed c)
    where
      go : {c : NamedCall} → Addressed c → RefusesNamed r s c
      go (one x d) = refuses_one s x d
      go (nobody {c = c} h) = refuses_nobody s c h

  -- every list of calls
  after_every-named_list : AfterEveryNamedList r
  after_every-named_list calls =
      record {
        numbers = numbers-named r p sim r.fresh blanks (λ x. rw (of_both x blank, (sims x).fresh) nothing) calls;
        named = λ x. after_shown (recipient r x) (sims x) (calls_of x calls) (run r.call r.fresh calls) (shown_after r p sim x calls);
      }

  holds_named : (x : Name) (calls : List NamedCall) (k : Key) → HoldsNamed r x calls k
  holds_named x calls k =
      let sys : System = recipient r x in
      let w = own_words sys (sims x) in
      let own : List Call = calls_of x calls in
      let e = run-fresh sys (sims x) own ∙ sym (shown_after r p sim x calls) in
      record {
        held = subst (λ (v : Slot). (key_held v ≡ some k) ↔ Loaded sys r.fresh own k) e (w.holds_the_load own k);
        marked = subst (λ (v : Slot). (v ≡ at published k) ↔ ((l : Loaded sys r.fresh own k)
            × SomePublish sys (sys.call (run sys.call r.fresh l.before) (load l.form)).station l.after)) e (w.holds_the_mark own k);
        reading_only = λ h i. sym e ∙ ((exchange_keys sys (sims x)).kept own k h i).1;
      }

  pub named_demands : NamedDemands r
  named_demands =
      record {
        demand_1 = refuses-named;
        demand_2 = λ x. (demands (recipient r x) (sims x)).demand_2;
        after_every_list = after_every-named_list;
        holds = holds_named;
        locks_and_opens = λ x. (own_words (recipient r x) (sims x)).locks_and_opens;
        reads_code_words = λ x. (own_words (recipient r x) (sims x)).reads_code_words;
        import_report = λ x. import_report (recipient r x) (sims x);
        session_keys = λ x. session_keys (recipient r x) (sims x);
        marked_readings = λ x. marked_readings (recipient r x) (sims x);
        exchange_keys = λ x. exchange_keys (recipient r x) (sims x);
        small_publish = λ x. small_publish (recipient r x) (sims x);
        apart = apart r p;
      }

-- the definitions themselves
pub definitions_demands : NamedDemands definitions
definitions_demands = named_demands definitions definitions_slotted definitions_simulate
