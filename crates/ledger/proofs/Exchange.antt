-- Exchange keys: 34 at publish and at every question that opens, directly after 25, and nowhere else. Assumes nothing.
use Prim.Native.Nat.{ℕ, suc, ◌<◌}
use mathlib.Core.Path.{◌≡◌, refl, sym, ap, ◌∙◌}
use mathlib.Core.Bool.{Bool, true, false, false≢true, true≢false, not, cond}
use mathlib.Core.List.{List, [], ◌∷◌}
use mathlib.Core.Option.{none, some}
use native.Mathlib.Nat.{mul-pos}
use native.Mathlib.Omega.{arith}
use lib.Dec.{ltb}
use borrow.Author.Tests.{lt-ltb}
use Rattle.field.specs.Numbers.{first_of}
use Rattle.field.proofs.Numbers.{first-clear}
use Rattle.key.specs.Keys.{Key, file_of, conditions, file_conditions, key_number, reducible}
use Rattle.key.proofs.Accepted.{Accepted, accepted}
use Rattle.key.proofs.Parse.{accepted_file}
use Rattle.network_key.specs.Files.{network_conditions}
use Rattle.code.specs.PublicKey.{dependent}
use Rattle.code.specs.Publish.{capsule_bits, public_bytes, work_bytes, publish_checks_within, publish_conditions_within}
use Rattle.code.proofs.Exchange.{exchangeable, exchange_refused}
use Rattle.decoder.specs.Calls.{open_conditions, read_conditions}
use Rattle.marks.specs.Marked.{marked_conditions}
use Rattle.records.specs.Records.{report_conditions}
use Rattle.records.proofs.Values.{bits_some, bytes_some}
use Rattle.session.specs.Session.{session_conditions}
use Rattle.ledger.specs.Slot.{State, empty, loaded, published, Slot, Held, is_empty, held_by}
use Rattle.ledger.specs.Loading.{key_file, network_file, loading_conditions, loaded_key}
use Rattle.ledger.specs.Publishing.{systematic, public_buffer, work_buffer, needed_bytes, publishing_conditions}
use Rattle.ledger.specs.Questions.{open_capsule, read_word, read_marked, report, derive_session_key, question_conditions}
use Rattle.ledger.specs.Calls.{Call, load, publish, ask, drop_key, conditions_of, output_of, no_answer, step}
use Rattle.ledger.specs.Ledger.{Ledger, blank}
use Rattle.ledger.specs.Systems.{System, definitions}
use Rattle.ledger.specs.Demands.{at, key_held}
use Rattle.ledger.specs.Exchange.{opens, exchanges, ExchangeKeys}
use Rattle.ledger.proofs.Numbers.{without, without_first}
use Rattle.ledger.proofs.StepLaws.{outcome, step-number, load_station}
use Rattle.ledger.proofs.Agreement.{Agree, nothing, held, marked, sound_held, agree_run}
use Rattle.ledger.proofs.Demand2.{at_held}
use Rattle.ledger.proofs.Demand3.{differ}
use Rattle.ledger.proofs.Simulation.{Simulates, definitions_simulate, same_number, same_station, run-fresh, demands}
use Rattle.ledger.proofs.CodeWords.{reads}

-- the calls that exchange begin with 21, 25, 34, and have 34 once
record Begins (h : Held) (c : Call) : Type 0 where
  others : List (Bool × ℕ)
  begins : conditions_of h c ≡ (h.missing, 21) ∷ (h.unsound, 25) ∷ (reducible h.key, 34) ∷ others
  once : without 34 others ≡ true

exchange_begins : (h : Held) (c : Call) → exchanges c ≡ true → Begins h c
unfolding exchanges opens conditions_of publishing_conditions publish_conditions_within publish_checks_within question_conditions open_conditions report_conditions session_conditions without
exchange_begins h (load f) e = absurd (false≢true e)
exchange_begins h (publish p) e = record { others = _; begins = refl; once = refl }
exchange_begins h (ask (open_capsule capsule out)) e = record { others = _; begins = refl; once = refl }
exchange_begins h (ask (read_word word out)) e = absurd (false≢true e)
exchange_begins h (ask (read_marked word marks out)) e = absurd (false≢true e)
exchange_begins h (ask (report capsules records)) e = record { others = _; begins = refl; once = refl }
exchange_begins h (ask (derive_session_key capsule secret)) e = record { others = _; begins = refl; once = refl }
exchange_begins h drop_key e = absurd (false≢true e)

-- the others have no 34
others_without : (h : Held) (c : Call) → exchanges c ≡ false → without 34 (conditions_of h c) ≡ true
unfolding exchanges opens conditions_of loading_conditions file_conditions network_conditions conditions question_conditions read_conditions marked_conditions without
others_without h (load (key_file file)) e = refl
others_without h (load (network_file file)) e = refl
others_without h (publish p) e = absurd (true≢false e)
others_without h (ask (open_capsule capsule out)) e = absurd (true≢false e)
others_without h (ask (read_word word out)) e = refl
others_without h (ask (read_marked word marks out)) e = refl
others_without h (ask (report capsules records)) e = absurd (true≢false e)
others_without h (ask (derive_session_key capsule secret)) e = absurd (true≢false e)
others_without h drop_key e = refl

-- the number 34 of such a list
first_34 : (a b : Bool) (k : Key) (others : List (Bool × ℕ)) → a ≡ false → b ≡ false → reducible k ≡ true
    → first_of ((a, 21) ∷ (b, 25) ∷ (reducible k, 34) ∷ others) ≡ 34
unfolding first_of
first_34 a b k others p q r = rw p (exchange_refused b k others q r)

only_34 : (a b r : Bool) (others : List (Bool × ℕ)) → without 34 others ≡ true → first_of ((a, 21) ∷ (b, 25) ∷ (r, 34) ∷ others) ≡ 34 → r ≡ true
unfolding first_of
only_34 true b r others w e = absurd (omega arith)
only_34 false true r others w e = absurd (omega arith)
only_34 false false true others w e = refl
only_34 false false false others w e = absurd (without_first 33 others w e)

-- on the definitions' slots
module _ (s : Slot) (c : Call) where
  refused_34 : (k : Key) → key_held s ≡ some k → key_number k ≡ 0 → reducible k ≡ true → exchanges c ≡ true → (step s c).number ≡ 34
  unfolding at
  refused_34 k h good r x =
      at_held (λ (y : Slot). (step y c).number ≡ 34) s k h
      (λ state e.
      let b = exchange_begins (record { missing = is_empty state; unsound = false; unpublished = _; key = k }) c x in
      step-number (at state k) c ∙ ap (λ (y : Held). first_of (conditions_of y c)) (sound_held state k good) ∙ ap first_of b.begins ∙ first_34 _ _ k _ e refl r)

  answered_34 : (step s c).number ≡ 34 → (reducible s.key ≡ true) × (exchanges c ≡ true)
  unfolding held_by
  answered_34 e = go (exchanges c) refl
    where
      n : first_of (conditions_of (held_by s) c) ≡ 34
      n = sym (step-number s c) ∙ e

      go : (b : Bool) → exchanges c ≡ b → (reducible s.key ≡ true) × (exchanges c ≡ true)
      go true x = let b = exchange_begins (held_by s) c x in (only_34 _ _ _ b.others b.once (sym (ap first_of b.begins) ∙ n), x)
      go false x = absurd (without_first 33 _ (others_without (held_by s) c x) n)

  accepted_irreducible : exchanges c ≡ true → (step s c).number ≡ 0 → reducible s.key ≡ false
  unfolding held_by
  accepted_irreducible x e =
      let b = exchange_begins (held_by s) c x in
      (exchangeable _ s.key _ (first-clear _ 20 _ (sym (ap first_of b.begins) ∙ sym (step-number s c) ∙ e)).1).irreducible

-- load of a key's file where no key is held
no_key_lem : (state : State) (k : Key) → key_held (at state k) ≡ none → is_empty state ≡ true
unfolding key_held at is_empty
no_key_lem empty k h = refl
no_key_lem loaded k h = differ (cc)
no_key_lem published k h = differ (cc)

load_first : (a : Bool) (cs : List (Bool × ℕ)) → a ≡ true → first_of cs ≡ 0 → first_of ((not a, 22) ∷ cs) ≡ 0
unfolding first_of
load_first a cs p e = rw p e

file_loads : (s : Slot) (k : Key) → key_held s ≡ none → key_number k ≡ 0
    → ((step s (load (key_file (file_of k)))).number ≡ 0) × ((step s (load (key_file (file_of k)))).station ≡ at loaded k)
unfolding at held_by conditions_of loading_conditions loaded_key
file_loads s k h good =
    let f = accepted_file k good in
    let e = step-number s (load (key_file (file_of k))) ∙ load_first _ _ (no_key_lem s.state s.key h) f.0 in
    (e, load_station s (key_file (file_of k)) e ∙ ap (at loaded) f.1)

-- publish without room: the public key has a byte
public_some : (k : Key) → key_number k ≡ 0 → 0 < public_bytes k
unfolding capsule_bits
public_some k good = let a : Accepted k = accepted k good in mul-pos (bits_some k good) (bytes_some refl (omega (arith, a.limits.over)))

asked_first : (a r o w d : Bool) → a ≡ false → o ≡ true → first_of ((a, 21) ∷ (false, 25) ∷ (r, 34) ∷ (o, 10) ∷ (w, 11) ∷ (d, 23) ∷ []) ≡ cond r 34 10
unfolding first_of
asked_first a r o w d p q = rw (p, q)

asked_number : (s : Slot) (k : Key) → key_held s ≡ some k → key_number k ≡ 0 → (step s (publish (systematic [] []))).number ≡ cond (reducible k) 34 10
unfolding at conditions_of publishing_conditions publish_checks_within publish_conditions_within public_buffer work_buffer needed_bytes
asked_number s k h good =
    at_held (λ (y : Slot). (step y (publish (systematic [] []))).number ≡ cond (reducible k) 34 10) s k h
    (λ state e.
    step-number (at state k) (publish (systematic [] []))
    ∙ ap (λ (y : Held). first_of (conditions_of y (publish (systematic [] [])))) (sound_held state k good)
    ∙ asked_first (is_empty state) (reducible k) (ltb 0 (public_bytes k)) (ltb 0 (work_bytes k)) (dependent k) e (lt-ltb _ _ (public_some k good)))

-- a reducible key that the ledger has
kept_loaded : {s : Slot} {l : Ledger} → Agree s l → (k : Key) → l.key ≡ some k → reducible k ≡ true → (l.mark ≡ false) × (s ≡ at loaded k)
unfolding blank at
kept_loaded nothing k e r = differ (cc)
kept_loaded (held {k = j} h) k e r = let q : j ≡ k = cc in (refl, ap (at loaded) q)
kept_loaded (marked {k = j} h i p) k e r = let q : j ≡ k = cc in absurd (true≢false (sym r ∙ ap reducible (sym q) ∙ i))

module _ (sys : System) (sim : Simulates sys) where
  unchanged : (s : sys.Stations) (b : Bool) → (sys.call s (publish (systematic [] []))).number ≡ cond b 34 10
      → sys.call s (publish (systematic [] [])) ≡ record { station = s; number = cond b 34 10; output = []; count = 0; answer = []; free = 0 }
  unfolding output_of public_buffer no_answer
  unchanged s b e = go b e
    where
      by : (n : ℕ) → (suc n ≡ 23 → ⊥) → (sys.call s (publish (systematic [] []))).number ≡ suc n
          → sys.call s (publish (systematic [] [])) ≡ record { station = s; number = suc n; output = []; count = 0; answer = []; free = 0 }
      by n other e =
          let d = (demands sys sim).demand_1 s (publish (systematic [] [])) in
          outcome (d.station n e) e (d.output n e) (d.ones n e) (d.answer n e) (d.work n e other)

      go : (b : Bool) → (sys.call s (publish (systematic [] []))).number ≡ cond b 34 10
          → sys.call s (publish (systematic [] [])) ≡ record { station = s; number = cond b 34 10; output = []; count = 0; answer = []; free = 0 }
      go true e = by 33 (λ z. omega arith) e
      go false e = by 9 (λ z. omega arith) e

  pub exchange_keys : ExchangeKeys sys
  exchange_keys =
      record {
        refused = λ s k c h good r x. same_number sys sim s c ∙ refused_34 (sys.view s) c k h good r x;
        never = λ s c e. answered_34 (sys.view s) c (sym (same_number sys sim s c) ∙ e);
        only_exchange = λ s c x e. accepted_irreducible (sys.view s) c x (sym (same_number sys sim s c) ∙ e);
        loads = λ s k h good.
            let c = load (key_file (file_of k)) in
            let l = file_loads (sys.view s) k h good in
            (same_number sys sim s c ∙ l.0, same_station sys sim s c ∙ l.1);
        reads = λ s k word out h good formed long. reads sys sim k s word out h good formed long;
        kept = λ calls k e r. let l = kept_loaded (agree_run nothing calls) k e r in (l.0, run-fresh sys sim calls ∙ l.1);
        asked = λ s k h good. unchanged s (reducible k) (same_number sys sim s (publish (systematic [] [])) ∙ asked_number (sys.view s) k h good);
      }

-- the definitions themselves
pub definitions-exchange : ExchangeKeys definitions
definitions-exchange = exchange_keys definitions definitions_simulate
