-- Publish with the small workspace beside the first form. Assumes nothing.
use Prim.Native.Nat.{ℕ, zero, suc, ◌<◌}
use mathlib.Core.Path.{◌≡◌, refl, sym, ap, ◌∙◌}
use mathlib.Core.Bool.{Bool, true, false, cond, ◌||◌}
use mathlib.Core.List.{List, [], ◌∷◌, flat_map}
use mathlib.Core.Option.{some}
use lib.Dec.{eqb, ltb}
use lib.ListN.{length}
use borrow.Author.Tests.{lt-ltb}
use Rattle.bits.specs.Bits.{pack, over}
use Rattle.field.specs.Numbers.{first_of}
use Rattle.key.specs.Keys.{Key, unsound, reducible}
use Rattle.code.specs.PublicKey.{Matrix, public_key, dependent}
use Rattle.code.specs.Publish.{public_bytes, small_bytes, publish_checks_within, publish_conditions_within, free_bytes_within}
use Rattle.ledger.specs.Slot.{Slot, is_empty, held_by, Result}
use Rattle.ledger.specs.Publishing.{Publishing, systematic, small, public_buffer, work_buffer, needed_bytes, publishing_conditions, publication, freed_bytes}
use Rattle.ledger.specs.Calls.{Call, publish, conditions_of, output_of, no_answer, made, unless, step}
use Rattle.ledger.specs.Systems.{System, definitions}
use Rattle.ledger.specs.Demands.{at, key_held}
use Rattle.ledger.specs.SmallPublish.{unfreed, small_checks, SmallPublish}
use Rattle.ledger.proofs.StepLaws.{outcome, call_number, step-number, step_free}
use Rattle.ledger.proofs.Demand2.{at_held, form_output}
use Rattle.ledger.proofs.Found.{Publishes, publish_found}
use Rattle.ledger.proofs.Simulation.{Simulates, definitions_simulate, same_number, same_output, same_count, same_answer, same_free}

-- two forms with the same output buffer, whose workspaces are both too short or neither
module _ (s : Slot) (p q : Publishing) (b : public_buffer p ≡ public_buffer q)
    (w : ltb (length (work_buffer p)) (needed_bytes s.key p) ≡ ltb (length (work_buffer q)) (needed_bytes s.key q)) where
  alike_number : call_number s (publish p) ≡ call_number s (publish q)
  unfolding conditions_of publishing_conditions publish_conditions_within publish_checks_within held_by
  alike_number = rw (b, w) refl

  alike_step : unfreed (step s (publish p)) ≡ unfreed (step s (publish q))
  unfolding step unless made output_of no_answer publication unfreed
  alike_step = ap (λ (i : ℕ). unfreed (unless i s (publish p) (made s (publish p)))) alike_number ∙ go (call_number s (publish q))
    where
      go : (i : ℕ) → unfreed (unless i s (publish p) (made s (publish p))) ≡ unfreed (unless i s (publish q) (made s (publish q)))
      go zero = rw b refl
      go (suc i) = rw b refl

-- the number with a workspace that is too short
short_first : (a b c d e f : Bool) → a ≡ false → e ≡ true
    → first_of ((a, 21) ∷ (b, 25) ∷ (c, 34) ∷ (d, 10) ∷ (e, 11) ∷ (f, 23) ∷ []) ≡ first_of ((b, 25) ∷ (c, 34) ∷ (d, 10) ∷ (true, 11) ∷ [])
unfolding first_of
short_first a true c d e f p q = rw p refl
short_first a false true d e f p q = rw p refl
short_first a false false true e f p q = rw p refl
short_first a false false false e f p q = rw (p, q) refl

short_number : (s : Slot) (k : Key) (out tight : List ℕ) → key_held s ≡ some k → length tight < small_bytes k
    → (step s (publish (small out tight))).number ≡ first_of ((unsound k, 25) ∷ (reducible k, 34) ∷ (ltb (length out) (public_bytes k), 10) ∷ (true, 11) ∷ [])
unfolding at held_by conditions_of publishing_conditions publish_conditions_within publish_checks_within public_buffer work_buffer needed_bytes
short_number s k out tight h l =
    at_held (λ (x : Slot). (step x (publish (small out tight))).number ≡ first_of ((unsound k, 25) ∷ (reducible k, 34) ∷ (ltb (length out) (public_bytes k), 10) ∷ (true, 11) ∷ [])) s k h
    (λ state e.
    step-number (at state k) (publish (small out tight))
    ∙ short_first (is_empty state) (unsound k) (reducible k) (ltb (length out) (public_bytes k)) (ltb (length tight) (small_bytes k)) (dependent k) e (lt-ltb _ _ l))

-- the free bytes, by the checks and by the number
free_first : (a : Bool) (cs : List (Bool × ℕ)) (n : ℕ) → cond a 0 (cond (eqb (first_of cs) 0) n 0) ≡ cond (eqb (first_of ((a, 21) ∷ cs)) 0) n 0
unfolding first_of
free_first true cs n = refl
free_first false cs n = refl

number-first : (a b c d e f : Bool) (n : ℕ)
    → cond (eqb (first_of ((a, 21) ∷ (b, 25) ∷ (c, 34) ∷ (d, 10) ∷ (e, 11) ∷ [])) 0) n 0
    ≡ (let r = first_of ((a, 21) ∷ (b, 25) ∷ (c, 34) ∷ (d, 10) ∷ (e, 11) ∷ (f, 23) ∷ []) in cond (eqb r 0 || eqb r 23) n 0)
unfolding first_of
number-first true b c d e f n = refl
number-first false true c d e f n = refl
number-first false false true d e f n = refl
number-first false false false true e f n = refl
number-first false false false false true f n = refl
number-first false false false false false true n = refl
number-first false false false false false false n = refl

module _ (s : Slot) (out tight : List ℕ) where
  abbrev publishing : Call
  publishing = publish (small out tight)

  free_checks : (step s publishing).free ≡ cond (eqb (first_of (small_checks s out tight)) 0) (small_bytes s.key) 0
  unfolding made freed_bytes free_bytes_within publish_checks_within public_buffer work_buffer needed_bytes small_checks
  free_checks = step_free s publishing ∙ free_first (is_empty s.state) _ (small_bytes s.key)

  free_number : (step s publishing).free ≡ (let r = (step s publishing).number in cond (eqb r 0 || eqb r 23) (small_bytes s.key) 0)
  unfolding small_checks held_by conditions_of publishing_conditions publish_conditions_within publish_checks_within public_buffer work_buffer needed_bytes
  free_number =
      free_checks
      ∙ number-first (is_empty s.state) (unsound s.key) (reducible s.key) (ltb (length out) (public_bytes s.key)) (ltb (length tight) (small_bytes s.key)) (dependent s.key) (small_bytes s.key)
      ∙ ap (λ (r : ℕ). cond (eqb r 0 || eqb r 23) (small_bytes s.key) 0) (sym (step-number s publishing))

module _ (sys : System) (sim : Simulates sys) where
  -- forms that the definitions answer alike: the station is marked by both, or left by both
  answered_alike : (s : sys.Stations) (p q : Publishing) → unfreed (step (sys.view s) (publish p)) ≡ unfreed (step (sys.view s) (publish q))
      → unfreed (sys.call s (publish p)) ≡ unfreed (sys.call s (publish q))
  unfolding unfreed
  answered_alike s p q e =
      outcome
      station
      number
      (same_output sys sim s (publish p) ∙ ap (λ (x : Result). x.output) e ∙ sym (same_output sys sim s (publish q)))
      (same_count sys sim s (publish p) ∙ ap (λ (x : Result). x.count) e ∙ sym (same_count sys sim s (publish q)))
      (same_answer sys sim s (publish p) ∙ ap (λ (x : Result). x.answer) e ∙ sym (same_answer sys sim s (publish q)))
      refl
    where
      number : (sys.call s (publish p)).number ≡ (sys.call s (publish q)).number
      number = same_number sys sim s (publish p) ∙ ap (λ (x : Result). x.number) e ∙ sym (same_number sys sim s (publish q))

      go : (n : ℕ) → (sys.call s (publish q)).number ≡ n → (sys.call s (publish p)).station ≡ (sys.call s (publish q)).station
      go zero z = sim.marks s p (number ∙ z) ∙ sym (sim.marks s q z)
      go (suc n) z = sim.stays s (publish p) n (number ∙ z) ∙ sym (sim.stays s (publish q) n z)

      station : (sys.call s (publish p)).station ≡ (sys.call s (publish q)).station
      station = go (sys.call s (publish q)).number refl

  accepted : (s : sys.Stations) (out tight : List ℕ) → (sys.call s (publish (small out tight))).number ≡ 0
      → ((sys.call s (publish (small out tight))).station ≡ sys.marked s)
      × (rows : Matrix) × (public_key (sys.view s).key ≡ some rows) × ((sys.call s (publish (small out tight))).output ≡ over (flat_map pack rows) out)
  unfolding at public_buffer
  accepted s out tight e =
      let p : Publishing = small out tight in
      let z = sym (same_number sys sim s (publish p)) ∙ e in
      let f : Publishes (sys.view s) = publish_found (sys.view s) p z in (
        sim.marks s p e,
        f.rows,
        f.public,
        same_output sys sim s (publish p) ∙ form_output (sys.view s).key f.rows f.good f.public (sys.view s).state p z,
      )

  pub small_publish : SmallPublish sys
  unfolding public_buffer work_buffer needed_bytes
  small_publish =
      record {
        alike = λ s out work tight e.
            answered_alike s (small out tight) (systematic out work) (alike_step (sys.view s) (small out tight) (systematic out work) refl e);
        short = λ s k out tight h l. same_number sys sim s (publish (small out tight)) ∙ short_number (sys.view s) k out tight h l;
        free = λ s out tight. same_free sys sim s (publish (small out tight)) ∙ free_checks (sys.view s) out tight;
        free_by_number = λ s out tight.
            same_free sys sim s (publish (small out tight))
            ∙ free_number (sys.view s) out tight
            ∙ ap (λ (r : ℕ). cond (eqb r 0 || eqb r 23) (small_bytes (sys.view s).key) 0) (sym (same_number sys sim s (publish (small out tight))));
        publishes = accepted;
      }

-- the definitions themselves
pub definitions_small_publish : SmallPublish definitions
definitions_small_publish = small_publish definitions definitions_simulate
