-- An accepted report: its records and counts. Assumes nothing.
use Prim.Native.Nat.{ℕ, ◌≤◌, ◌<◌}
use mathlib.Core.Path.{◌≡◌, refl, sym, ap, ◌∙◌}
use mathlib.Core.Logic.{◌↔◌}
use mathlib.Core.Bool.{Bool, true, false, true≢false, cond}
use mathlib.Core.List.{List, ◌∷◌}
use mathlib.Core.Option.{Option, none, some}
use native.Mathlib.Omega.{arith}
use borrow.Author.Tests.{not-false, eqb-true, ltb-false}
use lib.ListN.{length, get_or, take, drop}
use Rattle.bits.specs.Bits.{bytes_for, unpack, well_formed, over}
use Rattle.bits.proofs.Padded.{over_first, over_rest, over-at}
use Rattle.bits.proofs.Pack.{well_formed_lem, well_formed-length, well_formed-clear}
use Rattle.field.specs.Numbers.{first_of}
use Rattle.field.proofs.Numbers.{first-clear}
use Rattle.key.specs.Keys.{Key, key_number, unsound, reducible}
use Rattle.code.specs.PublicKey.{Matrix, public_key}
use Rattle.code.specs.Publish.{capsule_bits}
use Rattle.code.proofs.Exchange.{exchangeable}
use Rattle.decoder.specs.Reading.{opening}
use Rattle.decoder.specs.Calls.{is_none, open_conditions}
use Rattle.records.specs.Records.{capsules_of, capsule_conditions, record_of, records_of, counts_of, total, report_conditions}
use Rattle.records.proofs.Values.{record_values, record_open, record_length, record_opening, bits_some, bytes_some, records_length, records_sum, capsules_number, records_at}
use Rattle.ledger.specs.Slot.{Slot, is_empty, is_unpublished, held_by, Result}
use Rattle.ledger.specs.Questions.{open_capsule, report, question_conditions, given}
use Rattle.ledger.specs.Calls.{ask, conditions_of, made, step}
use Rattle.ledger.specs.Systems.{System}
use Rattle.ledger.specs.Demands.{Locks}
use Rattle.ledger.specs.Reports.{capsule_number, capsule_at, record_at, ImportReport}
use Rattle.ledger.proofs.StepLaws.{step-number, step-made}
use Rattle.ledger.proofs.Patterns.{opening_sound, opening_complete}
use Rattle.ledger.proofs.Simulation.{Simulates, same_number, same_output, same_answer}

-- a record is 0 exactly when the capsule is well-formed and some pattern locks to it
module _ (k : Key) (good : key_number k ≡ 0) (rows : Matrix) (public : public_key k ≡ some rows) (capsule : List ℕ) where
  pattern : (o : Option (List ℕ)) → opening k (unpack (capsule_bits k) capsule) ≡ o → is_none o ≡ false → (e : List ℕ) × Locks k rows capsule e
  unfolding is_none
  pattern none h n = absurd (true≢false n)
  pattern (some e) h n = (e, opening_sound k good rows public capsule e h)

  opened : (o : Option (List ℕ)) → opening k (unpack (capsule_bits k) capsule) ≡ o → (e : List ℕ) → Locks k rows capsule e → ◌≡◌ {A = ℕ} (cond (is_none o) 13 0) 0
  unfolding is_none
  opened none h e l = absurd (opening_complete k good rows public capsule h e l)
  opened (some d) h e l = refl

  record_exact : (record_of k capsule ≡ 0) ↔ ((well_formed (capsule_bits k) capsule ≡ true) × ((e : List ℕ) × Locks k rows capsule e))
  unfolding record_of capsule_conditions
  record_exact = (
    λ z.
        let c8 = first-clear _ 7 _ z in
        let c9 = first-clear _ 8 _ c8.1 in
        let c13 = first-clear _ 12 _ c9.1 in
        (well_formed_lem (capsule_bits k) capsule (eqb-true _ _ (not-false _ c8.0)) (not-false _ c9.0), pattern _ refl c13.0),
    λ p.
        let w = p.0 in
        record_opening k capsule (well_formed-length (capsule_bits k) capsule w) (well_formed-clear (capsule_bits k) capsule w)
        ∙ opened _ refl p.1.0 p.1.1,
  )

-- the definitions' report: what it found, and what it hands back
record Accepts (s : Slot) (capsules records : List ℕ) : Type 0 where
  held : is_empty s.state ≡ false
  sound : unsound s.key ≡ false
  good : key_number s.key ≡ 0
  irreducible : reducible s.key ≡ false
  marked : is_unpublished s.state ≡ false
  room : length (capsules_of s.key capsules) ≤ length records
  output : (step s (ask (report capsules records))).output ≡ over (records_of s.key capsules) records
  answer : (step s (ask (report capsules records))).answer ≡ counts_of (records_of s.key capsules)

report_accepts : (s : Slot) (capsules records : List ℕ) → (step s (ask (report capsules records))).number ≡ 0 → Accepts s capsules records
unfolding held_by conditions_of question_conditions report_conditions made given unsound
report_accepts s capsules records e =
    let c21 = first-clear _ 20 _ (sym (step-number s (ask (report capsules records))) ∙ e) in
    let x = exchangeable _ s.key _ c21.1 in
    let c24 = first-clear _ 23 _ x.rest in
    let c31 = first-clear _ 30 _ c24.1 in
    let m = step-made s (ask (report capsules records)) e in
    record {
      held = c21.0;
      sound = x.sound;
      good = eqb-true _ _ (not-false _ x.sound);
      irreducible = x.irreducible;
      marked = c24.0;
      room = ltb-false _ _ c31.0;
      output = ap (λ (r : Result). r.output) m;
      answer = ap (λ (r : Result). r.answer) m;
    }

-- with room for the pattern, open answers the record
record_first : (a b c : Bool) (k : Key) (capsule out : List ℕ) → a ≡ false → b ≡ false → c ≡ false → reducible k ≡ false → bytes_for k.n ≤ length out
    → first_of ((a, 21) ∷ open_conditions b c k capsule out) ≡ record_of k capsule
unfolding first_of
record_first a b c k capsule out p q r i long = rw (p, q, r) (record_open k capsule i out long)

open_records : (s : Slot) (capsules records capsule out : List ℕ) → Accepts s capsules records → bytes_for s.key.n ≤ length out
    → (step s (ask (open_capsule capsule out))).number ≡ record_of s.key capsule
unfolding held_by conditions_of question_conditions
open_records s capsules records capsule out a long =
    step-number s (ask (open_capsule capsule out)) ∙ record_first _ _ _ s.key capsule out a.held a.sound a.marked a.irreducible long

module _ (sys : System) (sim : Simulates sys) where
  pub import_report : ImportReport sys
  import_report s capsules records z =
      let q = ask (report capsules records) in
      let k = (sys.view s).key in
      let a = report_accepts (sys.view s) capsules records (sym (same_number sys sim s q) ∙ z) in
      let some : 0 < bytes_for (capsule_bits k) = bytes_some refl (bits_some k a.good) in
      let n : length (capsules_of k capsules) ≡ capsule_number k capsules = capsules_number k capsules some in
      let l : length (records_of k capsules) ≡ capsule_number k capsules = records_length k capsules ∙ n in
      let out = same_output sys sim s q ∙ a.output in
      let answer = same_answer sys sim s q ∙ a.answer in
      let at : (i : ℕ) → i < capsule_number k capsules → record_at sys s capsules records i ≡ record_of k (capsule_at k capsules i) =
      λ i h. ap (λ (o : List ℕ). get_or o i 0) out ∙ over-at (records_of k capsules) records _ l i h ∙ records_at k capsules some i (rw n h) in
      record {
        room = rw (← n) a.room;
        beyond = ap (drop (capsule_number k capsules)) out ∙ over_rest (records_of k capsules) records _ l;
        counts = answer ∙ ap counts_of (sym (ap (take (capsule_number k capsules)) out ∙ over_first (records_of k capsules) records _ l));
        sum = ap total answer ∙ records_sum k capsules ∙ n;
        opens = λ i h o long.
            at i h ∙ sym (same_number sys sim s (ask (open_capsule (capsule_at k capsules i) o)) ∙ open_records (sys.view s) capsules records _ o a long);
        values = λ i h. rw (at i h) (record_values k (capsule_at k capsules i));
        tail = λ i h short. at i h ∙ record_length k (capsule_at k capsules i) (λ e. omega arith);
        exact = λ rows public i h. rw (at i h) (record_exact k a.good rows public (capsule_at k capsules i));
      }
