-- What the report hands back, from the lower call's answer. Assumes nothing.
use Prim.Native.Nat.{ℕ}
use mathlib.Core.Path.{◌≡◌, ap, ◌∙◌}
use mathlib.Core.Bool.{Bool, true, false, not}
use mathlib.Core.List.{List}
use Rattle.key.specs.Kept.{kept}
use Rattle.records.specs.Records.{report_number, report_output, report_counts}
use Rattle.ledger.specs.Slot.{is_empty, is_unpublished, held_by}
use Rattle.ledger.specs.Questions.{report, answer_buffer, question_conditions, given, answer_size}
use Rattle.ledger.specs.Calls.{Call, ask, output_of, no_answer, made}
use Rattle.reporting.specs.declared.Counted.{Counted}
use Rattle.slot.specs.Replies.{state_of, view, handed}
use Rattle.slot.specs.Parts.{counted_of}
use Rattle.slot.specs.declared.Slot.{Slot}
use Rattle.slot.proofs.ReplyLaws.{stop, lower, stopped, lower_output}
use Rattle.slot.proofs.QuestionLaws.{question_stopped, question_lower, not_published}

-- the answer, part by part
counted : (s : Slot) (capsules records : List ℕ) {n : ℕ} {counts : List ℕ} → (let c = ask (report capsules records) in
    n ≡ (handed s c).reply.refused → counts ≡ (handed s c).answer
    → ◌≡◌ {A = Counted} (record { refused = n; counts = counts }) (counted_of (handed s c)))
unfolding counted_of
counted s capsules records e f = rw (e, f)

module _ (s : Slot) (capsules records : List ℕ) where
  c : Call
  c = ask (report capsules records)

  -- without a key
  pub report_stopped : is_empty (state_of s.state) ≡ true → {counts : List ℕ} → counts ≡ no_answer (ask (report capsules records))
      → (record { refused = 21; counts = counts } ≡ counted_of (handed s (ask (report capsules records)))) × (records ≡ (handed s (ask (report capsules records))).output)
  unfolding c stop output_of answer_buffer
  report_stopped h e =
      let t = question_stopped s (report capsules records) h in
      (counted s capsules records t.0 (e ∙ t.1), (stopped s c h).1)

  -- with a key: published or not by b
  module _ (keyed : is_empty (state_of s.state) ≡ false) (b : Bool) (e : b ≡ not (is_unpublished (state_of s.state))) where
    passes : (stop s c).0 ≡ false
    unfolding c stop
    passes = keyed

    pub report_lower : record { refused = report_number (not b) (kept s.key) capsules records; counts = report_counts (not b) (kept s.key) capsules records }
        ≡ counted_of (handed s (ask (report capsules records)))
    unfolding c lower question_conditions held_by view report_number report_counts made given no_answer answer_size
    report_lower =
        let m = not_published s b e in
        let l = question_lower s (report capsules records) keyed in
        counted s capsules records (ap (λ (u : Bool). report_number u (kept s.key) capsules records) m ∙ l.0)
        (ap (λ (u : Bool). report_counts u (kept s.key) capsules records) m ∙ l.1)

    pub report_output_lem : report_output (not b) (kept s.key) capsules records ≡ (handed s (ask (report capsules records))).output
    unfolding c lower question_conditions held_by view report_number report_output made given output_of answer_buffer
    report_output_lem = ap (λ (u : Bool). report_output u (kept s.key) capsules records) (not_published s b e) ∙ lower_output s c passes
