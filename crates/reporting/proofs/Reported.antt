-- What report answers and writes. Assumes nothing.
use mathlib.Core.Path.{◌≡◌, sym, ap, ap₂, ◌∙◌}
use mathlib.Core.Bool.{Bool, true, false, cond}
use mathlib.Core.List.{List}
use Prim.Native.Nat.{ℕ}
use borrow.Author.Tests.{eq-eqb, ne_eqb}
use lib.Dec.{eqb}
use lib.ListN.{length, take, replicate}
use Rattle.bits.specs.Bits.{over}
use Rattle.bits.proofs.Padded.{over_first}
use Rattle.key.specs.Keys.{Key}
use Rattle.records.specs.Records.{capsules_of, records_of, counts_of, report_number, report_output, report_counts}
use Rattle.records.proofs.Values.{records_length}
use Rattle.reporting.specs.Answers.{report_answer}
use Rattle.reporting.specs.declared.Counted.{Counted}

module _ (unpublished : Bool) (k : Key) (capsules records : List ℕ) where
  pub answer_refused : {x : ℕ} → x ≡ report_number unpublished k capsules records → (x ≡ 0 → ⊥)
      → (◌≡◌ {A = Counted} record { refused = x; counts = replicate 256 0 } (report_answer unpublished k capsules records))
      × (records ≡ report_output unpublished k capsules records)
  unfolding report_answer report_counts report_output
  answer_refused {x} q h =
      let b : eqb (report_number unpublished k capsules records) 0 ≡ false = ne_eqb _ _ (λ z. h (q ∙ z)) in (
        ap₂ (λ (r : ℕ) (l : List ℕ). record { refused = r; counts = l }) q
            (sym (ap (λ (b : Bool). cond b (counts_of (records_of k capsules)) (replicate 256 0)) b)),
        sym (ap (λ (b : Bool). cond b (over (records_of k capsules) records) records) b),
      )

  accepted : report_number unpublished k capsules records ≡ 0
      → (◌≡◌ {A = Counted} record { refused = 0; counts = counts_of (records_of k capsules) } (report_answer unpublished k capsules records))
      × (over (records_of k capsules) records ≡ report_output unpublished k capsules records)
  unfolding report_answer report_counts report_output
  accepted z =
      let q = sym z in
      let b : eqb (report_number unpublished k capsules records) 0 ≡ true = eq-eqb _ _ z in (
        ap₂ (λ (r : ℕ) (l : List ℕ). record { refused = r; counts = l }) q
            (sym (ap (λ (b : Bool). cond b (counts_of (records_of k capsules)) (replicate 256 0)) b)),
        sym (ap (λ (b : Bool). cond b (over (records_of k capsules) records) records) b),
      )

  -- the records written, and the counts of as many bytes
  pub answer-written : {r : ℕ} {out counts : List ℕ} → report_number unpublished k capsules records ≡ 0
      → r ≡ length (capsules_of k capsules) → out ≡ over (records_of k capsules) records → counts ≡ counts_of (take r out)
      → (◌≡◌ {A = Counted} record { refused = 0; counts = counts } (report_answer unpublished k capsules records))
      × (out ≡ report_output unpublished k capsules records)
  answer-written {r} {out} z er eo ec =
      let n : length (records_of k capsules) ≡ r = records_length k capsules ∙ sym er in
      let t : take r out ≡ records_of k capsules = ap (take r) eo ∙ over_first (records_of k capsules) records r n in
      let a = accepted z in
      (ap (λ (l : List ℕ). record { refused = 0; counts = l }) (ec ∙ ap counts_of t) ∙ a.0, eo ∙ a.1)
