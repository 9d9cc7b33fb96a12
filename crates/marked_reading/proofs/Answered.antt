-- What marked reading answers and writes, from what is found. Assumes nothing.
use mathlib.Core.Path.{◌≡◌, refl, ap, ◌∙◌}
use mathlib.Core.Bool.{cond}
use mathlib.Core.List.{List}
use mathlib.Core.Option.{Option}
use Prim.Native.Nat.{ℕ, ◌≤◌}
use lib.ListN.{length}
use Rattle.bits.specs.Bits.{bytes_for, unpack, pack, over}
use Rattle.bits.proofs.PutBits.{written_row}
use Rattle.field.specs.Numbers.{first_of}
use Rattle.key.specs.Kept.{kept}
use Rattle.key.specs.declared.kept.Key.{Key}
use Rattle.decoder.specs.Calls.{found, is_none, pattern_output}
use Rattle.decoding.specs.declared.decoding.Found.{Found}
use Rattle.reading.specs.Answers.{answer_of, answer_by, counted_of, written_by, given_of}
use Rattle.reading.specs.declared.calls.Answer.TheVariants.{Refused}
use Rattle.reading.proofs.Answered.{refusal}
use Rattle.marks.specs.Marked.{differences, marked_output}
use Rattle.marked_reading.specs.Parts.{marked_found}
use Rattle.marked_reading.specs.Answers.{marked_of, marked_checks}
use Rattle.marked_reading.proofs.Refusals.{marked-clear, marked_refused, marked_number_lem}
use Rattle.marked_reading.proofs.Readings.{Gives, no_pattern, a_pattern, gives-marked}

-- what is given where the pattern o decides, with 14
given_pattern : (n : ℕ) (z out : List ℕ) → bytes_for n ≤ length out → (o : Option (List ℕ)) {f : Found} → Gives n z o f
    → {q : ℕ} → q ≡ cond (is_none o) 14 0
    → (counted_of 14 f ≡ answer_of q (differences z (found o))) × (given_of n f out ≡ pattern_output q o out)
unfolding answer_of pattern_output found unpack counted_of answer_by given_of written_by is_none
given_pattern n z out b o (no_pattern v h) e = rw (e, v, h) (refl, refl)
given_pattern n z out b o {f} (a_pattern v h d u) e =
    rw (e, v, h, d) (refl, written_row f.pattern 0 n out b ∙ ap (λ (p : List ℕ). over (pack p) out) u)

module _ (k : Key) (word marks out : List ℕ) where
  pub marked-refusal : {x : ℕ} → x ≡ first_of (marked_checks (kept k) word marks (length out)) → (x ≡ 0 → ⊥)
      → (Refused x ≡ marked_of (kept k) word marks out) × (out ≡ marked_output (kept k) word marks out)
  unfolding marked_of marked_output
  marked-refusal e h = refusal _ _ _ out _ (marked_refused (kept k) word marks out e h) h

  pub marked-given : first_of (marked_checks (kept k) word marks (length out)) ≡ 0 → {f : Found} → f ≡ marked_found (kept k) word marks
      → (counted_of 14 f ≡ marked_of (kept k) word marks out) × (given_of k.n f out ≡ marked_output (kept k) word marks out)
  unfolding marked_of marked_output kept
  marked-given z e =
      let c = marked-clear (kept k) word marks out z in
      let g = gives-marked k word marks c.0 c.1 c.2 in
      let r = given_pattern k.n (unpack k.n marks) out c.3 _ g (marked_number_lem (kept k) word marks out z) in
      (ap (counted_of 14) e ∙ r.0, ap (λ (f : Found). given_of k.n f out) e ∙ r.1)
