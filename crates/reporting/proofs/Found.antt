-- The record of a capsule under a key that load accepts, by what is found in it. Assumes nothing.
use mathlib.Core.Path.{◌≡◌, refl, sym, ap, ◌∙◌}
use mathlib.Core.Bool.{Bool, true, false, cond}
use mathlib.Core.List.{List, [], ◌∷◌}
use mathlib.Core.Option.{Option, none, some}
use Prim.Native.Nat.{ℕ, ◌*◌}
use Rattle.bits.specs.Bits.{unpack}
use Rattle.field.specs.Numbers.{first_of}
use Rattle.field.specs.Verdicts.{verdict_of, number_of}
use Rattle.field.specs.declared.Verdict.{Verdict}
use Rattle.field.specs.declared.Verdict.TheVariants.{Refused}
use Rattle.field.proofs.Numbers.{numbered, first-append}
use Rattle.field.proofs.Verdicts.{verdict_number}
use Rattle.key.specs.Keys.{key_number}
use Rattle.key.specs.Kept.{kept}
use Rattle.key.specs.declared.kept.Key.{Key}
use Rattle.key.proofs.Conditions.{first-take}
use Rattle.code.specs.Publish.{capsule_bits}
use Rattle.decoder.specs.Reading.{exactly, opening}
use Rattle.decoder.specs.Calls.{is_none}
use Rattle.decoding.specs.Parts.{decoded_number, decoded, nothing_of, found_of}
use Rattle.decoding.specs.declared.decoding.Found.{Found}
use Rattle.reading.specs.Answers.{row_checks}
use Rattle.reading.proofs.Refusals.{row_clear}
use Rattle.reading.proofs.Answered.{found-opening, opening_not_refused}
use Rattle.records.specs.Records.{capsule_conditions, record_of}

none_found : (o : Option (List ℕ)) → first_of ((is_none o, 13) ∷ []) ≡ cond (found_of 0 o).found 0 13
unfolding is_none found_of nothing_of first_of
none_found none = refl
none_found (some e) = refl

module _ (k : Key) (capsule : List ℕ) where
  -- the number of a row's check
  pub row_number : {bits x : ℕ} {v : Verdict} → bits ≡ k.m * k.t → v ≡ verdict_of (first_of (row_checks bits capsule)) → x ≡ number_of v
      → x ≡ first_of (row_checks (capsule_bits (kept k)) capsule)
  unfolding kept capsule_bits
  row_number e v x = x ∙ verdict_number _ v ∙ ap (λ (b : ℕ). first_of (row_checks b capsule)) e

  -- 8, 9
  pub record_row : {x : ℕ} → x ≡ first_of (row_checks (capsule_bits (kept k)) capsule) → (x ≡ 0 → ⊥) → x ≡ record_of (kept k) capsule
  unfolding record_of capsule_conditions row_checks
  record_row e h = e ∙ first-take 2 (capsule_conditions (kept k) capsule) (λ z. h (e ∙ z))

  module _ (z : key_number (kept k) ≡ 0) (w : first_of (row_checks (capsule_bits (kept k)) capsule) ≡ 0) (f : Found)
      (ef : f ≡ found_of (decoded_number (kept k) (unpack k.n capsule)) (exactly k.t (decoded (kept k) (unpack k.n capsule)))) where
    opened : f ≡ found_of 0 (opening (kept k) (unpack (capsule_bits (kept k)) capsule))
    opened = found-opening k capsule z (row_clear (capsule_bits (kept k)) capsule w) ef

    pub record_not_refused : {x : ℕ} → f.verdict ≡ Refused x → ⊥
    record_not_refused h = opening_not_refused k capsule z (row_clear (capsule_bits (kept k)) capsule w) ef h

    -- 13, or 0
    by_found : record_of (kept k) capsule ≡ cond f.found 0 13
    unfolding record_of capsule_conditions row_checks numbered
    by_found =
        let o : Option (List ℕ) = opening (kept k) (unpack (capsule_bits (kept k)) capsule) in
        first-append (row_checks (capsule_bits (kept k)) capsule) ((is_none o, 13) ∷ []) refl w
        ∙ none_found o ∙ ap (λ (f : Found). cond f.found 0 13) (sym opened)

    pub record_none : f.found ≡ false → 13 ≡ record_of (kept k) capsule
    record_none h = sym (by_found ∙ ap (λ (b : Bool). cond b 0 13) h)

    pub record_some : f.found ≡ true → 0 ≡ record_of (kept k) capsule
    record_some h = sym (by_found ∙ ap (λ (b : Bool). cond b 0 13) h)
