-- The numbers of marked reading, by the tests of the code. Assumes nothing.
use mathlib.Core.Path.{◌≡◌, refl, ◌∙◌}
use mathlib.Core.Bool.{true, false, cond, not}
use mathlib.Core.List.{List, [], ◌∷◌}
use Prim.Native.Nat.{ℕ, ◌≤◌, ◌<◌}
use borrow.Author.Tests.{lt-ltb, le-ltb, ltb-false, not-false}
use lib.Dec.{ltb}
use lib.ListN.{length}
use Rattle.bits.specs.Bits.{bytes_for, unpack, well_formed}
use Rattle.field.specs.Numbers.{first_of}
use Rattle.field.proofs.Numbers.{numbered, first-clear, first-append}
use Rattle.key.specs.Keys.{Key, key_number, unsound}
use Rattle.key.proofs.Conditions.{first-take}
use Rattle.decoder.specs.Calls.{is_none}
use Rattle.reading.specs.Answers.{row_checks}
use Rattle.reading.proofs.Refusals.{row_first, unsound_some, unsound_none, sound_key}
use Rattle.marks.specs.Marked.{marked_reading, marked_conditions, marked_number}
use Rattle.marked_reading.specs.Answers.{rows_checks, marked_checks}

-- 8, 9, 37, 10
module _ (n : ℕ) (word marks : List ℕ) (len : ℕ) where
  pub wrong_word : (first_of (row_checks n word) ≡ 0 → ⊥) → first_of (row_checks n word) ≡ first_of (rows_checks n word marks len)
  unfolding row_checks rows_checks
  wrong_word h = first-take 2 (rows_checks n word marks len) h

  module _ (z : first_of (row_checks n word) ≡ 0) where
    word_passed : first_of (rows_checks n word marks len) ≡ first_of ((not (well_formed n marks), 37) ∷ (ltb len (bytes_for n), 10) ∷ [])
    unfolding row_checks rows_checks numbered
    word_passed = first-append (row_checks n word) ((not (well_formed n marks), 37) ∷ (ltb len (bytes_for n), 10) ∷ []) refl z

    pub wrong_marks_lem : well_formed n marks ≡ false → 37 ≡ first_of (rows_checks n word marks len)
    unfolding first_of
    wrong_marks_lem h = rw (word_passed, h)

    module _ (w : well_formed n marks ≡ true) where
      pub short_output : len < bytes_for n → 10 ≡ first_of (rows_checks n word marks len)
      unfolding first_of
      short_output h = rw (word_passed, w, lt-ltb _ _ h)

      pub rows_right : bytes_for n ≤ len → 0 ≡ first_of (rows_checks n word marks len)
      unfolding first_of
      rows_right h = rw (word_passed, w, le-ltb _ _ h)

  -- where none holds
  rows_clear : first_of (rows_checks n word marks len) ≡ 0 → (well_formed n word ≡ true) × (well_formed n marks ≡ true) × (bytes_for n ≤ len)
  unfolding rows_checks
  rows_clear e =
      let r = row_first n word ((not (well_formed n marks), 37) ∷ (ltb len (bytes_for n), 10) ∷ []) e in
      let c = first-clear (not (well_formed n marks)) 36 ((ltb len (bytes_for n), 10) ∷ []) r.1 in
      (r.0, not-false _ c.0, ltb-false _ _ (first-clear (ltb len (bytes_for n)) 9 [] c.1).0)

-- 25 before them
module _ (k : Key) (word marks : List ℕ) (len : ℕ) where
  pub wrong_key : (key_number k ≡ 0 → ⊥) → 25 ≡ first_of (marked_checks k word marks len)
  unfolding marked_checks first_of
  wrong_key h = rw (unsound_some k h)

  pub key_passed : key_number k ≡ 0 → first_of (rows_checks k.n word marks len) ≡ first_of (marked_checks k word marks len)
  unfolding marked_checks first_of
  key_passed z = rw (unsound_none k z)

module _ (k : Key) (word marks out : List ℕ) where
  -- 0 of the checks: the key is sound, the rows and the output are right
  pub marked-clear : first_of (marked_checks k word marks (length out)) ≡ 0
      → (key_number k ≡ 0) × (well_formed k.n word ≡ true) × (well_formed k.n marks ≡ true) × (bytes_for k.n ≤ length out)
  unfolding marked_checks
  marked-clear e =
      let c = first-clear (unsound k) 24 _ e in
      let r = rows_clear k.n word marks (length out) c.1 in (sound_key k c.0, r.0, r.1, r.2)

  -- the number: that of the checks, or 14
  pub marked_refused : {x : ℕ} → x ≡ first_of (marked_checks k word marks (length out)) → (x ≡ 0 → ⊥) → x ≡ marked_number k word marks out
  unfolding marked_number marked_conditions marked_checks rows_checks row_checks
  marked_refused e h = e ∙ first-take 5 (marked_conditions (unsound k) k word marks out) (λ z. h (e ∙ z))

  pub marked_number_lem : first_of (marked_checks k word marks (length out)) ≡ 0
      → marked_number k word marks out ≡ cond (is_none (marked_reading k (unpack k.n word) (unpack k.n marks))) 14 0
  unfolding marked_number marked_conditions marked_checks rows_checks row_checks first_of numbered
  marked_number_lem e =
      first-append (marked_checks k word marks (length out))
      ((is_none (marked_reading k (unpack k.n word) (unpack k.n marks)), 14) ∷ []) refl e
