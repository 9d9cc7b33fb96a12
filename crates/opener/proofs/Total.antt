-- The last line: how many capsules there are, and how many of them are opened. Assumes nothing.
use mathlib.Core.Path.{◌≡◌, refl, sym, ap, ap₂, ◌∙◌, fun_ext}
use mathlib.Core.Bool.{Bool, true, false, cond}
use mathlib.Core.List.{List, [], ◌∷◌, ◌++◌, map}
use Prim.Native.Nat.{ℕ, zero, suc, ◌+◌, ◌-◌, ◌≤◌, ◌<◌}
use native.Mathlib.Omega.{arith}
use borrow.Author.Tests.{ne_eqb, le-ltb}
use lib.ListN.{length, get_or, replicate, length-map, length-replicate}
use Rattle.bits.specs.Bits.{bytes_for}
use Rattle.field.specs.Numbers.{first_of}
use Rattle.key.specs.Keys.{Key, unsound, reducible}
use Rattle.decoder.specs.Calls.{open_conditions}
use Rattle.records.specs.Records.{cut, capsules_of, records_of, occurrences, report_conditions}
use Rattle.records.proofs.Counts.{occurrences_most, counts_at}
use Rattle.records.proofs.Values.{record_open, capsules_few}
use Rattle.ledger.specs.Slot.{Slot, is_empty, is_unpublished, held_by, Result}
use Rattle.ledger.specs.Questions.{open_capsule, report, question_conditions, given, answer_size}
use Rattle.ledger.specs.Calls.{ask, conditions_of, no_answer, made, step}
use Rattle.ledger.proofs.StepLaws.{call_number, step-number, step-made, step-answer}
use Rattle.recipients.specs.Names.{A, naming}
use Rattle.station.specs.Replies.{handed, reported_of}
use Rattle.station.specs.declared.Station.{Station}
use Rattle.opener.specs.Report.{refuses, total_is, are_opened, newline, digits, decimal, room, lines, numbers, total_line, opened}
use Rattle.opener.specs.Prepared.{slot_a, is_four}
use Rattle.opener.proofs.NamesA.{same_answer}
use Rattle.opener.proofs.Digits.{decimal_short}
use Rattle.opener.proofs.Text.{total-length}
use Rattle.opener.proofs.Shape.{four}
use Rattle.opener.proofs.Lengths.{room_enough}

-- no more capsules are opened than there are
numbers_most : (s : Slot) (cs : List (List ℕ)) → occurrences 0 (numbers s cs) ≤ length cs
unfolding numbers
numbers_most s cs = omega (arith, occurrences_most 0 (numbers s cs), length-map cs (λ c. (step s (ask (open_capsule c room))).number))

-- three numbers of at most five digits
total_short : (n a : ℕ) → n < 100000 → a ≤ n → length (total_line n a) ≤ 64
total_short n a h l =
    omega (arith, total-length n a, decimal_short 4 n (omega arith), decimal_short 4 a (omega arith), decimal_short 4 (n - a) (omega arith))

-- the line of the numbers n and a
module _ (s : Slot) (input : List ℕ) {n a : ℕ}
    (e : n ≡ length (capsules_of s.key input)) (f : a ≡ occurrences 0 (numbers s (capsules_of s.key input))) where
  pub opened_most : a ≤ n
  opened_most = omega (arith, numbers_most s (capsules_of s.key input))

  pub total_few : length input ≤ 65536 → length (total_line n a) ≤ 64
  total_few l = total_short n a (omega (arith, capsules_few s.key input)) opened_most

  pub opened-parts : lines s 1 (capsules_of s.key input) ++ total_line n a ≡ opened s input
  unfolding opened
  opened-parts = ap (λ (l : List ℕ). lines s 1 (capsules_of s.key input) ++ l) (ap₂ total_line e f)

-- no capsules: `total 0 opened 0 refused 0`
pub opened_none : (s : Slot) → opened s []
    ≡ 116 ∷ 111 ∷ 116 ∷ 97 ∷ 108 ∷ 32 ∷ 48 ∷ 32 ∷ 111 ∷ 112 ∷ 101 ∷ 110 ∷ 101 ∷ 100 ∷ 32 ∷ 48
    ∷ 32 ∷ 114 ∷ 101 ∷ 102 ∷ 117 ∷ 115 ∷ 101 ∷ 100 ∷ 32 ∷ 48 ∷ 10 ∷ []
unfolding opened lines numbers cut capsules_of occurrences total_line total_is are_opened refuses newline decimal digits
opened_none s = refl

-- a number for each capsule, none of them 0
none_zero : (f : List ℕ → ℕ) → ((c : List ℕ) → f c ≡ 0 → ⊥) → (cs : List (List ℕ)) → occurrences 0 (map f cs) ≡ 0
unfolding occurrences
none_zero f h [] = refl
none_zero f h (c ∷ cs) = ap₂ ◌+◌ (ap (λ (b : Bool). cond b 1 0) (ne_eqb (f c) 0 (h c))) (none_zero f h cs)

-- how many are opened where no number refuses the report
unless_number : ℕ → ℕ → ℕ
unless_number zero a = a
unless_number (suc n) a = 0

-- where 21, 25, 34 or 24 refuses a report it refuses each capsule; else a capsule's number is its record
module _ (k : Key) (input records : List ℕ) (wide : bytes_for k.n ≤ length room) (long : length (capsules_of k input) ≤ length records) where
  first-opened : (missing bad split unpublished : Bool) → reducible k ≡ split
      → occurrences 0 (map (λ c. first_of ((missing, 21) ∷ open_conditions bad unpublished k c room)) (capsules_of k input))
      ≡ unless_number (first_of ((missing, 21) ∷ report_conditions bad unpublished k input (length records))) (occurrences 0 (records_of k input))
  unfolding unless_number open_conditions report_conditions records_of first_of
  first-opened true b r u e = none_zero _ (λ c z. omega arith) (capsules_of k input)
  first-opened false true r u e = none_zero _ (λ c z. omega arith) (capsules_of k input)
  first-opened false false true u e = rw e (none_zero _ (λ c z. omega arith) (capsules_of k input))
  first-opened false false false true e = rw e (none_zero _ (λ c z. omega arith) (capsules_of k input))
  first-opened false false false false e =
      ap (λ (f : List ℕ → ℕ). occurrences 0 (map f (capsules_of k input))) (fun_ext (λ c. record_open k c e room wide))
      ∙ rw e (sym (ap (λ (b : Bool). unless_number (cond b 31 0) (occurrences 0 (records_of k input))) (le-ltb (length records) (length (capsules_of k input)) long)))

module _ (s : Slot) (input records : List ℕ) where
  -- the first of a report's counts
  count_first : (n : ℕ) → call_number s (ask (report input records)) ≡ n
      → get_or (step s (ask (report input records))).answer 0 0 ≡ unless_number n (occurrences 0 (records_of s.key input))
  unfolding unless_number made given no_answer answer_size
  count_first zero e =
      ap (λ (r : Result). get_or r.answer 0 0) (step-made s (ask (report input records)) (step-number s (ask (report input records)) ∙ e))
      ∙ counts_at (records_of s.key input) 0 (omega arith)
  count_first (suc n) e =
      ap (λ (l : List ℕ). get_or l 0 0) (step-answer s (ask (report input records)) n (step-number s (ask (report input records)) ∙ e))

  -- it is how many capsules are opened, where there is a record for each and room for a pattern
  pub opened-report : bytes_for s.key.n ≤ length room → length (capsules_of s.key input) ≤ length records
      → occurrences 0 (numbers s (capsules_of s.key input)) ≡ get_or (step s (ask (report input records))).answer 0 0
  unfolding numbers held_by conditions_of question_conditions
  opened-report wide long =
      ap (λ (f : List ℕ → ℕ). occurrences 0 (map f (capsules_of s.key input))) (fun_ext (λ c. step-number s (ask (open_capsule c room))))
      ∙ first-opened s.key input records wide long (is_empty s.state) (unsound s.key) (reducible s.key) (is_unpublished s.state) refl
      ∙ sym (count_first _ refl)

-- the report of the call, with a record for each byte
pub opened_counted : (s : Station) (input : List ℕ) (n : ℕ) → is_four (slot_a s).key ≡ true → length input ≤ n
    → get_or (reported_of (handed s (naming A (ask (report input (replicate n 0)))))).counts 0 0 ≡ occurrences 0 (numbers (slot_a s) (capsules_of (slot_a s).key input))
unfolding reported_of
opened_counted s input n f h =
    ap (λ (l : List ℕ). get_or l 0 0) (same_answer s (ask (report input (replicate n 0))))
    ∙ sym (opened-report (slot_a s) input (replicate n 0) (room_enough (slot_a s).key (four (slot_a s).key f)).2
    (omega (arith, capsules_few (slot_a s).key input, length-replicate {A = ℕ} n 0)))
