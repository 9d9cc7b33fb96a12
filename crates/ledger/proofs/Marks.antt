-- Marked reading by code words, and beside read. Assumes nothing.
use Prim.Native.Nat.{ℕ, zero, suc, ◌+◌, ◌*◌, ◌≤◌, ◌<◌}
use mathlib.Core.Path.{◌≡◌, refl, sym, ap, ◌∙◌, subst}
use mathlib.Core.Bool.{Bool, true, false, not}
use mathlib.Core.List.{List, [], ◌∷◌}
use mathlib.Core.Option.{Option, some}
use native.Mathlib.Omega.{arith}
use lib.ListN.{length}
use Rattle.bits.specs.Bits.{Row, bytes_for, unpack, pack, ones, weight, well_formed, xor_row, over}
use Rattle.bits.proofs.Pack.{row_unpack}
use Rattle.bits.proofs.Rows.{row_xor_row}
use Rattle.field.specs.Numbers.{first_of}
use Rattle.key.specs.Keys.{Key, key_number}
use Rattle.code.specs.Code.{in_code}
use Rattle.decoder.specs.Reading.{reading}
use Rattle.decoder.specs.Calls.{found, is_none, read_conditions}
use Rattle.marks.specs.Marked.{differences, marked_reading, marked_conditions}
use Rattle.marks.proofs.Added.{added_front}
use Rattle.marks.proofs.Plain.{plain_differences, plain_reading}
use Rattle.ledger.specs.Slot.{Slot, held_by, Result}
use Rattle.ledger.specs.Questions.{Question, read_word, read_marked, answer_buffer, question_conditions, gives, given, answer_size}
use Rattle.ledger.specs.Calls.{Call, ask, conditions_of, output_of, no_answer, made, unless, step}
use Rattle.ledger.specs.Systems.{System}
use Rattle.ledger.specs.Demands.{at, key_held, DiffersMarked, Decides}
use Rattle.ledger.specs.Marks.{NearMarked, wrong_marks, CorrectsWithMarks, BesideRead, MarkedReading}
use Rattle.ledger.proofs.StepLaws.{outcome, call_number, step-number}
use Rattle.ledger.proofs.Demand2.{at_held}
use Rattle.ledger.proofs.Demand3.{marked_decides}
use Rattle.ledger.proofs.Found.{ReadsMarked, marked_found_lem}
use Rattle.ledger.proofs.ByCodeWords.{accepts_code_word, refuses-code-words}
use Rattle.ledger.proofs.Simulation.{Simulates, same_number, same_output, same_count, same_answer, same_free, decides}

module _ (k : Key) (word marks : List ℕ) where
  r : Row k.n (unpack k.n word)
  r = row_unpack k.n word

  -- a pattern in whose places the word and a code word differ, and that code word
  near : (e : List ℕ) → DiffersMarked k word marks e → NearMarked k word marks (xor_row (unpack k.n word) e)
  unfolding weight
  near e d =
      record {
        row = row_xor_row r d.row;
        code = d.code;
        few = subst (λ (x : List ℕ). 2 * differences (unpack k.n marks) x + ones (unpack k.n marks) ≤ 2 * k.t) (sym (added_front r d.row)) d.few;
      }

  differs : (c : List ℕ) → NearMarked k word marks c → DiffersMarked k word marks (xor_row (unpack k.n word) c)
  unfolding weight
  differs c d = record { row = row_xor_row r d.row; few = d.few; code = ap (in_code k) (added_front r d.row) ∙ d.code }

-- with more than 2t marks there is no such pattern
too_many : (k : Key) (word marks e : List ℕ) → DiffersMarked k word marks e → 2 * k.t < weight k.n marks → ⊥
unfolding weight
too_many k word marks e d many = let f = d.few in omega arith

-- the two lists of conditions: m that the marks are wrong, o and p that there is no pattern
module _ (a b c d e o p : Bool) where
  abbrev read_first : ℕ
  read_first = first_of ((a, 21) ∷ (b, 25) ∷ (c, 8) ∷ (d, 9) ∷ (e, 10) ∷ (p, 14) ∷ [])

  abbrev marked_first : Bool → ℕ
  marked_first m = first_of ((a, 21) ∷ (b, 25) ∷ (c, 8) ∷ (d, 9) ∷ (m, 37) ∷ (e, 10) ∷ (o, 14) ∷ [])

same_first : (a b c d e p m : Bool) → m ≡ false → marked_first a b c d e p p m ≡ read_first a b c d e p p
unfolding first_of
same_first a b c d e p m h = rw h refl

wrong_first : (a b c d e o p m : Bool) → m ≡ true → marked_first a b c d e o p m ≡ wrong_marks (read_first a b c d e o p)
unfolding first_of wrong_marks
wrong_first true b c d e o p m h = refl
wrong_first false true c d e o p m h = refl
wrong_first false false true d e o p m h = refl
wrong_first false false false true e o p m h = refl
wrong_first false false false false true o p m h = rw h refl
wrong_first false false false false false o true m h = rw h refl
wrong_first false false false false false o false m h = rw h refl

right_first : (a b c d e o p m : Bool) → m ≡ false → (read_first a b c d e o p ≡ 0 → ⊥) → (read_first a b c d e o p ≡ 14 → ⊥)
    → marked_first a b c d e o p m ≡ read_first a b c d e o p
unfolding first_of
right_first true b c d e o p m h x y = refl
right_first false true c d e o p m h x y = refl
right_first false false true d e o p m h x y = refl
right_first false false false true e o p m h x y = refl
right_first false false false false true o p m h x y = rw h refl
right_first false false false false false o true m h x y = absurd (y refl)
right_first false false false false false o false m h x y = absurd (x refl)

-- two questions with the same number, answer and buffers hand back the same
asked_alike : (s : Slot) (q p : Question) → call_number s (ask q) ≡ call_number s (ask p) → given s.key q ≡ given s.key p
    → answer_buffer q ≡ answer_buffer p → answer_size q ≡ answer_size p → step s (ask q) ≡ step s (ask p)
unfolding step unless made output_of no_answer
asked_alike s q p n g b a = ap (λ (i : ℕ). unless i s (ask q) (made s (ask q))) n ∙ go (call_number s (ask p))
  where
    go : (i : ℕ) → unless i s (ask q) (made s (ask q)) ≡ unless i s (ask p) (made s (ask p))
    go zero = rw g refl
    go (suc i) = rw (b, a) refl

module _ (s : Slot) (word marks out : List ℕ) where
  abbrev marking : Call
  marking = ask (read_marked word marks out)

  abbrev plainly : Call
  plainly = ask (read_word word out)

  abbrev marked_pattern : Option (List ℕ)
  marked_pattern = marked_reading s.key (unpack s.key.n word) (unpack s.key.n marks)

  abbrev plain_pattern : Option (List ℕ)
  plain_pattern = reading s.key (unpack s.key.n word)

  -- without marks
  module _ (formed : well_formed s.key.n marks ≡ true) (h : weight s.key.n marks ≡ 0) where
    same_pattern : marked_pattern ≡ plain_pattern
    unfolding weight
    same_pattern = plain_reading s.key (unpack s.key.n word) (unpack s.key.n marks) h

    plain_number : call_number s marking ≡ call_number s plainly
    unfolding conditions_of question_conditions marked_conditions read_conditions held_by
    plain_number = rw same_pattern (same_first _ _ _ _ _ (is_none plain_pattern) (not (well_formed s.key.n marks)) (ap not formed))

    plain_given : given s.key (read_marked word marks out) ≡ given s.key (read_word word out)
    unfolding given gives weight
    plain_given =
        ap (λ (o : Option (List ℕ)). gives (differences (unpack s.key.n marks)) (found o) out) same_pattern
        ∙ ap (λ (n : ℕ). record { output = over (pack (found plain_pattern)) out; count = n; answer = [] })
        (plain_differences s.key (unpack s.key.n word) (unpack s.key.n marks) h (found plain_pattern))

    plain_step : step s marking ≡ step s plainly
    unfolding answer_buffer answer_size
    plain_step = asked_alike s (read_marked word marks out) (read_word word out) plain_number plain_given refl refl

  -- the numbers with wrong marks, and with right ones
  wrong_number : well_formed s.key.n marks ≡ false → (step s marking).number ≡ wrong_marks (step s plainly).number
  unfolding conditions_of question_conditions marked_conditions read_conditions held_by
  wrong_number w =
      step-number s marking
      ∙ wrong_first _ _ _ _ _ (is_none marked_pattern) (is_none plain_pattern) (not (well_formed s.key.n marks)) (ap not w)
      ∙ ap wrong_marks (sym (step-number s plainly))

  right_number : well_formed s.key.n marks ≡ true → ((step s plainly).number ≡ 0 → ⊥) → ((step s plainly).number ≡ 14 → ⊥)
      → (step s marking).number ≡ (step s plainly).number
  unfolding conditions_of question_conditions marked_conditions read_conditions held_by
  right_number w x y =
      step-number s marking
      ∙ right_first _ _ _ _ _ (is_none marked_pattern) (is_none plain_pattern) (not (well_formed s.key.n marks)) (ap not w)
      (λ z. x (step-number s plainly ∙ z)) (λ z. y (step-number s plainly ∙ z))
      ∙ sym (step-number s plainly)

module _ (sys : System) (sim : Simulates sys) where
  pub reads_marked : (k : Key) (s : sys.Stations) (word marks out : List ℕ) → key_held (sys.view s) ≡ some k → key_number k ≡ 0
      → well_formed k.n word ≡ true → well_formed k.n marks ≡ true → bytes_for k.n ≤ length out
      → Decides (DiffersMarked k word marks) (differences (unpack k.n marks)) 14 out (sys.call s (ask (read_marked word marks out)))
  unfolding at
  reads_marked k s word marks out h good formed marked long =
      decides sys sim s (ask (read_marked word marks out)) (DiffersMarked k word marks) (differences (unpack k.n marks)) 14 out
      (at_held
      (λ (x : Slot). Decides (DiffersMarked k word marks) (differences (unpack k.n marks)) 14 out (step x (ask (read_marked word marks out))))
      (sys.view s) k h (λ state e. marked_decides k good state e word marks out formed marked long))

  corrects_with_marks : (s : sys.Stations) (word marks out : List ℕ) → CorrectsWithMarks sys (sys.view s).key s word marks out
  corrects_with_marks s word marks out =
      let k : Key = (sys.view s).key in
      record {
        accepts = λ z.
            let f : ReadsMarked (sys.view s) word marks out = marked_found_lem (sys.view s) word marks out (sym (same_number sys sim s (ask (read_marked word marks out))) ∙ z) in
            accepts_code_word (r k word marks) (λ e d. d.row) (λ c d. d.row) (near k word marks) (differs k word marks) _
            (reads_marked k s word marks out f.held f.good f.formed f.marked f.long) z;
        refuses = λ h good formed marked long.
            refuses-code-words (r k word marks) (λ e d. d.row) (λ c d. d.row) (near k word marks) (differs k word marks) _
            (reads_marked k s word marks out h good formed marked long);
        only = λ h good formed marked long. (reads_marked k s word marks out h good formed marked long).only;
        over = λ h good formed marked long many.
            (reads_marked k s word marks out h good formed marked long).refuses.1 (λ e d. too_many k word marks e d many);
      }

  -- questions that the definitions answer alike
  answered_alike : (s : sys.Stations) (q p : Question) → step (sys.view s) (ask q) ≡ step (sys.view s) (ask p) → sys.call s (ask q) ≡ sys.call s (ask p)
  answered_alike s q p e =
      outcome
      (sim.leaves s q ∙ sym (sim.leaves s p))
      (same_number sys sim s (ask q) ∙ ap (λ (x : Result). x.number) e ∙ sym (same_number sys sim s (ask p)))
      (same_output sys sim s (ask q) ∙ ap (λ (x : Result). x.output) e ∙ sym (same_output sys sim s (ask p)))
      (same_count sys sim s (ask q) ∙ ap (λ (x : Result). x.count) e ∙ sym (same_count sys sim s (ask p)))
      (same_answer sys sim s (ask q) ∙ ap (λ (x : Result). x.answer) e ∙ sym (same_answer sys sim s (ask p)))
      (same_free sys sim s (ask q) ∙ ap (λ (x : Result). x.free) e ∙ sym (same_free sys sim s (ask p)))

  beside_read : (s : sys.Stations) (word marks out : List ℕ) → BesideRead sys (sys.view s).key s word marks out
  beside_read s word marks out =
      let v : Slot = sys.view s in
      let m = same_number sys sim s (ask (read_marked word marks out)) in
      let p = same_number sys sim s (ask (read_word word out)) in
      record {
        plain = λ formed h. answered_alike s (read_marked word marks out) (read_word word out) (plain_step v word marks out formed h);
        wrong = λ w. m ∙ wrong_number v word marks out w ∙ ap wrong_marks (sym p);
        right = λ w x y. m ∙ right_number v word marks out w (λ z. x (p ∙ z)) (λ z. y (p ∙ z)) ∙ sym p;
      }

  pub marked_readings : MarkedReading sys
  marked_readings = record { corrects_with_marks = corrects_with_marks; beside_read = beside_read }
