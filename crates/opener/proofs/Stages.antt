-- What load and publish give, and the text by that: the program's text is that of the key, or the lines. Assumes nothing.
use mathlib.Core.Path.{◌≡◌, refl, sym, ap, ◌∙◌}
use mathlib.Core.Bool.{Bool, true, false, cond}
use mathlib.Core.Logic.{◌⊎◌, ⊎_elim}
use mathlib.Core.List.{List, []}
use Prim.Native.Nat.{ℕ, zero, suc}
use native.Mathlib.Omega.{arith}
use borrow.Author.Tests.{eq-eqb, ne_eqb}
use denote.Enum.Declared.{tag_of, declared}
use lib.ListN.{take}
use Rattle.field.specs.Numbers.{first_of}
use Rattle.key.specs.Keys.{parse, key_number}
use Rattle.key.proofs.Parse.{accepted_key}
use Rattle.ledger.specs.Slot.{is_empty, held_by, fresh}
use Rattle.ledger.specs.Loading.{key_file, loading_conditions, loaded_key}
use Rattle.ledger.specs.Publishing.{systematic}
use Rattle.ledger.specs.Calls.{load, publish, conditions_of, step}
use Rattle.ledger.proofs.StepLaws.{step-number, load_station, publish_station}
use Rattle.ledger.specs.Slot as Definition
use Rattle.station.specs.Replies.{fresh_station}
use Rattle.station.specs.declared.Station.{Station}
use Rattle.station.specs.declared.Reply.{Reply}
use Rattle.opener.specs.Report.{too_large, room, opened, unless_refused, after_publish, after_load, large, whole, report}
use Rattle.opener.specs.Prepared.{slot_a, reply_a, key_answer, ready_of, published_after, prepared_whole, prepared, key_text, is_four, capsule_lines}
use Rattle.opener.specs.declared.KeyAnswer.{KeyAnswer}
use Rattle.opener.specs.declared.KeyAnswer.TheVariants.{Accepted, Refused, TooLarge}
use Rattle.opener.specs.declared.Ready.{Ready}
use Rattle.opener.specs.contracts.KeyAnswer.{enum}
use Rattle.opener.proofs.NamesA.{fresh_shown, same_number, same_slot}
use Rattle.opener.proofs.Shape.{accepted-four}
use Rattle.opener.proofs.Text.{key_accepted}

-- the answer of a number
pub zero-accepted : Accepted ≡ key_answer 0
unfolding key_answer
zero-accepted = refl

pub other_refused : (n : ℕ) → (n ≡ 0 → ⊥) → Refused n ≡ key_answer n
unfolding key_answer
other_refused zero h = absurd (h refl)
other_refused (suc n) h = refl

-- only the number 0 is accepted
pub number-accepted : (n : ℕ) {a : KeyAnswer} → a ≡ key_answer n → a ≡ Accepted → n ≡ 0
unfolding key_answer
number-accepted zero e h = refl
number-accepted (suc n) e h = let z : ◌≡◌ {A = ℕ} 0 1 = cc in absurd (omega arith)

-- a number's text: the number of a refusal, or what follows
answer_text : (n : ℕ) {a b : List ℕ} → (n ≡ 0 → a ≡ b) → unless_refused n a ≡ key_text (key_answer n) b
unfolding unless_refused key_text key_answer
answer_text zero h = h refl
answer_text (suc n) h = refl

-- the variants past the first
pub not_accepted : (a : KeyAnswer) → (tag_of (declared enum) a ≡ 1) ⊎ (tag_of (declared enum) a ≡ 2) → a ≡ Accepted → ⊥
not_accepted a t e =
    let z : tag_of (declared enum) a ≡ 0 = ap (tag_of (declared enum)) e in
    ⊎_elim (λ x. omega (arith, x, z)) (λ x. omega (arith, x, z)) t

-- a key that is not accepted: nothing of what follows
pub text_other : (a : KeyAnswer) (text : List ℕ) → (a ≡ Accepted → ⊥) → key_text a text ≡ key_text a []
unfolding key_text
text_other Accepted text h = absurd (h refl)
text_other (Refused n) text h = refl
text_other TooLarge text h = refl

module _ (file : List ℕ) where
  abbrev loads : Reply
  loads = reply_a fresh_station (load (key_file file))

  abbrev publishes : Reply
  publishes = reply_a loads.station (publish (systematic room room))

  -- load on the station that was made
  pub loaded : {s : Station} {r : Reply} → s ≡ fresh_station → r ≡ reply_a s (load (key_file file)) → r ≡ loads
  loaded e h = h ∙ ap (λ (s : Station). reply_a s (load (key_file file))) e

  pub prepared-large : large file ≡ true → prepared_whole file ≡ record { station = fresh_station; answer = TooLarge }
  unfolding prepared_whole
  prepared-large h = ap (λ (b : Bool). cond b (record { station = fresh_station; answer = TooLarge }) (published_after loads)) h

  module _ (small : large file ≡ false) where
    prepared_small : prepared_whole file ≡ published_after loads
    unfolding prepared_whole
    prepared_small = ap (λ (b : Bool). cond b (record { station = fresh_station; answer = TooLarge }) (published_after loads)) small

    pub prepared_refused : (loads.refused ≡ 0 → ⊥) → prepared_whole file ≡ ready_of loads
    unfolding published_after
    prepared_refused h = prepared_small ∙ ap (λ (b : Bool). cond b (ready_of publishes) (ready_of loads)) (ne_eqb loads.refused 0 h)

    pub prepared_published : loads.refused ≡ 0 → prepared_whole file ≡ ready_of publishes
    unfolding published_after
    prepared_published h = prepared_small ∙ ap (λ (b : Bool). cond b (ready_of publishes) (ready_of loads)) (eq-eqb loads.refused 0 h)

  number : loads.refused ≡ (step fresh (load (key_file file))).number
  number = same_number fresh_station (load (key_file file)) ∙ ap (λ (t : Definition.Slot). (step t (load (key_file file))).number) fresh_shown

  station : slot_a loads.station ≡ (step fresh (load (key_file file))).station
  station = same_slot fresh_station (load (key_file file)) ∙ ap (λ (t : Definition.Slot). (step t (load (key_file file))).station) fresh_shown

  published_number : publishes.refused ≡ (step (slot_a loads.station) (publish (systematic room room))).number
  published_number = same_number loads.station (publish (systematic room room))

  published_station : slot_a publishes.station ≡ (step (slot_a loads.station) (publish (systematic room room))).station
  published_station = same_slot loads.station (publish (systematic room room))

  -- a key that both accept is one of width 4
  four_wide : large file ≡ false → loads.refused ≡ 0 → publishes.refused ≡ 0 → is_four (slot_a publishes.station).key ≡ true
  unfolding parse large conditions_of loading_conditions loaded_key held_by fresh is_empty first_of
  four_wide small a b =
      let sound : key_number (parse file) ≡ 0 = accepted_key file (sym (step-number fresh (load (key_file file))) ∙ sym number ∙ a) in
      let key : (slot_a publishes.station).key ≡ parse file =
      ap (λ (t : Definition.Slot). t.key)
      (published_station ∙ publish_station (slot_a loads.station) (systematic room room) (sym published_number ∙ b))
      ∙ ap (λ (t : Definition.Slot). t.key) (station ∙ load_station fresh (key_file file) (sym number ∙ a)) in
      rw key (accepted-four (parse file) sound small)

  module _ (input : List ℕ) where
    -- the text of what is prepared
    text : Ready → List ℕ
    text y = key_text y.answer (cond (is_four (slot_a y.station).key) (opened (slot_a y.station) input) [])

    whole-large : large file ≡ true → whole file input ≡ text (prepared_whole file)
    unfolding whole text key_text
    whole-large h =
        ap (λ (b : Bool). cond b too_large (after_load (step fresh (load (key_file file))) input)) h ∙ sym (ap text (prepared-large h))

    module _ (small : large file ≡ false) where
      -- the numbers and the station of the calls for those of the definitions
      by_replies : whole file input ≡ unless_refused loads.refused (unless_refused publishes.refused (opened (slot_a publishes.station) input))
      unfolding whole after_load after_publish
      by_replies =
          ap (λ (b : Bool). cond b too_large (after_load (step fresh (load (key_file file))) input)) small
          ∙ ap (λ (n : ℕ). unless_refused n (after_publish (step (step fresh (load (key_file file))).station (publish (systematic room room))) input)) (sym number)
          ∙ ap (λ (t : Definition.Slot). unless_refused loads.refused (after_publish (step t (publish (systematic room room))) input)) (sym station)
          ∙ ap
          (λ (n : ℕ). unless_refused loads.refused (unless_refused n (opened (step (slot_a loads.station) (publish (systematic room room))).station input)))
          (sym published_number)
          ∙ ap (λ (t : Definition.Slot). unless_refused loads.refused (unless_refused publishes.refused (opened t input))) (sym published_station)

      whole_small : (n : ℕ) → loads.refused ≡ n → whole file input ≡ text (prepared_whole file)
      unfolding text ready_of
      whole_small zero a =
          by_replies
          ∙ key_accepted loads.refused _ a
          ∙ answer_text publishes.refused (λ b. sym (ap (λ (t : Bool). cond t (opened (slot_a publishes.station) input) []) (four_wide small a b)))
          ∙ sym (ap text (prepared_published small a))
      whole_small (suc n) a =
          let h : loads.refused ≡ 0 → ⊥ = λ z. omega (arith, a, z) in
          by_replies ∙ answer_text loads.refused (λ z. absurd (h z)) ∙ sym (ap text (prepared_refused small h))

    whole_parts : (b : Bool) → large file ≡ b → whole file input ≡ text (prepared_whole file)
    whole_parts true h = whole-large h
    whole_parts false h = whole_small h loads.refused refl

-- the program's text: that of the key, or the lines of the capsules
pub report-parts : (file input : List ℕ) → report file input ≡ key_text (prepared file).answer (capsule_lines (slot_a (prepared file).station) input)
unfolding report prepared capsule_lines text
report-parts file input = whole_parts (take 4096 file) (take 65536 input) (large (take 4096 file)) refl

-- the lines, by the test of the key
module _ (s : Definition.Slot) (input : List ℕ) where
  pub lines_none : is_four s.key ≡ false → capsule_lines s input ≡ []
  unfolding capsule_lines
  lines_none h = ap (λ (b : Bool). cond b (opened s (take 65536 input)) []) h

  pub lines-four : is_four s.key ≡ true → capsule_lines s input ≡ opened s (take 65536 input)
  unfolding capsule_lines
  lines-four h = ap (λ (b : Bool). cond b (opened s (take 65536 input)) []) h
