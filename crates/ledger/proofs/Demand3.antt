-- Demand 3: after every list of calls the ledger says which key is held, and open and read decide. Assumes nothing.
use Prim.Native.Nat.{ℕ, suc, ◌≤◌}
use mathlib.Core.Path.{◌≡◌, refl, ap, ◌∙◌, subst}
use mathlib.Core.Bool.{Bool, true, false, not, cond}
use mathlib.Core.List.{List, [], ◌∷◌}
use mathlib.Core.Option.{Option, none, some}
use native.Mathlib.Omega.{arith}
use lib.Dec.{eqb, ltb}
use lib.ListN.{length}
use borrow.Author.Tests.{eq-eqb, le-ltb}
use Rattle.bits.specs.Bits.{bytes_for, unpack, ones, filler_clear, well_formed}
use Rattle.bits.proofs.Pack.{well_formed-length, well_formed-clear}
use Rattle.field.specs.Numbers.{first_of}
use Rattle.key.specs.Keys.{Key, key_number, reducible}
use Rattle.code.specs.PublicKey.{Matrix, public_key}
use Rattle.decoder.specs.Reading.{reading, opening}
use Rattle.code.specs.Publish.{capsule_bits}
use Rattle.decoder.specs.Calls.{found, is_none, open_conditions, read_conditions}
use Rattle.marks.specs.Marked.{differences, marked_reading, marked_conditions}
use Rattle.ledger.specs.Slot.{State, loaded, published, Slot, Held, is_empty, is_unpublished, Result}
use Rattle.ledger.specs.Questions.{Question, open_capsule, read_word, read_marked, question_conditions, Given, gives, given}
use Rattle.ledger.specs.Calls.{ask, conditions_of, made, step}
use Rattle.ledger.specs.Ledger.{Ledger, blank}
use Rattle.ledger.specs.Systems.{definitions}
use Rattle.ledger.specs.Demands.{Locks, Differs, DiffersMarked, Decides, AfterEveryList}
use Rattle.ledger.proofs.StepLaws.{call_number, step-number, step-made}
use Rattle.ledger.proofs.Agreement.{slot_of, Agree, nothing, held, marked, sound_held, agree_run, agree_numbers, agree_key}
use Rattle.ledger.proofs.Patterns.{reading_sound, reading_complete, marked_sound, marked_complete, opening_sound, opening_complete, one_reading, one_marked, one_opening}

-- 0 and 1 are different
pub differ : {A : Type 0} → ◌≡◌ {A = ℕ} 0 1 → A
differ e = absurd (omega arith)

-- An answer that gives what a search found, unless it found none, decides.
module _ (P : List ℕ → Type 0) (o : Option (List ℕ)) (sound : (e : List ℕ) → o ≡ some e → P e) (complete : o ≡ none → (e : List ℕ) → P e → ⊥)
    (unique : (e d : List ℕ) → P e → P d → d ≡ e) where
  found_decides : (counted : List ℕ → ℕ) (refusal : ℕ) (s : Slot) (q : Question) (out : List ℕ) → given s.key q ≡ gives counted (found o) out
      → call_number s (ask q) ≡ cond (is_none o) (suc refusal) 0 → Decides P counted (suc refusal) out (step s (ask q))
  unfolding is_none found gives made
  found_decides counted refusal s q out g c = go o refl g (step-number s (ask q) ∙ c)
    where
      go : (p : Option (List ℕ)) → o ≡ p → given s.key q ≡ gives counted (found p) out → (step s (ask q)).number ≡ cond (is_none p) (suc refusal) 0
          → Decides P counted (suc refusal) out (step s (ask q))
      go none h g z = record { refuses = (λ e. complete h, λ f. z); only = λ f. absurd (f z); writes = λ e. absurd (omega arith) }
      go (some x) h g z =
          let w = step-made s (ask q) z in
          record {
            refuses = (λ e. absurd (omega arith), λ f. absurd (f x (sound x h)));
            only = λ f. z;
            writes = λ e. (
              x,
              sound x h,
              ap (λ (r : Result). r.output) w ∙ ap (λ (a : Given). a.output) g,
              ap (λ (r : Result). r.count) w ∙ ap (λ (a : Given). a.count) g,
              λ d p. unique x d (sound x h) p,
            );
          }

-- A long enough buffer and a well-formed word or capsule leave only the last condition.
read_first : (z a b c d : Bool) → z ≡ false → a ≡ true → b ≡ true → c ≡ false
    → first_of ((z, 21) ∷ (false, 25) ∷ (not a, 8) ∷ (not b, 9) ∷ (c, 10) ∷ (d, 14) ∷ []) ≡ cond d 14 0
unfolding first_of
read_first z a b c d o p q r = rw (o, p, q, r)

marked-first : (z a b m c d : Bool) → z ≡ false → a ≡ true → b ≡ true → m ≡ true → c ≡ false
    → first_of ((z, 21) ∷ (false, 25) ∷ (not a, 8) ∷ (not b, 9) ∷ (not m, 37) ∷ (c, 10) ∷ (d, 14) ∷ []) ≡ cond d 14 0
unfolding first_of
marked-first z a b m c d o p q r s = rw (o, p, q, r, s)

open_first : (z a b c d : Bool) → z ≡ false → a ≡ true → b ≡ true → c ≡ false
    → first_of ((false, 21) ∷ (false, 25) ∷ (z, 34) ∷ (false, 24) ∷ (not a, 8) ∷ (not b, 9) ∷ (c, 10) ∷ (d, 13) ∷ []) ≡ cond d 13 0
unfolding first_of
open_first z a b c d o p q r = rw (o, p, q, r)

-- demand 3's words on reading a word, with marks too, and on opening
abbrev Reads : Slot → Key → List ℕ → List ℕ → Type 0
Reads s k word out = well_formed k.n word ≡ true → bytes_for k.n ≤ length out → Decides (Differs k word) ones 14 out (step s (ask (read_word word out)))

abbrev ReadsMarked : Slot → Key → List ℕ → List ℕ → List ℕ → Type 0
ReadsMarked s k word marks out =
    well_formed k.n word ≡ true → well_formed k.n marks ≡ true → bytes_for k.n ≤ length out
    → Decides (DiffersMarked k word marks) (differences (unpack k.n marks)) 14 out (step s (ask (read_marked word marks out)))

abbrev Opens : Slot → Key → Matrix → List ℕ → List ℕ → Type 0
Opens s k rows capsule out =
    well_formed (capsule_bits k) capsule ≡ true → bytes_for k.n ≤ length out → Decides (Locks k rows capsule) ones 13 out (step s (ask (open_capsule capsule out)))

abbrev OpensAll : Slot → Key → Type 0
OpensAll s k = (reducible k ≡ false) × (rows : Matrix) × (public_key k ≡ some rows) × ((capsule out : List ℕ) → Opens s k rows capsule out)

module _ (k : Key) (good : key_number k ≡ 0) where
  pub read_decides : (st : State) → is_empty st ≡ false → (word out : List ℕ) → Reads (slot_of st k) k word out
  unfolding conditions_of question_conditions read_conditions given
  read_decides st h word out w long =
      found_decides (Differs k word) (reading k (unpack k.n word)) (reading_sound k word) (reading_complete k word) (one_reading k good word)
      ones 13 (slot_of st k) (read_word word out) out refl
      (ap (λ (x : Held). first_of (conditions_of x (ask (read_word word out)))) (sound_held st k good)
      ∙ read_first _ (eqb (length word) (bytes_for k.n)) (filler_clear k.n word) (ltb (length out) (bytes_for k.n)) _
      h (eq-eqb _ _ (well_formed-length k.n word w)) (well_formed-clear k.n word w) (le-ltb _ _ long))

  pub marked_decides : (st : State) → is_empty st ≡ false → (word marks out : List ℕ) → ReadsMarked (slot_of st k) k word marks out
  unfolding conditions_of question_conditions marked_conditions given
  marked_decides st h word marks out w z long =
      found_decides (DiffersMarked k word marks) (marked_reading k (unpack k.n word) (unpack k.n marks))
      (marked_sound k word marks) (marked_complete k word marks) (one_marked k good word marks)
      (differences (unpack k.n marks)) 13 (slot_of st k) (read_marked word marks out) out refl
      (ap (λ (x : Held). first_of (conditions_of x (ask (read_marked word marks out)))) (sound_held st k good)
      ∙ marked-first _ (eqb (length word) (bytes_for k.n)) (filler_clear k.n word) (well_formed k.n marks) (ltb (length out) (bytes_for k.n)) _
      h (eq-eqb _ _ (well_formed-length k.n word w)) (well_formed-clear k.n word w) z (le-ltb _ _ long))

  pub open_decides : reducible k ≡ false → (rows : Matrix) → public_key k ≡ some rows → (capsule out : List ℕ) → Opens (slot_of published k) k rows capsule out
  unfolding conditions_of question_conditions open_conditions given is_empty is_unpublished
  open_decides irreducible rows public capsule out w long =
      let s : List ℕ = unpack (capsule_bits k) capsule in
      found_decides (Locks k rows capsule) (opening k s) (opening_sound k good rows public capsule) (opening_complete k good rows public capsule)
      (one_opening k good rows public capsule) ones 12 (slot_of published k) (open_capsule capsule out) out refl
      (ap (λ (x : Held). first_of (conditions_of x (ask (open_capsule capsule out)))) (sound_held published k good)
      ∙ open_first (reducible k) (eqb (length capsule) (bytes_for (capsule_bits k))) (filler_clear (capsule_bits k) capsule) (ltb (length out) (bytes_for k.n)) _
      irreducible (eq-eqb _ _ (well_formed-length (capsule_bits k) capsule w)) (well_formed-clear (capsule_bits k) capsule w) (le-ltb _ _ long))

reading_after : {s : Slot} {l : Ledger} → Agree s l → (k : Key) (word out : List ℕ) → l.key ≡ some k → Reads s k word out
unfolding blank is_empty
reading_after nothing k word out e = differ (cc)
reading_after (held {k = j} h) k word out e =
    let q : j ≡ k = cc in subst (λ (x : Key). Reads (slot_of loaded j) x word out) q (read_decides j h loaded refl word out)
reading_after (marked {k = j} h r p) k word out e =
    let q : j ≡ k = cc in subst (λ (x : Key). Reads (slot_of published j) x word out) q (read_decides j h published refl word out)

marked_after : {s : Slot} {l : Ledger} → Agree s l → (k : Key) (word marks out : List ℕ) → l.key ≡ some k → ReadsMarked s k word marks out
unfolding blank is_empty
marked_after nothing k word marks out e = differ (cc)
marked_after (held {k = j} h) k word marks out e =
    let q : j ≡ k = cc in subst (λ (x : Key). ReadsMarked (slot_of loaded j) x word marks out) q (marked_decides j h loaded refl word marks out)
marked_after (marked {k = j} h r p) k word marks out e =
    let q : j ≡ k = cc in subst (λ (x : Key). ReadsMarked (slot_of published j) x word marks out) q (marked_decides j h published refl word marks out)

opening_after : {s : Slot} {l : Ledger} → Agree s l → (k : Key) → l.key ≡ some k → l.mark ≡ true → OpensAll s k
unfolding blank
opening_after nothing k e m = differ (cc)
opening_after (held h) k e m = differ (cc)
opening_after (marked {k = j} {rows = rows} h r p) k e m =
    let q : j ≡ k = cc in subst (λ (x : Key). OpensAll (slot_of published j) x) q (r, rows, p, open_decides j h r rows p)

pub after_every_list : AfterEveryList definitions
after_every_list calls =
    let a = agree_run nothing calls in
    record {
      key = agree_key a;
      numbers = agree_numbers nothing calls;
      opening = opening_after a;
      reading = reading_after a;
      marked_readings = marked_after a;
    }
