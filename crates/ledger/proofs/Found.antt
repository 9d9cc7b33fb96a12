-- What an accepted call found: a key that load accepts, buffers long enough, a well-formed word. Assumes nothing.
use Prim.Native.Nat.{ℕ, ◌≤◌}
use mathlib.Core.Path.{◌≡◌, refl, sym, ◌∙◌}
use mathlib.Core.Bool.{true, false, true≢false}
use mathlib.Core.List.{List}
use mathlib.Core.Option.{some}
use lib.ListN.{length}
use borrow.Author.Tests.{not-false, eqb-true, ltb-false}
use Rattle.bits.specs.Bits.{bytes_for, well_formed}
use Rattle.bits.proofs.Pack.{well_formed_lem}
use Rattle.field.proofs.Numbers.{first-clear}
use Rattle.key.specs.Keys.{Key, key_number, unsound, reducible}
use Rattle.code.specs.PublicKey.{Matrix, public_key}
use Rattle.decoder.specs.Calls.{read_conditions}
use Rattle.marks.specs.Marked.{marked_conditions}
use Rattle.ledger.specs.Slot.{State, empty, loaded, published, Slot, is_empty, held_by}
use Rattle.ledger.specs.Publishing.{Publishing}
use Rattle.ledger.specs.Questions.{read_word, read_marked, question_conditions}
use Rattle.ledger.specs.Calls.{publish, ask, conditions_of, step}
use Rattle.ledger.specs.Demands.{at, key_held}
use Rattle.ledger.proofs.Forms.{publishing_public}
use Rattle.ledger.proofs.StepLaws.{step-number}

-- a slot that is not empty holds its key
holds : (st : State) (k : Key) → is_empty st ≡ false → key_held (at st k) ≡ some k
unfolding is_empty key_held at
holds empty k h = absurd (true≢false h)
holds loaded k h = refl
holds published k h = refl

pub holds_key : (s : Slot) → is_empty s.state ≡ false → key_held s ≡ some s.key
unfolding at
holds_key s h = holds s.state s.key h

-- publish: the key is irreducible and has a public key
pub record Publishes (s : Slot) : Type 0 where
  pub held : key_held s ≡ some s.key
  pub good : key_number s.key ≡ 0
  pub irreducible : reducible s.key ≡ false
  pub rows : Matrix
  pub public : public_key s.key ≡ some rows

pub publish_found : (s : Slot) (p : Publishing) → (step s (publish p)).number ≡ 0 → Publishes s
unfolding held_by conditions_of unsound
publish_found s p e =
    let c21 = first-clear _ 20 _ (sym (step-number s (publish p)) ∙ e) in
    let q = publishing_public (held_by s) p c21.1 in
    record { held = holds_key s c21.0; good = eqb-true _ _ (not-false _ q.sound); irreducible = q.irreducible; rows = q.rows; public = q.public }

-- read
pub record Reads (s : Slot) (word out : List ℕ) : Type 0 where
  pub held : key_held s ≡ some s.key
  pub good : key_number s.key ≡ 0
  pub formed : well_formed s.key.n word ≡ true
  pub long : bytes_for s.key.n ≤ length out

pub read_found : (s : Slot) (word out : List ℕ) → (step s (ask (read_word word out))).number ≡ 0 → Reads s word out
unfolding held_by conditions_of question_conditions read_conditions unsound
read_found s word out e =
    let c21 = first-clear _ 20 _ (sym (step-number s (ask (read_word word out))) ∙ e) in
    let c25 = first-clear _ 24 _ c21.1 in
    let c8 = first-clear _ 7 _ c25.1 in
    let c9 = first-clear _ 8 _ c8.1 in
    let c10 = first-clear _ 9 _ c9.1 in
    record {
      held = holds_key s c21.0;
      good = eqb-true _ _ (not-false _ c25.0);
      formed = well_formed_lem s.key.n word (eqb-true _ _ (not-false _ c8.0)) (not-false _ c9.0);
      long = ltb-false _ _ c10.0;
    }

-- marked reading
pub record ReadsMarked (s : Slot) (word marks out : List ℕ) : Type 0 where
  pub held : key_held s ≡ some s.key
  pub good : key_number s.key ≡ 0
  pub formed : well_formed s.key.n word ≡ true
  pub marked : well_formed s.key.n marks ≡ true
  pub long : bytes_for s.key.n ≤ length out

pub marked_found_lem : (s : Slot) (word marks out : List ℕ) → (step s (ask (read_marked word marks out))).number ≡ 0 → ReadsMarked s word marks out
unfolding held_by conditions_of question_conditions marked_conditions unsound
marked_found_lem s word marks out e =
    let c21 = first-clear _ 20 _ (sym (step-number s (ask (read_marked word marks out))) ∙ e) in
    let c25 = first-clear _ 24 _ c21.1 in
    let c8 = first-clear _ 7 _ c25.1 in
    let c9 = first-clear _ 8 _ c8.1 in
    let c37 = first-clear _ 36 _ c9.1 in
    let c10 = first-clear _ 9 _ c37.1 in
    record {
      held = holds_key s c21.0;
      good = eqb-true _ _ (not-false _ c25.0);
      formed = well_formed_lem s.key.n word (eqb-true _ _ (not-false _ c8.0)) (not-false _ c9.0);
      marked = not-false _ c37.0;
      long = ltb-false _ _ c10.0;
    }
