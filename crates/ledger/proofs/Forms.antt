-- Each form of a call: no condition has the number 0; what holds once its conditions are clear; publish's free bytes. Assumes nothing.
use Prim.Native.Nat.{ℕ, suc}
use mathlib.Core.Path.{◌≡◌, refl, sym, ◌∙◌}
use mathlib.Core.Logic.{◌⊎◌, inl, inr}
use mathlib.Core.Bool.{Bool, true, false, true≢false, cond}
use mathlib.Core.List.{List, [], ◌∷◌, ◌++◌}
use mathlib.Core.Option.{Option, none, some}
use native.Mathlib.Omega.{arith}
use lib.Dec.{eqb}
use borrow.Author.Tests.{eqb-true}
use Rattle.bits.specs.Bits.{over}
use Rattle.field.specs.Numbers.{first_of}
use Rattle.field.proofs.Numbers.{numbered, first-clear, first-append}
use Rattle.key.specs.Keys.{Key, conditions, file_conditions, key_number, unsound, reducible}
use Rattle.key.proofs.Parse.{accepted_key}
use Rattle.network_key.specs.Files.{network_conditions}
use Rattle.network_key.proofs.Convert.{accepted-network}
use Rattle.code.specs.PublicKey.{Matrix, public_key, dependent, written}
use Rattle.code.specs.Publish.{work_bytes, publish_conditions, free_bytes, publish_checks_within, publish_conditions_within, free_bytes_within}
use Rattle.code.proofs.Exchange.{exchangeable}
use Rattle.decoder.specs.Calls.{open_conditions, read_conditions}
use Rattle.marks.specs.Marked.{marked_conditions}
use Rattle.records.specs.Records.{report_conditions}
use Rattle.session.specs.Session.{session_conditions}
use Rattle.ledger.specs.Slot.{Held}
use Rattle.ledger.specs.Loading.{Loading, key_file, network_file, loading_conditions, loaded_key}
use Rattle.ledger.specs.Publishing.{Publishing, systematic, public_buffer, work_buffer, needed_bytes, publishing_conditions, publication, freed_bytes}
use Rattle.ledger.specs.Questions.{Question, open_capsule, read_word, read_marked, report, derive_session_key, question_conditions}

-- load
pub loading_numbered : (f : Loading) → numbered (loading_conditions f) ≡ true
unfolding numbered loading_conditions conditions file_conditions network_conditions
loading_numbered (key_file file) = refl
loading_numbered (network_file file) = refl

pub loading_good : (f : Loading) → first_of (loading_conditions f) ≡ 0 → key_number (loaded_key f) ≡ 0
unfolding loading_conditions loaded_key
loading_good (key_file file) e = accepted_key file e
loading_good (network_file file) e = accepted-network file e

-- publish
pub publishing_numbered : (h : Held) (p : Publishing) → numbered (publishing_conditions h p) ≡ true
unfolding numbered publishing_conditions publish_checks_within publish_conditions_within
publishing_numbered h p = refl

-- a key whose first columns are not dependent has a public key
public_rows : (k : Key) → dependent k ≡ false → (rows : Matrix) × (public_key k ≡ some rows)
unfolding dependent
public_rows k h = go (public_key k) refl h
  where
    go : (o : Option Matrix) → public_key k ≡ o → elim o [ none ↦ true | some rows ↦ false ] ≡ false → (rows : Matrix) × (public_key k ≡ some rows)
    go none e h = absurd (true≢false h)
    go (some rows) e h = (rows, e)

pub record Public (h : Held) : Type 0 where
  pub sound : h.unsound ≡ false
  pub irreducible : reducible h.key ≡ false
  pub rows : Matrix
  pub public : public_key h.key ≡ some rows

pub publishing_public : (h : Held) (p : Publishing) → first_of (publishing_conditions h p) ≡ 0 → Public h
unfolding publishing_conditions publish_checks_within publish_conditions_within
publishing_public h f e =
    let x = exchangeable h.unsound h.key _ e in
    let p = public_rows h.key (first-clear _ 22 _ (first-clear _ 10 _ (first-clear _ 9 _ x.rest).1).1).0 in
    record { sound = x.sound; irreducible = x.irreducible; rows = p.0; public = p.1 }

-- questions
pub question_numbered : (h : Held) (q : Question) → numbered (question_conditions h q) ≡ true
unfolding numbered question_conditions open_conditions read_conditions marked_conditions report_conditions session_conditions
question_numbered h (open_capsule capsule out) = refl
question_numbered h (read_word word out) = refl
question_numbered h (read_marked word marks out) = refl
question_numbered h (report capsules records) = refl
question_numbered h (derive_session_key capsule secret) = refl

-- A refusal by another number than 23 leaves the workspace as it was.
only_23 : (b : Bool) (n : ℕ) → first_of ((b, 23) ∷ []) ≡ suc n → suc n ≡ 23
unfolding first_of
only_23 true n e = sym e
only_23 false n e = absurd (omega arith)

refused_free : (checks : List (Bool × ℕ)) (d : Bool) (w n : ℕ) → numbered checks ≡ true
    → first_of (checks ++ ((d, 23) ∷ [])) ≡ suc n → (suc n ≡ 23 → ⊥) → cond (eqb (first_of checks) 0) w 0 ≡ 0
refused_free checks d w n ok e other = go (eqb (first_of checks) 0) refl
  where
    go : (b : Bool) → eqb (first_of checks) 0 ≡ b → cond b w 0 ≡ 0
    go false h = refl
    go true h = absurd (other (only_23 d n (sym (first-append checks _ ok (eqb-true _ _ h)) ∙ e)))

pub publishing_free : (h : Held) (p : Publishing) (n : ℕ) → h.unsound ≡ unsound h.key → first_of (publishing_conditions h p) ≡ suc n → (suc n ≡ 23 → ⊥)
    → freed_bytes h.key p ≡ 0
unfolding numbered publishing_conditions publish_checks_within publish_conditions_within freed_bytes free_bytes_within
publishing_free h p n same e other =
    rw (← same)
    (refused_free (publish_checks_within (needed_bytes h.key p) h.unsound h.key (public_buffer p) (work_buffer p)) (dependent h.key) (needed_bytes h.key p) n refl e other)

-- No byte of the workspace is free, or those that the form needs.
none_or_work : (b : Bool) (w : ℕ) → (cond b w 0 ≡ 0) ⊎ (cond b w 0 ≡ w)
none_or_work true w = inr refl
none_or_work false w = inl refl

pub freed_needed : (k : Key) (p : Publishing) → (freed_bytes k p ≡ 0) ⊎ (freed_bytes k p ≡ needed_bytes k p)
unfolding freed_bytes free_bytes_within
freed_needed k p = none_or_work (eqb (first_of (publish_checks_within (needed_bytes k p) (unsound k) k (public_buffer p) (work_buffer p))) 0) (needed_bytes k p)

pub freed_workspace : (k : Key) (out work : List ℕ) → (freed_bytes k (systematic out work) ≡ 0) ⊎ (freed_bytes k (systematic out work) ≡ work_bytes k)
unfolding needed_bytes
freed_workspace k out work = freed_needed k (systematic out work)

-- what the definitions say of the form that needs m·t rows of n bits
pub systematic_conditions : (h : Held) (out work : List ℕ) → publishing_conditions h (systematic out work) ≡ publish_conditions h.unsound h.key out work
unfolding publishing_conditions needed_bytes public_buffer work_buffer
systematic_conditions h out work = refl

pub systematic_output : (k : Key) (out work : List ℕ) → publication k (systematic out work) ≡ over (written (public_key k)) out
unfolding publication public_buffer
systematic_output k out work = refl

pub systematic_free : (k : Key) (out work : List ℕ) → freed_bytes k (systematic out work) ≡ free_bytes k out work
unfolding freed_bytes needed_bytes public_buffer work_buffer
systematic_free k out work = refl
