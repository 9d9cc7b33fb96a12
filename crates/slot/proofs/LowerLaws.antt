-- What each call hands back once its state lets it through, from the lower call's answer. Assumes nothing.
use Prim.Native.Nat.{ℕ, zero, suc}
use mathlib.Core.Path.{◌≡◌, refl, sym, ap, ◌∙◌, subst}
use mathlib.Core.Bool.{Bool, true, false, not, cond}
use mathlib.Core.List.{List}
use native.Mathlib.Omega.{arith}
use lib.ListN.{drop}
use Rattle.key.specs.Keys.{Key}
use Rattle.key.specs.Kept.{kept, keep}
use Rattle.key.specs.Answers.{shape_answer}
use Rattle.code.specs.Publish.{free_bytes, free_bytes_within, publish_number, publish_number_within, publish_output, publish_output_within}
use Rattle.decoder.specs.Calls.{open_number, read_number, open_output, read_output, pattern_output}
use Rattle.reading.specs.Answers.{answer_of, open_of, read_of}
use Rattle.marks.specs.Marked.{marked_number, marked_output}
use Rattle.marked_reading.specs.Answers.{marked_of}
use Rattle.ledger.specs.Slot.{is_empty, is_unpublished, held_by}
use Rattle.ledger.specs.Loading.{Loading, loading_conditions, loaded_key}
use Rattle.loading.specs.Forms.{loaded_shape}
use Rattle.ledger.specs.Publishing.{Publishing, systematic, public_buffer, work_buffer, needed_bytes, publishing_conditions, publication, freed_bytes}
use Rattle.ledger.specs.Questions.{open_capsule, read_word, read_marked, answer_buffer, question_conditions, gives, given}
use Rattle.ledger.specs.Calls.{Call, load, publish, ask, output_of, made}
use Rattle.ledger.proofs.StepLaws.{step_free}
use Rattle.slot.specs.Replies.{state_of, view, Reply, refusal, acceptance, moved, handed}
use Rattle.slot.specs.Parts.{loaded_of, answered_of}
use Rattle.slot.specs.declared.Slot.{Slot}
use Rattle.slot.proofs.ReplyLaws.{stop, lower, lower_number, lower_refused, lower_accepted, lower_output}

-- load, on an empty slot: the shape of the key that is kept
pub load_answer : (s : Slot) (f : Loading) → is_empty (state_of s.state) ≡ true → loaded_shape f ≡ loaded_of (handed s (load f))
unfolding loaded_shape loaded_of stop lower loading_conditions shape_answer moved loaded_key keep acceptance refusal
load_answer s f empty = go (lower s (load f)) refl
  where
    k : Key
    k = loaded_key f

    go : (n : ℕ) → n ≡ lower s (load f) → loaded_shape f ≡ loaded_of (handed s (load f))
    go zero e =
        ap (λ (i : ℕ). shape_answer i (k.m, k.n, k.t)) (sym e)
        ∙ ap (λ (r : Reply). shape_answer r.refused (r.slot.key.m, r.slot.key.n, r.slot.key.t))
        (lower_accepted s (load f) (ap not empty) (sym e))
    go (suc n) e =
        ap (λ (i : ℕ). shape_answer i (k.m, k.n, k.t)) (sym e)
        ∙ ap (λ (r : Reply). shape_answer r.refused (r.slot.key.m, r.slot.key.n, r.slot.key.t))
        (lower_refused s (load f) (ap not empty) (suc n) e (λ z. omega arith))

-- publish, of each form, with a key
module _ (s : Slot) (p : Publishing) (keyed : is_empty (state_of s.state) ≡ false) where
  form_passes : (stop s (publish p)).0 ≡ false
  unfolding stop
  form_passes = keyed

  pub form_number : publish_number_within (needed_bytes (kept s.key) p) (kept s.key) (public_buffer p) (work_buffer p) ≡ (handed s (publish p)).reply.refused
  unfolding lower publishing_conditions held_by view publish_number_within
  form_number = lower_number s (publish p) form_passes

  pub form_output : publish_output_within (needed_bytes (kept s.key) p) (kept s.key) (public_buffer p) (work_buffer p) ≡ (handed s (publish p)).output
  unfolding publish_output_within publish_number_within lower publishing_conditions held_by made publication view output_of
  form_output = lower_output s (publish p) form_passes

  pub form_work : (before after : List ℕ) → (let f = free_bytes_within (needed_bytes (kept s.key) p) (kept s.key) (public_buffer p) (work_buffer p) in drop f after ≡ drop f before)
      → (let f = (handed s (publish p)).free in drop f after ≡ drop f before)
  unfolding handed made freed_bytes view
  form_work before after =
      subst (λ (f : ℕ). drop f after ≡ drop f before)
      (sym (step_free (view s) (publish p) ∙ ap (λ (b : Bool). cond b 0 (freed_bytes (kept s.key) p)) keyed))

-- the form that needs m·t rows of n bits
module _ (s : Slot) (out work : List ℕ) (keyed : is_empty (state_of s.state) ≡ false) where
  pub publish_passes : (stop s (publish (systematic out work))).0 ≡ false
  publish_passes = form_passes s (systematic out work) keyed

  pub publish_number_lem : publish_number (kept s.key) out work ≡ (handed s (publish (systematic out work))).reply.refused
  unfolding needed_bytes public_buffer work_buffer
  publish_number_lem = form_number s (systematic out work) keyed

  pub publish_output_lem : publish_output (kept s.key) out work ≡ (handed s (publish (systematic out work))).output
  unfolding needed_bytes public_buffer work_buffer
  publish_output_lem = form_output s (systematic out work) keyed

  pub publish_work : (before after : List ℕ) → (let f = free_bytes (kept s.key) out work in drop f after ≡ drop f before)
      → (let f = (handed s (publish (systematic out work))).free in drop f after ≡ drop f before)
  unfolding needed_bytes public_buffer work_buffer
  publish_work before after = form_work s (systematic out work) keyed before after

-- open and read, with a key
answer_lower : (s : Slot) (c : Call) → (stop s c).0 ≡ false → answer_of (lower s c) (made (view s) c).count ≡ answered_of (handed s c)
unfolding answered_of answer_of acceptance refusal
answer_lower s c passes = go (lower s c) refl
  where
    go : (n : ℕ) → n ≡ lower s c → answer_of (lower s c) (made (view s) c).count ≡ answered_of (handed s c)
    go zero e =
        ap (λ (i : ℕ). answer_of i (made (view s) c).count) (sym e)
        ∙ ap (λ (r : Reply). answer_of r.refused r.ones) (lower_accepted s c passes (sym e))
    go (suc n) e =
        ap (λ (i : ℕ). answer_of i (made (view s) c).count) (sym e)
        ∙ ap (λ (r : Reply). answer_of r.refused r.ones) (lower_refused s c passes (suc n) e (λ z. omega arith))

pub not_not : (b : Bool) → not (not b) ≡ b
not_not true = refl
not_not false = refl

module _ (s : Slot) (capsule out : List ℕ) (keyed : is_empty (state_of s.state) ≡ false) (b : Bool) (e : b ≡ not (is_unpublished (state_of s.state))) where
  open_passes : (stop s (ask (open_capsule capsule out))).0 ≡ false
  unfolding stop
  open_passes = keyed

  marked : not b ≡ is_unpublished (state_of s.state)
  marked = ap not e ∙ not_not _

  pub open_answer : open_of (not b) (kept s.key) capsule out ≡ answered_of (handed s (ask (open_capsule capsule out)))
  unfolding lower question_conditions held_by open_number made given gives view open_of
  open_answer = ap (λ (u : Bool). open_of u (kept s.key) capsule out) marked ∙ answer_lower s (ask (open_capsule capsule out)) open_passes

  pub open_output_lem : open_output (not b) (kept s.key) capsule out ≡ (handed s (ask (open_capsule capsule out))).output
  unfolding open_output open_number pattern_output lower question_conditions held_by made given gives view output_of answer_buffer
  open_output_lem =
      ap (λ (u : Bool). open_output u (kept s.key) capsule out) marked ∙ lower_output s (ask (open_capsule capsule out)) open_passes

module _ (s : Slot) (word out : List ℕ) (keyed : is_empty (state_of s.state) ≡ false) where
  read_passes : (stop s (ask (read_word word out))).0 ≡ false
  unfolding stop
  read_passes = keyed

  pub read_answer : read_of (kept s.key) word out ≡ answered_of (handed s (ask (read_word word out)))
  unfolding lower question_conditions held_by read_number made given gives view read_of
  read_answer = answer_lower s (ask (read_word word out)) read_passes

  pub read_output_lem : read_output (kept s.key) word out ≡ (handed s (ask (read_word word out))).output
  unfolding read_output read_number pattern_output lower question_conditions held_by made given gives view output_of answer_buffer
  read_output_lem = lower_output s (ask (read_word word out)) read_passes

module _ (s : Slot) (word marks out : List ℕ) (keyed : is_empty (state_of s.state) ≡ false) where
  marked_passes : (stop s (ask (read_marked word marks out))).0 ≡ false
  unfolding stop
  marked_passes = keyed

  pub marked-answer : marked_of (kept s.key) word marks out ≡ answered_of (handed s (ask (read_marked word marks out)))
  unfolding lower question_conditions held_by marked_number made given gives view marked_of
  marked-answer = answer_lower s (ask (read_marked word marks out)) marked_passes

  pub marked_output_lem : marked_output (kept s.key) word marks out ≡ (handed s (ask (read_marked word marks out))).output
  unfolding marked_output marked_number pattern_output lower question_conditions held_by made given gives view output_of answer_buffer
  marked_output_lem = lower_output s (ask (read_marked word marks out)) marked_passes
