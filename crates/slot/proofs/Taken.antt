-- What the answers of load, open and read say once they are taken apart. Assumes nothing.
use Prim.Native.Nat.{ℕ, zero, suc}
use mathlib.Core.Path.{◌≡◌, refl, sym, ap, ◌∙◌}
use native.Mathlib.Omega.{arith}
use Rattle.bits.specs.Bits.{padded}
use Rattle.key.specs.Kept.{parts, keep, sizes_of}
use Rattle.key.specs.Answers.{sizes, shape_answer, answer_number as shape_number}
use Rattle.key.proofs.ShapeAnswers.{shape_number_lem, shape_sizes, shape_refused}
use Rattle.key.specs.declared.shape.Sizes.{Sizes}
use Rattle.key.specs.declared.shape.ShapeAnswer.TheVariants as shapes
use Rattle.reading.specs.Answers.{answer_of}
use Rattle.reading.specs.declared.calls.Answer.TheVariants as answers
use Rattle.ledger.specs.Slot.{loaded}
use Rattle.ledger.specs.Loading.{Loading, loaded_key}
use Rattle.ledger.specs.Calls.{load, made}
use Rattle.loading.specs.Forms.{loaded_shape}
use Rattle.slot.specs.Replies.{byte_of, answer_number, Reply, acceptance, moved, Handed, handed}
use Rattle.slot.specs.Parts.{loaded_of, answered_of}
use Rattle.slot.specs.declared.Slot.{Slot}
use Rattle.slot.proofs.ReplyLaws.{lower, lower_none}
use Rattle.slot.proofs.StepView.{accepted_reply}

answer_number_lem : (q w : ℕ) → answer_number (answer_of q w) ≡ q
unfolding answer_number answer_of
answer_number_lem zero w = refl
answer_number_lem (suc q) w = refl

answer-ones : (q v : ℕ) {w : ℕ} → answer_of q v ≡ answers.Ones w → (q ≡ 0) × (w ≡ v)
unfolding answer_of
answer-ones zero v e = (refl, cc)
answer-ones (suc q) v e = let z : ◌≡◌ {A = ℕ} 0 1 = cc in absurd (omega arith)

answer_refused : (q v : ℕ) {x : ℕ} → answer_of q v ≡ answers.Refused x → q ≡ 0 → ⊥
unfolding answer_of
answer_refused zero v e h = let z : ◌≡◌ {A = ℕ} 0 1 = cc in omega arith
answer_refused (suc q) v e h = omega arith

module _ (h : Handed) where
  -- the number is the reply's, and 0 where the call is accepted
  pub loaded_number : shape_number (loaded_of h) ≡ h.reply.refused
  unfolding loaded_of
  loaded_number = shape_number_lem _ _

  pub loaded_refused : {x : ℕ} → loaded_of h ≡ shapes.Refused x → h.reply.refused ≡ 0 → ⊥
  unfolding loaded_of
  loaded_refused e = (shape_refused _ _ e).1

  pub loaded_accepted : {z : Sizes} → loaded_of h ≡ shapes.Sizes z → h.reply.refused ≡ 0
  unfolding loaded_of
  loaded_accepted e = (shape_sizes _ _ e).0

  pub answered-number : answer_number (answered_of h) ≡ h.reply.refused
  unfolding answered_of
  answered-number = answer_number_lem _ _

  pub answered_refused : {x : ℕ} → answered_of h ≡ answers.Refused x → h.reply.refused ≡ 0 → ⊥
  unfolding answered_of
  answered_refused e = answer_refused _ _ e

  -- the ones are the reply's
  pub answered-ones : {w : ℕ} → answered_of h ≡ answers.Ones w → (h.reply.refused ≡ 0) × (w ≡ h.reply.ones)
  unfolding answered_of
  answered-ones e = answer-ones _ _ e

-- an accepted load: nothing refuses what is loaded, and the shape is its key's
module _ (s : Slot) (f : Loading) {z : Sizes} (e : loaded_of (handed s (load f)) ≡ shapes.Sizes z) where
  loaded_said : z ≡ sizes_of (loaded_key f)
  unfolding loaded_of moved keep made acceptance sizes sizes_of
  loaded_said =
      let o = shape_sizes _ _ e in
      o.1 ∙ ap (λ (r : Reply). sizes (r.slot.key.m, r.slot.key.n, r.slot.key.t)) (accepted_reply s (load f) refl o.0)

  pub loaded_shape_lem : loaded_shape f ≡ shapes.Sizes z
  unfolding loaded_shape lower shape_answer sizes sizes_of
  loaded_shape_lem =
      ap (λ (i : ℕ). shape_answer i ((loaded_key f).m, (loaded_key f).n, (loaded_key f).t)) (lower_none s (load f) (loaded_accepted (handed s (load f)) e))
      ∙ ap (λ (z : Sizes). shapes.Sizes z) (sym loaded_said)

  -- the key is kept: its shape, and its arrays
  pub loaded_slot : record { state = byte_of loaded; key = parts z.m z.n z.t (padded 8192 (loaded_key f).support) (padded 128 (loaded_key f).g) } ≡ moved s (load f)
  unfolding moved keep sizes_of
  loaded_slot =
      ap (λ (z : Sizes). record { state = byte_of loaded; key = parts z.m z.n z.t (padded 8192 (loaded_key f).support) (padded 128 (loaded_key f).g) }) loaded_said
