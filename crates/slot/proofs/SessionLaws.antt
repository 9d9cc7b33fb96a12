-- What the session key's call hands back, from the lower call's answer. Assumes nothing.
use Prim.Native.Nat.{ℕ}
use mathlib.Core.Path.{◌≡◌, ap, ◌∙◌}
use mathlib.Core.Bool.{Bool, true, false, not}
use mathlib.Core.List.{List}
use Rattle.key.specs.Kept.{kept}
use Rattle.session.specs.Session.{session_number, session_bytes}
use Rattle.ledger.specs.Slot.{is_empty, is_unpublished, held_by}
use Rattle.ledger.specs.Questions.{derive_session_key, question_conditions, given, answer_size}
use Rattle.ledger.specs.Calls.{ask, no_answer, made}
use Rattle.session_key.specs.declared.SessionKey.{SessionKey}
use Rattle.slot.specs.Replies.{state_of, view, handed}
use Rattle.slot.specs.Parts.{derived_of}
use Rattle.slot.specs.declared.Slot.{Slot}
use Rattle.slot.proofs.ReplyLaws.{lower}
use Rattle.slot.proofs.QuestionLaws.{question_stopped, question_lower, not_published}

module _ (s : Slot) (capsule secret : List ℕ) where
  -- the answer, part by part
  derived : {n : ℕ} {key : List ℕ} → (let h = handed s (ask (derive_session_key capsule secret)) in
      n ≡ h.reply.refused → key ≡ h.answer → ◌≡◌ {A = SessionKey} (record { refused = n; key = key }) (derived_of h))
  unfolding derived_of
  derived e f = rw (e, f)

  -- without a key
  pub session_stopped : is_empty (state_of s.state) ≡ true → {key : List ℕ} → key ≡ no_answer (ask (derive_session_key capsule secret))
      → record { refused = 21; key = key } ≡ derived_of (handed s (ask (derive_session_key capsule secret)))
  session_stopped h e =
      let t = question_stopped s (derive_session_key capsule secret) h in
      derived t.0 (e ∙ t.1)

  -- with a key: published or not by b
  pub session_lower : is_empty (state_of s.state) ≡ false → (b : Bool) → b ≡ not (is_unpublished (state_of s.state))
      → record { refused = session_number (not b) (kept s.key) capsule secret; key = session_bytes (not b) (kept s.key) capsule secret }
      ≡ derived_of (handed s (ask (derive_session_key capsule secret)))
  unfolding lower question_conditions held_by view session_number session_bytes made given no_answer answer_size
  session_lower keyed b e =
      let m = not_published s b e in
      let l = question_lower s (derive_session_key capsule secret) keyed in
      derived (ap (λ (u : Bool). session_number u (kept s.key) capsule secret) m ∙ l.0)
      (ap (λ (u : Bool). session_bytes u (kept s.key) capsule secret) m ∙ l.1)
