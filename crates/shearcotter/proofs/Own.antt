-- Replies that hold the caller's own station, or its keys. Assumes nothing.
use Prim.Native.Nat.{ℕ}
use mathlib.Core.Path.{◌≡◌, sym, ap, ◌∙◌}
use Rattle.ledger.specs.Publishing.{Publishing}
use Rattle.ledger.specs.Questions.{Question}
use Rattle.ledger.specs.Calls.{publish, ask}
use Rattle.recipients.specs.Names.{named}
use Rattle.station.specs.Replies.{handed, reply_of, reported_of, derived_of}
use Rattle.station.specs.declared.Station.{Station}
use Rattle.station.specs.declared.Reply.{Reply}
use Rattle.station.specs.declared.Reported.{Reported}
use Rattle.station.specs.declared.Derived.{Derived}
use Rattle.station.proofs.Named.{question_stays, keys_of, publish_keys}

-- a reply with another station
abbrev pub with : Station → Reply → Reply
with s r = record { station = s; refused = r.refused; ones = r.ones }

-- publish leaves the keys
pub own_keys : (s : Station) (b : ℕ) (p : Publishing) {r : Reply} → r ≡ reply_of (handed s (named b (publish p)))
    → with (keys_of s r.station) r ≡ reply_of (handed s (named b (publish p)))
unfolding reply_of
own_keys s b p e =
    ap (λ (x : Reply). with (keys_of s x.station) x) e
    ∙ ap (λ (t : Station). with t (reply_of (handed s (named b (publish p))))) (publish_keys s b p)

-- a question leaves the station, whatever else its reply has
module _ (s : Station) (b : ℕ) (q : Question) where
  pub own_left : {r : Reply} → r ≡ reply_of (handed s (named b (ask q))) → with s r ≡ reply_of (handed s (named b (ask q)))
  unfolding reply_of
  own_left e = ap (with s) e ∙ ap (λ (t : Station). with t (reply_of (handed s (named b (ask q))))) (sym (question_stays s b q))

  pub own_reported : {r : Reported} → r ≡ reported_of (handed s (named b (ask q)))
      → record { station = s; refused = r.refused; counts = r.counts } ≡ reported_of (handed s (named b (ask q)))
  unfolding reported_of
  own_reported e =
      let h = handed s (named b (ask q)) in
      ap (λ (r : Reported). record { station = s; refused = r.refused; counts = r.counts }) e
      ∙ ap (λ (t : Station). record { station = t; refused = h.number; counts = h.answer }) (sym (question_stays s b q))

  pub own_derived : {r : Derived} → r ≡ derived_of (handed s (named b (ask q)))
      → record { station = s; refused = r.refused; key = r.key } ≡ derived_of (handed s (named b (ask q)))
  unfolding derived_of
  own_derived e =
      let h = handed s (named b (ask q)) in
      ap (λ (r : Derived). record { station = s; refused = r.refused; key = r.key }) e
      ∙ ap (λ (t : Station). record { station = t; refused = h.number; key = h.answer }) (sym (question_stays s b q))
