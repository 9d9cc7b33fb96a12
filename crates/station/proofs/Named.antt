-- What a call hands back, by its byte: 35 where that is no name, else what the slot's call hands back. Assumes nothing.
use Prim.Native.Nat.{ℕ, zero, suc}
use mathlib.Core.Path.{◌≡◌, refl, sym, ap, ap₂, ◌∙◌}
use mathlib.Core.Bool.{Bool, true, false, true≢false}
use mathlib.Core.List.{List}
use native.Mathlib.Omega.{arith}
use borrow.Author.Tests.{ne_eqb}
use lib.ListN.{drop}
use Rattle.bits.specs.Bits.{padded}
use Rattle.field.specs.Verdicts.{verdict_of, number_of}
use Rattle.field.specs.declared.Verdict.{Verdict}
use Rattle.field.specs.declared.Verdict.TheVariants as verdicts
use Rattle.field.proofs.Verdicts.{verdict_accepted, verdict_taken}
use Rattle.key.specs.Kept.{parts}
use Rattle.key.specs.Answers.{answer_number as shape_number}
use Rattle.key.specs.declared.kept.Key.{Key}
use Rattle.key.specs.declared.shape.Sizes.{Sizes}
use Rattle.key.specs.declared.shape.ShapeAnswer.{ShapeAnswer}
use Rattle.key.specs.declared.shape.ShapeAnswer.TheVariants as shapes
use Rattle.reading.specs.declared.calls.Answer.{Answer}
use Rattle.reading.specs.declared.calls.Answer.TheVariants as answers
use Rattle.ledger.specs.Slot.{loaded, held_by, Outcome}
use Rattle.ledger.specs.Loading.{Loading, loaded_key}
use Rattle.ledger.specs.Publishing.{Publishing}
use Rattle.ledger.specs.Questions.{Question}
use Rattle.ledger.specs.Calls.{Call, load, publish, ask, drop_key, conditions_of, output_of, no_answer, made}
use Rattle.slot.specs.Replies.{byte_of, view, answer_number, fresh_slot, Reply as SlotReply, refusal as slot_refusal, acceptance, moved, outcome_of}
use Rattle.slot.specs.Replies as Slots
use Rattle.slot.specs.Parts.{keyless, loaded_of, answered_of}
use Rattle.slot.specs.declared.Slot.{Slot}
use Rattle.slot.proofs.StepView.{refused_reply, accepted_reply, state_number, publish_key, question_left}
use Rattle.slot.proofs.Taken.{loaded_number, loaded_refused, loaded_accepted, loaded_slot, answered-number, answered_refused, answered-ones}
use Rattle.naming.specs.Picks.{known, pick}
use Rattle.recipients.specs.Names.{Name, A, B, name_of, named}
use Rattle.recipients.specs.Recipients.{unknown, within, called}
use Rattle.station.specs.Replies.{slot_of, put, handed, reply_of, reported_of, derived_of}
use Rattle.station.specs.Chosen.{chosen, refusal, placed, marked}
use Rattle.station.specs.declared.Station.{Station}

-- the slot that is there, put back
pub put_same : (x : Name) (s : Station) → put x (slot_of x s) s ≡ s
unfolding put slot_of
put_same A s = refl
put_same B s = refl

known_other : (b : ℕ) → known (suc (suc (suc b))) ≡ false
unfolding known
known_other b = rw (ne_eqb (suc (suc (suc b))) 1 (λ z. omega arith), ne_eqb (suc (suc (suc b))) 2 (λ z. omega arith)) refl

module _ (s : Station) (b : ℕ) (c : Call) where
  -- no name
  handed-unknown : known b ≡ false → handed s (named b c) ≡ unknown s c
  unfolding handed called name_of known
  handed-unknown h = go b h
    where
      go : (b : ℕ) → known b ≡ false → handed s (named b c) ≡ unknown s c
      go zero h = refl
      go (suc zero) h = absurd (true≢false h)
      go (suc (suc zero)) h = absurd (true≢false h)
      go (suc (suc (suc b))) h = refl

  pub reply_unknown : known b ≡ false → refusal s 35 ≡ reply_of (handed s (named b c))
  unfolding reply_of unknown
  reply_unknown h = ap reply_of (sym (handed-unknown h))

  pub reported_unknown : known b ≡ false → record { station = s; refused = 35; counts = no_answer c } ≡ reported_of (handed s (named b c))
  unfolding reported_of unknown
  reported_unknown h = ap reported_of (sym (handed-unknown h))

  pub derived_unknown : known b ≡ false → record { station = s; refused = 35; key = no_answer c } ≡ derived_of (handed s (named b c))
  unfolding derived_of unknown
  derived_unknown h = ap derived_of (sym (handed-unknown h))

  pub output_unknown : known b ≡ false → output_of c ≡ (handed s (named b c)).output
  unfolding unknown
  output_unknown h = ap (λ (r : Outcome Station). r.output) (sym (handed-unknown h))

  -- a name
  handed-known : known b ≡ true → handed s (named b c) ≡ within (λ t. put (chosen b) t s) (outcome_of (Slots.handed (slot_of (chosen b) s) c))
  unfolding handed called name_of known pick
  handed-known h = go b h
    where
      go : (b : ℕ) → known b ≡ true → handed s (named b c) ≡ within (λ t. put (chosen b) t s) (outcome_of (Slots.handed (slot_of (chosen b) s) c))
      go zero h = absurd (true≢false (sym h))
      go (suc zero) h = refl
      go (suc (suc zero)) h = refl
      go (suc (suc (suc b))) h = absurd (true≢false (sym h ∙ known_other b))

  pub output_known : known b ≡ true → (Slots.handed (slot_of (chosen b) s) c).output ≡ (handed s (named b c)).output
  unfolding within outcome_of
  output_known h = ap (λ (r : Outcome Station). r.output) (sym (handed-known h))

  pub free_known : known b ≡ true → (Slots.handed (slot_of (chosen b) s) c).free ≡ (handed s (named b c)).free
  unfolding within outcome_of
  free_known h = ap (λ (r : Outcome Station). r.free) (sym (handed-known h))

  -- what the slot's reply is, in the reply
  reply_known : known b ≡ true → {r : SlotReply} → (Slots.handed (slot_of (chosen b) s) c).reply ≡ r
      → record { station = put (chosen b) r.slot s; refused = r.refused; ones = r.ones } ≡ reply_of (handed s (named b c))
  unfolding reply_of within outcome_of
  reply_known h e =
      ap (λ (r : SlotReply). record { station = put (chosen b) r.slot s; refused = r.refused; ones = r.ones }) (sym e)
      ∙ ap reply_of (sym (handed-known h))

  -- refused: the station as it was
  pub reply_refused : known b ≡ true → {n : ℕ} → n ≡ (Slots.handed (slot_of (chosen b) s) c).reply.refused → (n ≡ 0 → ⊥)
      → refusal s n ≡ reply_of (handed s (named b c))
  unfolding slot_refusal
  reply_refused h {n} e some = go n e some
    where
      go : (n : ℕ) → n ≡ (Slots.handed (slot_of (chosen b) s) c).reply.refused → (n ≡ 0 → ⊥) → refusal s n ≡ reply_of (handed s (named b c))
      go zero e some = absurd (some refl)
      go (suc n) e some =
          ap (λ (t : Station). refusal t (suc n)) (sym (put_same (chosen b) s)) ∙ reply_known h (refused_reply (slot_of (chosen b) s) c n (sym e))

  -- accepted, where no ones are counted: the slot after the call in the place of the name
  reply_accepted : known b ≡ true → (made (view (slot_of (chosen b) s)) c).count ≡ 0 → (Slots.handed (slot_of (chosen b) s) c).reply.refused ≡ 0
      → placed b (moved (slot_of (chosen b) s) c) s ≡ reply_of (handed s (named b c))
  unfolding acceptance
  reply_accepted h none e = reply_known h (accepted_reply (slot_of (chosen b) s) c none e)

-- A call that asks for the state alone is refused by it.
state_refusal : (s : Station) (b : ℕ) {state : ℕ} → state ≡ (slot_of (chosen b) s).state → (c : Call)
    → conditions_of (held_by (view (keyless (slot_of (chosen b) s).state))) c ≡ conditions_of (held_by (view (slot_of (chosen b) s))) c
    → (Slots.handed (keyless state) c).reply.refused ≡ (Slots.handed (slot_of (chosen b) s) c).reply.refused
state_refusal s b at c asks = ap (λ (n : ℕ). (Slots.handed (keyless n) c).reply.refused) at ∙ state_number (slot_of (chosen b) s) c asks

module _ (s : Station) (b : ℕ) (h : known b ≡ true) {state : ℕ} (at : state ≡ (slot_of (chosen b) s).state) where
  -- load writes the key
  module _ (f : Loading) {r : ShapeAnswer} (e : r ≡ loaded_of (Slots.handed (keyless state) (load f))) where
    load_refusal : (Slots.handed (keyless state) (load f)).reply.refused ≡ (Slots.handed (slot_of (chosen b) s) (load f)).reply.refused
    unfolding conditions_of held_by view
    load_refusal = state_refusal s b at (load f) refl

    load_number : {n : ℕ} → n ≡ shape_number r → n ≡ (Slots.handed (keyless state) (load f)).reply.refused
    load_number k = k ∙ ap shape_number e ∙ loaded_number _

    pub load_refused : {n x : ℕ} → n ≡ shape_number r → r ≡ shapes.Refused x → refusal s n ≡ reply_of (handed s (named b (load f)))
    load_refused k x =
        reply_refused s b (load f) h (load_number k ∙ load_refusal) (λ z. loaded_refused _ (sym e ∙ x) (sym (load_number k) ∙ z))

    pub load_placed : {z : Sizes} {x y : List ℕ} → r ≡ shapes.Sizes z → x ≡ padded 8192 (loaded_key f).support → y ≡ padded 128 (loaded_key f).g
        → placed b (record { state = byte_of loaded; key = parts z.m z.n z.t x y }) s ≡ reply_of (handed s (named b (load f)))
    unfolding made moved
    load_placed {z} a p q =
        ap₂ (λ (x y : List ℕ). placed b (record { state = byte_of loaded; key = parts z.m z.n z.t x y }) s) p q
        ∙ ap (λ (t : Slot). placed b t s) (loaded_slot (keyless state) f (sym e ∙ a))
        ∙ reply_accepted s b (load f) h refl (sym load_refusal ∙ loaded_accepted _ (sym e ∙ a))

  -- a drop leaves the fresh slot
  module _ {r : Verdict} (e : r ≡ verdict_of (Slots.handed (keyless state) drop_key).reply.refused) where
    drop-refusal : (Slots.handed (keyless state) drop_key).reply.refused ≡ (Slots.handed (slot_of (chosen b) s) drop_key).reply.refused
    unfolding conditions_of held_by view
    drop-refusal = state_refusal s b at drop_key refl

    pub drop_refused : {n x : ℕ} → n ≡ number_of r → r ≡ verdicts.Refused x → refusal s n ≡ reply_of (handed s (named b drop_key))
    drop_refused k x = let t = verdict_taken _ e x k in reply_refused s b drop_key h (t.0 ∙ drop-refusal) t.1

    pub drop-placed : r ≡ verdicts.Accepted → placed b fresh_slot s ≡ reply_of (handed s (named b drop_key))
    unfolding made moved
    drop-placed x = reply_accepted s b drop_key h refl (sym drop-refusal ∙ verdict_accepted _ e x)

-- Publish sets the state.
module _ (s : Station) (b : ℕ) (p : Publishing) (h : known b ≡ true) {r : Verdict}
    (e : r ≡ verdict_of (Slots.handed (slot_of (chosen b) s) (publish p)).reply.refused) where
  pub publish_refused : {n x : ℕ} → n ≡ number_of r → r ≡ verdicts.Refused x → refusal s n ≡ reply_of (handed s (named b (publish p)))
  publish_refused k x = let t = verdict_taken _ e x k in reply_refused s b (publish p) h t.0 t.1

  pub publish_marked : r ≡ verdicts.Accepted → marked b s ≡ reply_of (handed s (named b (publish p)))
  unfolding made moved
  publish_marked x = reply_accepted s b (publish p) h refl (verdict_accepted _ e x)

-- the free bytes are as many
pub same_rest : (x y : List ℕ) {f g : ℕ} → f ≡ g → drop f x ≡ drop f y → drop g x ≡ drop g y
same_rest x y e h = rw (← e) h

-- A question leaves the station.
module _ (s : Station) (b : ℕ) (q : Question) (h : known b ≡ true) where
  handed_left : handed s (named b (ask q)) ≡ within (λ t. s) (outcome_of (Slots.handed (slot_of (chosen b) s) (ask q)))
  unfolding within outcome_of
  handed_left =
      handed-known s b (ask q) h
      ∙ ap (λ (t : Station). within (λ u. t) (outcome_of (Slots.handed (slot_of (chosen b) s) (ask q))))
      (ap (λ (t : Slot). put (chosen b) t s) (question_left (slot_of (chosen b) s) q) ∙ put_same (chosen b) s)

  reply_left : (let r = (Slots.handed (slot_of (chosen b) s) (ask q)).reply in
      record { station = s; refused = r.refused; ones = r.ones } ≡ reply_of (handed s (named b (ask q))))
  unfolding reply_of within outcome_of
  reply_left = ap reply_of (sym handed_left)

  -- open and read, by their answer
  module _ {a : Answer} (e : a ≡ answered_of (Slots.handed (slot_of (chosen b) s) (ask q))) where
    pub answer_refused : {n x : ℕ} → n ≡ answer_number a → a ≡ answers.Refused x → refusal s n ≡ reply_of (handed s (named b (ask q)))
    answer_refused k x =
        let m = k ∙ ap answer_number e ∙ answered-number _ in
        reply_refused s b (ask q) h m (λ z. answered_refused _ (sym e ∙ x) (sym m ∙ z))

    pub answer-ones : {w : ℕ} → a ≡ answers.Ones w → record { station = s; refused = 0; ones = w } ≡ reply_of (handed s (named b (ask q)))
    answer-ones x =
        let o = answered-ones _ (sym e ∙ x) in
        ap₂ (λ (n w : ℕ). record { station = s; refused = n; ones = w }) (sym o.0) o.1 ∙ reply_left

  pub reported_left : (let r = Slots.handed (slot_of (chosen b) s) (ask q) in
      record { station = s; refused = r.reply.refused; counts = r.answer } ≡ reported_of (handed s (named b (ask q))))
  unfolding reported_of within outcome_of
  reported_left = ap reported_of (sym handed_left)

  pub derived_left : (let r = Slots.handed (slot_of (chosen b) s) (ask q) in
      record { station = s; refused = r.reply.refused; key = r.answer } ≡ derived_of (handed s (named b (ask q))))
  unfolding derived_of within outcome_of
  derived_left = ap derived_of (sym handed_left)

-- so it does where the byte is no name
pub question_stays : (s : Station) (b : ℕ) (q : Question) → (handed s (named b (ask q))).station ≡ s
unfolding within unknown
question_stays s b q = go (known b) refl
  where
    go : (x : Bool) → known b ≡ x → (handed s (named b (ask q))).station ≡ s
    go true h = ap (λ (r : Outcome Station). r.station) (handed_left s b q h)
    go false h = ap (λ (r : Outcome Station). r.station) (handed-unknown s b (ask q) h)

-- the states of t, the keys of s
abbrev pub keys_of : Station → Station → Station
keys_of s t = record { a = record { state = t.a.state; key = s.a.key }; b = record { state = t.b.state; key = s.b.key } }

-- publish leaves the keys
keys_put : (x : Name) (s : Station) (t : Slot) → t.key ≡ (slot_of x s).key → keys_of s (put x t s) ≡ put x t s
unfolding put slot_of
keys_put A s t e = ap (λ (k : Key). record { a = record { state = t.state; key = k }; b = s.b }) (sym e)
keys_put B s t e = ap (λ (k : Key). record { a = s.a; b = record { state = t.state; key = k } }) (sym e)

pub publish_keys : (s : Station) (b : ℕ) (p : Publishing) → keys_of s (handed s (named b (publish p))).station ≡ (handed s (named b (publish p))).station
unfolding within outcome_of unknown
publish_keys s b p = go (known b) refl
  where
    go : (x : Bool) → known b ≡ x → keys_of s (handed s (named b (publish p))).station ≡ (handed s (named b (publish p))).station
    go true h =
        rw (ap (λ (r : Outcome Station). r.station) (handed-known s b (publish p) h))
        (keys_put (chosen b) s (Slots.handed (slot_of (chosen b) s) (publish p)).reply.slot (publish_key (slot_of (chosen b) s) p))
    go false h = rw (ap (λ (r : Outcome Station). r.station) (handed-unknown s b (publish p) h)) refl
