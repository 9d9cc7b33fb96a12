-- The parts that a byte picks: those of the slot of its name. Assumes nothing.
use Prim.Native.Nat.{ℕ}
use mathlib.Core.Path.{◌≡◌, refl, ap}
use mathlib.Core.Bool.{Bool, true, false, cond}
use mathlib.Core.List.{List}
use lib.Dec.{eqb}
use borrow.Author.Tests.{eq-eqb, ne_eqb}
use Rattle.slot.specs.Parts.{slot_in}
use Rattle.slot.specs.declared.Slot.{Slot}
use Rattle.naming.specs.Picks.{pick}
use Rattle.recipients.specs.Names.{A, B}
use Rattle.station.specs.Replies.{slot_of, put}
use Rattle.station.specs.Chosen.{chosen, refusal, placed}
use Rattle.station.specs.declared.Station.{Station}
use Rattle.station.specs.declared.Reply.{Reply}

-- the byte is 1, or not
module _ (b : ℕ) where
  -- a slot put in the place of A's, or of B's
  pub put_first : (t : Slot) (s : Station) → b ≡ 1 → record { a = t; b = s.b } ≡ put (chosen b) t s
  unfolding put pick
  put_first t s e = rw (eq-eqb b 1 e) refl

  pub put_second : (t : Slot) (s : Station) → (b ≡ 1 → ⊥) → record { a = s.a; b = t } ≡ put (chosen b) t s
  unfolding put pick
  put_second t s e = rw (ne_eqb b 1 e) refl

  pub key_first : (s : Station) → b ≡ 1 → s.a.key ≡ (slot_of (chosen b) s).key
  unfolding slot_of pick
  key_first s e = rw (eq-eqb b 1 e) refl

  pub key_second : (s : Station) → (b ≡ 1 → ⊥) → s.b.key ≡ (slot_of (chosen b) s).key
  unfolding slot_of pick
  key_second s e = rw (ne_eqb b 1 e) refl

  -- a refusal's reply, once the slot of the name is written and the number is 0
  module _ (s : Station) {q : Reply} (e : q ≡ refusal s 35) (t : Slot) where
    pub written-first : b ≡ 1 → record { station = record { a = t; b = q.station.b }; refused = 0; ones = q.ones } ≡ placed b t s
    written-first h = rw e (ap (λ (x : Station). record { station = x; refused = 0; ones = 0 }) (put_first t s h))

    pub written_second : (b ≡ 1 → ⊥) → record { station = record { a = q.station.a; b = t }; refused = 0; ones = q.ones } ≡ placed b t s
    written_second h = rw e (ap (λ (x : Station). record { station = x; refused = 0; ones = 0 }) (put_second t s h))

-- the state alone, and the whole slot
picked : (x : Bool) (s : Station) → slot_in (cond x s.a.state s.b.state) (cond x s.a.key.m s.b.key.m) (cond x s.a.key.n s.b.key.n) (cond x s.a.key.t s.b.key.t) (cond x s.a.key.support s.b.key.support) (cond x s.a.key.g s.b.key.g)
    ≡ slot_of (cond x A B) s
unfolding slot_of
picked true s = refl
picked false s = refl

pub slot_parts : (b : ℕ) (s : Station) {state m n t : ℕ} {support g : List ℕ} → state ≡ pick b s.a.state s.b.state → m ≡ pick b s.a.key.m s.b.key.m
    → n ≡ pick b s.a.key.n s.b.key.n → t ≡ pick b s.a.key.t s.b.key.t → support ≡ pick b s.a.key.support s.b.key.support
    → g ≡ pick b s.a.key.g s.b.key.g → slot_in state m n t support g ≡ slot_of (chosen b) s
unfolding pick
slot_parts b s p q r t u v = rw (p, q, r, t, u, v) (picked (eqb b 1) s)

pub slot_state : (b : ℕ) (s : Station) → pick b s.a.state s.b.state ≡ (slot_of (chosen b) s).state
unfolding pick
slot_state b s = ap (λ (t : Slot). t.state) (picked (eqb b 1) s)
