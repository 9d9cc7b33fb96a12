-- Demand 2: publish writes T, and locking and opening undo each other. Assumes nothing.
use Prim.Native.Nat.{ℕ, ◌≤◌}
use mathlib.Core.Path.{◌≡◌, refl, sym, ap, ◌∙◌, subst}
use mathlib.Core.Bool.{Bool, true, false, cond}
use mathlib.Core.List.{List, [], ◌∷◌, flat_map}
use mathlib.Core.Option.{Option, none, some}
use native.Mathlib.Nat.{le_of_lt}
use lib.Dec.{eqb, ltb}
use lib.ListN.{length, take}
use borrow.Author.Tests.{not-false, eqb-true, ltb-false, le-ltb}
use Rattle.bits.specs.Bits.{Bytes, Row, bytes_for, unpack, pack, ones, weight, well_formed, over}
use Rattle.bits.proofs.Padded.{over_first}
use Rattle.bits.proofs.Pack.{row_unpack, unpack-pack, take-over, pack-unpack, well_formed_lem, well_formed-pack}
use Rattle.bits.proofs.Ones.{weight-pack}
use Rattle.field.specs.Numbers.{first_of}
use Rattle.field.proofs.Numbers.{first-clear}
use Rattle.key.specs.Keys.{Key, key_number, reducible}
use Rattle.key.proofs.Accepted.{Accepted, accepted}
use Rattle.code.specs.PublicKey.{Matrix, public_key, dependent, written}
use Rattle.code.specs.Lock.{locked}
use Rattle.code.proofs.PublicKey.{row_capsule}
use Rattle.code.proofs.LockLaws.{public_size_lem, lock-written, lock_accepts}
use Rattle.code.proofs.Exchange.{exchangeable}
use Rattle.code.specs.Publish.{capsule_bits, public_bytes, work_bytes, publish_checks_within, publish_conditions_within, free_bytes_within}
use Rattle.decoder.specs.Calls.{open_conditions}
use Rattle.ledger.specs.Slot.{State, empty, loaded, published, Slot, Held, is_empty, held_by, Result}
use Rattle.ledger.specs.Publishing.{Publishing, systematic, public_buffer, work_buffer, needed_bytes, publishing_conditions, publication, freed_bytes}
use Rattle.ledger.specs.Questions.{open_capsule, question_conditions, gives, given}
use Rattle.ledger.specs.Calls.{publish, ask, conditions_of, made, step}
use Rattle.ledger.specs.Systems.{definitions}
use Rattle.ledger.specs.Demands.{at, key_held, capsule_of, lock_answer, Demand2, Locks, Decides}
use Rattle.ledger.proofs.StepLaws.{outcome, step-number, step-made, step_free, question_station}
use Rattle.ledger.proofs.Agreement.{sound_held}
use Rattle.ledger.proofs.Demand3.{differ, open_decides}

-- what publish and open hand back, and the pattern that open wrote
abbrev form_result : State → Key → Publishing → Result
form_result state k p = step (at state k) (publish p)

abbrev open_result : Key → List ℕ → List ℕ → Result
open_result k capsule out = step (at published k) (ask (open_capsule capsule out))

abbrev pattern_in : Key → List ℕ → List ℕ → List ℕ
pattern_in k capsule out = take (bytes_for k.n) (open_result k capsule out).output

-- a slot that holds the key k is loaded or published with it
holding : (P : Slot → Type 0) (st : State) (j k : Key) → key_held (at st j) ≡ some k → ((state : State) → is_empty state ≡ false → P (at state k)) → P (at st j)
unfolding key_held at is_empty
holding P empty j k h f = differ (cc)
holding P loaded j k h f = let q : k ≡ j = cc in subst (λ (x : Key). P (at loaded x)) q (f loaded refl)
holding P published j k h f = let q : k ≡ j = cc in subst (λ (x : Key). P (at published x)) q (f published refl)

pub at_held : (P : Slot → Type 0) (s : Slot) (k : Key) → key_held s ≡ some k → ((state : State) → is_empty state ≡ false → P (at state k)) → P s
unfolding at
at_held P s k h f = holding P s.state s.key k h f

-- a capsule that is opened is well-formed, and the output has room for its pattern
pub opened : (k : Key) (capsule out : List ℕ) → (step (at published k) (ask (open_capsule capsule out))).number ≡ 0
    → (well_formed (capsule_bits k) capsule ≡ true) × (bytes_for k.n ≤ length out)
unfolding at held_by conditions_of question_conditions open_conditions
opened k capsule out e =
    let c21 = first-clear _ 20 _ (sym (step-number (at published k) (ask (open_capsule capsule out))) ∙ e) in
    let c24 = first-clear _ 23 _ (exchangeable _ k _ c21.1).rest in
    let c8 = first-clear _ 7 _ c24.1 in
    let c9 = first-clear _ 8 _ c8.1 in
    let c10 = first-clear _ 9 _ c9.1 in (
      well_formed_lem (capsule_bits k) capsule (eqb-true _ _ (not-false _ c8.0)) (not-false _ c9.0),
      ltb-false _ _ c10.0,
    )

-- with an irreducible key, room and a public key none of publish's conditions holds
publish_first : (a b c d e : Bool) → a ≡ false → b ≡ false → c ≡ false → d ≡ false → e ≡ false
    → first_of ((a, 21) ∷ (false, 25) ∷ (b, 34) ∷ (c, 10) ∷ (d, 11) ∷ (e, 23) ∷ []) ≡ 0
unfolding first_of
publish_first a b c d e p q r s t = rw (p, q, r, s, t)

checks_first : (b c d : Bool) → b ≡ false → c ≡ false → d ≡ false → first_of ((false, 25) ∷ (b, 34) ∷ (c, 10) ∷ (d, 11) ∷ []) ≡ 0
unfolding first_of
checks_first b c d q r s = rw (q, r, s)

-- a key with a public key has independent columns
independent : (k : Key) {rows : Matrix} → public_key k ≡ some rows → dependent k ≡ false
unfolding dependent
independent k p = ap (λ (o : Option Matrix). elim o as (λ x. Bool) [ none ↦ true | some rows ↦ false ]) p

-- a key with a public key
module _ (k : Key) (rows : Matrix) (good : key_number k ≡ 0) (public : public_key k ≡ some rows) where
  pub form_output : (state : State) (p : Publishing) → (form_result state k p).number ≡ 0
      → (form_result state k p).output ≡ over (flat_map pack rows) (public_buffer p)
  unfolding at made publication written
  form_output state p e =
      ap (λ (r : Result). r.output) (step-made (at state k) (publish p) e)
      ∙ ap (λ (o : Option Matrix). over (written o) (public_buffer p)) public

  -- the public key begins what publish wrote
  form_begins : (state : State) (p : Publishing) → (form_result state k p).number ≡ 0
      → take (public_bytes k) (form_result state k p).output ≡ flat_map pack rows
  unfolding capsule_bits
  form_begins state p e =
      let l : length (flat_map pack rows) ≡ public_bytes k = public_size_lem k rows good public in
      ap (take (public_bytes k)) (form_output state p e)
      ∙ over_first (flat_map pack rows) (public_buffer p) (public_bytes k) l

  -- a pattern's capsule has m·t bits
  pub capsule_row : {e : List ℕ} → Row k.n e → Row (capsule_bits k) (locked rows e)
  unfolding capsule_bits
  capsule_row r = let a : Accepted k = accepted k good in row_capsule k rows public a.support_length (le_of_lt a.limits.over) r

  locks : (pattern buffer : List ℕ) → well_formed k.n pattern ≡ true → weight k.n pattern ≡ k.t
      → bytes_for (capsule_bits k) ≤ length buffer → lock_answer k rows pattern buffer ≡ 0
  unfolding capsule_bits
  locks pattern buffer formed count room = lock_accepts k rows good public pattern buffer formed count room

-- where it is irreducible too, publish accepts and open decides
module _ (k : Key) (rows : Matrix) (good : key_number k ≡ 0) (irreducible : reducible k ≡ false) (public : public_key k ≡ some rows) where
  opens : (capsule out : List ℕ) → well_formed (capsule_bits k) capsule ≡ true → bytes_for k.n ≤ length out
      → Decides (Locks k rows capsule) ones 13 out (step (at published k) (ask (open_capsule capsule out)))
  unfolding at
  opens = open_decides k good irreducible rows public

  form_accepted : (state : State) (p : Publishing) → is_empty state ≡ false → public_bytes k ≤ length (public_buffer p) → needed_bytes k p ≤ length (work_buffer p)
      → (form_result state k p).number ≡ 0
  unfolding at conditions_of publishing_conditions publish_checks_within publish_conditions_within
  form_accepted state p h long room =
      step-number (at state k) (publish p)
      ∙ ap (λ (x : Held). first_of (conditions_of x (publish p))) (sound_held state k good)
      ∙ publish_first (is_empty state) (reducible k) (ltb (length (public_buffer p)) (public_bytes k)) (ltb (length (work_buffer p)) (needed_bytes k p)) (dependent k)
      h irreducible (le-ltb _ _ long) (le-ltb _ _ room) (independent k public)

  form_frees : (state : State) (p : Publishing) → is_empty state ≡ false → public_bytes k ≤ length (public_buffer p) → needed_bytes k p ≤ length (work_buffer p)
      → (form_result state k p).free ≡ needed_bytes k p
  unfolding at made held_by freed_bytes free_bytes_within publish_checks_within
  form_frees state p h long room =
      step_free (at state k) (publish p)
      ∙ ap (λ (b : Bool). cond b 0 (freed_bytes k p)) h
      ∙ ap (λ (b : Bool). cond (eqb (first_of (publish_checks_within (needed_bytes k p) b k (public_buffer p) (work_buffer p))) 0) (needed_bytes k p) 0) (ap (λ (x : Held). x.unsound) (sound_held state k good))
      ∙ ap (λ (n : ℕ). cond (eqb n 0) (needed_bytes k p) 0)
      (checks_first (reducible k) (ltb (length (public_buffer p)) (public_bytes k)) (ltb (length (work_buffer p)) (needed_bytes k p)) irreducible (le-ltb _ _ long) (le-ltb _ _ room))

  form_publishes : (state : State) (p : Publishing) → is_empty state ≡ false → public_bytes k ≤ length (public_buffer p) → needed_bytes k p ≤ length (work_buffer p)
      → form_result state k p ≡ record { station = at published k; number = 0; output = over (flat_map pack rows) (public_buffer p); count = 0; answer = []; free = needed_bytes k p }
  unfolding at made
  form_publishes state p h long room =
      let zero = form_accepted state p h long room in
      let w = step-made (at state k) (publish p) zero in
      outcome (ap (λ (r : Result). r.station) w) zero (form_output k rows good public state p zero) (ap (λ (r : Result). r.count) w) (ap (λ (r : Result). r.answer) w)
      (form_frees state p h long room)

  locked_opened : (pattern out : List ℕ) → Bytes pattern → well_formed k.n pattern ≡ true → weight k.n pattern ≡ k.t
      → bytes_for k.n ≤ length out
      → open_result k (capsule_of k rows pattern) out ≡ record { station = at published k; number = 0; output = over pattern out; count = k.t; answer = []; free = 0 }
  unfolding weight made given gives
  locked_opened pattern out bytes formed count long =
      let e : List ℕ = unpack k.n pattern in
      let r : Row k.n e = row_unpack k.n pattern in
      let s : Row (capsule_bits k) (locked rows e) = capsule_row k rows good public r in
      let capsule : List ℕ = pack (locked rows e) in
      let locks : Locks k rows capsule e = record { row = r; weight = count; same = sym (unpack-pack s) } in
      let d = opens capsule out (well_formed-pack s) long in
      let zero = d.only (λ z. d.refuses.0 z e locks) in
      let w = d.writes zero in
      let same : e ≡ w.0 = w.4 e locks in
      let wrote : pack w.0 ≡ pattern = ap pack (sym same) ∙ pack-unpack k.n pattern bytes formed in
      rw (lock-written k rows good public pattern)
      (outcome (question_station (at published k) (open_capsule capsule out)) zero (w.2 ∙ ap (λ (b : List ℕ). over b out) wrote) (w.3 ∙ ap ones (sym same) ∙ count)
      (ap (λ (r : Result). r.answer) (step-made (at published k) (ask (open_capsule capsule out)) zero)) (step_free (at published k) (ask (open_capsule capsule out))))

  -- the pattern that open wrote, packed
  record Found (capsule out : List ℕ) : Type 0 where
    e : List ℕ
    locks : Locks k rows capsule e
    wrote : pattern_in k capsule out ≡ pack e

  finds : (capsule out : List ℕ) → (open_result k capsule out).number ≡ 0 → Found capsule out
  finds capsule out zero =
      let o = opened k capsule out zero in
      let w = (opens capsule out o.0 o.1).writes zero in
      let l : Locks k rows capsule w.0 = w.1 in
      record { e = w.0; locks = l; wrote = ap (take (bytes_for k.n)) w.2 ∙ take-over l.row out }

  opened_locks : (capsule out buffer : List ℕ) → (open_result k capsule out).number ≡ 0
      → bytes_for (capsule_bits k) ≤ length buffer → lock_answer k rows (pattern_in k capsule out) buffer ≡ 0
  opened_locks capsule out buffer zero room =
      let f = finds capsule out zero in
      let r : Row k.n f.e = f.locks.row in
      ap (λ (b : List ℕ). lock_answer k rows b buffer) f.wrote
      ∙ locks k rows good public (pack f.e) buffer (well_formed-pack r) (weight-pack r ∙ f.locks.weight) room

  opened_locked : (capsule out : List ℕ) → Bytes capsule → (open_result k capsule out).number ≡ 0
      → capsule_of k rows (pattern_in k capsule out) ≡ capsule
  opened_locked capsule out bytes zero =
      let f = finds capsule out zero in
      ap (λ (b : List ℕ). capsule_of k rows b) f.wrote
      ∙ lock-written k rows good public (pack f.e)
      ∙ ap (λ (d : List ℕ). pack (locked rows d)) (unpack-pack f.locks.row)
      ∙ ap pack f.locks.same
      ∙ pack-unpack (capsule_bits k) capsule bytes (opened k capsule out zero).0

-- the form that needs m·t rows of n bits
abbrev publish_result : State → Key → List ℕ → List ℕ → Result
publish_result state k out work = form_result state k (systematic out work)

module _ (k : Key) (rows : Matrix) (good : key_number k ≡ 0) (public : public_key k ≡ some rows) where
  pub publish_output_lem : (state : State) (out work : List ℕ) → (publish_result state k out work).number ≡ 0
      → (publish_result state k out work).output ≡ over (flat_map pack rows) out
  unfolding public_buffer
  publish_output_lem state out work e = form_output k rows good public state (systematic out work) e

  public_begins : (state : State) (out work : List ℕ) → (publish_result state k out work).number ≡ 0
      → take (public_bytes k) (publish_result state k out work).output ≡ flat_map pack rows
  public_begins state out work e = form_begins k rows good public state (systematic out work) e

module _ (k : Key) (rows : Matrix) (good : key_number k ≡ 0) (irreducible : reducible k ≡ false) (public : public_key k ≡ some rows) where
  publish_accepted : (state : State) (out work : List ℕ) → is_empty state ≡ false → public_bytes k ≤ length out → work_bytes k ≤ length work
      → (publish_result state k out work).number ≡ 0
  unfolding public_buffer work_buffer needed_bytes
  publish_accepted state out work h long room = form_accepted k rows good irreducible public state (systematic out work) h long room

  publish_frees : (state : State) (out work : List ℕ) → is_empty state ≡ false → public_bytes k ≤ length out → work_bytes k ≤ length work
      → (publish_result state k out work).free ≡ work_bytes k
  unfolding public_buffer work_buffer needed_bytes
  publish_frees state out work h long room = form_frees k rows good irreducible public state (systematic out work) h long room

  publishes : (state : State) (out work : List ℕ) → is_empty state ≡ false → public_bytes k ≤ length out → work_bytes k ≤ length work
      → publish_result state k out work ≡ record { station = at published k; number = 0; output = over (flat_map pack rows) out; count = 0; answer = []; free = work_bytes k }
  unfolding public_buffer work_buffer needed_bytes
  publishes state out work h long room = form_publishes k rows good irreducible public state (systematic out work) h long room

pub demand_2 : Demand2 definitions
unfolding at
demand_2 k rows good irreducible public =
    record {
      publishes = λ s p h long room. at_held (λ (x : Slot). step x (publish p) ≡ record { station = record { state = published; key = x.key }; number = 0; output = over (flat_map pack rows) (public_buffer p); count = 0; answer = []; free = needed_bytes k p }) s k h
          (λ state e. form_publishes k rows good irreducible public state p e long room);
      marks = λ s h. at_held (λ (x : Slot). at published x.key ≡ at published k) s k h (λ state e. refl);
      public = λ s p h. at_held (λ (x : Slot). (step x (publish p)).number ≡ 0 → take (public_bytes k) (step x (publish p)).output ≡ flat_map pack rows) s k h
          (λ state e. form_begins k rows good public state p);
      locks = locks k rows good public;
      locked_opened = λ s pattern out p bytes formed count long.
          rw p (locked_opened k rows good irreducible public pattern out bytes formed count long);
      opened_locks = λ s capsule out buffer p. rw p (opened_locks k rows good irreducible public capsule out buffer);
      opened_locked = λ s capsule out p bytes. rw p (opened_locked k rows good irreducible public capsule out bytes);
    }
