-- The lines are short: at most 17 bytes for each byte of input. Assumes nothing.
use mathlib.Core.Path.{◌≡◌, refl, sym, ap, subst, ◌∙◌}
use mathlib.Core.Bool.{Bool, true, false, true≢false, cond}
use mathlib.Core.List.{List, [], ◌∷◌, ◌++◌}
use mathlib.Core.Option.{Option, none, some}
use Prim.Native.Nat.{ℕ, zero, suc, ◌+◌, ◌-◌, ◌*◌, ◌/◌, ◌≤◌, ◌<◌}
use native.Mathlib.Nat.{suc-mul, mul-le-mul}
use native.Mathlib.Decide.{dec_lt}
use native.Mathlib.Omega.{arith}
use lib.ListN.{length, length-append}
use Rattle.bits.specs.Bits.{Row, end, off, on, bytes_for, unpack, ones}
use Rattle.bits.proofs.Pack.{unpack-over}
use Rattle.field.specs.Numbers.{first_of}
use Rattle.field.proofs.Numbers.{first-clear}
use Rattle.key.specs.Keys.{Key}
use Rattle.code.specs.Publish.{capsule_bits, public_bytes, work_bytes}
use Rattle.code.proofs.Exchange.{exchangeable}
use Rattle.decoder.specs.Reading.{reading, exactly, opening}
use Rattle.decoder.specs.Calls.{found, is_none, open_conditions}
use Rattle.decoder.proofs.Sanity.{Corrects, reading_sound}
use Rattle.decoder.proofs.Openings.{exactly_some}
use Rattle.records.specs.Records.{cut, capsules_of}
use Rattle.records.proofs.Cut.{cut-number}
use Rattle.ledger.specs.Slot.{Slot, held_by, Result}
use Rattle.ledger.specs.Questions.{open_capsule, question_conditions, gives, given}
use Rattle.ledger.specs.Calls.{ask, conditions_of, made, step}
use Rattle.ledger.proofs.StepLaws.{step-number, step-made}
use Rattle.opener.specs.Report.{key_refused, newline, refuses, opens, decimal, place, places, answer, room, line, lines}
use Rattle.opener.proofs.Digits.{decimal_short}
use Rattle.opener.proofs.Shape.{Four}

-- the numbers of the conditions are below k
Numbered : ℕ → List (Bool × ℕ) → Type 0
Numbered k [] = 0 < k
Numbered k (c ∷ cs) = (c.1 < k) × Numbered k cs

first_below : (k : ℕ) (cs : List (Bool × ℕ)) → Numbered k cs → first_of cs < k
unfolding first_of Numbered
first_below k [] h = h
first_below k (c ∷ cs) h = go c.0 (first_below k cs h.1)
  where
    go : (b : Bool) → first_of cs < k → cond b c.1 (first_of cs) < k
    go true t = h.0
    go false t = t

-- the pattern that open writes: at most t ones
record Pattern (k : Key) (e : List ℕ) : Type 0 where
  bits : Row k.n e
  few : ones e ≤ k.t

found_some : (k : Key) (w : List ℕ) (o : Option (List ℕ)) → exactly k.t (reading k w) ≡ o → is_none o ≡ false → Pattern k (found o)
unfolding found is_none
found_some k w none h i = absurd (true≢false i)
found_some k w (some e) h i =
    let c : Corrects k w e = reading_sound k w e (exactly_some k.t (reading k w) e h).0 in
    record { bits = c.bits; few = c.few }

module _ (s : Slot) (capsule out : List ℕ) where
  -- open's numbers are at most 34
  open_number_lem : (step s (ask (open_capsule capsule out))).number < 35
  unfolding Numbered conditions_of question_conditions open_conditions
  open_number_lem =
      rw (step-number s (ask (open_capsule capsule out)))
      (first_below 35 (conditions_of (held_by s) (ask (open_capsule capsule out)))
      (omega arith, (omega arith, (omega arith, (omega arith, (omega arith, (omega arith, (omega arith, (omega arith, omega arith)))))))))

  open_some : (step s (ask (open_capsule capsule out))).number ≡ 0 → is_none (opening s.key (unpack (capsule_bits s.key) capsule)) ≡ false
  unfolding conditions_of question_conditions open_conditions held_by
  open_some h =
      let z = sym (step-number s (ask (open_capsule capsule out))) ∙ h in
      let x = exchangeable _ _ _ (first-clear _ 20 _ z).1 in
      let a = (first-clear _ 23 _ x.rest).1 in
      (first-clear _ 12 _ (first-clear _ 9 _ (first-clear _ 8 _ (first-clear _ 7 _ a).1).1).1).0

  open_pattern : (step s (ask (open_capsule capsule out))).number ≡ 0
      → Pattern s.key (unpack s.key.n (step s (ask (open_capsule capsule out))).output)
  unfolding made given gives opening
  open_pattern h =
      let o = opening s.key (unpack (capsule_bits s.key) capsule) in
      let p = found_some s.key _ o refl (open_some h) in
      subst (Pattern s.key)
      (sym (ap (λ (r : Result). unpack s.key.n r.output) (step-made s (ask (open_capsule capsule out)) h) ∙ unpack-over p.bits out))
      p

-- a blank and two digits for each one
places_few : {n : ℕ} {e : List ℕ} → Row n e → (i : ℕ) → i + n ≤ 100 → length (places i e) ≤ 3 * ones e
unfolding places place ones
places_few end i h = omega arith
places_few (off r) i h = let t = places_few r (suc i) (omega arith) in omega (arith, t)
places_few (on {e = e} r) i h =
    let t = places_few r (suc i) (omega arith) in
    omega (arith, t, length-append (decimal i) (places (suc i) e), decimal_short 1 i (omega arith))

-- b is t, or 2: ` refused 13` is as long as ` open` with two places
module _ (s : Slot) (f : Four s.key) (b : ℕ) (h : s.key.t ≤ b) (two : 2 ≤ b) where
  answer_few : (n : ℕ) (e : List ℕ) → n < 35 → (n ≡ 0 → Pattern s.key e) → length (answer n e) ≤ 5 + 3 * b
  unfolding answer opens refuses
  answer_few zero e l p =
      let q = p refl in
      omega (arith, q.few, places_few q.bits 0 (omega (arith, f.fits)))
  answer_few (suc n) e l p = omega (arith, decimal_short 1 (suc n) (omega arith))

  line_few : (p : ℕ) (capsule : List ℕ) → p < 100000 → length (line s p capsule) ≤ 11 + 3 * b
  unfolding line newline
  line_few p capsule l =
      let r = step s (ask (open_capsule capsule room)) in
      let e = unpack s.key.n r.output in
      let a = answer_few r.number e (open_number_lem s capsule room) (open_pattern s capsule room) in
      omega (arith, length-append (decimal p) (answer r.number e ++ newline), length-append (answer r.number e) newline, decimal_short 4 p l, a)

  lines_few : (cs : List (List ℕ)) (p : ℕ) → p + length cs ≤ 100000 → length (lines s p cs) ≤ length cs * (11 + 3 * b)
  unfolding lines
  lines_few [] p l = omega arith
  lines_few (c ∷ cs) p l =
      let r = lines_few cs (suc p) (omega arith) in
      omega (arith, r, length-append (line s p c) (lines s (suc p) cs), line_few p c (omega arith), suc-mul (length cs) (11 + 3 * b))

module _ (s : Slot) (f : Four s.key) (input : List ℕ) where
  -- capsules of c bytes
  lines_cut : (c b : ℕ) → bytes_for (capsule_bits s.key) ≡ c → 0 < c → s.key.t ≤ b → 2 ≤ b → (length input + (c - 1)) / c < 100000
      → length (lines s 1 (capsules_of s.key input)) ≤ (length input + (c - 1)) / c * (11 + 3 * b)
  unfolding capsules_of
  lines_cut c b e h k two l =
      let n = cut-number c input h in
      rw (e, ← n) (lines_few s f b k two (cut (length input) c input) 1 (omega arith))

  -- a byte with t below 3, two bytes with t 3
  pub lines_short : length input ≤ 65536 → length (lines s 1 (capsules_of s.key input)) ≤ 1114112
  unfolding capsule_bits bytes_for
  lines_short l = elim (dec_lt s.key.t 3) [
    | yes y ↦
        let c : bytes_for (capsule_bits s.key) ≡ 1 = ap (λ (m : ℕ). (m * s.key.t + 7) / 8) f.width ∙ (omega (arith, f.some)) in
        omega (arith, lines_cut 1 2 c (omega arith) (omega arith) (omega arith) (omega arith))
    | no y ↦
        let c : bytes_for (capsule_bits s.key) ≡ 2 = ap (λ (m : ℕ). (m * s.key.t + 7) / 8) f.width ∙ (omega (arith, f.over, f.fits)) in
        omega (arith, lines_cut 2 3 c (omega arith) (omega (arith, f.over, f.fits)) (omega arith) (omega arith))
  ]

-- `key refused ` and a number of one byte
pub refused_short : (n : ℕ) → n < 256 → length ((key_refused ++ decimal n) ++ newline) ≤ 1114176
unfolding key_refused newline
refused_short n h = omega (arith, length-append (key_refused ++ decimal n) newline, decimal_short 2 n (omega arith))

-- T, its workspace and a pattern fit in `room`
pub room_enough : (k : Key) → Four k → (public_bytes k ≤ length room) × (work_bytes k ≤ length room) × (bytes_for k.n ≤ length room)
unfolding capsule_bits bytes_for room
room_enough k f =
    let c : k.m * k.t ≤ 16 = rw f.width (omega (arith, f.over, f.fits)) in
    let t : (k.n - k.m * k.t + 7) / 8 ≤ 2 = omega (arith, f.fits) in
    let w : (k.n + 7) / 8 ≤ 2 = omega (arith, f.fits) in
    (omega (arith, mul-le-mul c t), omega (arith, mul-le-mul c w), omega (arith, w))
