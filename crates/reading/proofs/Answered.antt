-- What read and open answer and write, from what is found. Assumes nothing.
use mathlib.Core.Path.{◌≡◌, refl, sym, ap, ap₂, ◌∙◌}
use mathlib.Core.Bool.{Bool, true, cond}
use mathlib.Core.List.{List, [], ◌∷◌, ◌++◌, map}
use mathlib.Core.Option.{Option, none, some}
use Prim.Native.Nat.{ℕ, zero, suc, ◌+◌, ◌-◌, ◌*◌, ◌≤◌}
use native.Mathlib.Nat.{suc-ne-zero}
use native.Mathlib.Omega.{arith}
use borrow.Author.Tests.{eq-eqb, ne_eqb}
use lib.ListN.{length, replicate}
use Rattle.bits.specs.Bits.{Row, from, bytes_for, bit_at, unpack, pack, ones, well_formed, over}
use Rattle.bits.proofs.Lists.{map-from}
use Rattle.bits.proofs.PutBits.{written_row}
use Rattle.bits.proofs.Pack.{length-unpack, unpack-add, well_formed_past}
use Rattle.field.specs.Numbers.{first_of}
use Rattle.field.specs.declared.Verdict.TheVariants as verdicts
use Rattle.field.proofs.Verdicts.{verdict_accepted, verdict_refused}
use Rattle.key.specs.Keys.{key_number}
use Rattle.key.specs.Kept.{kept}
use Rattle.key.specs.declared.kept.Key.{Key}
use Rattle.key.proofs.Accepted.{Accepted, accepted}
use Rattle.code.specs.Publish.{capsule_bits}
use Rattle.decoder.specs.Reading.{reading, filled, exactly, opening}
use Rattle.decoder.specs.Calls.{found, is_none, pattern_output, open_number, read_number, open_output, read_output}
use Rattle.decoder.proofs.Sanity.{reading_sound}
use Rattle.decoder.proofs.Openings.{exactly_some}
use Rattle.decoding.specs.Parts.{decoded_number, decoded, packed, nothing_of, found_of}
use Rattle.decoding.specs.declared.decoding.Found.{Found}
use Rattle.decoding.proofs.Packed.{unpack-packed}
use Rattle.decoding.proofs.Explained.{found_verdict, found_refused, decoded_divides, decoded-reading}
use Rattle.reading.specs.Answers.{answer_of, read_of, open_of, read_checks, open_checks, answer_by, counted_of, written_by, given_of}
use Rattle.reading.specs.declared.calls.Answer.TheVariants.{Refused}
use Rattle.reading.proofs.Refusals.{read_clear, read_refused, read_number_lem, open_clear, open_refused, open_number_lem}

-- the answer and the output for a refusal with a number, whatever the count
pub refusal : (q count : ℕ) (o : Option (List ℕ)) (out : List ℕ) (x : ℕ) → x ≡ q → (x ≡ 0 → ⊥) → (Refused x ≡ answer_of q count) × (out ≡ pattern_output q o out)
unfolding answer_of pattern_output
refusal q count o out zero e h = absurd (h refl)
refusal q count o out (suc x) e h = (
  ap (λ (y : ℕ). answer_of y count) e,
  sym (ap (λ (b : Bool). cond b (over (pack (found o)) out) out) (ne_eqb q 0 (λ z. h (e ∙ z)))),
)

-- what is given where only the pattern o, of n bits, decides, with the number x
module _ (x n : ℕ) (out : List ℕ) (h : x ≡ 0 → ⊥) (b : bytes_for n ≤ length out) where
  given_pattern : (o : Option (List ℕ)) → ((e : List ℕ) → o ≡ some e → Row n e) → (q : ℕ) → q ≡ cond (is_none o) x 0
      → (counted_of x (found_of 0 o) ≡ answer_of q (ones (found o))) × (given_of n (found_of 0 o) out ≡ pattern_output q o out)
  unfolding answer_of pattern_output found unpack counted_of answer_by given_of written_by found_of nothing_of is_none
  given_pattern none row q e = refusal q (ones []) none out x (sym e) h
  given_pattern (some p) row q e =
      rw e (refl, written_row (packed p) 0 n out b ∙ ap (λ (e : List ℕ). over (pack e) out) (unpack-packed (row p refl)))

  given-found : (o : Option (List ℕ)) {f : Found} → f ≡ found_of 0 o → ((e : List ℕ) → o ≡ some e → Row n e) → {q : ℕ} → q ≡ cond (is_none o) x 0
      → (counted_of x f ≡ answer_of q (ones (found o))) × (given_of n f out ≡ pattern_output q o out)
  given-found o ef row e =
      let r = given_pattern o row _ e in
      (ap (counted_of x) ef ∙ r.0, ap (λ (f : Found). given_of n f out) ef ∙ r.1)

-- read
module _ (k : Key) (word : List ℕ) where
  pub found-reading : key_number (kept k) ≡ 0 → {f : Found} → f ≡ found_of (decoded_number (kept k) (unpack k.n word)) (decoded (kept k) (unpack k.n word))
      → f ≡ found_of 0 (reading (kept k) (unpack k.n word))
  found-reading z e = e ∙ ap₂ found_of (decoded_divides k word z) (decoded-reading k word z)

  row_reading : (e : List ℕ) → reading (kept k) (unpack k.n word) ≡ some e → Row k.n e
  unfolding kept
  row_reading e h = (reading_sound (kept k) (unpack k.n word) e h).bits

module _ (k : Key) (word out : List ℕ) where
  pub read_refusal : {x : ℕ} → x ≡ first_of (read_checks (kept k) word (length out)) → (x ≡ 0 → ⊥)
      → (Refused x ≡ read_of (kept k) word out) × (out ≡ read_output (kept k) word out)
  unfolding read_of read_output
  read_refusal e h = refusal _ _ _ out _ (read_refused (kept k) word out e h) h

  module _ (z : first_of (read_checks (kept k) word (length out)) ≡ 0) where
    number : read_number (kept k) word out ≡ cond (is_none (reading (kept k) (unpack k.n word))) 14 0
    unfolding kept
    number = read_number_lem (kept k) word out z

    pub read_given : {f : Found} → f ≡ found_of (decoded_number (kept k) (unpack k.n word)) (decoded (kept k) (unpack k.n word))
        → (counted_of 14 f ≡ read_of (kept k) word out) × (given_of k.n f out ≡ read_output (kept k) word out)
    unfolding read_of read_output kept
    read_given e =
        let c = read_clear (kept k) word out z in
        given-found 14 k.n out (λ e. omega arith) c.2 _ (found-reading k word c.0 e) (row_reading k word) number

-- a capsule is the word whose other bits are 0
zeros : (k n : ℕ) → map {B = ℕ} (λ i. 0) (from k n) ≡ replicate n 0
unfolding from
zeros k zero = refl
zeros k (suc n) = ap (◌∷◌ 0) (zeros (suc k) n)

pub unpack-filled : (m n : ℕ) (s : List ℕ) → well_formed m s ≡ true → m ≤ n → unpack n s ≡ filled n (unpack m s)
unfolding filled
unpack-filled m n s w h =
    let e : n ≡ m + (n - m) = omega arith in
    ap (λ (i : ℕ). unpack i s) e
    ∙ unpack-add m (n - m) s
    ∙ ap (◌++◌ (unpack m s))
    (map-from (bit_at s) (λ i. 0) m m (n - m) (λ i l. well_formed_past m s w (m + i) (omega arith)) ∙ zeros m (n - m)
    ∙ ap (λ (i : ℕ). replicate (n - i) 0) (sym (length-unpack m s)))

-- open
-- where decoding is refused the refusal, where the pattern has another number of ones nothing, and where it has t the pattern
module _ (t : ℕ) where
  pub exactly_refused : (q : ℕ) (o : Option (List ℕ)) {f : Found} {x : ℕ} → f ≡ found_of q o → f.verdict ≡ verdicts.Refused x
      → nothing_of f.verdict ≡ found_of q (exactly t o)
  exactly_refused q o e a = found_refused q (exactly t o) (found_verdict q o e) a

  pub exactly_other : (q : ℕ) (o : Option (List ℕ)) {f : Found} → f ≡ found_of q o → f.verdict ≡ verdicts.Accepted → (f.ones ≡ t → ⊥)
      → nothing_of verdicts.Accepted ≡ found_of q (exactly t o)
  unfolding exactly found_of
  exactly_other zero none e a h = refl
  exactly_other zero (some p) e a h =
      ap (λ (b : Bool). found_of 0 (cond b (some p) none)) (sym (ne_eqb (ones p) t (λ q. h (ap (λ (f : Found). f.ones) e ∙ q))))
  exactly_other (suc q) o e a h = absurd (suc-ne-zero q (verdict_accepted (suc q) (found_verdict (suc q) o e) a))

  pub exactly-found : (q : ℕ) (o : Option (List ℕ)) {f : Found} → f ≡ found_of q o → f.ones ≡ t → f ≡ found_of q (exactly t o)
  unfolding exactly found_of
  exactly-found zero none e h = e
  exactly-found zero (some p) e h =
      e ∙ ap (λ (b : Bool). found_of 0 (cond b (some p) none)) (sym (eq-eqb (ones p) t (sym (ap (λ (f : Found). f.ones) e) ∙ h)))
  exactly-found (suc q) o e h = e

module _ (k : Key) (capsule : List ℕ) (z : key_number (kept k) ≡ 0) (w : well_formed (capsule_bits (kept k)) capsule ≡ true) where
  opening-exactly : opening (kept k) (unpack (capsule_bits (kept k)) capsule) ≡ exactly k.t (reading (kept k) (unpack k.n capsule))
  unfolding kept opening capsule_bits
  opening-exactly =
      let A : Accepted (kept k) = accepted (kept k) z in
      let l = A.limits.over in
      ap (λ (w : List ℕ). exactly k.t (reading (kept k) w)) (sym (unpack-filled (k.m * k.t) k.n capsule w (omega arith)))

  -- a pattern with exactly t ones that is found in a capsule is that of opening
  pub exactly-opening : exactly k.t (decoded (kept k) (unpack k.n capsule)) ≡ opening (kept k) (unpack (capsule_bits (kept k)) capsule)
  exactly-opening = ap (exactly k.t) (decoded-reading k capsule z) ∙ sym opening-exactly

  pub found-opening : {f : Found} → f ≡ found_of (decoded_number (kept k) (unpack k.n capsule)) (exactly k.t (decoded (kept k) (unpack k.n capsule)))
      → f ≡ found_of 0 (opening (kept k) (unpack (capsule_bits (kept k)) capsule))
  found-opening e = e ∙ ap₂ found_of (decoded_divides k capsule z) exactly-opening

  -- what decoding divides by is not 0
  pub opening_not_refused : {f : Found} → f ≡ found_of (decoded_number (kept k) (unpack k.n capsule)) (exactly k.t (decoded (kept k) (unpack k.n capsule)))
      → {x : ℕ} → f.verdict ≡ verdicts.Refused x → ⊥
  opening_not_refused e h = verdict_refused 0 (found_verdict 0 _ (found-opening e)) h refl

  row_opening : (e : List ℕ) → opening (kept k) (unpack (capsule_bits (kept k)) capsule) ≡ some e → Row k.n e
  row_opening e h = row_reading k capsule e (exactly_some k.t _ e (sym opening-exactly ∙ h)).0

module _ (unpublished : Bool) (k : Key) (capsule out : List ℕ) where
  pub open_refusal : {x : ℕ} → x ≡ first_of (open_checks unpublished (kept k) capsule (length out)) → (x ≡ 0 → ⊥)
      → (Refused x ≡ open_of unpublished (kept k) capsule out) × (out ≡ open_output unpublished (kept k) capsule out)
  unfolding open_of open_output
  open_refusal e h = refusal _ _ _ out _ (open_refused unpublished (kept k) capsule out e h) h

  module _ (z : first_of (open_checks unpublished (kept k) capsule (length out)) ≡ 0) where
    number-opening : open_number unpublished (kept k) capsule out ≡ cond (is_none (opening (kept k) (unpack (capsule_bits (kept k)) capsule))) 13 0
    number-opening = open_number_lem unpublished (kept k) capsule out z

    pub open_given : {f : Found}
        → f ≡ found_of (decoded_number (kept k) (unpack k.n capsule)) (exactly k.t (decoded (kept k) (unpack k.n capsule)))
        → (counted_of 13 f ≡ open_of unpublished (kept k) capsule out) × (given_of k.n f out ≡ open_output unpublished (kept k) capsule out)
    unfolding kept open_of open_output
    open_given e =
        let c = open_clear unpublished (kept k) capsule out z in
        given-found 13 k.n out (λ e. omega arith) c.2 _ (found-opening k capsule c.0 c.1 e) (row_opening k capsule c.0 c.1) number-opening
