-- The session key by what is found in the capsule, and the answer. Assumes nothing.
use mathlib.Core.Path.{◌≡◌, refl, sym, ap, ap₂, ◌∙◌}
use mathlib.Core.Bool.{Bool, true, false, cond, ◌&&◌}
use mathlib.Core.List.{List}
use mathlib.Core.Option.{Option, none, some}
use Prim.Native.Nat.{ℕ}
use mir.Val.{bool_byte}
use borrow.Author.Tests.{eq-eqb, ne_eqb}
use lib.Dec.{eqb}
use lib.ListN.{take, replicate}
use Rattle.bits.specs.Bits.{Row, bytes_for, unpack, pack, ones, well_formed}
use Rattle.bits.proofs.Pack.{row_length, length-pack}
use Rattle.bits.proofs.Padded.{take-padded}
use Rattle.field.specs.declared.Verdict.TheVariants as verdicts
use Rattle.field.proofs.Verdicts.{verdict_refused}
use Rattle.key.specs.Keys.{key_number}
use Rattle.key.specs.Keys as Keys
use Rattle.key.specs.Kept.{kept}
use Rattle.key.specs.declared.kept.Key.{Key}
use Rattle.code.specs.Publish.{capsule_bits}
use Rattle.decoder.specs.Reading.{exactly}
use Rattle.decoder.proofs.Sanity.{reading_sound}
use Rattle.decoding.specs.Parts.{decoded_number, decoded, packed, nothing_of, found_of}
use Rattle.decoding.specs.declared.decoding.Found.{Found}
use Rattle.decoding.proofs.Explained.{found_verdict, decoded_divides, decoded-reading}
use Rattle.reading.proofs.Answered.{exactly-opening}
use Rattle.session.specs.Session.{hashed, key_for, session_key, session_number, session_bytes}
use Rattle.session_key.specs.Answers.{found_key, refused_key, session_answer}
use Rattle.session_key.specs.declared.SessionKey.{SessionKey}

-- the byte and the row by one test
module _ (n t : ℕ) (f : Found) (capsule secret : List ℕ) where
  by_test : Bool → List ℕ
  by_test b = cond b (hashed 1 (take (bytes_for n) f.pattern) capsule) (hashed 0 secret capsule)

  row_by_test : (b : Bool) → hashed (bool_byte b) (cond b (take (bytes_for n) f.pattern) secret) capsule ≡ by_test b
  unfolding by_test
  row_by_test true = refl
  row_by_test false = refl

  pub key_row : {b : Bool} {k : ℕ} {row : List ℕ} → b ≡ (f.found && eqb f.ones t) → k ≡ bytes_for n → row ≡ cond b (take k f.pattern) secret
      → hashed (bool_byte b) row capsule ≡ found_key n t f capsule secret
  unfolding found_key by_test
  key_row {b} e k r =
      ap (λ (row : List ℕ). hashed (bool_byte b) row capsule) (r ∙ ap (λ (k : ℕ). cond b (take k f.pattern) secret) k)
      ∙ row_by_test b
      ∙ ap by_test e

-- the pattern's bytes are the first of those found
by_ones : (n : ℕ) (e capsule secret : List ℕ) → Row n e → (b : Bool)
    → cond b (hashed 1 (take (bytes_for n) (packed e)) capsule) (hashed 0 secret capsule) ≡ key_for (cond b (some e) none) capsule secret
unfolding key_for packed
by_ones n e capsule secret r true =
    ap (λ (row : List ℕ). hashed 1 row capsule) (take-padded 1024 (pack e) (bytes_for n) (length-pack e ∙ ap bytes_for (row_length r)))
by_ones n e capsule secret r false = refl

key_by_found : (n t : ℕ) (o : Option (List ℕ)) (capsule secret : List ℕ) → ((e : List ℕ) → o ≡ some e → Row n e)
    → found_key n t (found_of 0 o) capsule secret ≡ key_for (exactly t o) capsule secret
unfolding found_key found_of nothing_of key_for exactly
key_by_found n t none capsule secret r = refl
key_by_found n t (some e) capsule secret r = by_ones n e capsule secret (r e refl) (eqb (ones e) t)

module _ (k : Key) (capsule secret : List ℕ) (z : key_number (kept k) ≡ 0) (w : well_formed (capsule_bits (kept k)) capsule ≡ true) where
  -- decode divides by no 0
  divided : {f : Found} → f ≡ found_of (decoded_number (kept k) (unpack k.n capsule)) (decoded (kept k) (unpack k.n capsule))
      → f ≡ found_of 0 (decoded (kept k) (unpack k.n capsule))
  divided e = e ∙ ap (λ (x : ℕ). found_of x (decoded (kept k) (unpack k.n capsule))) (decoded_divides k capsule z)

  pub decode_not_refused : {f : Found} → f ≡ found_of (decoded_number (kept k) (unpack k.n capsule)) (decoded (kept k) (unpack k.n capsule))
      → {x : ℕ} → f.verdict ≡ verdicts.Refused x → ⊥
  decode_not_refused e h = verdict_refused 0 (found_verdict 0 _ (divided e)) h refl

  pub found_key_lem : {f : Found} → f ≡ found_of (decoded_number (kept k) (unpack k.n capsule)) (decoded (kept k) (unpack k.n capsule))
      → found_key k.n k.t f capsule secret ≡ session_key (kept k) capsule secret
  unfolding session_key kept
  found_key_lem e =
      ap (λ (f : Found). found_key k.n k.t f capsule secret) (divided e)
      ∙ key_by_found k.n k.t _ capsule secret (λ p h. (reading_sound (kept k) _ p (sym (decoded-reading k capsule z) ∙ h)).bits)
      ∙ ap (λ (o : Option (List ℕ)). key_for o capsule secret) (exactly-opening k capsule z w)

-- the answer by its number
module _ (unpublished : Bool) (k : Keys.Key) (capsule secret : List ℕ) where
  answered : (b : Bool) → eqb (session_number unpublished k capsule secret) 0 ≡ b → {x : ℕ} → x ≡ session_number unpublished k capsule secret
      → ◌≡◌ {A = SessionKey} record { refused = x; key = cond b (session_key k capsule secret) (replicate 32 0) } (session_answer unpublished k capsule secret)
  unfolding session_answer session_bytes
  answered b e q =
      ap₂ (λ (r : ℕ) (l : List ℕ). record { refused = r; key = l }) q
      (ap (λ (b : Bool). cond b (session_key k capsule secret) (replicate 32 0)) (sym e))

  pub answer_refused : {x : ℕ} → x ≡ session_number unpublished k capsule secret → (x ≡ 0 → ⊥) → refused_key x ≡ session_answer unpublished k capsule secret
  unfolding refused_key
  answer_refused q h = answered false (ne_eqb _ _ (λ z. h (q ∙ z))) q

  pub answer_derived : {key : List ℕ} → session_number unpublished k capsule secret ≡ 0 → key ≡ session_key k capsule secret
      → ◌≡◌ {A = SessionKey} record { refused = 0; key = key } (session_answer unpublished k capsule secret)
  answer_derived z e = ap (λ (l : List ℕ). record { refused = 0; key = l }) e ∙ answered true (eq-eqb _ _ z) (sym z)
