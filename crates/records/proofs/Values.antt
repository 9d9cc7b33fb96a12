-- The values of a record, that it is what opening answers, and the records of a buffer. Assumes nothing.
use mathlib.Core.Path.{◌≡◌, refl, sym, ap, ◌∙◌}
use mathlib.Core.Logic.{◌⊎◌, inl, inr}
use mathlib.Core.Bool.{Bool, true, false, cond}
use mathlib.Core.List.{List, [], ◌∷◌, map}
use Prim.Native.Nat.{ℕ, zero, suc, ◌+◌, ◌-◌, ◌*◌, ◌/◌, ◌≤◌, ◌<◌}
use native.Mathlib.Nat.{mul-pos}
use native.Mathlib.Omega.{arith}
use borrow.Author.Tests.{eq-eqb, ne_eqb, le-ltb}
use lib.ListN.{length, get_or, take, drop, length-map}
use Rattle.bits.specs.Bits.{Bytes, bytes_for, unpack, filler_clear}
use Rattle.field.specs.Numbers.{first_of}
use Rattle.field.proofs.Table.{width_pos}
use Rattle.key.specs.Keys.{Key, key_number, reducible}
use Rattle.key.proofs.Accepted.{Accepted, accepted}
use Rattle.code.specs.Publish.{capsule_bits}
use Rattle.decoder.specs.Reading.{opening}
use Rattle.decoder.specs.Calls.{is_none, open_conditions}
use Rattle.records.specs.Records.{capsules_of, capsule_conditions, record_of, records_of, counts_of, total}
use Rattle.records.proofs.Cut.{cut_most, cut-number, cut-within, cut-map}
use Rattle.records.proofs.Counts.{counts_sum}

-- a capsule has a bit, and a byte
pub bits_some : (k : Key) → key_number k ≡ 0 → 0 < capsule_bits k
unfolding capsule_bits
bits_some k z = let A : Accepted k = accepted k z in mul-pos (width_pos k.m A.width) A.limits.some

pub bytes_some : {c bits : ℕ} → c ≡ bytes_for bits → 0 < bits → 0 < c
unfolding bytes_for
bytes_some e h = omega arith

-- one of three numbers, or 0
first_values : (a b c : Bool) → let r : ℕ = first_of ((a, 8) ∷ (b, 9) ∷ (c, 13) ∷ []) in (r ≡ 0) ⊎ (r ≡ 8) ⊎ (r ≡ 9) ⊎ (r ≡ 13)
unfolding first_of
first_values true b c = inr (inl refl)
first_values false true c = inr (inr (inl refl))
first_values false false true = inr (inr (inr refl))
first_values false false false = inl refl

module _ (k : Key) (capsule : List ℕ) where
  pub record_values : (record_of k capsule ≡ 0) ⊎ (record_of k capsule ≡ 8) ⊎ (record_of k capsule ≡ 9) ⊎ (record_of k capsule ≡ 13)
  unfolding record_of capsule_conditions
  record_values = first_values _ _ _

  pub record_byte : record_of k capsule < 256
  record_byte = go record_values
    where
      go : (record_of k capsule ≡ 0) ⊎ (record_of k capsule ≡ 8) ⊎ (record_of k capsule ≡ 9) ⊎ (record_of k capsule ≡ 13) → record_of k capsule < 256
      go (inl e) = omega arith
      go (inr (inl e)) = omega arith
      go (inr (inr (inl e))) = omega arith
      go (inr (inr (inr e))) = omega arith

  -- what opening answers for it under an irreducible key that is accepted and published, with room for the pattern
  pub record_open : reducible k ≡ false → (out : List ℕ) → bytes_for k.n ≤ length out → first_of (open_conditions false false k capsule out) ≡ record_of k capsule
  unfolding record_of capsule_conditions open_conditions first_of
  record_open r out h = rw (r, le-ltb (length out) (bytes_for k.n) h)

  -- 8 for another length, as that of a short tail
  pub record_length : (length capsule ≡ bytes_for (capsule_bits k) → ⊥) → record_of k capsule ≡ 8
  unfolding record_of capsule_conditions first_of
  record_length h = rw (ne_eqb _ _ h)

  module _ (a : length capsule ≡ bytes_for (capsule_bits k)) where
    pub record_opening : filler_clear (capsule_bits k) capsule ≡ true → record_of k capsule ≡ cond (is_none (opening k (unpack (capsule_bits k) capsule))) 13 0
    unfolding record_of capsule_conditions first_of
    record_opening h = rw (eq-eqb _ _ a, h)

module _ (k : Key) (buffer : List ℕ) where
  pub records_length : length (records_of k buffer) ≡ length (capsules_of k buffer)
  unfolding records_of
  records_length = length-map (capsules_of k buffer) (record_of k)

  pub records_bytes : Bytes (records_of k buffer)
  unfolding records_of
  records_bytes = go (capsules_of k buffer)
    where
      go : (r : List (List ℕ)) → Bytes (map (record_of k) r)
      go [] i = omega arith
      go (c ∷ r) zero = record_byte k c
      go (c ∷ r) (suc i) = go r i

  -- the counts add up to the number of capsules
  pub records_sum : total (counts_of (records_of k buffer)) ≡ length (capsules_of k buffer)
  records_sum = counts_sum (records_of k buffer) records_bytes ∙ records_length

  pub capsules_few : length (capsules_of k buffer) ≤ length buffer
  unfolding capsules_of
  capsules_few = cut_most (length buffer) (bytes_for (capsule_bits k)) buffer

  -- how many capsules there are, and which
  module _ (h : 0 < bytes_for (capsule_bits k)) where
    pub capsules_number : length (capsules_of k buffer) ≡ (length buffer + (bytes_for (capsule_bits k) - 1)) / bytes_for (capsule_bits k)
    unfolding capsules_of
    capsules_number = cut-number (bytes_for (capsule_bits k)) buffer h

    pub capsules_counted : {c r : ℕ} → c ≡ bytes_for (capsule_bits k) → r ≡ (length buffer + (c - 1)) / c → r ≡ length (capsules_of k buffer)
    capsules_counted e q = q ∙ ap (λ (c : ℕ). (length buffer + (c - 1)) / c) e ∙ sym capsules_number

    module _ (i : ℕ) (b : i < length (capsules_of k buffer)) where
      pub capsule_within : i * bytes_for (capsule_bits k) < length buffer
      unfolding capsules_of
      capsule_within = cut-within (bytes_for (capsule_bits k)) i buffer h b

      -- the value of f at capsule i
      pub capsules_map : (f : List ℕ → ℕ)
          → get_or (map f (capsules_of k buffer)) i 0 ≡ f (take (bytes_for (capsule_bits k)) (drop (i * bytes_for (capsule_bits k)) buffer))
      unfolding capsules_of
      capsules_map f = cut-map f (bytes_for (capsule_bits k)) i buffer h b

      pub records_at : get_or (records_of k buffer) i 0 ≡ record_of k (take (bytes_for (capsule_bits k)) (drop (i * bytes_for (capsule_bits k)) buffer))
      unfolding records_of
      records_at = capsules_map (record_of k)
