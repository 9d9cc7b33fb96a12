-- The records written one behind another. Assumes nothing.
use mathlib.Core.Path.{◌≡◌, refl, sym, ap, ap₂, ◌∙◌}
use mathlib.Core.List.{List}
use Prim.Native.Nat.{ℕ, ◌+◌, ◌-◌, ◌*◌, ◌/◌, ◌≤◌, ◌<◌}
use native.Mathlib.Omega.{arith}
use lib.ListN.{length, get_or, take, drop, set}
use lib.Seq.{take_all}
use Rattle.bits.specs.Bits.{bytes_for, over}
use Rattle.bits.proofs.Padded.{over-next}
use Rattle.key.specs.Keys.{Key, key_number}
use Rattle.code.specs.Publish.{capsule_bits}
use Rattle.records.specs.Records.{capsules_of, record_of, records_of}
use Rattle.records.proofs.Values.{bits_some, bytes_some, capsule_within, capsules_counted, records_at, records_length}

module _ (k : Key) (capsules : List ℕ) where
  -- the capsules have c bytes
  module _ (z : key_number k ≡ 0) {c : ℕ} (e : c ≡ bytes_for (capsule_bits k)) where
    some : 0 < bytes_for (capsule_bits k)
    some = bytes_some {bits = capsule_bits k} refl (bits_some k z)

    pub counted : {r : ℕ} → r ≡ (length capsules + (c - 1)) / c → r ≡ length (capsules_of k capsules)
    counted q = capsules_counted k capsules some e q

    -- capsule i starts at byte i·c
    module _ (i : ℕ) (b : i < length (capsules_of k capsules)) where
      pub start-within : i * c < length capsules
      start-within = rw e (capsule_within k capsules some i b)

      record_at_lem : record_of k (take c (drop (i * c) capsules)) ≡ get_or (records_of k capsules) i 0
      record_at_lem = rw e (sym (records_at k capsules some i b))

      -- one record more
      pub written_next : (records out : List ℕ) {v : ℕ} → length (capsules_of k capsules) ≤ length records
          → v ≡ record_of k (take c (drop (i * c) capsules)) → out ≡ over (take i (records_of k capsules)) records
          → set out i v ≡ over (take (i + 1) (records_of k capsules)) records
      written_next records out l q o =
          ap₂ (λ (r : List ℕ) (x : ℕ). set r i x) o (q ∙ record_at_lem)
          ∙ over-next i (records_of k capsules) records (omega (arith, records_length k capsules)) (omega arith)

  pub written_all : (records : List ℕ) (i : ℕ) → length (capsules_of k capsules) ≤ i → over (take i (records_of k capsules)) records ≡ over (records_of k capsules) records
  written_all records i h = ap (λ (l : List ℕ). over l records) (take_all i (records_of k capsules) (omega (arith, records_length k capsules)))
