-- Request L1 in its own words, of a system of calls: what an accepted report wrote and counted, for every station and every buffer.
-- What a refused one leaves is demand 1's. Assumes nothing.
use Rattle.std.specs.Prelude.{ℕ, ◌+◌, ◌-◌, ◌*◌, ◌/◌, ◌≤◌, ◌<◌, ◌≡◌, ◌↔◌, ◌⊎◌, true, List, length, get_or, take, drop}
use Rattle.std.proofs.Math.Option.{some}
use Rattle.bits.specs.Bits.{bytes_for, well_formed}
use Rattle.key.specs.Keys.{Key}
use Rattle.code.specs.PublicKey.{Matrix, public_key}
use Rattle.code.specs.Publish.{capsule_bits}
use Rattle.records.specs.Records.{counts_of, total}
use Rattle.ledger.specs.Slot.{Outcome}
use Rattle.ledger.specs.Questions.{open_capsule, report}
use Rattle.ledger.specs.Calls.{ask}
use Rattle.ledger.specs.Systems.{System}
use Rattle.ledger.specs.Demands.{Locks}

-- the number of capsules: the buffer's length divided by the capsule's byte length, rounded up
abbrev pub capsule_number : Key → List ℕ → ℕ
capsule_number k buffer = (length buffer + (bytes_for (capsule_bits k) - 1)) / bytes_for (capsule_bits k)

-- capsule i: the bytes from i capsules on, fewer in a short tail
abbrev pub capsule_at : Key → List ℕ → ℕ → List ℕ
capsule_at k buffer i = take (bytes_for (capsule_bits k)) (drop (i * bytes_for (capsule_bits k)) buffer)

module _ (sys : System) where
  -- a report, and the record at i after it
  abbrev pub report_of : sys.Stations → List ℕ → List ℕ → Outcome sys.Stations
  report_of s capsules records = sys.call s (ask (report capsules records))

  abbrev pub record_at : sys.Stations → List ℕ → List ℕ → ℕ → ℕ
  record_at s capsules records i = get_or (report_of s capsules records).output i 0

  pub record Recorded (k : Key) (s : sys.Stations) (capsules records : List ℕ) : Type 0 where
    -- there is a byte for each capsule, and bytes beyond keep their contents
    pub room : capsule_number k capsules ≤ length records
    pub beyond : drop (capsule_number k capsules) (report_of s capsules records).output ≡ drop (capsule_number k capsules) records
    -- the counts are those in the records, and add up to the number of capsules
    pub counts : (report_of s capsules records).answer ≡ counts_of (take (capsule_number k capsules) (report_of s capsules records).output)
    pub sum : total (report_of s capsules records).answer ≡ capsule_number k capsules
    -- a record is the number that open answers for that capsule into a long enough buffer; it is 0, 8, 9 or 13, and 8 for a short tail
    pub opens : (i : ℕ) → i < capsule_number k capsules → (out : List ℕ) → bytes_for k.n ≤ length out
        → record_at s capsules records i ≡ (sys.call s (ask (open_capsule (capsule_at k capsules i) out))).number
    pub values : (i : ℕ) → i < capsule_number k capsules → let r = record_at s capsules records i in (r ≡ 0) ⊎ (r ≡ 8) ⊎ (r ≡ 9) ⊎ (r ≡ 13)
    pub tail : (i : ℕ) → i < capsule_number k capsules → length (capsule_at k capsules i) < bytes_for (capsule_bits k) → record_at s capsules records i ≡ 8
    -- so it is 0 exactly when the capsule is well-formed and some pattern of t ones locks to it
    pub exact : (rows : Matrix) → public_key k ≡ some rows → (i : ℕ) → i < capsule_number k capsules
        → (record_at s capsules records i ≡ 0) ↔ ((well_formed (capsule_bits k) (capsule_at k capsules i) ≡ true) × ((e : List ℕ) × Locks k rows (capsule_at k capsules i) e))

  -- for every station and every buffer
  abbrev pub ImportReport : Type 0
  ImportReport = (s : sys.Stations) (capsules records : List ℕ) → (report_of s capsules records).number ≡ 0
      → Recorded (sys.view s).key s capsules records
