-- What reading and opening find: the only pattern as the demands ask for it, and none only where there is none. Assumes nothing.
use mathlib.Core.Path.{◌≡◌}
use mathlib.Core.List.{List}
use mathlib.Core.Option.{none, some}
use Prim.Native.Nat.{ℕ}
use Rattle.bits.specs.Bits.{unpack}
use Rattle.bits.proofs.Pack.{row_unpack}
use Rattle.key.specs.Keys.{Key, key_number}
use Rattle.key.proofs.Accepted.{accepted}
use Rattle.code.specs.PublicKey.{Matrix, public_key}
use Rattle.decoder.specs.Reading.{reading, opening}
use Rattle.decoder.proofs.Sanity.{Corrects}
use Rattle.decoder.proofs.Openings.{Opens}
use Rattle.decoder.proofs.Openings as openings
use Rattle.decoder.proofs.Sanity as decoder
use Rattle.decoder.proofs.Uniqueness as unique
use Rattle.code.specs.Publish.{capsule_bits}
use Rattle.marks.specs.Marked.{marked_reading}
use Rattle.marks.proofs.Sound.{CorrectsMarked}
use Rattle.marks.proofs.Sound as sound
use Rattle.marks.proofs.Twice as twice
use Rattle.ledger.specs.Demands.{Locks, Differs, DiffersMarked}

-- the demands' patterns are those of the decoder
pub corrects : (k : Key) (word e : List ℕ) → Differs k word e → Corrects k (unpack k.n word) e
corrects k word e d = record { bits = d.row; few = d.weight; code = d.code }

pub opens : (k : Key) (rows : Matrix) (capsule e : List ℕ) → Locks k rows capsule e → Opens k rows (unpack (capsule_bits k) capsule) e
opens k rows capsule e d = record { bits = d.row; count = d.weight; locks = d.same }

-- reading finds a pattern in whose places the word and a code word differ
module _ (k : Key) (word : List ℕ) where
  pub reading_sound : (e : List ℕ) → reading k (unpack k.n word) ≡ some e → Differs k word e
  reading_sound e h =
      let c : Corrects k (unpack k.n word) e = decoder.reading_sound k (unpack k.n word) e h in
      record { row = c.bits; weight = c.few; code = c.code }

  pub reading_complete : reading k (unpack k.n word) ≡ none → (e : List ℕ) → Differs k word e → ⊥
  reading_complete h e d = decoder.reading_complete k (unpack k.n word) h e (corrects k word e d)

-- and so does marked reading, with 2d + s ≤ 2t
corrects_with_marks : (k : Key) (word marks e : List ℕ) → DiffersMarked k word marks e → CorrectsMarked k (unpack k.n word) (unpack k.n marks) e
corrects_with_marks k word marks e d = record { bits = d.row; few = d.few; code = d.code }

module _ (k : Key) (word marks : List ℕ) where
  pub marked_sound : (e : List ℕ) → marked_reading k (unpack k.n word) (unpack k.n marks) ≡ some e → DiffersMarked k word marks e
  marked_sound e h =
      let c : CorrectsMarked k (unpack k.n word) (unpack k.n marks) e = sound.marked_sound k (unpack k.n word) (unpack k.n marks) e h in
      record { row = c.bits; few = c.few; code = c.code }

  pub marked_complete : marked_reading k (unpack k.n word) (unpack k.n marks) ≡ none → (e : List ℕ) → DiffersMarked k word marks e → ⊥
  marked_complete h e d = sound.marked_complete k (unpack k.n word) (unpack k.n marks) h e (corrects_with_marks k word marks e d)

-- under a key that load accepts, opening finds a pattern that locks to the capsule, and at most one fits a word or a capsule
module _ (k : Key) (good : key_number k ≡ 0) where
  module _ (rows : Matrix) (public : public_key k ≡ some rows) (capsule : List ℕ) where
    pub opening_sound : (e : List ℕ) → opening k (unpack (capsule_bits k) capsule) ≡ some e → Locks k rows capsule e
    unfolding capsule_bits
    opening_sound e h =
        let o : Opens k rows (unpack (capsule_bits k) capsule) e = openings.opening_sound k (accepted k good) rows public (row_unpack (capsule_bits k) capsule) e h in
        record { row = o.bits; weight = o.count; same = o.locks }

    pub opening_complete : opening k (unpack (capsule_bits k) capsule) ≡ none → (e : List ℕ) → Locks k rows capsule e → ⊥
    unfolding capsule_bits
    opening_complete h e d =
        openings.opening_complete k (accepted k good) rows public (row_unpack (capsule_bits k) capsule) h e (opens k rows capsule e d)

    pub one_opening : (e d : List ℕ) → Locks k rows capsule e → Locks k rows capsule d → d ≡ e
    unfolding capsule_bits
    one_opening e d p q =
        openings.one_opening k (accepted k good) rows public (row_unpack (capsule_bits k) capsule) e d (opens k rows capsule e p) (opens k rows capsule d q)

  pub one_reading : (word e d : List ℕ) → Differs k word e → Differs k word d → d ≡ e
  one_reading word e d p q =
      unique.one_reading k (accepted k good) (unpack k.n word) e d (row_unpack k.n word) (corrects k word e p) (corrects k word d q)

  pub one_marked : (word marks e d : List ℕ) → DiffersMarked k word marks e → DiffersMarked k word marks d → d ≡ e
  one_marked word marks e d p q =
      twice.one_marked k (accepted k good) (row_unpack k.n word) (row_unpack k.n marks) e d (corrects_with_marks k word marks e p) (corrects_with_marks k word marks d q)
