-- Request L8 in its own words, of a system of calls: marked reading by code words, and beside read, for every station and every
-- buffer. What a refused call leaves is demand 1's. These marks are of a word's places; the ledger's mark is that a key is published.
-- Assumes nothing.
use Rattle.std.specs.Prelude.{ℕ, ◌+◌, ◌*◌, ◌≤◌, ◌<◌, ◌≡◌, ◌↔◌, true, false, cond, ◌||◌, List, eqb, length}
use Rattle.std.proofs.Math.Option.{some}
use Rattle.bits.specs.Bits.{Row, bytes_for, unpack, weight, well_formed, xor_row}
use Rattle.key.specs.Keys.{Key, key_number}
use Rattle.code.specs.Code.{in_code}
use Rattle.marks.specs.Marked.{differences}
use Rattle.ledger.specs.Slot.{Outcome}
use Rattle.ledger.specs.Questions.{read_word, read_marked}
use Rattle.ledger.specs.Calls.{ask}
use Rattle.ledger.specs.Systems.{System}
use Rattle.ledger.specs.Demands.{key_held}

-- d: at how many unmarked places the word differs from c
abbrev pub unmarked_differences : Key → List ℕ → List ℕ → List ℕ → ℕ
unmarked_differences k word marks c = differences (unpack k.n marks) (xor_row (unpack k.n word) c)

-- c is a code word, and with s marked places 2d + s ≤ 2t
pub record NearMarked (k : Key) (word marks c : List ℕ) : Type 0 where
  pub row : Row k.n c
  pub code : in_code k c ≡ true
  pub few : 2 * unmarked_differences k word marks c + weight k.n marks ≤ 2 * k.t

-- the number with wrong marks, from read's: 37 directly after read's 9
unfoldable pub wrong_marks : ℕ → ℕ
wrong_marks number = cond (eqb number 0 || eqb number 10 || eqb number 14) 37 number

module _ (sys : System) where
  -- the two calls
  abbrev pub read_marked_of : sys.Stations → List ℕ → List ℕ → List ℕ → Outcome sys.Stations
  read_marked_of s word marks out = sys.call s (ask (read_marked word marks out))

  abbrev pub read_of : sys.Stations → List ℕ → List ℕ → Outcome sys.Stations
  read_of s word out = sys.call s (ask (read_word word out))

  -- accepted: what was written are the differences of the word from a code word c, those at marked places included; c has
  -- 2d + s ≤ 2t and is the only such one, and d is given. Refused by 14 exactly when there is none.
  pub record CorrectsWithMarks (k : Key) (s : sys.Stations) (word marks out : List ℕ) : Type 0 where
    pub accepts : (read_marked_of s word marks out).number ≡ 0
        → (let c = xor_row (unpack k.n word) (unpack k.n (read_marked_of s word marks out).output) in
        NearMarked k word marks c × ((read_marked_of s word marks out).count ≡ unmarked_differences k word marks c)
        × ((d : List ℕ) → NearMarked k word marks d → d ≡ c))
    pub refuses : key_held (sys.view s) ≡ some k → key_number k ≡ 0 → well_formed k.n word ≡ true → well_formed k.n marks ≡ true
        → bytes_for k.n ≤ length out → ((read_marked_of s word marks out).number ≡ 14) ↔ ((c : List ℕ) → NearMarked k word marks c → ⊥)
    -- whatever the number of marks, it is 14 or accepted; with more than 2t it is 14
    pub only : key_held (sys.view s) ≡ some k → key_number k ≡ 0 → well_formed k.n word ≡ true → well_formed k.n marks ≡ true
        → bytes_for k.n ≤ length out → ((read_marked_of s word marks out).number ≡ 14 → ⊥) → (read_marked_of s word marks out).number ≡ 0
    pub over : key_held (sys.view s) ≡ some k → key_number k ≡ 0 → well_formed k.n word ≡ true → well_formed k.n marks ≡ true
        → bytes_for k.n ≤ length out → 2 * k.t < weight k.n marks → (read_marked_of s word marks out).number ≡ 14

  -- beside a read of the same word into the same buffer
  pub record BesideRead (k : Key) (s : sys.Stations) (word marks out : List ℕ) : Type 0 where
    -- without marks it answers as read does, in all that is handed back
    pub plain : well_formed k.n marks ≡ true → weight k.n marks ≡ 0 → read_marked_of s word marks out ≡ read_of s word out
    -- 21, 25, 8 and 9 as read has them, then 37
    pub wrong : well_formed k.n marks ≡ false → (read_marked_of s word marks out).number ≡ wrong_marks (read_of s word out).number
    -- and 10, where the marks are right: only 14 goes by them
    pub right : well_formed k.n marks ≡ true → ((read_of s word out).number ≡ 0 → ⊥) → ((read_of s word out).number ≡ 14 → ⊥)
        → (read_marked_of s word marks out).number ≡ (read_of s word out).number

  pub record MarkedReading : Type 0 where
    pub corrects_with_marks : (s : sys.Stations) (word marks out : List ℕ) → CorrectsWithMarks (sys.view s).key s word marks out
    pub beside_read : (s : sys.Stations) (word marks out : List ℕ) → BesideRead (sys.view s).key s word marks out
