-- The three demands, as statements about a system of calls: for every station, call, pattern, code word and list of calls. The
-- definitions are such a system, a slot's calls are, and the station's that name one recipient. Assumes nothing.
use Rattle.std.specs.Prelude.{ℕ, suc, ◌+◌, ◌*◌, ◌≤◌, ◌≡◌, ◌↔◌, ◌⊎◌, true, false, length, take}
use mathlib.Core.List.{List, [], flat_map}
use Rattle.std.proofs.Math.Option.{Option, none, some}
use Rattle.bits.specs.Bits.{Bytes, Row, bytes_for, unpack, pack, ones, weight, well_formed, xor_row, over}
use Rattle.field.specs.Numbers.{First, Clear}
use Rattle.key.specs.Keys.{Key, key_number, reducible}
use Rattle.code.specs.Code.{in_code}
use Rattle.code.specs.PublicKey.{Matrix, public_key}
use Rattle.code.specs.Lock.{locked, lock_number, lock}
use Rattle.code.specs.Publish.{capsule_bits, public_bytes}
use Rattle.marks.specs.Marked.{differences}
use Rattle.ledger.specs.Slot.{State, empty, loaded, published, Slot, held_by, Outcome}
use Rattle.ledger.specs.Publishing.{Publishing, public_buffer, work_buffer, needed_bytes}
use Rattle.ledger.specs.Questions.{open_capsule, read_word, read_marked}
use Rattle.ledger.specs.Calls.{Call, load, publish, ask, drop_key, conditions_of, output_of, no_answer, run, answered}
use Rattle.ledger.specs.Ledger.{Ledger, blank, ledger_after, expected}
use Rattle.ledger.specs.Systems.{System}

-- the key that a slot holds, or none
unfoldable pub key_held : Slot → Option Key
key_held s = elim s.state [ empty ↦ none | loaded ↦ some s.key | published ↦ some s.key ]

-- the bytes of workspace that a call needs for a key
unfoldable pub workspace_of : Key → Call → ℕ
workspace_of k (load f) = 0
workspace_of k (publish p) = needed_bytes k p
workspace_of k (ask q) = 0
workspace_of k drop_key = 0

-- a slot in a state with a key
unfoldable pub at : State → Key → Slot
at state k = record { state = state; key = k }

-- lock under a key's shape and public key: the capsule, and the number with a buffer for it
abbrev pub capsule_of : Key → Matrix → List ℕ → List ℕ
capsule_of k rows pattern = lock k.m k.n k.t (flat_map pack rows) pattern

abbrev pub lock_answer : Key → Matrix → List ℕ → List ℕ → ℕ
lock_answer k rows pattern buffer = lock_number k.m k.n k.t (flat_map pack rows) pattern buffer

-- the pattern e has exactly t ones and locks to the capsule
pub record Locks (k : Key) (rows : Matrix) (capsule e : List ℕ) : Type 0 where
  pub row : Row k.n e
  pub weight : ones e ≡ k.t
  pub same : locked rows e ≡ unpack (capsule_bits k) capsule

-- the word and a code word differ exactly in the places of e, at most t
pub record Differs (k : Key) (word e : List ℕ) : Type 0 where
  pub row : Row k.n e
  pub weight : ones e ≤ k.t
  pub code : in_code k (xor_row (unpack k.n word) e) ≡ true

-- the word and a code word differ exactly in the places of e: with s places marked and d of e's unmarked, 2d + s ≤ 2t
pub record DiffersMarked (k : Key) (word marks e : List ℕ) : Type 0 where
  pub row : Row k.n e
  pub few : 2 * differences (unpack k.n marks) e + ones (unpack k.n marks) ≤ 2 * k.t
  pub code : in_code k (xor_row (unpack k.n word) e) ≡ true

-- refused with this number exactly when no pattern is P; else the only such pattern is written, and its ones that count are given
pub record Decides {S : Type 0} (P : List ℕ → Type 0) (counted : List ℕ → ℕ) (refusal : ℕ) (out : List ℕ) (r : Outcome S) : Type 0 where
  pub refuses : (r.number ≡ refusal) ↔ ((e : List ℕ) → P e → ⊥)
  pub only : (r.number ≡ refusal → ⊥) → r.number ≡ 0
  pub writes : r.number ≡ 0 → (e : List ℕ) × P e × (r.output ≡ over (pack e) out) × (r.count ≡ counted e) × ((d : List ℕ) → P d → d ≡ e)

module _ (sys : System) where
  -- Demand 1: a number only where its condition is the first that holds, and then nothing changes, the workspace under 23
  -- aside; none where none holds. No byte of the workspace is free, or the first ones that publish's form needs.
  pub record Refuses (s : sys.Stations) (c : Call) : Type 0 where
    pub number : (n : ℕ) → (sys.call s c).number ≡ suc n → First (conditions_of (held_by (sys.view s)) c) (suc n)
    pub accepts : (sys.call s c).number ≡ 0 → Clear (conditions_of (held_by (sys.view s)) c)
    pub station : (n : ℕ) → (sys.call s c).number ≡ suc n → (sys.call s c).station ≡ s
    pub ones : (n : ℕ) → (sys.call s c).number ≡ suc n → (sys.call s c).count ≡ 0
    pub answer : (n : ℕ) → (sys.call s c).number ≡ suc n → (sys.call s c).answer ≡ no_answer c
    pub output : (n : ℕ) → (sys.call s c).number ≡ suc n → (sys.call s c).output ≡ output_of c
    pub work : (n : ℕ) → (sys.call s c).number ≡ suc n → (suc n ≡ 23 → ⊥) → (sys.call s c).free ≡ 0
    pub workspace : ((sys.call s c).free ≡ 0) ⊎ ((sys.call s c).free ≡ workspace_of (sys.view s).key c)

  -- for every station and call
  abbrev pub Demand1 : Type 0
  Demand1 = (s : sys.Stations) (c : Call) → Refuses s c

  -- the pattern that open wrote
  abbrev pub pattern_of : Key → sys.Stations → List ℕ → List ℕ → List ℕ
  pattern_of k s capsule out = take (bytes_for k.n) (sys.call s (ask (open_capsule capsule out))).output

  -- Demand 2, for stations with an exchange key and its public key T: each form of publish with room writes T, loaded or published, and
  -- marks the station; where it is published, lock then open gives the pattern back, and open then lock the capsule, byte for byte.
  pub record RoundTrips (k : Key) (rows : Matrix) : Type 0 where
    pub publishes : (s : sys.Stations) (p : Publishing) → key_held (sys.view s) ≡ some k
        → public_bytes k ≤ length (public_buffer p) → needed_bytes k p ≤ length (work_buffer p)
        → sys.call s (publish p) ≡ record { station = sys.marked s; number = 0; output = over (flat_map pack rows) (public_buffer p); count = 0; answer = []; free = needed_bytes k p }
    pub marks : (s : sys.Stations) → key_held (sys.view s) ≡ some k → sys.view (sys.marked s) ≡ at published k
    -- the bytes that publish wrote are the public key that lock takes
    pub public : (s : sys.Stations) (p : Publishing) → key_held (sys.view s) ≡ some k → (sys.call s (publish p)).number ≡ 0
        → take (public_bytes k) (sys.call s (publish p)).output ≡ flat_map pack rows
    -- lock accepts each pattern of t ones, and open gives it back with that number of ones
    pub locks : (pattern buffer : List ℕ) → well_formed k.n pattern ≡ true → weight k.n pattern ≡ k.t
        → bytes_for (capsule_bits k) ≤ length buffer → lock_answer k rows pattern buffer ≡ 0
    pub locked_opened : (s : sys.Stations) (pattern out : List ℕ) → sys.view s ≡ at published k
        → Bytes pattern → well_formed k.n pattern ≡ true → weight k.n pattern ≡ k.t → bytes_for k.n ≤ length out
        → sys.call s (ask (open_capsule (capsule_of k rows pattern) out)) ≡ record { station = s; number = 0; output = over pattern out; count = k.t; answer = []; free = 0 }
    -- lock accepts each pattern that open wrote, and gives the capsule back
    pub opened_locks : (s : sys.Stations) (capsule out buffer : List ℕ) → sys.view s ≡ at published k
        → (sys.call s (ask (open_capsule capsule out))).number ≡ 0 → bytes_for (capsule_bits k) ≤ length buffer
        → lock_answer k rows (pattern_of k s capsule out) buffer ≡ 0
    pub opened_locked : (s : sys.Stations) (capsule out : List ℕ) → sys.view s ≡ at published k
        → Bytes capsule → (sys.call s (ask (open_capsule capsule out))).number ≡ 0
        → capsule_of k rows (pattern_of k s capsule out) ≡ capsule

  -- for every key that load accepts, whose g has no proper factor and that has a public key
  abbrev pub Demand2 : Type 0
  Demand2 = (k : Key) (rows : Matrix) → key_number k ≡ 0 → reducible k ≡ false → public_key k ≡ some rows → RoundTrips k rows

  -- Demand 3, after one list of calls: the key, each call's number, and any open, read or marked reading made next. A published
  -- key's g has no proper factor.
  pub record After (calls : List Call) (s : sys.Stations) (l : Ledger) : Type 0 where
    pub key : key_held (sys.view s) ≡ l.key
    pub numbers : answered sys.call sys.fresh calls ≡ expected blank calls
    pub opening : (k : Key) → l.key ≡ some k → l.mark ≡ true → (reducible k ≡ false) × (rows : Matrix) × (public_key k ≡ some rows) × ((capsule out : List ℕ)
        → well_formed (capsule_bits k) capsule ≡ true → bytes_for k.n ≤ length out
        → Decides (Locks k rows capsule) ones 13 out (sys.call s (ask (open_capsule capsule out))))
    pub reading : (k : Key) (word out : List ℕ) → l.key ≡ some k
        → well_formed k.n word ≡ true → bytes_for k.n ≤ length out
        → Decides (Differs k word) ones 14 out (sys.call s (ask (read_word word out)))
    pub marked_readings : (k : Key) (word marks out : List ℕ) → l.key ≡ some k
        → well_formed k.n word ≡ true → well_formed k.n marks ≡ true → bytes_for k.n ≤ length out
        → Decides (DiffersMarked k word marks) (differences (unpack k.n marks)) 14 out (sys.call s (ask (read_marked word marks out)))

  -- Demand 3: one claim about every list of calls from a fresh station.
  abbrev pub AfterEveryList : Type 0
  AfterEveryList = (calls : List Call) → After calls (run sys.call sys.fresh calls) (ledger_after blank calls)

  -- all three
  pub record Demands : Type 0 where
    pub demand_1 : Demand1
    pub demand_2 : Demand2
    pub after_every_list : AfterEveryList
