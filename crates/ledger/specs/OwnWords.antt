-- The demands in their own words, of a system of calls: the round trips of the calls, reading by code words, and which load's key
-- is held, by the list alone. They follow from the three demands. Assumes nothing.
use Rattle.std.specs.Prelude.{ℕ, ◌≤◌, ◌≡◌, ◌↔◌, true, List, ◌∷◌, ◌++◌, length, take}
use Rattle.std.proofs.Math.Option.{some}
use Rattle.bits.specs.Bits.{Bytes, Row, bytes_for, unpack, ones, well_formed, xor_row}
use Rattle.key.specs.Keys.{Key, key_number}
use Rattle.code.specs.Code.{in_code}
use Rattle.code.specs.Lock.{lock_number, lock_output}
use Rattle.code.specs.Publish.{capsule_bits, public_bytes}
use Rattle.ledger.specs.Slot.{published}
use Rattle.ledger.specs.Loading.{Loading, loaded_key}
use Rattle.ledger.specs.Publishing.{Publishing}
use Rattle.ledger.specs.Questions.{open_capsule, read_word}
use Rattle.ledger.specs.Calls.{Call, load, publish, ask, drop_key, run}
use Rattle.ledger.specs.Systems.{System}
use Rattle.ledger.specs.Demands.{at, key_held, pattern_of}

-- the capsule that lock wrote under a key's shape: the first bytes of its buffer
abbrev pub capsule_in : Key → List ℕ → List ℕ → List ℕ → List ℕ
capsule_in k public pattern buffer = take (bytes_for (capsule_bits k)) (lock_output k.m k.n k.t public pattern buffer)

-- c is a code word that differs from the word in at most t places
pub record Near (k : Key) (word c : List ℕ) : Type 0 where
  pub row : Row k.n c
  pub code : in_code k c ≡ true
  pub few : ones (xor_row (unpack k.n word) c) ≤ k.t

module _ (sys : System) where
  -- what lock wrote for a pattern, open accepts and gives the pattern back; what open wrote for a capsule, lock accepts and gives
  -- the capsule back
  pub record Undo (k : Key) (public : List ℕ) (s : sys.Stations) : Type 0 where
    pub lock_open : (pattern buffer out : List ℕ) → Bytes pattern → lock_number k.m k.n k.t public pattern buffer ≡ 0 → bytes_for k.n ≤ length out
        → (let r = sys.call s (ask (open_capsule (capsule_in k public pattern buffer) out)) in
        (r.number ≡ 0) × (r.count ≡ k.t) × (take (bytes_for k.n) r.output ≡ pattern))
    pub open_lock : (capsule out buffer : List ℕ) → Bytes capsule → (sys.call s (ask (open_capsule capsule out))).number ≡ 0 → bytes_for (capsule_bits k) ≤ length buffer
        → (let pattern = pattern_of sys k s capsule out in
        (lock_number k.m k.n k.t public pattern buffer ≡ 0) × (capsule_in k public pattern buffer ≡ capsule))

  -- Demand 2: an accepted publish of each form hands back a station published with the same key, and the bytes that it wrote are a
  -- public key under which lock and open undo each other, on every station published with that key.
  abbrev pub LocksAndOpens : Type 0
  LocksAndOpens = (p : sys.Stations) (form : Publishing) → (sys.call p (publish form)).number ≡ 0
      → (let k = (sys.view p).key in
      (sys.view (sys.call p (publish form)).station ≡ at published k) × ((s : sys.Stations) → sys.view s ≡ at published k
      → Undo k (take (public_bytes k) (sys.call p (publish form)).output) s))

  -- accepted: the word with what was written added is a code word, differs from the word in as many places as were counted, at most
  -- t, and is the only code word within t places; refused by 14 exactly when there is none
  pub record Corrects (k : Key) (s : sys.Stations) (word out : List ℕ) : Type 0 where
    pub accepts : (sys.call s (ask (read_word word out))).number ≡ 0
        → (let c = xor_row (unpack k.n word) (unpack k.n (sys.call s (ask (read_word word out))).output) in
        Near k word c × ((sys.call s (ask (read_word word out))).count ≡ ones (xor_row (unpack k.n word) c)) × ((d : List ℕ) → Near k word d → d ≡ c))
    pub refuses : key_held (sys.view s) ≡ some k → key_number k ≡ 0 → well_formed k.n word ≡ true → bytes_for k.n ≤ length out
        → ((sys.call s (ask (read_word word out))).number ≡ 14) ↔ ((c : List ℕ) → Near k word c → ⊥)

  -- Demand 3, reading
  abbrev pub ReadsCodeWords : Type 0
  ReadsCodeWords = (s : sys.Stations) (word out : List ℕ) → Corrects (sys.view s).key s word out

  -- the calls from the station s on: no drop among them is accepted; a publish among them is accepted
  abbrev pub NoDrop : sys.Stations → List Call → Type 0
  NoDrop s calls = (a b : List Call) → calls ≡ a ++ (drop_key ∷ b) → (sys.call (run sys.call s a) drop_key).number ≡ 0 → ⊥

  pub record SomePublish (s : sys.Stations) (calls : List Call) : Type 0 where
    pub before : List Call
    pub form : Publishing
    pub after : List Call
    pub split : calls ≡ before ++ (publish form ∷ after)
    pub accepted : (sys.call (run sys.call s before) (publish form)).number ≡ 0

  -- from the station s on, a load of the key k is accepted, and no drop after it
  pub record Loaded (s : sys.Stations) (calls : List Call) (k : Key) : Type 0 where
    pub before : List Call
    pub form : Loading
    pub after : List Call
    pub split : calls ≡ before ++ (load form ∷ after)
    pub accepted : (sys.call (run sys.call s before) (load form)).number ≡ 0
    pub key : loaded_key form ≡ k
    pub kept : NoDrop (sys.call (run sys.call s before) (load form)).station after

  -- Demand 3, which key is held: one exactly when a load was accepted and no drop after it, and it is that load's.
  abbrev pub HoldsTheLoad : Type 0
  HoldsTheLoad = (calls : List Call) (k : Key) → (key_held (sys.view (run sys.call sys.fresh calls)) ≡ some k) ↔ Loaded sys.fresh calls k

  -- and it is published exactly when moreover a publish after that load was accepted
  abbrev pub HoldsTheMark : Type 0
  HoldsTheMark = (calls : List Call) (k : Key) → (sys.view (run sys.call sys.fresh calls) ≡ at published k)
      ↔ ((l : Loaded sys.fresh calls k) × SomePublish (sys.call (run sys.call sys.fresh l.before) (load l.form)).station l.after)

  -- all of them
  pub record OwnWords : Type 0 where
    pub locks_and_opens : LocksAndOpens
    pub reads_code_words : ReadsCodeWords
    pub holds_the_load : HoldsTheLoad
    pub holds_the_mark : HoldsTheMark
