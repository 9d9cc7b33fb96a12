-- Request L5 in its own words, of a system of calls: publish and every call that opens want a key whose g has no proper factor;
-- load and read do not. What a refused call leaves is demand 1's. Assumes nothing.
use Rattle.std.specs.Prelude.{ℕ, ◌≤◌, ◌≡◌, Bool, true, false, cond, List, [], length}
use Rattle.std.proofs.Math.Option.{none, some}
use Rattle.bits.specs.Bits.{bytes_for, ones, well_formed}
use Rattle.key.specs.Keys.{Key, file_of, key_number, reducible}
use Rattle.ledger.specs.Slot.{loaded}
use Rattle.ledger.specs.Loading.{key_file}
use Rattle.ledger.specs.Publishing.{systematic}
use Rattle.ledger.specs.Questions.{Question, open_capsule, read_word, read_marked, report, derive_session_key}
use Rattle.ledger.specs.Calls.{Call, load, publish, ask, drop_key, run}
use Rattle.ledger.specs.Ledger.{blank, ledger_after}
use Rattle.ledger.specs.Systems.{System}
use Rattle.ledger.specs.Demands.{at, key_held, Differs, Decides}

-- the questions that open: all but reading a word, with marks or without
unfoldable pub opens : Question → Bool
opens (open_capsule capsule out) = true
opens (read_word word out) = false
opens (read_marked word marks out) = false
opens (report capsules records) = true
opens (derive_session_key capsule secret) = true

-- the calls that exchange: publish, and the questions that open
unfoldable pub exchanges : Call → Bool
exchanges (load f) = false
exchanges (publish p) = true
exchanges (ask q) = opens q
exchanges drop_key = false

module _ (sys : System) where
  pub record ExchangeKeys : Type 0 where
    -- with a reducible key each of them is refused by 34, whatever its form and buffers, loaded or published
    pub refused : (s : sys.Stations) (k : Key) (c : Call) → key_held (sys.view s) ≡ some k → key_number k ≡ 0 → reducible k ≡ true
        → exchanges c ≡ true → (sys.call s c).number ≡ 34
    -- 34 is answered by nothing else, so load, read and drop never answer it
    pub never : (s : sys.Stations) (c : Call) → (sys.call s c).number ≡ 34 → (reducible (sys.view s).key ≡ true) × (exchanges c ≡ true)
    -- where one of them is accepted, the key is irreducible
    pub only_exchange : (s : sys.Stations) (c : Call) → exchanges c ≡ true → (sys.call s c).number ≡ 0 → reducible (sys.view s).key ≡ false
    -- load and read keep the looser rule: each key that load accepts is loaded from its file, reducible or not, and read decides
    pub loads : (s : sys.Stations) (k : Key) → key_held (sys.view s) ≡ none → key_number k ≡ 0
        → (let r = sys.call s (load (key_file (file_of k))) in (r.number ≡ 0) × (sys.view r.station ≡ at loaded k))
    pub reads : (s : sys.Stations) (k : Key) (word out : List ℕ) → key_held (sys.view s) ≡ some k → key_number k ≡ 0
        → well_formed k.n word ≡ true → bytes_for k.n ≤ length out
        → Decides (Differs k word) ones 14 out (sys.call s (ask (read_word word out)))
    -- after every list of calls: a reducible key that the ledger has is held, and is not published
    pub kept : (calls : List Call) (k : Key) → (ledger_after blank calls).key ≡ some k → reducible k ≡ true
        → ((ledger_after blank calls).mark ≡ false) × (sys.view (run sys.call sys.fresh calls) ≡ at loaded k)
    -- publish without room asks whether the key is an exchange key, 34 or 10, and changes nothing
    pub asked : (s : sys.Stations) (k : Key) → key_held (sys.view s) ≡ some k → key_number k ≡ 0
        → sys.call s (publish (systematic [] [])) ≡ record { station = s; number = cond (reducible k) 34 10; output = []; count = 0; answer = []; free = 0 }
