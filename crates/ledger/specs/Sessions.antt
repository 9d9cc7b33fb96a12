-- Request L4 in its own words, of a system of calls: the number and the session key, for every station, capsule and secret. What a
-- refused call leaves is demand 1's. Assumes nothing.
use Rattle.std.specs.Prelude.{ℕ, ◌≤◌, ◌≡◌, Bool, cond, ◌||◌, List, ◌∷◌, ◌++◌, eqb, length, take}
use Rattle.std.proofs.Math.Option.{some}
use Rattle.bits.specs.Bits.{bytes_for, pack, well_formed}
use Rattle.code.specs.PublicKey.{Matrix, public_key}
use Rattle.keccak.specs.Shake.{shake256}
use Rattle.ledger.specs.Slot.{Outcome}
use Rattle.ledger.specs.Questions.{open_capsule, derive_session_key}
use Rattle.ledger.specs.Calls.{ask}
use Rattle.ledger.specs.Systems.{System}
use Rattle.ledger.specs.Demands.{Locks}

-- the number beside open's: where open gives a pattern or 13, none with a right secret and 33 with a wrong one; else open's own
unfoldable pub beside : Bool → ℕ → ℕ
beside right number = cond (eqb number 0 || eqb number 13) (cond right 0 33) number

module _ (sys : System) where
  -- the two calls
  abbrev pub session_of : sys.Stations → List ℕ → List ℕ → Outcome sys.Stations
  session_of s capsule secret = sys.call s (ask (derive_session_key capsule secret))

  abbrev pub open_of : sys.Stations → List ℕ → List ℕ → Outcome sys.Stations
  open_of s capsule out = sys.call s (ask (open_capsule capsule out))

  pub record Derives (s : sys.Stations) (capsule secret out : List ℕ) : Type 0 where
    -- 21, 25, 34, 24, 8 and 9 as open has them, then 33
    pub number : (session_of s capsule secret).number ≡ beside (well_formed (sys.view s).key.n secret) (open_of s capsule out).number
    -- a capsule that opens: of the byte 1, the pattern that open writes and the capsule
    pub opened : (session_of s capsule secret).number ≡ 0 → (open_of s capsule out).number ≡ 0
        → (session_of s capsule secret).answer ≡ shake256 32 (1 ∷ take (bytes_for (sys.view s).key.n) (open_of s capsule out).output ++ capsule)
    -- one that gives 13: of the byte 0, the secret and the capsule
    pub rejected : (session_of s capsule secret).number ≡ 0 → (open_of s capsule out).number ≡ 13
        → (session_of s capsule secret).answer ≡ shake256 32 (0 ∷ secret ++ capsule)

  -- under a public key: a pattern that locks to the capsule gives the sender's key; where none does it is the secret's
  pub record Shares (rows : Matrix) (s : sys.Stations) (capsule secret : List ℕ) : Type 0 where
    pub sender : (e : List ℕ) → Locks (sys.view s).key rows capsule e → (session_of s capsule secret).answer ≡ shake256 32 (1 ∷ pack e ++ capsule)
    pub nobody : ((e : List ℕ) → Locks (sys.view s).key rows capsule e → ⊥) → (session_of s capsule secret).answer ≡ shake256 32 (0 ∷ secret ++ capsule)

  -- for every station and every buffer
  pub record SessionKeys : Type 0 where
    pub derives : (s : sys.Stations) (capsule secret out : List ℕ) → bytes_for (sys.view s).key.n ≤ length out → Derives s capsule secret out
    pub shares : (s : sys.Stations) (capsule secret : List ℕ) (rows : Matrix) → public_key (sys.view s).key ≡ some rows
        → (session_of s capsule secret).number ≡ 0 → Shares rows s capsule secret
    -- with a capsule that opens, the key does not depend on the secret
    pub secret_unused : (s : sys.Stations) (capsule s1 s2 out : List ℕ) → bytes_for (sys.view s).key.n ≤ length out → (open_of s capsule out).number ≡ 0
        → (session_of s capsule s1).number ≡ 0 → (session_of s capsule s2).number ≡ 0 → (session_of s capsule s1).answer ≡ (session_of s capsule s2).answer
    -- with one that gives 13, it does not depend on the station, and so on no pattern
    pub pattern_unused : (s r : sys.Stations) (capsule secret out : List ℕ) → bytes_for (sys.view s).key.n ≤ length out → bytes_for (sys.view r).key.n ≤ length out
        → (open_of s capsule out).number ≡ 13 → (open_of r capsule out).number ≡ 13 → (session_of s capsule secret).number ≡ 0 → (session_of r capsule secret).number ≡ 0
        → (session_of s capsule secret).answer ≡ (session_of r capsule secret).answer
