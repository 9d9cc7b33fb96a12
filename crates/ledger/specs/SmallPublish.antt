-- Request L9 in its own words, of a system of calls: publish with the small workspace beside the first form, for every station and all
-- buffers. That it counts as a publish in lists of calls is demand 3's, which goes by the kind. Assumes nothing.
use Rattle.std.specs.Prelude.{ℕ, ◌<◌, ◌≡◌, Bool, true, cond, ◌||◌, eqb, ltb, length}
use mathlib.Core.List.{List, [], ◌∷◌, flat_map}
use Rattle.std.proofs.Math.Option.{some}
use Rattle.bits.specs.Bits.{pack, over}
use Rattle.field.specs.Numbers.{first_of}
use Rattle.key.specs.Keys.{Key, unsound, reducible}
use Rattle.code.specs.PublicKey.{Matrix, public_key}
use Rattle.code.specs.Publish.{public_bytes, work_bytes, small_bytes}
use Rattle.ledger.specs.Slot.{Slot, is_empty, Outcome}
use Rattle.ledger.specs.Publishing.{systematic, small}
use Rattle.ledger.specs.Calls.{publish}
use Rattle.ledger.specs.Systems.{System}
use Rattle.ledger.specs.Demands.{key_held}

-- all that a call hands back besides the number of free bytes
unfoldable pub unfreed : {S : Type 0} → Outcome S → Outcome S
unfreed r = record { station = r.station; number = r.number; output = r.output; count = r.count; answer = r.answer; free = 0 }

-- the first form's checks before 23, with 11 by the small workspace
unfoldable pub small_checks : Slot → List ℕ → List ℕ → List (Bool × ℕ)
small_checks s out tight =
    (is_empty s.state, 21) ∷
    (unsound s.key, 25) ∷
    (reducible s.key, 34) ∷
    (ltb (length out) (public_bytes s.key), 10) ∷
    (ltb (length tight) (small_bytes s.key), 11) ∷ []

module _ (sys : System) where
  -- the two calls
  abbrev pub publish_of : sys.Stations → List ℕ → List ℕ → Outcome sys.Stations
  publish_of s out work = sys.call s (publish (systematic out work))

  abbrev pub publish_small_of : sys.Stations → List ℕ → List ℕ → Outcome sys.Stations
  publish_small_of s out tight = sys.call s (publish (small out tight))

  pub record SmallPublish : Type 0 where
    -- station, number, output and all else that is handed back are the first form's, where both workspaces are too short or neither is
    pub alike : (s : sys.Stations) (out work tight : List ℕ)
        → (let k = (sys.view s).key in ltb (length tight) (small_bytes k) ≡ ltb (length work) (work_bytes k))
        → unfreed (publish_small_of s out tight) ≡ unfreed (publish_of s out work)
    -- with a too short workspace it is 25, 34 or 10 where one of them holds, and else 11
    pub short : (s : sys.Stations) (k : Key) (out tight : List ℕ) → key_held (sys.view s) ≡ some k → length tight < small_bytes k
        → (publish_small_of s out tight).number
        ≡ first_of ((unsound k, 25) ∷ (reducible k, 34) ∷ (ltb (length out) (public_bytes k), 10) ∷ (true, 11) ∷ [])
    -- the workspace is free once the checks have passed, which is where the number is 0 or 23, and not before
    pub free : (s : sys.Stations) (out tight : List ℕ)
        → (publish_small_of s out tight).free ≡ cond (eqb (first_of (small_checks (sys.view s) out tight)) 0) (small_bytes (sys.view s).key) 0
    pub free_by_number : (s : sys.Stations) (out tight : List ℕ)
        → (let r = publish_small_of s out tight in r.free ≡ cond (eqb r.number 0 || eqb r.number 23) (small_bytes (sys.view s).key) 0)
    -- accepted: the station is marked, and the output is T from its start
    pub publishes : (s : sys.Stations) (out tight : List ℕ) → (publish_small_of s out tight).number ≡ 0
        → ((publish_small_of s out tight).station ≡ sys.marked s)
        × (rows : Matrix) × (public_key (sys.view s).key ≡ some rows) × ((publish_small_of s out tight).output ≡ over (flat_map pack rows) out)
