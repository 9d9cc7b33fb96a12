-- What session answers, and terms of its private functions. Assumes nothing.
use Rattle.std.specs.Prelude.{ℕ, Bool, cond, ◌&&◌, List, eqb, take, replicate}
use Rattle.bits.specs.Bits.{bytes_for}
use Rattle.key.specs.Keys.{Key}
use Rattle.decoding.specs.declared.decoding.Found.{Found}
use Rattle.session.specs.Session.{hashed, session_number, session_bytes}
use Rattle.session_key.specs.declared.SessionKey.{SessionKey}

-- the number, and the key
unfoldable pub session_answer : Bool → Key → List ℕ → List ℕ → SessionKey
session_answer unpublished k capsule secret =
    record { refused = session_number unpublished k capsule secret; key = session_bytes unpublished k capsule secret }

-- zeros, with the number
unfoldable pub refused_key : ℕ → SessionKey
refused_key x = record { refused = x; key = replicate 32 0 }

-- the key by what is found: for a pattern, where it has t ones, else for the secret
unfoldable pub found_key : ℕ → ℕ → Found → List ℕ → List ℕ → List ℕ
found_key n t e capsule secret = cond (e.found && eqb e.ones t) (hashed 1 (take (bytes_for n) e.pattern) capsule) (hashed 0 secret capsule)
