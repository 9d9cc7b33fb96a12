-- Request L4: the session key of a capsule. Assumes nothing.
use Rattle.std.specs.Prelude.{ℕ, Bool, cond, not, List, [], ◌∷◌, ◌++◌, eqb, length, replicate}
use Rattle.std.proofs.Math.Option.{Option, none, some}
use Rattle.bits.specs.Bits.{bytes_for, unpack, pack, filler_clear, well_formed}
use Rattle.field.specs.Numbers.{first_of}
use Rattle.key.specs.Keys.{Key, unsound, reducible}
use Rattle.code.specs.Publish.{capsule_bits}
use Rattle.decoder.specs.Reading.{opening}
use Rattle.keccak.specs.Shake.{shake256}

-- the first 32 bytes of SHAKE256 for a byte, a packed row and the capsule
unfoldable pub hashed : ℕ → List ℕ → List ℕ → List ℕ
hashed b row capsule = shake256 32 (b ∷ row ++ capsule)

-- for the byte 1 and the pattern; where there is none, for the byte 0 and the secret
unfoldable pub key_for : Option (List ℕ) → List ℕ → List ℕ → List ℕ
key_for (some e) capsule secret = hashed 1 (pack e) capsule
key_for none capsule secret = hashed 0 secret capsule

-- the pattern is the one that opening gives
unfoldable pub session_key : Key → List ℕ → List ℕ → List ℕ
session_key k capsule secret = key_for (opening k (unpack (capsule_bits k) capsule)) capsule secret

-- 25, 34, 24, 8, 9, 33
unfoldable pub session_conditions : Bool → Bool → Key → List ℕ → List ℕ → List (Bool × ℕ)
session_conditions bad unpublished k capsule secret =
    (bad, 25) ∷
    (reducible k, 34) ∷
    (unpublished, 24) ∷
    (not (eqb (length capsule) (bytes_for (capsule_bits k))), 8) ∷
    (not (filler_clear (capsule_bits k) capsule), 9) ∷
    (not (well_formed k.n secret), 33) ∷ []

-- the number for a kept key
unfoldable pub session_number : Bool → Key → List ℕ → List ℕ → ℕ
session_number unpublished k capsule secret = first_of (session_conditions (unsound k) unpublished k capsule secret)

-- the session key; zeros where it is refused
unfoldable pub session_bytes : Bool → Key → List ℕ → List ℕ → List ℕ
session_bytes unpublished k capsule secret =
    cond (eqb (session_number unpublished k capsule secret) 0) (session_key k capsule secret) (replicate 32 0)
