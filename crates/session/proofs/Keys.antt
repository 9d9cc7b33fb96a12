-- The session key by what opening gives, and its conditions beside open's. Assumes nothing.
use Prim.Native.Nat.{ℕ}
use mathlib.Core.Path.{◌≡◌, refl, sym, ap, ◌∙◌}
use mathlib.Core.Bool.{Bool, true, false}
use mathlib.Core.List.{List, ◌∷◌, ◌++◌}
use mathlib.Core.Option.{Option, none, some}
use borrow.Author.Tests.{eqb-true, not-false}
use lib.ListN.{take}
use Rattle.bits.specs.Bits.{Row, unpack, pack, well_formed}
use Rattle.bits.proofs.Pack.{well_formed_lem}
use Rattle.field.specs.Numbers.{first_of}
use Rattle.field.proofs.Numbers.{first-clear}
use Rattle.key.specs.Keys.{Key, reducible}
use Rattle.code.specs.Publish.{capsule_bits}
use Rattle.code.proofs.Exchange.{exchangeable}
use Rattle.decoder.specs.Reading.{reading, filled, opening}
use Rattle.decoder.specs.Calls.{open_conditions}
use Rattle.decoder.proofs.Sanity.{reading_sound}
use Rattle.decoder.proofs.Openings.{exactly_some}
use Rattle.keccak.specs.Shake.{shake256}
use Rattle.session.specs.Session.{hashed, key_for, session_key, session_conditions}

module _ (k : Key) (capsule secret : List ℕ) where
  -- a capsule that opens: of its pattern
  pub key_opened : {e : List ℕ} → opening k (unpack (capsule_bits k) capsule) ≡ some e → session_key k capsule secret ≡ shake256 32 (1 ∷ pack e ++ capsule)
  unfolding session_key key_for hashed
  key_opened h = ap (λ (o : Option (List ℕ)). key_for o capsule secret) h

  -- 13: of the secret
  pub key_rejected : opening k (unpack (capsule_bits k) capsule) ≡ none → session_key k capsule secret ≡ shake256 32 (0 ∷ secret ++ capsule)
  unfolding session_key key_for hashed
  key_rejected h = ap (λ (o : Option (List ℕ)). key_for o capsule secret) h

-- with a capsule that opens, the secret does not count
pub secret_unused : (k : Key) (capsule s1 s2 : List ℕ) {e : List ℕ} → opening k (unpack (capsule_bits k) capsule) ≡ some e → session_key k capsule s1 ≡ session_key k capsule s2
secret_unused k capsule s1 s2 h = key_opened k capsule s1 h ∙ sym (key_opened k capsule s2 h)

-- an opened pattern has n bits
pub opening_row : (k : Key) (s e : List ℕ) → opening k s ≡ some e → Row k.n e
unfolding opening
opening_row k s e h = (reading_sound k (filled k.n s) e (exactly_some k.t (reading k (filled k.n s)) e h).0).bits

-- 25, 34, 24, 8, 9 as open has them
pub conditions_alike : (bad unpublished : Bool) (k : Key) (capsule secret out : List ℕ)
    → take 5 (session_conditions bad unpublished k capsule secret) ≡ take 5 (open_conditions bad unpublished k capsule out)
unfolding session_conditions open_conditions
conditions_alike bad unpublished k capsule secret out = refl

-- where no condition holds
pub record Derivable (bad unpublished : Bool) (k : Key) (capsule secret : List ℕ) : Type 0 where
  pub sound : bad ≡ false
  pub irreducible : reducible k ≡ false
  pub published : unpublished ≡ false
  pub capsule_right : well_formed (capsule_bits k) capsule ≡ true
  pub secret_right : well_formed k.n secret ≡ true

pub derivable : (bad unpublished : Bool) (k : Key) (capsule secret : List ℕ) → first_of (session_conditions bad unpublished k capsule secret) ≡ 0
    → Derivable bad unpublished k capsule secret
unfolding session_conditions
derivable bad unpublished k capsule secret e =
    let x = exchangeable bad k _ e in
    let c24 = first-clear _ 23 _ x.rest in
    let c8 = first-clear _ 7 _ c24.1 in
    let c9 = first-clear _ 8 _ c8.1 in
    let c33 = first-clear _ 32 _ c9.1 in
    record {
      sound = x.sound;
      irreducible = x.irreducible;
      published = c24.0;
      capsule_right = well_formed_lem (capsule_bits k) capsule (eqb-true _ _ (not-false _ c8.0)) (not-false _ c9.0);
      secret_right = not-false _ c33.0;
    }
