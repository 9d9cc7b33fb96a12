-- The numbers of session, by the tests of the code. Assumes nothing.
use mathlib.Core.Path.{◌≡◌, refl, sym, ap, ◌∙◌}
use mathlib.Core.Bool.{Bool, true, false, not}
use mathlib.Core.List.{List, [], ◌∷◌, ◌++◌}
use Prim.Native.Nat.{ℕ, ◌*◌, ◌≤◌}
use native.Mathlib.Nat.{le_of_suc-le-suc}
use native.Mathlib.Omega.{arith}
use lib.ListN.{length}
use lib.Pow.{pow_mono}
use Rattle.bits.specs.Bits.{well_formed}
use Rattle.bits.proofs.Parts.{row_size}
use Rattle.bits.proofs.Pack.{well_formed-length}
use Rattle.field.specs.Numbers.{first_of}
use Rattle.field.specs.Verdicts.{verdict_of}
use Rattle.field.specs.declared.Verdict.{Verdict}
use Rattle.field.proofs.Numbers.{numbered, first-append}
use Rattle.field.proofs.Table.{width_narrow}
use Rattle.key.specs.Keys.{Key, key_number, unsound}
use Rattle.key.specs.Kept.{kept}
use Rattle.key.specs.declared.kept.Key as Kept
use Rattle.key.proofs.Accepted.{Accepted, accepted}
use Rattle.key.proofs.Conditions.{first-take}
use Rattle.code.specs.Publish.{capsule_bits}
use Rattle.reading.specs.Answers.{row_checks, key_checks}
use Rattle.reading.proofs.Refusals.{sound_key, key_refused_lem, key_passed}
use Rattle.session.specs.Session.{session_conditions, session_number}
use Rattle.session.proofs.Keys.{derivable}

-- a row's verdict is a capsule's
pub row_verdict : (k : Kept.Key) (capsule : List ℕ) {bits : ℕ} {v : Verdict} → bits ≡ k.m * k.t → v ≡ verdict_of (first_of (row_checks bits capsule))
    → v ≡ verdict_of (first_of (row_checks (capsule_bits (kept k)) capsule))
unfolding kept capsule_bits
row_verdict k capsule e v = v ∙ ap (λ (b : ℕ). verdict_of (first_of (row_checks b capsule))) e

module _ (unpublished : Bool) (k : Key) (capsule secret : List ℕ) where
  -- 33, and 8, 9 in front of it
  secret_check : List (Bool × ℕ)
  secret_check = (not (well_formed k.n secret), 33) ∷ []

  buffer_checks_lem : List (Bool × ℕ)
  buffer_checks_lem = row_checks (capsule_bits k) capsule ++ secret_check

  -- 25, 34, 24
  pub key_number_lem : (first_of (key_checks unpublished k) ≡ 0 → ⊥) → first_of (key_checks unpublished k) ≡ session_number unpublished k capsule secret
  unfolding session_number session_conditions key_checks row_checks buffer_checks_lem secret_check
  key_number_lem h = key_refused_lem unpublished k buffer_checks_lem h

  module _ (z : first_of (key_checks unpublished k) ≡ 0) where
    passed : first_of buffer_checks_lem ≡ session_number unpublished k capsule secret
    unfolding session_number session_conditions key_checks row_checks buffer_checks_lem secret_check
    passed = key_passed unpublished k buffer_checks_lem z

    -- 8, 9
    pub row_number : (first_of (row_checks (capsule_bits k) capsule) ≡ 0 → ⊥) → first_of (row_checks (capsule_bits k) capsule) ≡ session_number unpublished k capsule secret
    unfolding row_checks buffer_checks_lem
    row_number h = first-take 2 buffer_checks_lem h ∙ passed

    -- 33, or none
    module _ (w : first_of (row_checks (capsule_bits k) capsule) ≡ 0) where
      secret_number : first_of secret_check ≡ session_number unpublished k capsule secret
      unfolding row_checks numbered buffer_checks_lem
      secret_number = sym (first-append (row_checks (capsule_bits k) capsule) secret_check refl w) ∙ passed

      pub secret_wrong : well_formed k.n secret ≡ false → 33 ≡ session_number unpublished k capsule secret
      unfolding first_of secret_check
      secret_wrong h = rw (← secret_number, h)

      pub secret_right : well_formed k.n secret ≡ true → 0 ≡ session_number unpublished k capsule secret
      unfolding first_of secret_check
      secret_right h = rw (← secret_number, h)

  -- where none holds, the key is accepted and the buffers fit the hashed text
  pub record Sizes : Type 0 where
    pub accepted_key : key_number k ≡ 0
    pub places : k.n ≤ 8192
    pub capsule_right : well_formed (capsule_bits k) capsule ≡ true
    pub capsule_bytes : length capsule ≤ 1024
    pub secret_bytes : length secret ≤ 1024

  pub sizes : session_number unpublished k capsule secret ≡ 0 → Sizes
  unfolding session_number capsule_bits
  sizes e =
      let d = derivable (unsound k) unpublished k capsule secret e in
      let z = sound_key k d.sound in
      let a : Accepted k = accepted k z in
      let l = a.limits in
      let n : k.n ≤ 8192 = omega (arith, l.fits, pow_mono (le_of_suc-le-suc (width_narrow k.m a.width))) in
      record {
        accepted_key = z;
        places = n;
        capsule_right = d.capsule_right;
        capsule_bytes = omega (arith, well_formed-length (capsule_bits k) capsule d.capsule_right, row_size (capsule_bits k) (omega (arith, l.over)));
        secret_bytes = omega (arith, well_formed-length k.n secret d.secret_right, row_size k.n n);
      }
