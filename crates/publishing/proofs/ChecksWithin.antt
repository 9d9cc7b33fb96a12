-- The numbers of publish by the tests of the code, and its output, for the bytes of workspace that a form needs. Assumes nothing.
use mathlib.Core.Path.{◌≡◌, refl, sym}
use mathlib.Core.Bool.{Bool, true, false, not, cond}
use mathlib.Core.List.{List, [], ◌∷◌}
use mathlib.Core.Option.{Option, none, some}
use Prim.Native.Nat.{ℕ, ◌-◌, ◌*◌, ◌≤◌, ◌<◌}
use lib.Dec.{eqb, ltb}
use lib.ListN.{length, drop}
use borrow.Author.Tests.{eq-eqb, ne_eqb, eqb-true, not-false, lt-ltb, le-ltb, ltb-false}
use Rattle.bits.specs.Bits.{bytes_for, over}
use Rattle.field.specs.Numbers.{first_of}
use Rattle.field.proofs.Numbers.{numbered, first-clear, first-append}
use Rattle.key.specs.Keys.{Key, key_number, unsound, reducible}
use Rattle.key.proofs.Conditions.{first-take}
use Rattle.irreducible.specs.Answers.{exchange_checks}
use Rattle.code.specs.PublicKey.{Matrix, public_key, dependent, written}
use Rattle.code.specs.Publish.{capsule_bits, publish_checks_within, free_bytes_within, publish_conditions_within, publish_number_within, publish_output_within}
use Rattle.publishing.specs.Checks.{size_checks_within}

module _ (need : ℕ) (k : Key) (out work : ℕ) where
  -- 25, 34
  pub check_key : (first_of (exchange_checks k) ≡ 0 → ⊥) → first_of (exchange_checks k) ≡ first_of (size_checks_within need (unsound k) k out work)
  unfolding exchange_checks size_checks_within
  check_key h = first-take 2 (size_checks_within need (unsound k) k out work) h

  module _ (z : first_of (exchange_checks k) ≡ 0) where
    lengths : List (Bool × ℕ)
    lengths = (ltb out (k.m * k.t * bytes_for (k.n - k.m * k.t)), 10) ∷ (ltb work need, 11) ∷ []

    passed : first_of lengths ≡ first_of (size_checks_within need (unsound k) k out work)
    unfolding exchange_checks size_checks_within numbered capsule_bits lengths
    passed = sym (first-append (exchange_checks k) lengths refl z)

    pub check_output : out < k.m * k.t * bytes_for (k.n - k.m * k.t) → 10 ≡ first_of (size_checks_within need (unsound k) k out work)
    unfolding first_of lengths
    check_output h = rw (← passed, lt-ltb out (k.m * k.t * bytes_for (k.n - k.m * k.t)) h)

    module _ (fits : k.m * k.t * bytes_for (k.n - k.m * k.t) ≤ out) where
      pub check_work : work < need → 11 ≡ first_of (size_checks_within need (unsound k) k out work)
      unfolding first_of lengths
      check_work h = rw (← passed, le-ltb out (k.m * k.t * bytes_for (k.n - k.m * k.t)) fits, lt-ltb work need h)

      pub check_none : need ≤ work → 0 ≡ first_of (size_checks_within need (unsound k) k out work)
      unfolding first_of lengths
      check_none h = rw (← passed, le-ltb out (k.m * k.t * bytes_for (k.n - k.m * k.t)) fits, le-ltb work need h)

  -- no number: the key is accepted, and output and workspace are long enough
  pub checks_clear : first_of (size_checks_within need (unsound k) k out work) ≡ 0
      → (key_number k ≡ 0) × (k.m * k.t * bytes_for (k.n - k.m * k.t) ≤ out) × (need ≤ work)
  unfolding size_checks_within unsound capsule_bits
  checks_clear e =
      let c25 = first-clear (not (eqb (key_number k) 0)) 24 _ e in
      let c34 = first-clear (reducible k) 33 _ c25.1 in
      let c10 = first-clear (ltb out (k.m * k.t * bytes_for (k.n - k.m * k.t))) 9 _ c34.1 in
      let c11 = first-clear (ltb work need) 10 _ c10.1 in
      (eqb-true (key_number k) 0 (not-false _ c25.0), ltb-false out _ c10.0, ltb-false work _ c11.0)

-- the number and the output of publish, where a check holds
module _ (need : ℕ) (k : Key) (out work : List ℕ) where
  pub number_refused : (first_of (size_checks_within need (unsound k) k (length out) (length work)) ≡ 0 → ⊥)
      → first_of (size_checks_within need (unsound k) k (length out) (length work)) ≡ publish_number_within need k out work
  unfolding size_checks_within publish_number_within publish_conditions_within publish_checks_within
  number_refused h = first-take 4 (publish_conditions_within need (unsound k) k out work) h

  pub output_refused : (publish_number_within need k out work ≡ 0 → ⊥) → out ≡ publish_output_within need k out work
  unfolding publish_output_within
  output_refused h = rw (ne_eqb (publish_number_within need k out work) 0 h)

  -- where none does: 23 decides
  module _ (clear : first_of (size_checks_within need (unsound k) k (length out) (length work)) ≡ 0) where
    pub number-made : publish_number_within need k out work ≡ cond (dependent k) 23 0
    unfolding size_checks_within publish_number_within publish_conditions_within publish_checks_within numbered first_of
    number-made = first-append (publish_checks_within need (unsound k) k out work) ((dependent k, 23) ∷ []) refl clear

    -- the bytes that are not free are as they were
    pub free_made : (after : List ℕ) → drop need after ≡ drop need work
        → drop (free_bytes_within need k out work) after ≡ drop (free_bytes_within need k out work) work
    unfolding free_bytes_within publish_checks_within size_checks_within
    free_made after e = rw (eq-eqb _ 0 clear) e

    pub output_made : over (written (public_key k)) out ≡ publish_output_within need k out work
    unfolding publish_output_within dependent written over
    output_made = rw number-made (go (public_key k))
      where
        go : (p : Option Matrix)
            → over (written p) out ≡ cond (eqb (cond (elim p as (λ x. Bool) [ none ↦ true | some rows ↦ false ]) 23 0) 0) (over (written p) out) out
        go none = refl
        go (some rows) = refl
