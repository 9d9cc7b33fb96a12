-- The numbers of publish by the tests of the code, and its output. Assumes nothing.
use mathlib.Core.Path.{◌≡◌}
use mathlib.Core.Bool.{cond}
use mathlib.Core.List.{List}
use Prim.Native.Nat.{ℕ, ◌-◌, ◌*◌, ◌≤◌, ◌<◌}
use native.Mathlib.Nat.{le_of_suc-le-suc}
use native.Mathlib.Omega.{arith}
use lib.ListN.{length, drop}
use lib.Pow.{pow_mono}
use Rattle.bits.specs.Bits.{bytes_for, over}
use Rattle.field.specs.Numbers.{first_of}
use Rattle.field.proofs.Table.{Width, width_narrow}
use Rattle.key.specs.Keys.{Key, key_number, unsound}
use Rattle.key.proofs.Accepted.{accepted}
use Rattle.irreducible.specs.Answers.{exchange_checks}
use Rattle.code.specs.PublicKey.{public_key, dependent, written}
use Rattle.code.specs.Publish.{capsule_bits, work_bytes, free_bytes, publish_number, publish_output}
use Rattle.publishing.specs.Checks.{size_checks}
use Rattle.publishing.proofs.ChecksWithin as within

-- the sizes of an accepted key
pub record Sizes (k : Key) : Type 0 where
  pub width : Width k.m
  pub narrow : k.m < 14
  pub rows : k.m * k.t < k.n
  pub columns : k.n ≤ 8192
  pub degree : k.t ≤ 128

pub sizes : (k : Key) → key_number k ≡ 0 → Sizes k
sizes k e =
    let a = accepted k e in
    let n = width_narrow k.m a.width in
    record {
      width = a.width;
      narrow = n;
      rows = a.limits.over;
      columns = omega (arith, a.limits.fits, pow_mono (le_of_suc-le-suc n));
      degree = a.limits.few;
    }

module _ (k : Key) (out work : ℕ) where
  -- 25, 34
  pub check_key : (first_of (exchange_checks k) ≡ 0 → ⊥) → first_of (exchange_checks k) ≡ first_of (size_checks (unsound k) k out work)
  check_key h = within.check_key (work_bytes k) k out work h

  module _ (z : first_of (exchange_checks k) ≡ 0) where
    pub check_output : out < k.m * k.t * bytes_for (k.n - k.m * k.t) → 10 ≡ first_of (size_checks (unsound k) k out work)
    check_output h = within.check_output (work_bytes k) k out work z h

    module _ (fits : k.m * k.t * bytes_for (k.n - k.m * k.t) ≤ out) where
      pub check_work : work < k.m * k.t * bytes_for k.n → 11 ≡ first_of (size_checks (unsound k) k out work)
      unfolding capsule_bits
      check_work h = within.check_work (work_bytes k) k out work z fits h

      pub check_none : k.m * k.t * bytes_for k.n ≤ work → 0 ≡ first_of (size_checks (unsound k) k out work)
      unfolding capsule_bits
      check_none h = within.check_none (work_bytes k) k out work z fits h

  -- no number: the key is accepted, and output and workspace are long enough
  pub checks_clear : first_of (size_checks (unsound k) k out work) ≡ 0
      → (key_number k ≡ 0) × (k.m * k.t * bytes_for (k.n - k.m * k.t) ≤ out) × (k.m * k.t * bytes_for k.n ≤ work)
  unfolding capsule_bits
  checks_clear e = within.checks_clear (work_bytes k) k out work e

-- the number and the output of publish, where a check holds
module _ (k : Key) (out work : List ℕ) where
  pub number_refused : (first_of (size_checks (unsound k) k (length out) (length work)) ≡ 0 → ⊥)
      → first_of (size_checks (unsound k) k (length out) (length work)) ≡ publish_number k out work
  number_refused h = within.number_refused (work_bytes k) k out work h

  pub output_refused : (publish_number k out work ≡ 0 → ⊥) → out ≡ publish_output k out work
  output_refused h = within.output_refused (work_bytes k) k out work h

  -- where none does: 23 decides
  module _ (clear : first_of (size_checks (unsound k) k (length out) (length work)) ≡ 0) where
    pub number-made : publish_number k out work ≡ cond (dependent k) 23 0
    number-made = within.number-made (work_bytes k) k out work clear

    -- the bytes that are not free are as they were
    pub free_made : (after : List ℕ) → drop (work_bytes k) after ≡ drop (work_bytes k) work
        → drop (free_bytes k out work) after ≡ drop (free_bytes k out work) work
    free_made after e = within.free_made (work_bytes k) k out work clear after e

    pub output_made : over (written (public_key k)) out ≡ publish_output k out work
    output_made = within.output_made (work_bytes k) k out work clear
