-- Document 01, 'Station': the numbers of publish that concern the key and the buffers, and the bytes written. Assumes nothing.
use Rattle.std.specs.Prelude.{ℕ, ◌-◌, ◌*◌, Bool, cond, List, [], ◌∷◌, ◌++◌, eqb, ltb, length}
use Rattle.bits.specs.Bits.{bytes_for, over}
use Rattle.field.specs.Numbers.{first_of}
use Rattle.key.specs.Keys.{Key, unsound, reducible}
use Rattle.code.specs.PublicKey.{public_key, dependent, written}

-- the bits of a capsule
unfoldable pub capsule_bits : Key → ℕ
capsule_bits k = k.m * k.t

-- the bytes of the public key, of the workspace in which it is made, and of request L9's small one
abbrev pub public_bytes : Key → ℕ
public_bytes k = capsule_bits k * bytes_for (k.n - capsule_bits k)

abbrev pub work_bytes : Key → ℕ
work_bytes k = capsule_bits k * bytes_for k.n

abbrev pub small_bytes : Key → ℕ
small_bytes k = 2 * capsule_bits k * bytes_for (capsule_bits k)

-- A form of publish that needs so many bytes of workspace.

-- 25, 34, 10, 11: once they have passed, the workspace's contents are free
unfoldable pub publish_checks_within : ℕ → Bool → Key → List ℕ → List ℕ → List (Bool × ℕ)
publish_checks_within need bad k out work =
    (bad, 25) ∷
    (reducible k, 34) ∷
    (ltb (length out) (public_bytes k), 10) ∷
    (ltb (length work) need, 11) ∷ []

-- how many of the workspace's first bytes are free: those it needs, once the checks have passed; else none
unfoldable pub free_bytes_within : ℕ → Key → List ℕ → List ℕ → ℕ
free_bytes_within need k out work = cond (eqb (first_of (publish_checks_within need (unsound k) k out work)) 0) need 0

-- and 23
unfoldable pub publish_conditions_within : ℕ → Bool → Key → List ℕ → List ℕ → List (Bool × ℕ)
publish_conditions_within need bad k out work = publish_checks_within need bad k out work ++ ((dependent k, 23) ∷ [])

-- the number for a kept key
unfoldable pub publish_number_within : ℕ → Key → List ℕ → List ℕ → ℕ
publish_number_within need k out work = first_of (publish_conditions_within need (unsound k) k out work)

-- the output: T from its start, where nothing is refused
unfoldable pub publish_output_within : ℕ → Key → List ℕ → List ℕ → List ℕ
publish_output_within need k out work = cond (eqb (publish_number_within need k out work) 0) (over (written (public_key k)) out) out

-- The form that needs m·t rows of n bits.

abbrev pub publish_checks : Bool → Key → List ℕ → List ℕ → List (Bool × ℕ)
publish_checks bad k out work = publish_checks_within (work_bytes k) bad k out work

abbrev pub free_bytes : Key → List ℕ → List ℕ → ℕ
free_bytes k out work = free_bytes_within (work_bytes k) k out work

abbrev pub publish_conditions : Bool → Key → List ℕ → List ℕ → List (Bool × ℕ)
publish_conditions bad k out work = publish_conditions_within (work_bytes k) bad k out work

abbrev pub publish_number : Key → List ℕ → List ℕ → ℕ
publish_number k out work = publish_number_within (work_bytes k) k out work

abbrev pub publish_output : Key → List ℕ → List ℕ → List ℕ
publish_output k out work = publish_output_within (work_bytes k) k out work
