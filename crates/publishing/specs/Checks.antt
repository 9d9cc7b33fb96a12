-- What publish looks at before it begins. Assumes nothing.
use Rattle.std.specs.Prelude.{ℕ, Bool, List, [], ◌∷◌, ltb}
use Rattle.key.specs.Keys.{Key, reducible}
use Rattle.code.specs.Publish.{public_bytes, work_bytes}

-- publish's checks before 23, by the bytes of workspace that it needs and the lengths of output and workspace
unfoldable pub size_checks_within : ℕ → Bool → Key → ℕ → ℕ → List (Bool × ℕ)
size_checks_within need bad k out work = (bad, 25) ∷ (reducible k, 34) ∷ (ltb out (public_bytes k), 10) ∷ (ltb work need, 11) ∷ []

-- of the form that needs m·t rows of n bits
abbrev pub size_checks : Bool → Key → ℕ → ℕ → List (Bool × ℕ)
size_checks bad k out work = size_checks_within (work_bytes k) bad k out work
