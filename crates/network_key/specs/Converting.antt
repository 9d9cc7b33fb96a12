-- Document 02, L7: what converting a key file answers and writes. Assumes nothing.
use Rattle.std.specs.Prelude.{ℕ, Bool, cond, List, [], ◌∷◌, ◌++◌, eqb, ltb, length}
use Rattle.bits.specs.Bits.{over}
use Rattle.field.specs.Numbers.{first_of}
use Rattle.key.specs.Keys.{file_conditions}
use Rattle.network_key.specs.Files.{network_conditions, to_network, from_network}

-- old to new, and new to old
pub data Way : Type 0 where
  into_network : Way
  out_of_network : Way

-- the other file, and the conditions of the load of this one
unfoldable pub converted : Way → List ℕ → List ℕ
converted into_network file = to_network file
converted out_of_network file = from_network file

unfoldable pub way_conditions : Way → List ℕ → List (Bool × ℕ)
way_conditions into_network file = file_conditions file
way_conditions out_of_network file = network_conditions file

-- the number, for an output of so many bytes: as the load, 22 aside, then 10: too short
unfoldable pub convert_number : Way → List ℕ → ℕ → ℕ
convert_number w file room = first_of (way_conditions w file ++ ((ltb room (length (converted w file)), 10) ∷ []))

-- how many bytes are written, and the output afterwards: the other file at its start, and nothing on refusal
unfoldable pub convert_length : Way → List ℕ → ℕ → ℕ
convert_length w file room = cond (eqb (convert_number w file room) 0) (length (converted w file)) 0

unfoldable pub convert_output : Way → List ℕ → List ℕ → List ℕ
convert_output w file out = cond (eqb (convert_number w file (length out)) 0) (over (converted w file) out) out
