-- The shape of a network file's key. Assumes nothing.
use Rattle.std.specs.Prelude.{ℕ, ◌≡◌, List, take}
use Rattle.field.specs.Numbers.{first_of}
use Rattle.key.specs.Keys.{Key}
use Rattle.key.specs.Kept.{sizes_of}
use Rattle.key.specs.Answers.{shape_answer}
use Rattle.key.specs.declared.shape.Sizes.{Sizes}
use Rattle.key.specs.declared.shape.ShapeAnswer.{ShapeAnswer}
use Rattle.network_key.specs.Files.{parse_network, network_conditions}

-- the shape of the file's key, or the number of a refusal
unfoldable pub network_shape : List ℕ → ShapeAnswer
network_shape file = let k : Key = parse_network file in shape_answer (first_of (network_conditions file)) (k.m, k.n, k.t)

-- none of 1, 2, 36 and 3 holds, and s is the shape that the file says
abbrev pub Says : List ℕ → Sizes → Type 0
Says file s = (first_of (take 4 (network_conditions file)) ≡ 0) × (s ≡ sizes_of (parse_network file))
