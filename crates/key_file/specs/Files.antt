-- The shape of a file's key and its arrays. Assumes nothing.
use Rattle.std.specs.Prelude.{ℕ, min, List}
use Rattle.bits.specs.Bits.{padded}
use Rattle.field.specs.Numbers.{first_of}
use Rattle.key.specs.Keys.{Key, elements, parse, file_conditions}
use Rattle.key.specs.Answers.{shape_answer}
use Rattle.key.specs.declared.shape.ShapeAnswer.{ShapeAnswer}

-- the shape of the file's key, or the number of a refusal
unfoldable pub file_shape : List ℕ → ShapeAnswer
file_shape file = let k : Key = parse file in shape_answer (first_of (file_conditions file)) (k.m, k.n, k.t)

-- an array of k numbers: n elements of the file from a byte on, as many as there is room for, and zeros past them
unfoldable pub stored : ℕ → List ℕ → ℕ → ℕ → List ℕ
stored k file at n = padded k (elements file at (min n k))
