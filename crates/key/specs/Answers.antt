-- What the public calls answer. Assumes nothing.
use Rattle.std.specs.Prelude.{ℕ, zero, suc}
use Rattle.key.specs.Shapes.{shape_number, shape_at}
use Rattle.key.specs.declared.shape.Sizes.{Sizes}
use Rattle.key.specs.declared.shape.ShapeAnswer.{ShapeAnswer}
use Rattle.key.specs.declared.shape.ShapeAnswer.TheVariants as variants

-- the numbers m, n and t of a shape
unfoldable pub sizes : (ℕ × ℕ × ℕ) → Sizes
sizes s = record { m = s.0; n = s.1; t = s.2 }

-- the shape where the number is 0, else the refusal with that number
unfoldable pub shape_answer : ℕ → (ℕ × ℕ × ℕ) → ShapeAnswer
shape_answer zero s = variants.Sizes (sizes s)
shape_answer (suc x) s = variants.Refused (suc x)

-- the number of a refusal, and 0 for a shape
unfoldable pub answer_number : ShapeAnswer → ℕ
answer_number (variants.Sizes s) = 0
answer_number (variants.Refused x) = x

-- what the call for a position answers
unfoldable pub shape_of : ℕ → ShapeAnswer
shape_of p = shape_answer (shape_number p) (shape_at p)
