-- The answers of the crates below as a C caller's structs. Assumes nothing.
use Rattle.field.specs.declared.Answer.{Answer}
use Rattle.field.specs.declared.Answer.TheVariants as answers
use Rattle.key.specs.declared.shape.ShapeAnswer.{ShapeAnswer}
use Rattle.key.specs.declared.shape.ShapeAnswer.TheVariants as shapes
use Rattle.boundary.specs.declared.Element.{Element}
use Rattle.boundary.specs.declared.Shape.{Shape}

-- the value with number 0, or the number with value 0
unfoldable pub as_element : Answer → Element
as_element (answers.Value v) = record { refused = 0; value = v }
as_element (answers.Refused n) = record { refused = n; value = 0 }

-- the shape with number 0, or the number with sizes 0
unfoldable pub as_shape : ShapeAnswer → Shape
as_shape (shapes.Sizes s) = record { refused = 0; m = s.m; n = s.n; t = s.t }
as_shape (shapes.Refused x) = record { refused = x; m = 0; n = 0; t = 0 }
