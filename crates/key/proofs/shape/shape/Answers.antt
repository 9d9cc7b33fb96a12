-- `key::shape::shape` meets its contract. Assumes nothing.
use mathlib.Core.Path.{ap, ◌∙◌}
use Prim.Native.Nat.{◌-◌}
use native.Mathlib.Omega.{arith}
use lib.ListN.{get_or-map}
use Rattle.key.specs.Shapes.{shapes, shape_at}
use Rattle.key.specs.Answers.{sizes}
use Rattle.key.specs.declared.shape.ShapeAnswer.TheVariants as variants
use Rattle.key.proofs.Positions.{position_low, position_high, position_right}
use Rattle.key.proofs.shape.shape.Goals as goal

pub returns-then-position-lt1 : goal.returns-then-position-lt1
returns-then-position-lt1 c = position_low _ (omega arith)

pub returns-then-position-gt5 : goal.returns-then-position-gt5
returns-then-position-gt5 c = position_high _ (omega arith) (omega arith)

pub returns : goal.returns
unfolding shapes shape_at sizes
returns c =
    let p = c.args.position in
    ap variants.Sizes (get_or-map sizes shapes (p - 1) (0, 0, 0)) ∙ position_right p (omega arith) (omega arith)
