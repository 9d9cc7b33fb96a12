-- The shape at a position, and the refusal of a position that the table lacks. Assumes nothing.
use mathlib.Core.Path.{◌≡◌}
use Prim.Native.Nat.{ℕ, ◌≤◌, ◌<◌}
use borrow.Author.Tests.{lt-ltb, le-ltb}
use Rattle.field.specs.Numbers.{first_of}
use Rattle.key.specs.Shapes.{shape_number, shape_at}
use Rattle.key.specs.Answers.{sizes, shape_answer, shape_of}
use Rattle.key.specs.declared.shape.ShapeAnswer.TheVariants as variants

module _ (p : ℕ) where
  pub position_low : p < 1 → variants.Refused 3 ≡ shape_of p
  unfolding shape_of shape_answer shape_number first_of
  position_low h = rw (lt-ltb p 1 h)

  pub position_high : 1 ≤ p → 5 < p → variants.Refused 3 ≡ shape_of p
  unfolding shape_of shape_answer shape_number first_of
  position_high l h = rw (le-ltb p 1 l, lt-ltb 5 p h)

  pub position_right : 1 ≤ p → p ≤ 5 → variants.Sizes (sizes (shape_at p)) ≡ shape_of p
  unfolding shape_of shape_answer shape_number first_of
  position_right l h = rw (le-ltb p 1 l, le-ltb 5 p h)
