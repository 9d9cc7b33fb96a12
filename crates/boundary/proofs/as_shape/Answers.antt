-- `boundary::as_shape` meets its contract. Assumes nothing.
use mathlib.Core.Path.{sym, ap, ◌∙◌}
use Prim.Native.Nat.{ℕ}
use Rattle.key.specs.Answers.{answer_number}
use Rattle.boundary.specs.Boundary.{as_shape}
use Rattle.boundary.proofs.as_shape.Goals as goal

pub returns-in_default : goal.returns-in_default
unfolding as_shape answer_number
returns-in_default c =
    let h = c.in_default.is in
    let e = c.number.ensures ∙ ap answer_number h in
    ap (λ (x : ℕ). record { refused = x; m = 0; n = 0; t = 0 }) e ∙ sym (ap as_shape h)

pub returns : goal.returns
unfolding as_shape
returns c = sym (ap as_shape c.in-Sizes.is)
