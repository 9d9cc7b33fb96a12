-- Two digits. Assumes nothing.
use mathlib.Core.Path.{ap, ap₂, ◌∙◌}
use Prim.Native.Nat.{ℕ, ◌+◌, ◌*◌}
use Rattle.vectors.specs.Lines.{digit_of}
use Rattle.vectors.proofs.line.byte.Goals as goal

pub returns : goal.returns
returns c =
    ap₂ (λ (x y : ℕ). 16 * x + y)
    (c.digit.ensures.value ∙ ap digit_of c.letter.ensures)
    (c.digit-2.ensures.value ∙ ap digit_of c.letter-2.ensures)
