-- `euclid::square::has_square` meets its contract. Assumes nothing.
use mathlib.Core.Path.{sym, ap, ap₂, ◌∙◌}
use native.Mathlib.Omega.{arith}
use lib.Dec.{leb}
use Rattle.euclid.specs.declared.common.Divisor.{Divisor}
use Rattle.euclid.specs.Euclid.{derivative, common_divisor}
use Rattle.euclid.proofs.Answers.{square_too_long}
use Rattle.euclid.proofs.Squares.{square_test_lem}
use Rattle.euclid.proofs.square.has_square.Goals as goal

pub returns-then-g-ge-COEFFICIENTS : goal.returns-then-g-ge-COEFFICIENTS
returns-then-g-ge-COEFFICIENTS c = sym (square_too_long _ _ (omega arith))

pub returns : goal.returns
returns c =
    let args = c.args in
    let whole = c.monic-a.ensures in
    ap (λ (r : Divisor). leb 2 r.length)
    (c.common_divisor-d.ensures ∙ ap₂ (common_divisor args.m) whole (c.derivative.ensures ∙ ap derivative whole))
    ∙ square_test_lem args.m args.g.now (omega arith)
