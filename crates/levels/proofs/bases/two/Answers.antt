-- `levels::bases::two` meets its contract. Assumes nothing.
use mathlib.Core.Path.{refl, sym, ◌∙◌}
use native.Mathlib.Omega.{arith}
use Rattle.field.proofs.Machine.{one_shl_digits}
use Rattle.levels.proofs.TwoPowers.{two_below, two_past}
use Rattle.levels.proofs.bases.two.Goals as goal

pub returns-then-j-ge14 : goal.returns-then-j-ge14
returns-then-j-ge14 c = two_past _ c.if-j-ge14.true

pub returns : goal.returns
returns c =
    let j = c.args.j in
    one_shl_digits j 64 (omega arith) ∙ sym (two_below j refl (omega arith))
