-- `field::check` meets its contract. Assumes nothing.
use mathlib.Core.Path.{sym}
use native.Mathlib.Omega.{arith}
use Rattle.field.proofs.Verdicts.{refuses, accepts}
use Rattle.field.proofs.Table.{modulus_none, modulus_some, width_narrow}
use Rattle.field.proofs.Machine.{one_shl}
use Rattle.field.proofs.CallGuards.{number_no_width, number_no_element, number_element}
use Rattle.field.proofs.check.Goals as goal

pub returns-then-modulus-eq0 : goal.returns-then-modulus-eq0
returns-then-modulus-eq0 c = refuses (sym (number_no_width _ _ (modulus_none _ c.modulus.ensures c.if-modulus-eq0.true)))

pub overflow_shl-top : goal.overflow_shl-top
overflow_shl-top c = omega (arith, width_narrow _ (modulus_some _ c.modulus.ensures c.if-modulus-eq0.false))

pub returns-then-top-a : goal.returns-then-top-a
returns-then-top-a c =
    let w = modulus_some _ c.modulus.ensures c.if-modulus-eq0.false in
    refuses (sym (number_no_element _ _ w (omega (arith, one_shl _ (width_narrow _ w)))))

pub returns : goal.returns
returns c =
    let w = modulus_some _ c.modulus.ensures c.if-modulus-eq0.false in
    accepts (sym (number_element _ _ w (omega (arith, one_shl _ (width_narrow _ w)))))
