-- `euclid::common::accepted` meets its contract. Assumes nothing.
use mathlib.Core.Path.{sym, ◌∙◌}
use native.Mathlib.Omega.{arith}
use Rattle.field.proofs.Table.{modulus_none, modulus_some}
use Rattle.euclid.proofs.Answers.{accepted_no_width, accepted_long, accepted_short}
use Rattle.euclid.proofs.common.accepted.Goals as goal

pub returns-then-modulus-eq0 : goal.returns-then-modulus-eq0
returns-then-modulus-eq0 c = sym (accepted_no_width _ _ (modulus_none _ c.modulus.ensures c.if-modulus-eq0.true))

pub returns-then-p-gt-COEFFICIENTS : goal.returns-then-p-gt-COEFFICIENTS
returns-then-p-gt-COEFFICIENTS c = sym (accepted_long _ _ (modulus_some _ c.modulus.ensures c.if-modulus-eq0.false) (omega arith))

pub returns : goal.returns
returns c = c.elements.ensures ∙ sym (accepted_short _ _ (modulus_some _ c.modulus.ensures c.if-modulus-eq0.false) (omega arith))
