-- `register::check` meets its contract. Assumes nothing.
use mathlib.Core.Path.{sym, ◌∙◌}
use Rattle.field.proofs.Verdicts.{refuses, accepts}
use Rattle.field.proofs.Table.{modulus_none, modulus_some}
use Rattle.poly.proofs.Answers.{number_no_width, number_long, number_element, number_none}
use Rattle.register.proofs.check.Goals as goal

pub returns-then-modulus-eq0 : goal.returns-then-modulus-eq0
returns-then-modulus-eq0 c = refuses (sym (number_no_width _ _ (modulus_none _ c.modulus.ensures c.if-modulus-eq0.true)))

pub returns-then-s-gt-LONGEST : goal.returns-then-s-gt-LONGEST
returns-then-s-gt-LONGEST c = refuses (sym (number_long _ _ (modulus_some _ c.modulus.ensures c.if-modulus-eq0.false) c.if-s-gt-LONGEST.true))

pub returns-then-not-elements : goal.returns-then-not-elements
returns-then-not-elements c = refuses (sym (number_element _ _ (modulus_some _ c.modulus.ensures c.if-modulus-eq0.false) c.if-s-gt-LONGEST.false (sym c.elements.ensures ∙ c.if-not-elements.true)))

pub returns : goal.returns
returns c = accepts (sym (number_none _ _ (modulus_some _ c.modulus.ensures c.if-modulus-eq0.false) c.if-s-gt-LONGEST.false (sym c.elements.ensures ∙ c.if-not-elements.false)))
