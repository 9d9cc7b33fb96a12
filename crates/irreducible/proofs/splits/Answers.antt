-- `splits` meets its contract. Assumes nothing.
use mathlib.Core.Path.{sym, ◌∙◌}
use Rattle.field.proofs.Arrays.{every-elements}
use Rattle.poly.proofs.SquareSearch.{has_square_separable}
use Rattle.irreducible.proofs.Elimination.{basis_start}
use Rattle.irreducible.proofs.Verdict.{factor_decided, factor_linear}
use Rattle.irreducible.proofs.splits.Goals as goal

pub returns-then-g-eq1 : goal.returns-then-g-eq1
returns-then-g-eq1 c = sym (factor_linear _ _ c.if-g-eq1.true)

pub independent-requires : goal.independent-requires
independent-requires c =
    let u = c.add_unit.ensures in
    let p = c.powers.ensures in
    record { m_value = (c.requires.0, c.requires.1, c.requires.2, u.size ∙ p.size); basis = λ W. basis_start c.args.m W c.args.g.now c.requires.2 _ _ p u }

pub returns : goal.returns
returns c =
    let r = c.independent in
    let m = c.args.m in
    let g = c.args.g.now in
    let E = every-elements m g c.requires.3 in
    factor_decided m c.requires.0 g E r.result (λ f. r.ensures.prime f c.requires.0 (has_square_separable m c.requires.0 g E c.requires.4)) (λ f. r.ensures.not_prime f c.requires.0)
