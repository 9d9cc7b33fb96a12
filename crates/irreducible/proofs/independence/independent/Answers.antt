-- The loop's invariant: i rows stand. Assumes nothing.
use mathlib.Core.Path.{sym, ◌∙◌}
use native.Mathlib.Omega.{arith}
use mathlib.Core.Bool.{false≢true}
use Rattle.irreducible.proofs.Elimination.{basis_next, basis_fails, basis_all}
use Rattle.irreducible.proofs.independence.independent.Goals as goal

pub loop-i-init : goal.loop-i-init
loop-i-init c = (omega arith, c.requires.m_value.3, c.requires.basis)

pub clear-requires : goal.clear-requires
clear-requires c =
    let l = c.loop-i in
    (c.requires.m_value.0, omega arith, omega arith, l.invariant.1, (l.invariant.2 c.requires.m_value.0).elements l.i (omega arith) (omega arith))

pub shape_of-rows-then-not-clear : goal.shape_of-rows-then-not-clear
shape_of-rows-then-not-clear c = c.clear.auto.rows ∙ c.loop-i.invariant.1 ∙ sym c.requires.m_value.3

pub returns-then-not-clear : goal.returns-then-not-clear
returns-then-not-clear c =
    let l = c.loop-i in
    let a = c.args in record { prime = λ f. absurd (false≢true f); not_prime = λ f W. basis_fails a.m W a.g.now (omega arith) l.i l.rows l.rows l.invariant.1 (l.invariant.2 W) (omega arith) (c.clear.ensures.k_value c.if-not-clear.true) }

pub loop-i-preserved : goal.loop-i-preserved
loop-i-preserved c =
    let l = c.loop-i in
    let a = c.args in
    let d = c.clear.ensures.cleared c.if-not-clear.false in (
      omega arith,
      d.added.size ∙ l.invariant.1,
      λ W. basis_next a.m W a.g.now (omega arith) l.i l.rows _ l.invariant.1 (l.invariant.2 W) (omega arith) d,
    )

pub shape_of-rows : goal.shape_of-rows
shape_of-rows c = c.loop-i.invariant.1 ∙ sym c.requires.m_value.3

pub returns : goal.returns
returns c =
    let l = c.loop-i in
    let a = c.args in record { prime = λ f W s. basis_all a.m W a.g.now (omega arith) l.i l.rows (omega arith) (l.invariant.2 W) s; not_prime = λ f. absurd (false≢true (sym f)) }
