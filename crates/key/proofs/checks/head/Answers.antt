-- The tests in order. Assumes nothing.
use mathlib.Core.Path.{◌∙◌}
use Rattle.field.proofs.Verdicts.{refuses, accepts}
use Rattle.field.proofs.Table.{modulus_none, modulus_some}
use Rattle.key.specs.Kept.{kept, parts}
use Rattle.key.proofs.Order.{failed, passed}
use Rattle.key.proofs.Conditions.{wrong_length, wrong_n, wrong_t, right_length, head_width, head_length, head_limits, head_none, kept_head}
use Rattle.key.proofs.checks.head.Goals as goal

pub returns-then-modulus-eq0 : goal.returns-then-modulus-eq0
unfolding kept
returns-then-modulus-eq0 c =
    let a = c.args in
    let k = parts a.m a.n a.t a.support.now a.g.now in
    refuses (head_width (wrong_length k) (kept k) (modulus_none _ c.modulus.ensures c.if-modulus-eq0.true) ∙ kept_head k)

pub returns-then-s-places : goal.returns-then-s-places
unfolding kept
returns-then-s-places c =
    let a = c.args in
    let k = parts a.m a.n a.t a.support.now a.g.now in
    let w = modulus_some _ c.modulus.ensures c.if-modulus-eq0.false in
    refuses (head_length (wrong_length k) (kept k) w (wrong_n k c.if-s-places.true) ∙ kept_head k)

pub returns-then-h-errors : goal.returns-then-h-errors
unfolding kept
returns-then-h-errors c =
    let a = c.args in
    let k = parts a.m a.n a.t a.support.now a.g.now in
    let w = modulus_some _ c.modulus.ensures c.if-modulus-eq0.false in
    refuses (head_length (wrong_length k) (kept k) w (wrong_t k c.if-h-errors.true) ∙ kept_head k)

pub returns-then-not-in_limits : goal.returns-then-not-in_limits
unfolding kept
returns-then-not-in_limits c =
    let a = c.args in
    let k = parts a.m a.n a.t a.support.now a.g.now in
    let w = modulus_some _ c.modulus.ensures c.if-modulus-eq0.false in
    let l = right_length k c.if-s-places.false c.if-h-errors.false in
    refuses (head_limits (wrong_length k) (kept k) w l (failed c.in_limits.ensures c.if-not-in_limits.true) ∙ kept_head k)

pub returns : goal.returns
unfolding kept
returns c =
    let a = c.args in
    let k = parts a.m a.n a.t a.support.now a.g.now in
    let w = modulus_some _ c.modulus.ensures c.if-modulus-eq0.false in
    let l = right_length k c.if-s-places.false c.if-h-errors.false in
    accepts (head_none (wrong_length k) (kept k) w l (passed c.in_limits.ensures c.if-not-in_limits.false) ∙ kept_head k)
