-- `has_factor` meets its contract. Assumes nothing.
use mathlib.Core.Path.{◌≡◌, sym, ◌∙◌}
use mathlib.Core.Bool.{true}
use native.Mathlib.Omega.{arith}
use Rattle.bits.specs.Bits.{every}
use Rattle.field.specs.Field.{is_element}
use Rattle.field.proofs.Table.{modulus_none, modulus_some}
use Rattle.irreducible.proofs.Verdict.{factor_no_width, factor_too_long, factor_no_element, factor_empty, factor_square, factor_in_bounds, square_none}
use Rattle.irreducible.proofs.has_factor.Goals as goal

pub returns-then-g-gt128 : goal.returns-then-g-gt128
returns-then-g-gt128 c = sym (factor_too_long _ _ (omega arith))

pub returns-then-modulus-eq0 : goal.returns-then-modulus-eq0
returns-then-modulus-eq0 c = sym (factor_no_width _ _ (modulus_none _ c.modulus.ensures c.if-modulus-eq0.true))

pub returns-then-not-elements : goal.returns-then-not-elements
returns-then-not-elements c =
    let w = modulus_some _ c.modulus.ensures c.if-modulus-eq0.false in
    sym (factor_no_element _ _ w (omega arith) (sym c.elements.ensures ∙ c.if-not-elements.true))

pub returns-then-g-eq0 : goal.returns-then-g-eq0
returns-then-g-eq0 c =
    let a = c.args in
    let w = modulus_some a.m c.modulus.ensures c.if-modulus-eq0.false in
    let e : every (is_element a.m) a.g.now ≡ true = sym c.elements.ensures ∙ c.if-not-elements.false in
    sym (factor_empty a.m a.g.now w (omega arith) e (omega arith))

pub returns-then-has_square : goal.returns-then-has_square
returns-then-has_square c =
    let a = c.args in
    let w = modulus_some a.m c.modulus.ensures c.if-modulus-eq0.false in
    let e : every (is_element a.m) a.g.now ≡ true = sym c.elements.ensures ∙ c.if-not-elements.false in
    sym (factor_square a.m a.g.now w (omega arith) e (sym c.has_square.ensures ∙ c.if-has_square.true))

pub splits-requires : goal.splits-requires
splits-requires c =
    let a = c.args in
    let w = modulus_some a.m c.modulus.ensures c.if-modulus-eq0.false in
    let e : every (is_element a.m) a.g.now ≡ true = sym c.elements.ensures ∙ c.if-not-elements.false in
    (w, omega arith, omega arith, e, square_none a.m a.g.now w (omega arith) e (sym c.has_square.ensures ∙ c.if-has_square.false))

pub returns : goal.returns
returns c =
    let a = c.args in
    let w = modulus_some a.m c.modulus.ensures c.if-modulus-eq0.false in
    let e : every (is_element a.m) a.g.now ≡ true = sym c.elements.ensures ∙ c.if-not-elements.false in
    c.splits.ensures ∙ sym (factor_in_bounds a.m a.g.now w (omega arith) e)
