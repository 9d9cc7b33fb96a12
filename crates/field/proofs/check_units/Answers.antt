-- The loop's invariant: the places from i on decide. Assumes nothing.
use mathlib.Core.Path.{◌≡◌, refl, sym, ◌∙◌}
use Prim.Native.Nat.{◌%◌, ◌^◌}
use native.Mathlib.Omega.{arith}
use lib.Pow.{pow_pos}
use lib.ListN.{get_or}
use Rattle.bits.proofs.Lists.{every-next, every_stop, every_end}
use Rattle.field.specs.Answers.{is_unit}
use Rattle.field.proofs.Table.{modulus_none, modulus_some, width_narrow}
use Rattle.field.proofs.Machine.{one_shl, low-digits}
use Rattle.field.proofs.Verdicts.{refuses, accepts}
use Rattle.field.proofs.Units.{unit, no_unit, inverse_no_width, no_units_number, units_number}
use Rattle.field.proofs.check_units.Goals as goal

pub returns-then-modulus-eq0 : goal.returns-then-modulus-eq0
returns-then-modulus-eq0 c = refuses (sym (inverse_no_width _ _ (modulus_none _ c.modulus.ensures c.if-modulus-eq0.true)))

pub overflow_shl-mask : goal.overflow_shl-mask
overflow_shl-mask c = omega (arith, width_narrow _ (modulus_some _ c.modulus.ensures c.if-modulus-eq0.false))

pub overflow_sub-mask : goal.overflow_sub-mask
overflow_sub-mask c =
    let w = modulus_some _ c.modulus.ensures c.if-modulus-eq0.false in
    rw (one_shl _ (width_narrow _ w)) (pow_pos c.args.m)

pub loop-i-init : goal.loop-i-init
loop-i-init c = refl

pub returns-then-s-i-eq0 : goal.returns-then-s-i-eq0
returns-then-s-i-eq0 c =
    let l = c.loop-i in
    let a = c.args in
    let w = modulus_some _ c.modulus.ensures c.if-modulus-eq0.false in
    let z : get_or a.s.now l.i 0 % 2 ^ a.m ≡ 0 = sym (low-digits _ (width_narrow _ w) _) ∙ c.if-s-i-eq0.true in
    refuses (sym (no_units_number _ _ w (sym (every_stop (is_unit a.m) a.s.now l.i (omega arith) (no_unit _ _ z) ∙ l.invariant))))

pub loop-i-preserved : goal.loop-i-preserved
loop-i-preserved c =
    let l = c.loop-i in
    let a = c.args in
    let w = modulus_some _ c.modulus.ensures c.if-modulus-eq0.false in
    every-next (is_unit a.m) a.s.now l.i (omega arith) (unit _ _ (λ z. c.if-s-i-eq0.false (low-digits _ (width_narrow _ w) _ ∙ z))) ∙ l.invariant

pub returns : goal.returns
returns c =
    let l = c.loop-i in
    let w = modulus_some _ c.modulus.ensures c.if-modulus-eq0.false in
    accepts (sym (units_number _ _ w (sym (every_end _ _ l.i c.loop-i-test.false ∙ l.invariant))))
