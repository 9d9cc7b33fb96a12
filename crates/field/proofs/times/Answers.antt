-- `field::times` meets its contract. Assumes nothing.
use mathlib.Core.Path.{sym, ap₂, ◌∙◌}
use native.Mathlib.Omega.{arith}
use lib.Pow.{pow_pos}
use borrow.Author.Rules.{rules}
use Rattle.field.specs.Field.{mul_mod}
use Rattle.field.proofs.Table.{modulus_none, modulus_some, width_modulus, width_narrow}
use Rattle.field.proofs.Laws.{mul_none}
use Rattle.field.proofs.Products.{mul-low_both}
use Rattle.field.proofs.Machine.{one_shl, low-digits, low-digits-lt}
use Rattle.field.proofs.times.Goals as goal

pub returns-then-f-eq0 : goal.returns-then-f-eq0
returns-then-f-eq0 c = sym (mul_none _ (modulus_none _ c.modulus-f.ensures c.if-f-eq0.true) _ _)

pub overflow_shl-mask : goal.overflow_shl-mask
overflow_shl-mask c = omega (arith, width_narrow _ (modulus_some _ c.modulus-f.ensures c.if-f-eq0.false))

pub overflow_sub-mask : goal.overflow_sub-mask
overflow_sub-mask c =
    let w = modulus_some _ c.modulus-f.ensures c.if-f-eq0.false in
    rw (one_shl _ (width_narrow _ w)) (pow_pos c.args.m)

pub product-requires : goal.product-requires
product-requires c =
    let w = modulus_some _ c.modulus-f.ensures c.if-f-eq0.false in
    let low-a = low-digits-lt _ (width_narrow _ w) c.args.a in
    let low-b = low-digits-lt _ (width_narrow _ w) c.args.b in
    let M = width_modulus _ w in
    let e = c.modulus-f.ensures in
    (rw e M.lo, rw e M.hi, search rules, search rules, omega arith, width_narrow _ w)

pub returns : goal.returns
returns c =
    let a = c.args in
    let w = modulus_some _ c.modulus-f.ensures c.if-f-eq0.false in
    let s = width_narrow _ w in
    c.product.ensures ∙ ap₂ (mul_mod a.m c.modulus-f.result) (low-digits _ s a.a) (low-digits _ s a.b)
    ∙ mul-low_both a.m c.modulus-f.result a.a a.b w c.modulus-f.ensures
