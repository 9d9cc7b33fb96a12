-- `field::lane_product` meets its contract. Assumes nothing.
use mathlib.Core.Path.{sym, ap₂, ◌∙◌}
use Prim.Native.Nat.{◌<◌}
use native.Mathlib.Omega.{arith}
use lib.Pow.{pow_pos}
use Rattle.field.specs.Field.{mul_mod}
use Rattle.field.proofs.Machine.{one_shl, low-digits, low-digits-lt}
use Rattle.field.proofs.Products.{degree_modulus, product_wide, product_other, product-low}
use Rattle.field.proofs.lane_product.Goals as goal

pub returns-then-m-gt13 : goal.returns-then-m-gt13
returns-then-m-gt13 c = sym (product_wide _ _ _ _ (omega arith))

pub returns-then-f-m-ne1 : goal.returns-then-f-m-ne1
returns-then-f-m-ne1 c = sym (product_other _ _ _ _ (omega arith) c.if-f-m-ne1.true)

pub overflow_sub-mask : goal.overflow_sub-mask
overflow_sub-mask c = let a = c.args in rw (one_shl a.m (omega arith)) (pow_pos a.m)

pub product-requires : goal.product-requires
product-requires c =
    let a = c.args in
    let s : a.m < 14 = omega arith in
    let M = degree_modulus a.m a.f c.if-f-m-ne1.false in
    (M.lo, M.hi, low-digits-lt _ s a.a, low-digits-lt _ s a.b, omega arith, omega arith)

pub returns : goal.returns
returns c =
    let a = c.args in
    let s : a.m < 14 = omega arith in
    c.product.ensures ∙ ap₂ (mul_mod a.m a.f) (low-digits _ s a.a) (low-digits _ s a.b)
    ∙ product-low a.m a.f a.a a.b s c.if-f-m-ne1.false
