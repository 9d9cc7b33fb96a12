-- The loop's invariant: the first j multiples are made. Assumes nothing.
use mathlib.Core.Path.{◌≡◌, sym, ap, ◌∙◌}
use Prim.Native.Nat.{ℕ, suc, ◌-◌, ◌*◌, ◌/◌, ◌%◌, ◌^◌}
use native.Mathlib.Omega.{arith}
use lib.Bits.{and_mask}
use lib.Pow.{pow_pos}
use lib.ListN.{get_or, replicate}
use mir.Syntax.{w16}
use mir.Val.{Fits}
use borrow.Author.Rules.{rules}
use Rattle.bits.specs.Xor.{◌⊕◌}
use Rattle.field.specs.Field.{mul}
use Rattle.field.proofs.Machine.{masked_lt, one_shl, low-digits}
use Rattle.field.proofs.Table.{width_narrow, width_pos}
use Rattle.field.proofs.PointTable.{mul-first, doubled-mul}
use Rattle.register.proofs.Loops.{made-first, made-next, made_all}
use Rattle.register.proofs.multiples.Goals as goal

pub overflow_shl-mask : goal.overflow_shl-mask
overflow_shl-mask c = omega (arith, width_narrow c.args.m c.requires)

pub overflow_sub-mask : goal.overflow_sub-mask
overflow_sub-mask c = rw (one_shl c.args.m (width_narrow c.args.m c.requires)) (pow_pos c.args.m)

pub loop-j-init : goal.loop-j-init
loop-j-init c =
    let a = c.args in
    let w = width_pos a.m c.requires in
    let e = low-digits a.m (width_narrow a.m c.requires) a.a ∙ sym (mul-first a.m c.requires a.a) in
    (omega arith, omega arith, made-next a.m a.a 0 _ (replicate 13 0) (omega arith) e (made-first a.m a.a))

pub bounds-t-j : goal.bounds-t-j
bounds-t-j c = let n = width_narrow c.args.m c.requires in omega arith

pub overflow_shr-t : goal.overflow_shr-t
overflow_shr-t c = let n = width_narrow c.args.m c.requires in omega arith

pub overflow_mul-t : goal.overflow_mul-t
overflow_mul-t c =
    let l = c.loop-j in
    let f : Fits w16 c.modulus-f.result = search rules in
    record { fits = masked_lt (get_or l.t (l.j - 1) 0 * 2 % 65536 / 2 ^ c.args.m) f.fits }

pub bounds-t-j-in-loop-j : goal.bounds-t-j-in-loop-j
bounds-t-j-in-loop-j c = let n = width_narrow c.args.m c.requires in omega arith

pub loop-j-preserved : goal.loop-j-preserved
unfolding ◌⊕◌
loop-j-preserved c =
    let l = c.loop-j in
    let a = c.args in
    let n = width_narrow a.m c.requires in
    let j : suc (l.j - 1) ≡ l.j = omega arith in
    let v : ℕ = get_or l.t (l.j - 1) 0 in
    let e = ap (λ (d : ℕ). v * 2 % 65536 ⊕ d * c.modulus-f.result) (and_mask (v * 2 % 65536 / 2 ^ a.m) 1)
    ∙ doubled-mul a.m c.requires a.a _ (l.j - 1) v c.modulus-f.ensures (omega arith) (l.invariant.2.low (l.j - 1) (omega arith))
    ∙ ap (λ (j : ℕ). mul a.m a.a (2 ^ j)) j in
    (omega arith, omega arith, made-next a.m a.a l.j _ l.t (omega arith) e l.invariant.2)

pub returns : goal.returns
returns c =
    let l = c.loop-j in
    made_all c.args.m c.args.a c.requires l.j l.t (omega arith) l.invariant.2
