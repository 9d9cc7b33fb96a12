-- `field::product` meets its contract. The loop's invariant: r is a times the polynomial of b's digits from k on.
-- Assumes nothing.
use mathlib.Core.Path.{◌≡◌, sym, ◌∙◌}
use Prim.Native.Nat.{ℕ, ◌<◌, ◌-◌, ◌*◌, ◌/◌, ◌%◌, ◌^◌}
use native.Mathlib.Omega.{arith}
use Rattle.field.proofs.Horner.{horner, first, turn, last}
use Rattle.field.proofs.Modular.{Modulus, horner_lt, mul_mod_as_horner}
use Rattle.field.proofs.Machine.{masked_lt, step_law}
use Rattle.field.proofs.product.Goals as goal

below : (m f a b n : ℕ) → Modulus m f → a < 2 ^ m → (k r : ℕ) → r ≡ horner m f (n - k) (b / 2 ^ k) a → r < 2 ^ m
below m f a b n M ha k r i = rw i (horner_lt m f M (n - k) (b / 2 ^ k) ha)

pub loop-k-init : goal.loop-k-init
loop-k-init c = (omega arith, first c.args.m c.args.f c.args.n c.args.a c.args.b)

pub overflow_mul-r : goal.overflow_mul-r
overflow_mul-r c = record { fits = masked_lt (c.loop-k.r * 2 % 65536 / 2 ^ c.args.m) c.ranges.f.fits }

pub overflow_mul-r-in-loop-k : goal.overflow_mul-r-in-loop-k
overflow_mul-r-in-loop-k c = record { fits = masked_lt (c.args.b / 2 ^ (c.loop-k.k - 1)) c.ranges.a.fits }

pub loop-k-preserved : goal.loop-k-preserved
loop-k-preserved c =
    let pre = c.requires in
    let b = c.args.b in
    let M : Modulus c.args.m c.args.f = record { lo = pre.0; hi = pre.1 } in
    let r_lt = below _ _ _ b _ M pre.2 _ _ c.loop-k.invariant.1 in
    let narrow : c.args.m < 14 = omega arith in
    (omega arith, step_law _ narrow _ _ b _ _ r_lt ∙ turn _ _ _ _ b _ _ c.loop-k-test.true c.loop-k.invariant.0 c.loop-k.invariant.1)

pub returns : goal.returns
returns c =
    let pre = c.requires in
    let M : Modulus c.args.m c.args.f = record { lo = pre.0; hi = pre.1 } in
    last _ _ _ _ c.args.b _ _ c.loop-k-test.false pre.4 pre.3 c.loop-k.invariant.1
    ∙ sym (mul_mod_as_horner _ _ M c.args.b pre.2)
