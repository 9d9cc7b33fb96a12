-- `field::elements` meets its contract. Assumes nothing.
use mathlib.Core.Path.{sym, ap, ◌∙◌}
use Prim.Native.Nat.{ℕ, ◌^◌}
use native.Mathlib.Omega.{arith}
use borrow.Author.Tests.{lt-ltb}
use lib.Dec.{ltb}
use lib.ListN.{get_or}
use lib.Pow.{pow_mono}
use Rattle.bits.specs.Bits.{every}
use Rattle.bits.proofs.Lists.{every_all}
use Rattle.field.specs.Field.{is_element}
use Rattle.field.proofs.Machine.{one_shl_digits}
use Rattle.field.proofs.elements.Goals as goal

pub returns-then-m-ge16 : goal.returns-then-m-ge16
unfolding is_element
returns-then-m-ge16 c =
    let a = c.args in
    sym (every_all _ a.s.now 0 (λ i h. lt-ltb (get_or a.s.now i 0) (2 ^ a.m) (omega (arith, c.shared_slice_known-1.given i, pow_mono c.if-m-ge16.true))))

pub returns : goal.returns
unfolding is_element
returns c =
    let a = c.args in
    c.below.ensures ∙ ap (λ (top : ℕ). every (λ x. ltb x top) a.s.now) (one_shl_digits a.m 16 c.if-m-ge16.false)
