-- The loop's invariant: the first `at` places are done. Assumes nothing.
use mathlib.Core.Path.{◌≡◌, refl, sym, ◌∙◌}
use Prim.Native.Nat.{◌+◌, ◌-◌}
use native.Mathlib.Omega.{arith}
use borrow.Rule.Slice.PartMut.{mid_of, mid_len, same_len_mid}
use lib.ListN.{length}
use Rattle.field.proofs.Table.{modulus_none, modulus_some}
use Rattle.field.proofs.Places.{horner_each_none, horner_self}
use Rattle.field_places.proofs.Blocks.{mapped_start, mapped_next, mapped_all}
use Rattle.field_places.proofs.square_each.Invariants.{square}
use Rattle.field_places.proofs.square_each.Goals as goal

pub returns-then-modulus-eq0 : goal.returns-then-modulus-eq0
returns-then-modulus-eq0 c = sym (horner_each_none _ _ _ _ (modulus_none _ c.modulus.ensures c.if-modulus-eq0.true))

pub loop-at-init : goal.loop-at-init
loop-at-init c = (omega arith, refl, mapped_start (square _) _)

pub square_block-requires : goal.square_block-requires
square_block-requires c =
    let l = c.loop-at in
    let q = c.smaller.result in
    let k : length (mid_of l.at (l.at + q - l.at) l.v) ≡ l.at + q - l.at = mid_len l.at (l.at + q) l.v (omega arith) in
    omega arith

pub loop-at-preserved : goal.loop-at-preserved
loop-at-preserved c =
    let l = c.loop-at in
    let a = c.args in
    let w = modulus_some _ c.modulus.ensures c.if-modulus-eq0.false in
    let h = c.square_block in
    let q = c.smaller.result in (
      omega arith,
      same_len_mid l.at (l.at + q - l.at) l.v h.new.v h.auto.v ∙ l.invariant.1,
      mapped_next (square a.m) a.v.now l.at (omega arith) l.v l.invariant.2 (l.at + q) (omega arith) h.new.v (h.ensures ∙ horner_self a.m w _),
    )

pub shape_of-v : goal.shape_of-v
shape_of-v c = c.loop-at.invariant.1

pub returns : goal.returns
returns c =
    let l = c.loop-at in
    let a = c.args in
    let w = modulus_some _ c.modulus.ensures c.if-modulus-eq0.false in
    l.invariant.2 ∙ mapped_all (square a.m) a.v.now l.at (omega arith) ∙ sym (horner_self a.m w a.v.now)
