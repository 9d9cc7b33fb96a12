-- The loop's invariant: the first `at` places are done. Assumes nothing.
use mathlib.Core.Path.{◌≡◌, refl, ◌∙◌}
use Prim.Native.Nat.{◌+◌, ◌-◌}
use native.Mathlib.Omega.{arith}
use borrow.Rule.Slice.PartMut.{mid_of, mid_len, same_len_mid}
use lib.ListN.{length}
use Rattle.field.specs.Field.{inv}
use Rattle.field.proofs.Verdicts.{verdict_accepted, verdict_refused}
use Rattle.field.proofs.Units.{accepted_width, inverses_made, inverses_kept}
use Rattle.field_places.proofs.Blocks.{mapped_start, mapped_next, mapped_all}
use Rattle.field_places.proofs.inverse_each.Goals as goal

pub returns-in_default : goal.returns-in_default
returns-in_default c =
    let e = c.check_units-x.ensures in
    record { answer = e; output = inverses_kept _ _ (verdict_refused _ e c.in_default.is) }

pub loop-at-init : goal.loop-at-init
loop-at-init c = (omega arith, refl, mapped_start (inv _) _)

pub inverse_block-requires : goal.inverse_block-requires
inverse_block-requires c =
    let l = c.loop-at in
    let q = c.smaller.result in
    let w = accepted_width _ _ (verdict_accepted _ c.check_units-x.ensures c.in-Accepted.is) in
    let k : length (mid_of l.at (l.at + q - l.at) l.v) ≡ l.at + q - l.at = mid_len l.at (l.at + q) l.v (omega arith) in
    (w, omega arith)

pub loop-at-preserved : goal.loop-at-preserved
loop-at-preserved c =
    let l = c.loop-at in
    let a = c.args in
    let h = c.inverse_block in
    let q = c.smaller.result in (
      omega arith,
      same_len_mid l.at (l.at + q - l.at) l.v h.new.v h.auto.v ∙ l.invariant.1,
      mapped_next (inv a.m) a.v.now l.at (omega arith) l.v l.invariant.2 (l.at + q) (omega arith) h.new.v h.ensures,
    )

pub shape_of-v : goal.shape_of-v
shape_of-v c = c.loop-at.invariant.1

pub returns : goal.returns
returns c =
    let l = c.loop-at in
    let a = c.args in
    let e = c.check_units-x.ensures in
    let z = verdict_accepted _ e c.in-Accepted.is in
    record { answer = e; output = inverses_made _ _ z (l.invariant.2 ∙ mapped_all (inv a.m) a.v.now l.at (omega arith)) }
