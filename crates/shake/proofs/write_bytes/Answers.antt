-- The loop's invariant: the bytes before `at` are those of k lanes. Assumes nothing.
use mathlib.Core.Path.{refl, ap, ◌∙◌}
use Prim.Native.Nat.{ℕ, ◌+◌, ◌-◌}
use native.Mathlib.Omega.{arith}
use lib.ListN.{length, drop, length-take}
use Rattle.bits.specs.Bits.{from}
use Rattle.keccak.specs.Lanes.{state_bytes}
use Rattle.shake.proofs.Loops.{rest_count, write_next, write_end}
use borrow.Rule.Slice.PartMut.{same_len_mid}
use Rattle.shake.proofs.write_bytes.Goals as goal

pub loop-out-init : goal.loop-out-init
unfolding state_bytes from
loop-out-init c = (omega arith, refl, refl, refl)

pub write_lane-requires : goal.write_lane-requires
write_lane-requires c =
    let l = c.loop-out in
    omega (arith, length-take (l.at + 8 - l.at) (drop l.at l.out))

pub loop-out-preserved : goal.loop-out-preserved
loop-out-preserved c =
    let l = c.loop-out in
    let a = c.args in
    let w = c.write_lane in (
      omega arith,
      omega arith,
      same_len_mid l.at (l.at + 8 - l.at) l.out w.new.out w.auto.out ∙ l.invariant.2,
      write_next l.out w.new.out a.a.now l.at l.k l.invariant.1 l.invariant.3 (omega arith) w.ensures,
    )

pub write_lane-requires-2 : goal.write_lane-requires-2
write_lane-requires-2 c =
    let l = c.loop-out in
    omega (arith, rest_count l.at l.out)

pub shape_of-out : goal.shape_of-out
shape_of-out c =
    let l = c.loop-out in
    let w = c.write_lane-2 in
    same_len_mid l.at (length l.out - l.at) l.out w.new.out w.auto.out ∙ l.invariant.2

pub returns : goal.returns
returns c =
    let l = c.loop-out in
    let a = c.args in
    let w = c.write_lane-2 in
    write_end l.out w.new.out a.a.now l.at l.k l.invariant.1 l.invariant.3 (omega arith) (omega arith) w.ensures
    ∙ ap (λ (n : ℕ). state_bytes n a.a.now) l.invariant.2
