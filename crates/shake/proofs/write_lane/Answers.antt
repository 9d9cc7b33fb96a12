-- The loop's invariant: the first i bytes are the lane's. Assumes nothing.
use mathlib.Core.Path.{◌≡◌, refl, sym, ap, ap₂, ◌∙◌}
use mathlib.Core.List.{List}
use Prim.Native.Nat.{ℕ}
use native.Mathlib.Omega.{arith}
use lib.ListN.{length, set, length-set}
use lib.Seq.{take_all}
use Rattle.bits.specs.Bits.{over}
use Rattle.bits.proofs.Padded.{over-start, over-next}
use Rattle.keccak.specs.Lanes.{lane_bytes}
use Rattle.shake.proofs.Loops.{over_all, lane_bytes_count, lane_byte_at}
use Rattle.shake.proofs.write_lane.Goals as goal

pub loop-i-init : goal.loop-i-init
loop-i-init c =
    let a = c.args in
    (omega arith, refl, over-start (lane_bytes (length a.out.now) a.v) a.out.now)

pub loop-i-preserved : goal.loop-i-preserved
loop-i-preserved c =
    let l = c.loop-i in
    let a = c.args in
    let n : ℕ = length a.out.now in (
      omega arith,
      simp length-set (omega arith),
      ap₂ (λ (d : List ℕ) (b : ℕ). set d l.i b) l.invariant.2 (c.lane_byte.ensures ∙ sym (lane_byte_at n a.v l.i (omega arith)))
          ∙ over-next l.i (lane_bytes n a.v) a.out.now (omega (arith, lane_bytes_count n a.v)) (omega arith),
    )

pub returns : goal.returns
returns c =
    let l = c.loop-i in
    let a = c.args in
    let n : ℕ = length a.out.now in
    let e : length (lane_bytes n a.v) ≡ n = lane_bytes_count n a.v in
    l.invariant.2
    ∙ ap (λ (d : List ℕ). over d a.out.now) (take_all l.i (lane_bytes n a.v) (omega arith))
    ∙ over_all (lane_bytes n a.v) a.out.now e
