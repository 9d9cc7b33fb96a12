-- The invariant: the lines that are left, written behind the others, give all lines. Assumes nothing.
use mathlib.Core.Path.{refl, ◌∙◌}
use Prim.Native.Nat.{◌+◌}
use native.Mathlib.Omega.{arith}
use lib.ListN.{take, drop}
use Rattle.records.proofs.Values.{bytes_some}
use Rattle.opener.specs.Report.{line}
use Rattle.opener.specs.Prepared.{slot_a}
use Rattle.opener.proofs.Written.{left_start, left_step, left_none}
use Rattle.opener.proofs.Shape.{four}
use Rattle.opener.proofs.Capsules.{lines_left, lines_all, lines_next, lines_done, line-room, capsule_few, capsule_bits_lem}
use Rattle.opener.proofs.Lengths.{lines_short}
use Rattle.opener.proofs.lines.Goals as goal

pub loop-i-init : goal.loop-i-init
loop-i-init c =
    let a = c.args in
    (refl, omega arith, left_start a.out.now 0 (lines_all (slot_a a.station) a.input.now c.capsule_bytes-c.ensures))

pub line_at-at-requires : goal.line_at-at-requires
line_at-at-requires c =
    let a = c.args in
    let l = c.loop-i in
    let n = c.capsule_bytes-c in
    let h = bytes_some n.ensures (capsule_bits_lem (four _ c.requires.0)).0 in
    let r = line-room (slot_a a.station) n.result l.p a.input.now l.i h (omega arith) in
    let b = lines_short (slot_a a.station) (four _ c.requires.0) a.input.now c.requires.1 in
    record { i_in_bounds = omega arith; input_bound = omega (arith, l.invariant.2.place, r, b) }

pub overflow_add-i : goal.overflow_add-i
overflow_add-i c = omega (arith, c.requires.1, capsule_few c.capsule_bytes-c.ensures (capsule_bits_lem (four _ c.requires.0)).1)

pub overflow_add-p : goal.overflow_add-p
overflow_add-p c = omega (arith, c.requires.1, c.loop-i.invariant.1)

pub loop-i-smaller : goal.loop-i-smaller
loop-i-smaller c = omega (arith, bytes_some c.capsule_bytes-c.ensures (capsule_bits_lem (four _ c.requires.0)).0)

pub loop-i-preserved : goal.loop-i-preserved
loop-i-preserved c =
    let a = c.args in
    let n = c.capsule_bytes-c in
    let l = c.loop-i in
    let p = c.line_at-at in
    let h = bytes_some n.ensures (capsule_bits_lem (four _ c.requires.0)).0 in (
      p.auto.out ∙ l.invariant.0,
      omega (arith, h, l.invariant.1),
      left_step
          (line (slot_a a.station) l.p (take n.result (drop l.i a.input.now)))
          (lines_left (slot_a a.station) n.result (l.p + 1) a.input.now (l.i + n.result))
          (lines_next (slot_a a.station) n.result l.p a.input.now l.i h (omega arith))
          l.invariant.2 p.ensures,
    )

pub shape_of-out : goal.shape_of-out
shape_of-out c = c.loop-i.invariant.0

pub returns : goal.returns
returns c =
    let a = c.args in
    let l = c.loop-i in
    left_none
    (lines_done (slot_a a.station) c.capsule_bytes-c.result l.p a.input.now l.i c.loop-i-test.false)
    l.invariant.2
