-- The loop's invariant: the first j entries of both halves are written. Assumes nothing.
use mathlib.Core.Path.{refl, ap, ◌∙◌}
use Prim.Native.Nat.{◌+◌, ◌*◌, ◌/◌, ◌%◌, ◌<◌}
use native.Mathlib.Omega.{arith}
use lib.ListN.{length, length-set}
use Rattle.network.specs.Network.{turn}
use Rattle.network.specs.Tables.{at}
use Rattle.control_passes.proofs.Tabs.{halves-low, halves_high}
use Rattle.control_passes.proofs.halves.Goals as goal

pub loop-j-init : goal.loop-j-init
loop-j-init c = (omega arith, refl, (λ x h. absurd (omega arith)), λ x h. absurd (omega arith))

pub bounds-out-h : goal.bounds-out-h
bounds-out-h c = simp length-set (omega arith)

pub loop-j-preserved : goal.loop-j-preserved
loop-j-preserved c =
    let l = c.loop-j in let pi = c.args.pi.now in
    let e = ap (◌% 2) c.wide-l.ensures in
    let b : c.args.h + l.j < length l.out = omega arith in (
      omega arith,
      simp length-set (omega arith),
      halves-low l.out c.args.h l.j _ _ (λ j. at pi (turn (at pi (2 * j) % 2) (2 * j)) / 2) (λ i. at pi (turn (at pi (2 * i) % 2) (2 * i + 1)) / 2) (omega arith) b
          (ap (λ z. at pi z / 2) (c.flip-a.ensures ∙ ap (λ z. turn z (2 * l.j)) e)) l.invariant.2,
      halves_high l.out c.args.h l.j _ _ (λ j. at pi (turn (at pi (2 * j) % 2) (2 * j)) / 2) (λ i. at pi (turn (at pi (2 * i) % 2) (2 * i + 1)) / 2) (omega arith) b
          (ap (λ z. at pi z / 2) (c.flip-b.ensures ∙ ap (λ z. turn z (2 * l.j + 1)) e)) l.invariant.3,
    )

pub returns : goal.returns
returns c = record { tab = (λ x h. c.loop-j.invariant.2 x (omega arith)); by_index = λ x h. c.loop-j.invariant.3 x (omega arith) }
