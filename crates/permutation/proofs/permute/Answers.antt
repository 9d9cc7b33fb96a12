-- The loop's invariant: the rounds from i on give what all give. Assumes nothing.
use mathlib.Core.Path.{◌≡◌, refl, ap, ◌∙◌}
use mathlib.Core.List.{List}
use Prim.Native.Nat.{ℕ, suc, ◌+◌, ◌-◌, ◌≤◌, ◌<◌}
use native.Mathlib.Numerals.{add-one}
use native.Mathlib.Omega.{arith}
use lib.ListN.{get_or}
use Rattle.keccak.specs.Lanes.{constants, round_lanes, rounds_lanes, permuted}
use Rattle.permutation.proofs.permute.Goals as goal

-- a round, and none left
module _ (i : ℕ) (a : List ℕ) where
  rounds-next : i < 24 → rounds_lanes (i + 1) (24 - (i + 1)) (round_lanes (get_or constants i 0) a) ≡ rounds_lanes i (24 - i) a
  unfolding rounds_lanes
  rounds-next h =
      let e : suc (24 - (i + 1)) ≡ 24 - i = omega arith in
      ap (λ (k : ℕ). rounds_lanes k (24 - (i + 1)) (round_lanes (get_or constants i 0) a)) (add-one i) ∙ ap (λ (n : ℕ). rounds_lanes i n a) e

  rounds_end : 24 ≤ i → a ≡ rounds_lanes i (24 - i) a
  unfolding rounds_lanes
  rounds_end h = let e : 0 ≡ 24 - i = omega arith in ap (λ (n : ℕ). rounds_lanes i n a) e

pub loop-i-init : goal.loop-i-init
loop-i-init c = (omega arith, refl)

pub loop-i-preserved : goal.loop-i-preserved
loop-i-preserved c =
    let l = c.loop-i in (
      omega arith,
      ap (rounds_lanes (l.i + 1) (24 - (l.i + 1))) c.round-next.ensures ∙ rounds-next l.i l.b (omega arith) ∙ l.invariant.1,
    )

pub returns : goal.returns
unfolding permuted
returns c =
    let l = c.loop-i in
    rounds_end l.i l.b (omega arith) ∙ l.invariant.1
