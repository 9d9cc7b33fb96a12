-- The loop's invariant: l layers are left. Assumes nothing.
use mathlib.Core.Path.{refl, ap, ap₂, ◌∙◌}
use mathlib.Core.List.{map}
use Prim.Native.Nat.{ℕ, ◌+◌, ◌-◌, ◌^◌}
use native.Mathlib.Omega.{arith}
use Rattle.bits.specs.Bits.{bit_at}
use Rattle.network.specs.Network.{exchange, sent, network}
use Rattle.switching.proofs.Back.{next_left, none_left, base_shifted, base_small}
use Rattle.switching.proofs.send.Invariants.{settings}
use Rattle.switching.proofs.send.Goals as goal

pub loop-l-init : goal.loop-l-init
unfolding network
loop-l-init c = (omega arith, refl, refl)

pub layer-requires : goal.layer-requires
layer-requires c =
    let e = c.smaller.ensures in
    (omega arith, base_small _ _ (omega arith) (omega arith))

pub loop-l-preserved : goal.loop-l-preserved
loop-l-preserved c =
    let l = c.loop-l in
    let a = c.args in
    let i : ℕ = l.l - 1 in (
      omega arith,
      omega arith,
      ap (map (sent a.m (settings a.m a.row.now) i))
          (c.layer.ensures
          ∙ ap₂ (λ (k d : ℕ). map (exchange (2 ^ k) (λ j. bit_at a.row.now (d + j))) l.places) c.smaller.ensures (base_shifted a.m i (omega arith) (omega arith)))
          ∙ next_left a.m (settings a.m a.row.now) l.l (omega arith) l.places
          ∙ l.invariant.2,
    )

pub returns : goal.returns
returns c =
    let l = c.loop-l in
    let a = c.args in
    none_left a.m (settings a.m a.row.now) (omega arith) l.places
    ∙ l.invariant.2
    ∙ ap (map (network a.m (settings a.m a.row.now))) c.positions.ensures
