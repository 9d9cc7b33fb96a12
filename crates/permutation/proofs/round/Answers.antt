-- The steps one after the other. Assumes nothing.
use mathlib.Core.Path.{ap, ◌∙◌}
use Prim.Native.Nat.{ℕ}
use mathlib.Core.List.{List}
use lib.ListN.{get_or, set}
use Rattle.bits.specs.Xor.{◌⊕◌}
use Rattle.keccak.specs.Lanes.{chi_lanes, rho_pi_lanes, round_lanes}
use Rattle.permutation.proofs.round.Goals as goal

pub returns : goal.returns
unfolding round_lanes ◌⊕◌
returns c =
    let a = c.args in
    ap (λ (b : List ℕ). set b 0 (get_or b 0 0 ⊕ a.c))
    (c.chi-b.ensures ∙ ap chi_lanes (c.rho_pi.ensures ∙ ap rho_pi_lanes c.theta.ensures))
