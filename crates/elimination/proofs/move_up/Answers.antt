-- The loop's invariant: what is left, the first i bytes moved up, gives the whole. Assumes nothing.
use mathlib.Core.Path.{◌≡◌, refl, sym, ap, ◌∙◌}
use Prim.Native.Nat.{ℕ, ◌+◌, ◌-◌}
use native.Mathlib.Omega.{arith}
use lib.ListN.{get_or, length-set}
use Rattle.elimination.specs.Elimination.{moved_up}
use Rattle.elimination.proofs.Flat.{moved-next, moved_none}
use Rattle.elimination.proofs.move_up.Goals as goal

pub loop-i-init : goal.loop-i-init
loop-i-init c = (omega arith, refl, refl)

pub loop-i-preserved : goal.loop-i-preserved
loop-i-preserved c =
    let l = c.loop-i in
    let a = c.args in
    let i : ℕ = l.i - 1 in
    let e : i + 1 ≡ l.i = omega arith in (
      omega arith,
      length-set l.w (i + a.b) (get_or l.w i 0) ∙ l.invariant.1,
      moved-next i a.b l.w (omega arith) ∙ ap (λ (j : ℕ). moved_up j a.b l.w) e ∙ l.invariant.2,
    )

pub shape_of-w : goal.shape_of-w
shape_of-w c = c.loop-i.invariant.1

pub returns : goal.returns
returns c =
    let l = c.loop-i in
    let a = c.args in
    let e : 0 ≡ l.i = omega arith in
    sym (moved_none a.b l.w) ∙ ap (λ (j : ℕ). moved_up j a.b l.w) e ∙ l.invariant.2
