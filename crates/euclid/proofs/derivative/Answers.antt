-- The loop's invariant: the first k coefficients of the derivative, and the rest of p. Assumes nothing.
use mathlib.Core.Path.{◌≡◌, refl, ap, ap₂, ◌∙◌}
use mathlib.Core.List.{List}
use Prim.Native.Nat.{ℕ}
use native.Mathlib.Omega.{arith}
use lib.ListN.{length, set, length-set}
use Rattle.euclid.specs.Euclid.{derivative_at}
use Rattle.euclid.proofs.Coefficients.{derived_none, derived_next, derived_step, derived_done}
use Rattle.euclid.proofs.derivative.Goals as goal

pub loop-k-init : goal.loop-k-init
loop-k-init c = (omega arith, refl, derived_none _)

pub loop-k-preserved : goal.loop-k-preserved
loop-k-preserved c =
    let l = c.loop-k in
    let p = c.args.p.now in
    let v : c.derivative_at.result ≡ derivative_at p l.k = c.derivative_at.ensures ∙ ap (λ (d : List ℕ). derivative_at d l.k) l.invariant.2 ∙ derived_next p l.k (omega arith) in (
      omega arith,
      length-set l.p l.k c.derivative_at.result ∙ l.invariant.1,
      ap₂ (λ (d : List ℕ) (x : ℕ). set d l.k x) l.invariant.2 v ∙ derived_step p l.k (omega arith),
    )

pub returns : goal.returns
returns c =
    let l = c.loop-k in
    let p = c.args.p.now in
    let e : l.k ≡ length p = omega arith in
    l.invariant.2 ∙ derived_done p l.k e
