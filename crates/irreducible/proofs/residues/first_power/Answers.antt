-- The loop's invariant: w is x^(2^k). Assumes nothing.
use mathlib.Core.Path.{◌≡◌, sym, subst}
use Prim.Native.Nat.{ℕ}
use native.Mathlib.Omega.{arith}
use lib.Seq.{length-take-le}
use Rattle.irreducible.specs.Residues.{FirstPower}
use Rattle.irreducible.proofs.PowerRows.{first_none, first_next}
use Rattle.irreducible.proofs.residues.first_power.Goals as goal

pub loop-k-init : goal.loop-k-init
loop-k-init c = (omega arith, first_none _ _ _ (omega arith))

pub slice_bounds-w-end : goal.slice_bounds-w-end
slice_bounds-w-end c = let z = c.loop-k.invariant.1.size in omega arith

pub slice_bounds-square-end : goal.slice_bounds-square-end
slice_bounds-square-end c = let l = c.loop-k in let z = l.invariant.1.size in sym (length-take-le _ l.w (omega arith))

pub square-requires : goal.square-requires
square-requires c = let l = c.loop-k in let z = l.invariant.1.size in (c.requires.0, omega (arith, length-take-le c.args.n l.w (omega arith)))

pub loop-k-preserved : goal.loop-k-preserved
loop-k-preserved c =
    let l = c.loop-k in
    let a = c.args in
    (omega arith, first_next a.m a.t.now a.n l.k l.w _ (omega arith) l.invariant.1 c.square.ensures)

pub returns : goal.returns
returns c =
    let l = c.loop-k in
    let a = c.args in
    let e : l.k ≡ a.m = omega arith in
    subst (λ (k : ℕ). FirstPower a.m a.t.now a.n k l.w) e l.invariant.1
