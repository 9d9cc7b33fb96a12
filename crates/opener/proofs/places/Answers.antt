-- The invariant: the places that are left, written behind the others, give all places. Assumes nothing.
use mathlib.Core.Path.{refl, sym, ap, ◌∙◌}
use mathlib.Core.List.{◌++◌}
use Prim.Native.Nat.{ℕ, ◌+◌}
use native.Mathlib.Omega.{arith}
use Rattle.opener.specs.Report.{place}
use Rattle.opener.proofs.Written.{left_start, left_step, left_none}
use Rattle.opener.proofs.Text.{places_left, place-room, left_all, left_next, left_done}
use Rattle.opener.proofs.places.Goals as goal

pub loop-i-init : goal.loop-i-init
loop-i-init c = let a = c.args in (omega arith, refl, left_start a.out.now a.at (left_all a.pattern.now a.n))

pub place-next-requires : goal.place-next-requires
place-next-requires c =
    let l = c.loop-i in
    let a = c.args in
    let r = place-room c.bit_at.result a.pattern.now a.n l.i c.bit_at.ensures (omega arith) in
    omega (arith, c.requires, l.invariant.2.place, r)

pub loop-i-preserved : goal.loop-i-preserved
loop-i-preserved c =
    let p = c.place-next in
    let b = c.bit_at in
    let l = c.loop-i in
    let a = c.args in (
      omega arith,
      p.auto.out ∙ l.invariant.1,
      left_step (place b.result l.i) (places_left a.pattern.now a.n (l.i + 1))
          (left_next a.pattern.now a.n l.i (omega arith)
          ∙ ap (λ (x : ℕ). place x l.i ++ places_left a.pattern.now a.n (l.i + 1)) (sym b.ensures))
          l.invariant.2 p.ensures,
    )

pub shape_of-out : goal.shape_of-out
shape_of-out c = c.loop-i.invariant.1

pub returns : goal.returns
returns c =
    let a = c.args in
    let l = c.loop-i in
    left_none (left_done a.pattern.now a.n l.i c.loop-i-test.false) l.invariant.2
