-- The loop's invariant: a multiple of the figure's register after n turns. Assumes nothing.
use mathlib.Core.Path.{refl, ◌∙◌}
use Prim.Native.Nat.{◌≤◌}
use native.Mathlib.Omega.{arith}
use Rattle.field.proofs.Arrays.{every-elements}
use Rattle.poly.specs.Register.{start, longest}
use Rattle.register.specs.Registered.{figure}
use Rattle.register.proofs.Answers.{found}
use Rattle.register.proofs.Across.{start_multiple, after_small, c_past, b_past, after_turn, after_divided}
use Rattle.register.proofs.run.Goals as goal

pub loop-n-init : goal.loop-n-init
unfolding start longest
loop-n-init c = (omega arith, refl, refl, start_multiple c.args.m c.requires.0 c.args.s.now)

pub discrepancy-d-requires : goal.discrepancy-d-requires
discrepancy-d-requires c =
    let l = c.loop-n in
    let f = after_small c.args.m c.requires.0 c.args.s.now (every-elements _ _ c.requires.2) l.n (omega arith) (figure l.c l.b l.k) l.invariant.3 in
    (c.requires.0, l.invariant.1, f.0, omega arith, omega arith)

pub turn-k-requires : goal.turn-k-requires
turn-k-requires c =
    let l = c.loop-n in
    let h : l.n ≤ 256 = omega arith in
    let r = figure l.c l.b l.k in
    let f = after_small c.args.m c.requires.0 c.args.s.now (every-elements _ _ c.requires.2) l.n h r l.invariant.3 in (
      c.requires.0,
      l.invariant.1,
      l.invariant.2,
      f.1,
      omega arith,
      c_past c.args.m c.requires.0 c.args.s.now (every-elements _ _ c.requires.2) l.n h r l.invariant.3,
      b_past c.args.m c.requires.0 c.args.s.now (every-elements _ _ c.requires.2) l.n h r l.invariant.3,
    )

pub loop-n-preserved : goal.loop-n-preserved
loop-n-preserved c =
    let l = c.loop-n in (
      omega arith,
      c.turn-k.auto.c ∙ l.invariant.1,
      c.turn-k.auto.b ∙ l.invariant.2,
      after_turn c.args.m c.requires.0 c.args.s.now (every-elements _ _ c.requires.2) l.n (omega arith) (figure l.c l.b l.k) l.invariant.3 _ _ c.discrepancy-d.ensures c.turn-k.ensures,
    )

pub quotient-q-requires : goal.quotient-q-requires
quotient-q-requires c =
    let l = c.loop-n in
    let h : l.n ≤ 256 = omega arith in
    let r = figure l.c l.b l.k in
    let f = after_small c.args.m c.requires.0 c.args.s.now (every-elements _ _ c.requires.2) l.n h r l.invariant.3 in
    let g = after_divided c.args.m c.requires.0 c.args.s.now (every-elements _ _ c.requires.2) l.n h r l.invariant.3 (omega arith) in
    (c.requires.0, omega arith, g.1, g.2)

pub returns : goal.returns
returns c =
    let l = c.loop-n in
    let g = after_divided c.args.m c.requires.0 c.args.s.now (every-elements _ _ c.requires.2) l.n (omega arith) (figure l.c l.b l.k) l.invariant.3 (omega arith) in
    found c.args.m c.args.s.now g.0 (c.quotient-q.ensures ∙ g.3)
