-- The invariant: the start of the field in what is left, i places on, is that in the line. Assumes nothing.
use mathlib.Core.Path.{◌≡◌, sym, ap, ◌∙◌}
use Prim.Native.Nat.{ℕ, suc, ◌+◌}
use native.Mathlib.Omega.{arith}
use lib.ListN.{drop}
use Rattle.vectors.specs.Lines.{start_of}
use Rattle.vectors.proofs.Fields.{start_here, start_none, start-blank, start_other}
use Rattle.vectors.proofs.line.start.Goals as goal
use Rattle.vectors.proofs.line.start.Goals.{then-line-i-eq32, else-line-i-eq32}

pub loop-i-init : goal.loop-i-init
loop-i-init c = (omega arith, omega arith)

pub returns-then-left-eq0 : goal.returns-then-left-eq0
returns-then-left-eq0 c =
    let l = c.loop-i in
    let e = start_here c.args.line.now l.i l.left c.if-left-eq0.true in
    record { place = omega (arith, e, l.invariant.1); within = omega arith }

pub loop-i-preserved : goal.loop-i-preserved
loop-i-preserved c =
    let l = c.loop-i in
    let a = c.args in
    let left : l.left ≡ 0 → ⊥ = c.if-left-eq0.false in
    let next : start_of (drop l.i a.line.now) l.left ≡ suc (start_of (drop (l.i + 1) a.line.now) c.if-line-i-eq32.left) =
    elim c.if-line-i-eq32.branch [
      | then-line-i-eq32 w ↦
          start-blank a.line.now l.i l.left (omega arith) left w.if-line-i-eq32.true
          ∙ ap (λ (k : ℕ). suc (start_of (drop (l.i + 1) a.line.now) k)) (sym w.left-is)
      | else-line-i-eq32 w ↦
          start_other a.line.now l.i l.left (omega arith) left w.if-line-i-eq32.false
          ∙ ap (λ (k : ℕ). suc (start_of (drop (l.i + 1) a.line.now) k)) (sym w.left-is)
    ] in
    (omega arith, omega (arith, next, l.invariant.1))

pub returns : goal.returns
returns c =
    let l = c.loop-i in
    let e = start_none c.args.line.now l.i l.left c.loop-i-test.false in
    record { place = omega (arith, e, l.invariant.1); within = omega arith }
