-- The invariant: the places from i on decide. Assumes nothing.
use mathlib.Core.Path.{refl, sym, ◌∙◌}
use native.Mathlib.Omega.{arith}
use lib.ListN.{get_or}
use Rattle.vectors.specs.Lines.{byte_or_filler, holds_of}
use Rattle.vectors.proofs.Places.{same_from, same_end, same_next, same_stop}
use Rattle.vectors.proofs.line.holds.Goals as goal

pub loop-i-init : goal.loop-i-init
unfolding same_from holds_of
loop-i-init c = (omega arith, refl)

pub returns-then-buffer-i : goal.returns-then-buffer-i
returns-then-buffer-i c =
    let l = c.loop-i in
    let a = c.args in
    sym (same_stop (λ j. get_or a.buffer.now j 0) (byte_or_filler a.b) 64 l.i c.byte_or_filler.ensures (omega arith) c.if-buffer-i.true) ∙ l.invariant.1

pub loop-i-preserved : goal.loop-i-preserved
loop-i-preserved c =
    let l = c.loop-i in
    let a = c.args in
    (omega arith, sym (same_next (λ j. get_or a.buffer.now j 0) (byte_or_filler a.b) 64 l.i c.byte_or_filler.ensures (omega arith) c.if-buffer-i.false) ∙ l.invariant.1)

pub returns : goal.returns
returns c =
    let l = c.loop-i in
    let a = c.args in
    sym (same_end (λ j. get_or a.buffer.now j 0) (byte_or_filler a.b) 64 l.i c.loop-i-test.false) ∙ l.invariant.1
