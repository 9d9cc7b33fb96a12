-- `register::discrepancy` meets its contract. Assumes nothing.
use mathlib.Core.Path.{◌≡◌, sym, ◌∙◌}
use native.Mathlib.Omega.{arith}
use borrow.Author.Rules.{rules}
use lib.ListN.{length}
use lib.Seq.{length-take-le}
use Rattle.register.proofs.Loops.{discrepancy-at}
use Rattle.register.proofs.discrepancy.Goals as goal

pub slice_bounds-horner_each-end-2 : goal.slice_bounds-horner_each-end-2
slice_bounds-horner_each-end-2 c = sym (length-take-le _ _ (omega arith))

pub returns : goal.returns
returns c =
    let j : length c.earlier-p.result ≡ 257 = search rules in
    c.total.ensures
    ∙ discrepancy-at c.args.m c.args.s.now c.args.c.now c.earlier-p.result _ c.args.l c.args.n c.places-e.result c.requires.0
    c.earlier-p.ensures c.horner_each.ensures (omega arith) (omega arith) (omega arith)
