-- The two tests are those of the definition. Assumes nothing.
use mathlib.Core.Path.{sym, ap, ◌∙◌}
use mathlib.Core.Bool.{◌&&◌}
use native.Mathlib.Omega.{arith}
use borrow.Author.Tests.{ne_eqb, eq-eqb}
use lib.ListN.{length}
use Rattle.bits.specs.Bits.{bytes_for, filler_clear, well_formed}
use Rattle.bits.proofs.well_formed.Goals as goal

pub returns-then-s-bytes_for : goal.returns-then-s-bytes_for
unfolding well_formed
returns-then-s-bytes_for c =
    let a = c.args in
    sym (ap (◌&& filler_clear a.n a.s.now) (ne_eqb (length a.s.now) (bytes_for a.n) (λ e. omega arith)))

pub returns : goal.returns
unfolding well_formed
returns c =
    let a = c.args in
    c.filler_clear.ensures
    ∙ sym (ap (◌&& filler_clear a.n a.s.now) (eq-eqb (length a.s.now) (bytes_for a.n) (omega arith)))
