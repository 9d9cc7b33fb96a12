-- The first try, or the other. Assumes nothing.
use mathlib.Core.Path.{◌∙◌}
use Rattle.key.specs.Kept.{kept, parts}
use Rattle.marked_reading.proofs.Readings.{first_refused, first_found_lem, other_found}
use Rattle.marked_reading.proofs.tries.decode_marked.Goals as goal

pub returns-in_default : goal.returns-in_default
returns-in_default c =
    let a = c.args in
    let k = parts a.m a.n a.t a.support.now a.g.now in
    first_refused (kept k) a.word.now a.marks.now c.tried-e.ensures c.in_default.is

pub returns-then-e : goal.returns-then-e
returns-then-e c =
    let a = c.args in
    let k = parts a.m a.n a.t a.support.now a.g.now in
    first_found_lem (kept k) a.word.now a.marks.now c.tried-e.ensures c.in-Accepted.is c.if-e.true

pub returns : goal.returns
returns c =
    let a = c.args in
    let k = parts a.m a.n a.t a.support.now a.g.now in
    c.tried.ensures ∙ other_found (kept k) a.word.now a.marks.now c.tried-e.ensures c.in-Accepted.is c.if-e.false
