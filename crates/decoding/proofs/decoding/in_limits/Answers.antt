-- Three tests. Assumes nothing.
use borrow.Author.Tests.{lt-leb, le-leb}
use Rattle.field.proofs.Table.{modulus_none, modulus_some}
use Rattle.decoding.proofs.decoding.in_limits.Goals as goal

pub returns-then-modulus-eq0 : goal.returns-then-modulus-eq0
returns-then-modulus-eq0 c = rw (modulus_none _ c.modulus.ensures c.if-modulus-eq0.true)

pub returns-then-n-gt-MOST_PLACES : goal.returns-then-n-gt-MOST_PLACES
returns-then-n-gt-MOST_PLACES c =
    let a = c.args in
    rw (modulus_some _ c.modulus.ensures c.if-modulus-eq0.false, lt-leb a.n 8192 c.if-n-gt-MOST_PLACES.true)

pub returns : goal.returns
returns c =
    let a = c.args in
    rw (modulus_some _ c.modulus.ensures c.if-modulus-eq0.false, le-leb a.n 8192 c.if-n-gt-MOST_PLACES.false)
