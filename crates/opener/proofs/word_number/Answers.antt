-- The word, then the number. Assumes nothing.
use native.Mathlib.Omega.{arith}
use lib.ListN.{length-append}
use Rattle.opener.specs.Report.{decimal}
use Rattle.opener.proofs.Written.{joined}
use Rattle.opener.proofs.word_number.Goals as goal

pub write-next-requires : goal.write-next-requires
write-next-requires c =
    let a = c.args in
    omega (arith, c.requires, length-append a.word.now (decimal a.n))

pub decimal-requires : goal.decimal-requires
decimal-requires c =
    let a = c.args in
    omega (arith, c.requires, c.write-next.ensures.place, length-append a.word.now (decimal a.n))

pub returns : goal.returns
returns c =
    let a = c.args in
    joined a.word.now (decimal a.n) c.write-next.ensures c.decimal.ensures
