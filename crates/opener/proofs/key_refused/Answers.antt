-- The words, the number and the newline. Assumes nothing.
use mathlib.Core.List.{◌++◌}
use native.Mathlib.Omega.{arith}
use Rattle.opener.specs.Report.{key_refused, decimal, newline}
use Rattle.opener.proofs.Written.{joined}
use Rattle.opener.proofs.Digits.{decimal_short}
use Rattle.opener.proofs.key_refused.Goals as goal

pub word_number-at-requires : goal.word_number-at-requires
word_number-at-requires c =
    let a = c.args in
    omega (arith, decimal_short 19 a.number (omega arith))

pub put-requires : goal.put-requires
put-requires c =
    let a = c.args in
    omega (arith, c.word_number-at.ensures.place, decimal_short 19 a.number (omega arith))

pub returns : goal.returns
unfolding key_refused newline
returns c =
    let a = c.args in
    joined (key_refused ++ decimal a.number) newline c.word_number-at.ensures c.put.ensures
