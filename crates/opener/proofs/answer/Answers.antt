-- ` open` and the places, or ` refused ` and the number. Assumes nothing.
use mathlib.Core.Path.{sym, ap}
use native.Mathlib.Omega.{arith}
use lib.ListN.{length, length-append}
use Rattle.bits.specs.Bits.{unpack}
use Rattle.opener.specs.Report.{refuses, opens, places}
use Rattle.opener.proofs.Written.{joined, same_text}
use Rattle.opener.proofs.Text.{answer_open, answer_refused}
use Rattle.opener.proofs.answer.Goals as goal

pub word_number-requires : goal.word_number-requires
unfolding refuses
word_number-requires c =
    let a = c.args in
    omega (arith, c.requires, ap length (answer_refused a.refused (unpack a.n a.pattern.now) c.if-refused-ne0.true))

pub returns-then-refused-ne0 : goal.returns-then-refused-ne0
unfolding refuses
returns-then-refused-ne0 c =
    let a = c.args in
    same_text (sym (answer_refused a.refused (unpack a.n a.pattern.now) c.if-refused-ne0.true))
    c.word_number.ensures

pub write-next-requires : goal.write-next-requires
unfolding opens
write-next-requires c =
    let a = c.args in
    let e = unpack a.n a.pattern.now in
    omega (arith, c.requires, length-append opens (places 0 e), ap length (answer_open a.refused e c.if-refused-ne0.false))

pub places-requires : goal.places-requires
unfolding opens
places-requires c =
    let a = c.args in
    let e = unpack a.n a.pattern.now in
    omega (arith, c.requires, c.write-next.ensures.place, length-append opens (places 0 e), ap length (answer_open a.refused e c.if-refused-ne0.false))

pub returns : goal.returns
unfolding opens
returns c =
    let a = c.args in
    let e = unpack a.n a.pattern.now in
    same_text (sym (answer_open a.refused e c.if-refused-ne0.false))
    (joined opens (places 0 e) c.write-next.ensures c.places.ensures)
