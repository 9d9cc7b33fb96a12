-- The position, what the station answers, and the newline. Assumes nothing.
use mathlib.Core.Path.{sym, ap}
use mathlib.Core.List.{◌++◌}
use native.Mathlib.Omega.{arith}
use lib.ListN.{length, length-append}
use Rattle.bits.specs.Bits.{unpack}
use Rattle.recipients.specs.Names.{byte_of}
use Rattle.opener.specs.Report.{room, newline, decimal, answer}
use Rattle.opener.proofs.Written.{joined, same_text}
use Rattle.opener.proofs.Capsules.{line-parts}
use Rattle.opener.proofs.line.Goals as goal

pub decimal-next-requires : goal.decimal-next-requires
unfolding room newline byte_of
decimal-next-requires c =
    let a = c.args in
    let e = line-parts a.station a.p a.capsule.now c.open-reply.ensures.reply c.open-reply.ensures.output in
    omega (arith, c.requires, simp length-append at (ap length e))

pub answer-next-requires : goal.answer-next-requires
unfolding room newline byte_of
answer-next-requires c =
    let a = c.args in
    let e = line-parts a.station a.p a.capsule.now c.open-reply.ensures.reply c.open-reply.ensures.output in
    omega (arith, c.requires, c.decimal-next.ensures.place, simp length-append at (ap length e))

pub put-requires : goal.put-requires
unfolding room newline byte_of
put-requires c =
    let a = c.args in
    let e = line-parts a.station a.p a.capsule.now c.open-reply.ensures.reply c.open-reply.ensures.output in
    omega (arith, c.requires, c.decimal-next.ensures.place, c.answer-next.ensures.place, simp length-append at (ap length e))

pub returns : goal.returns
unfolding room newline byte_of
returns c =
    let a = c.args in
    let e = line-parts a.station a.p a.capsule.now c.open-reply.ensures.reply c.open-reply.ensures.output in
    let t = answer c.open-reply.result.refused (unpack a.station.a.key.n c.open-reply.new.out) in
    same_text (sym e)
    (joined (decimal a.p) (t ++ newline) c.decimal-next.ensures
    (joined t newline c.answer-next.ensures c.put.ensures))
