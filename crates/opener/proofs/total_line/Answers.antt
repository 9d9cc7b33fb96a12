-- Three numbers, each behind its word, and the newline. Assumes nothing.
use mathlib.Core.List.{◌++◌}
use Prim.Native.Nat.{◌-◌}
use native.Mathlib.Omega.{arith}
use Rattle.opener.specs.Report.{refuses, total_is, are_opened, newline, decimal, total_line}
use Rattle.opener.proofs.Written.{joined}
use Rattle.opener.proofs.Text.{total-length}
use Rattle.opener.proofs.total_line.Goals as goal

pub word_number-next-requires : goal.word_number-next-requires
word_number-next-requires c = omega (arith, c.requires.1, total-length c.args.total c.args.opened)

pub word_number-next-requires-2 : goal.word_number-next-requires-2
word_number-next-requires-2 c = omega (arith, c.requires.1, total-length c.args.total c.args.opened, c.word_number-next.ensures.place)

pub word_number-next-requires-3 : goal.word_number-next-requires-3
word_number-next-requires-3 c = omega (arith, c.requires.1, total-length c.args.total c.args.opened, c.word_number-next.ensures.place, c.word_number-next-2.ensures.place)

pub put-requires : goal.put-requires
put-requires c = omega (arith, c.requires.1, total-length c.args.total c.args.opened, c.word_number-next.ensures.place, c.word_number-next-2.ensures.place, c.word_number-next-3.ensures.place)

pub returns : goal.returns
unfolding total_line total_is are_opened refuses newline
returns c =
    let a = c.args in
    let r = refuses ++ decimal (a.total - a.opened) in
    joined (total_is ++ decimal a.total) ((are_opened ++ decimal a.opened) ++ (r ++ newline)) c.word_number-next.ensures
    (joined (are_opened ++ decimal a.opened) (r ++ newline) c.word_number-next-2.ensures
    (joined r newline c.word_number-next-3.ensures c.put.ensures))
