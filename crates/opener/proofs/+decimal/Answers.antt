-- The number itself falls: a tenth of it, then the last digit. Assumes nothing.
use mathlib.Core.Path.{sym, ap}
use Prim.Native.Nat.{◌≤◌}
use native.Mathlib.Omega.{arith}
use lib.ListN.{length, length-append}
use Rattle.opener.proofs.Written.{joined, same_text}
use Rattle.opener.proofs.Digits.{tenth, decimal_small, decimal-large}
use Rattle.opener.proofs.+decimal.Goals as goal

pub put-requires : goal.put-requires
put-requires t c = omega (arith, c.requires, ap length (decimal_small c.args.n c.if-n-lt10.true))

pub returns-then-n-lt10 : goal.returns-then-n-lt10
returns-then-n-lt10 t c = same_text (sym (decimal_small c.args.n c.if-n-lt10.true)) c.put.ensures

pub decimal-next-requires : goal.decimal-next-requires
decimal-next-requires t c =
    let n = c.args.n in
    let h : 10 ≤ n = c.if-n-lt10.false in
    let e = simp length-append at (ap length (decimal-large n h)) in
    (omega (arith, c.decreases, tenth n h), omega (arith, c.requires, e))

pub put-requires-2 : goal.put-requires-2
put-requires-2 t c =
    let n = c.args.n in
    let h : 10 ≤ n = c.if-n-lt10.false in
    let e = simp length-append at (ap length (decimal-large n h)) in
    omega (arith, c.requires, c.decimal-next.ensures.place, e)

pub returns : goal.returns
returns t c =
    let n = c.args.n in
    let h : 10 ≤ n = c.if-n-lt10.false in
    same_text (sym (decimal-large n h)) (joined _ _ c.decimal-next.ensures c.put-2.ensures)
