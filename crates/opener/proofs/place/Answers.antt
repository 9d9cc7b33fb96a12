-- Nothing, or a blank and the place. Assumes nothing.
use mathlib.Core.Path.{sym, ap}
use mathlib.Core.List.{[], ◌∷◌}
use native.Mathlib.Omega.{arith}
use lib.ListN.{length}
use Rattle.opener.specs.Report.{decimal}
use Rattle.opener.proofs.Written.{joined, same_text, wrote_nothing}
use Rattle.opener.proofs.Text.{place-zero, place_one}
use Rattle.opener.proofs.place.Goals as goal

pub returns-then-bit-eq0 : goal.returns-then-bit-eq0
returns-then-bit-eq0 c =
    let a = c.args in
    same_text (sym (place-zero a.bit a.i c.if-bit-eq0.true)) (wrote_nothing a.out.now a.at)

pub put-next-requires : goal.put-next-requires
put-next-requires c = omega (arith, c.requires, ap length (place_one c.args.bit c.args.i c.if-bit-eq0.false))

pub decimal-requires : goal.decimal-requires
decimal-requires c = omega (arith, c.requires, c.put-next.ensures.place, ap length (place_one c.args.bit c.args.i c.if-bit-eq0.false))

pub returns : goal.returns
returns c =
    let a = c.args in
    same_text (sym (place_one a.bit a.i c.if-bit-eq0.false)) (joined (32 ∷ []) (decimal a.i) c.put-next.ensures c.decimal.ensures)
