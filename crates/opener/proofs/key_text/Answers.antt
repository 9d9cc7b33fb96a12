-- By cases on the answer. Assumes nothing.
use mathlib.Core.Path.{sym, ap}
use mathlib.Core.List.{[]}
use native.Mathlib.Omega.{arith}
use Rattle.opener.specs.Report.{too_large}
use Rattle.opener.specs.Prepared.{key_text}
use Rattle.opener.specs.declared.KeyAnswer.{KeyAnswer}
use Rattle.opener.proofs.Written.{printed, printed_nothing, same_printed}
use Rattle.opener.proofs.Lengths.{refused_short}
use Rattle.opener.proofs.key_text.Goals as goal

pub returns-in-Accepted : goal.returns-in-Accepted
unfolding key_text
returns-in-Accepted c =
    let a = c.args in
    same_printed (ap (λ (k : KeyAnswer). key_text k []) (sym c.in-Accepted.is)) (printed_nothing a.out.now)

pub returns-in-Refused : goal.returns-in-Refused
unfolding key_text
returns-in-Refused c =
    let k = c.in-Refused in
    let w = c.key_refused.ensures in
    same_printed (ap (λ (x : KeyAnswer). key_text x []) (sym k.is)) (printed w (omega (arith, w.place, refused_short k.n (omega arith))))

pub returns-in-TooLarge : goal.returns-in-TooLarge
unfolding key_text too_large
returns-in-TooLarge c =
    let e = c.in-TooLarge.is in
    same_printed (ap (λ (k : KeyAnswer). key_text k []) (sym e)) (printed c.write.ensures (omega (arith, c.write.ensures.place)))
