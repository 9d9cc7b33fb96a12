-- The invariant: what is left of the text, written behind i bytes, gives the whole text written. Assumes nothing.
use mathlib.Core.Path.{refl, sym, ap, ◌∙◌}
use mathlib.Core.List.{List}
use Prim.Native.Nat.{ℕ, ◌+◌}
use native.Mathlib.Nat.{add-zero}
use native.Mathlib.Omega.{arith}
use lib.ListN.{drop}
use lib.Seq.{sets}
use Rattle.opener.proofs.Written.{sets_next, sets_none}
use Rattle.opener.proofs.write.Goals as goal

pub loop-i-init : goal.loop-i-init
loop-i-init c =
    let a = c.args in
    (omega arith, refl, ap (λ (k : ℕ). sets a.out.now k a.text.now) (add-zero a.at))

pub loop-i-preserved : goal.loop-i-preserved
loop-i-preserved c =
    let p = c.put in
    let l = c.loop-i in
    let a = c.args in (
      omega arith,
      p.auto.out ∙ l.invariant.1,
      ap (λ (o : List ℕ). sets o (a.at + (l.i + 1)) (drop (l.i + 1) a.text.now)) p.ensures.output
          ∙ sets_next l.out a.at l.i a.text.now (omega arith)
          ∙ l.invariant.2,
    )

pub returns : goal.returns
returns c =
    let l = c.loop-i in
    let a = c.args in
    record {
      place = omega arith;
      output = sym (sets_none l.out (a.at + l.i) l.i a.text.now c.loop-i-test.false) ∙ l.invariant.2;
    }
