-- The loop's invariant: the first i bytes are copied. Assumes nothing.
use mathlib.Core.Path.{◌≡◌, refl, sym, ap, ◌∙◌}
use Prim.Native.Nat.{ℕ, ◌+◌}
use native.Mathlib.Omega.{arith}
use native.Mathlib.Numerals.{add-one}
use mathlib.Core.List.{List}
use lib.ListN.{length, get_or, set, length-set}
use lib.Seq.{paste, paste-zero, paste-suc}
use Rattle.session_key.proofs.put.Goals as goal

pub loop-i-init : goal.loop-i-init
loop-i-init c = (omega arith, refl, paste-zero c.args.out.now c.args.at c.args.s.now)

pub loop-i-preserved : goal.loop-i-preserved
loop-i-preserved c =
    let l = c.loop-i in
    let a = c.args in (
      omega arith,
      simp length-set (omega arith),
      ap (λ (d : List ℕ). set d (a.at + l.i) (get_or a.s.now l.i 0)) l.invariant.2
          ∙ paste-suc a.out.now a.at a.s.now l.i 0 (omega arith) (omega arith)
          ∙ ap (paste a.out.now a.at a.s.now) (sym (add-one l.i)),
    )

pub returns : goal.returns
returns c =
    let l = c.loop-i in
    let a = c.args in
    let e : l.i ≡ length a.s.now = omega arith in
    l.invariant.2 ∙ ap (paste a.out.now a.at a.s.now) e
