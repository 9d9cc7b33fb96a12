-- `transform::halves::unzip` meets its contract. Assumes nothing.
use mathlib.Core.Path.{◌≡◌, refl, sym, ap, ap₂, ◌∙◌}
use Prim.Native.Nat.{ℕ, suc, ◌+◌, ◌*◌}
use native.Mathlib.Omega.{arith}
use mathlib.Core.List.{List}
use lib.ListN.{take, drop, get_or, set, length-set}
use Rattle.transform.proofs.Loops.{both_start, both_next, both_all, unzip-at}
use Rattle.transform.specs.Halves.{unzip}
use Rattle.transform.proofs.Lengths.{length-unzip}
use lib.ListN.{length-drop, take-append-drop}
use lib.Seq.{length-take-le}
use Rattle.transform.proofs.halves.unzip.Goals as goal

pub loop-i-init : goal.loop-i-init
loop-i-init c = let a = c.args in (omega arith, refl, sym (both_start (unzip a.t.now).0 (unzip a.t.now).1 (take a.h a.c.now) (drop a.h a.c.now) ∙ take-append-drop a.h a.c.now))

pub bounds-c-h : goal.bounds-c-h
bounds-c-h c = simp length-set (omega arith)

pub loop-i-preserved : goal.loop-i-preserved
loop-i-preserved c =
    let l = c.loop-i in
    let a = c.args in
    let t : List ℕ = a.t.now in
    let d = length-unzip a.h t c.requires.0 in
    let e : 2 * l.i ≡ l.i + l.i = omega arith in
    let f : 2 * l.i + 1 ≡ suc (l.i + l.i) = omega arith in (
      omega arith,
      simp length-set (omega arith),
      ap₂ (λ (x y : ℕ). set (set l.c l.i (get_or t x 0)) (a.h + l.i) (get_or t y 0)) e f
          ∙ ap₂ (λ (x y : ℕ). set (set l.c l.i x) (a.h + l.i) y) (sym (unzip-at l.i t).0) (sym (unzip-at l.i t).1)
          ∙ ap (λ (r : List ℕ). set (set r l.i (get_or (unzip t).0 l.i 0)) (a.h + l.i) (get_or (unzip t).1 l.i 0)) l.invariant.2
          ∙ both_next (unzip t).0 (unzip t).1 (take a.h a.c.now) (drop a.h a.c.now) a.h l.i d.0 d.1
          (length-take-le a.h a.c.now (omega arith)) (length-drop a.h a.c.now ∙ omega arith) (omega arith),
    )

pub returns : goal.returns
returns c =
    let l = c.loop-i in
    let a = c.args in
    let t : List ℕ = a.t.now in
    let d = length-unzip a.h t c.requires.0 in
    l.invariant.2 ∙ both_all (unzip t).0 (unzip t).1 (take a.h a.c.now) (drop a.h a.c.now) l.i (omega (arith, d.0)) (omega (arith, d.1))
    (length-take-le a.h a.c.now (omega arith) ∙ sym d.0) (length-drop a.h a.c.now ∙ omega (arith, d.1))
