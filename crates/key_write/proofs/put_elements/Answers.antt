-- Assumes nothing.
use mathlib.Core.Path.{◌≡◌, refl, sym, ap, ◌∙◌}
use mathlib.Core.List.{List, flat_map}
use Prim.Native.Nat.{ℕ, ◌+◌, ◌*◌}
use native.Mathlib.Omega.{arith}
use lib.ListN.{length, drop}
use lib.Seq.{sets, length-sets}
use Rattle.key.specs.Keys.{two_bytes}
use Rattle.key_write.proofs.Sets.{sets_next, sets_end}
use Rattle.key_write.proofs.put_elements.Goals as goal

pub loop-i-init : goal.loop-i-init
loop-i-init c =
    let a = c.args in
    (omega arith, refl, ap (λ (k : ℕ). sets a.out.now k (flat_map two_bytes a.xs.now)) (let e : a.at + 2 * 0 ≡ a.at = omega arith in e))

pub put_pair-requires : goal.put_pair-requires
put_pair-requires c = (omega arith, omega arith)

pub loop-i-preserved : goal.loop-i-preserved
loop-i-preserved c =
    let l = c.loop-i in
    let a = c.args in
    let e = c.put_pair.ensures in (
      omega arith,
      ap length e ∙ length-sets l.out (a.at + 2 * l.i) (two_bytes _) ∙ l.invariant.1,
      ap (λ (o : List ℕ). sets o (a.at + 2 * (l.i + 1)) (flat_map two_bytes (drop (l.i + 1) a.xs.now))) e
          ∙ sets_next l.out a.at a.xs.now l.i (omega arith) ∙ l.invariant.2,
    )

pub shape_of-out : goal.shape_of-out
shape_of-out c = c.loop-i.invariant.1

pub returns : goal.returns
returns c =
    let l = c.loop-i in
    let a = c.args in
    sym (sets_end l.out a.at a.xs.now l.i (omega arith)) ∙ l.invariant.2
