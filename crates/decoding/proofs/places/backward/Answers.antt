-- The loop's invariant: the first i coefficients are written. Assumes nothing.
use mathlib.Core.Path.{◌≡◌, refl, sym, ap, ap₂, ◌∙◌}
use mathlib.Core.List.{List}
use Prim.Native.Nat.{ℕ}
use native.Mathlib.Omega.{arith}
use lib.ListN.{length, set, length-set}
use lib.Seq.{take_all}
use Rattle.bits.specs.Bits.{padded}
use Rattle.decoder.specs.Decoding.{backward}
use Rattle.bits.proofs.Padded.{padded-start, padded-next}
use Rattle.decoding.proofs.Located.{length-backward, backward-at}
use Rattle.decoding.proofs.places.backward.Goals as goal

pub loop-i-init : goal.loop-i-init
loop-i-init c = (omega arith, refl, padded-start 256 (backward c.args.c c.args.l))

pub loop-i-preserved : goal.loop-i-preserved
loop-i-preserved c =
    let l = c.loop-i in
    let a = c.args in
    let n : length (backward a.c a.l) ≡ a.l = length-backward a.c a.l in (
      omega arith,
      length-set l.q _ _ ∙ l.invariant.1,
      ap₂ (λ (d : List ℕ) (v : ℕ). set d l.i v) l.invariant.2 (sym (backward-at a.c a.l l.i (omega arith)))
          ∙ padded-next 256 (backward a.c a.l) l.i (omega arith) (omega arith),
    )

pub returns : goal.returns
returns c =
    let l = c.loop-i in
    let a = c.args in
    l.invariant.2 ∙ ap (padded 256) (take_all l.i (backward a.c a.l) (omega (arith, length-backward a.c a.l)))
