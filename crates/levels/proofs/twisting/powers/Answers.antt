-- `levels::twisting::powers` meets its contract. Assumes nothing.
use mathlib.Core.Path.{◌≡◌, sym, ap, ap₂, ◌∙◌}
use Prim.Native.Nat.{ℕ, ◌+◌}
use native.Mathlib.Nat.{min-le_right}
use native.Mathlib.Omega.{arith}
use native.Mathlib.Numerals.{add-one}
use mathlib.Core.List.{List}
use lib.ListN.{set}
use Rattle.bits.specs.Bits.{padded}
use Rattle.field.specs.Field.{power}
use Rattle.bits.proofs.Padded.{padded-start, padded-next}
use lib.Seq.{take_all}
use Rattle.levels.specs.Twist.{powers_of}
use Rattle.levels.proofs.Twists.{powers_at, length_powers}
use Rattle.field.proofs.Laws.{power_zero, power-suc}
use Rattle.field.specs.Field.{mul}
use Rattle.levels.proofs.twisting.powers.Goals as goal

pub loop-i-init : goal.loop-i-init
loop-i-init c =
    let a = c.args in
    (omega arith, c.smaller-e.ensures, sym (power_zero a.m a.b), padded-start 512 (powers_of a.m a.b c.smaller-e.result))

pub bounds-r-i : goal.bounds-r-i
bounds-r-i c =
    let l = c.loop-i in
    omega (arith, l.invariant.1, min-le_right c.args.n 512)

pub loop-i-preserved : goal.loop-i-preserved
loop-i-preserved c =
    let l = c.loop-i in
    let a = c.args in
    let k = c.smaller-e.result in
    let e : c.times-s.result ≡ power a.m a.b (l.i + 1) =
    c.times-s.ensures ∙ ap (λ (x : ℕ). mul a.m x a.b) l.invariant.2 ∙ sym (power-suc a.m a.b l.i) ∙ ap (power a.m a.b) (sym (add-one l.i)) in (
      omega arith,
      l.invariant.1,
      e,
      ap₂ (λ (r : List ℕ) (v : ℕ). set r l.i v) l.invariant.3 (e ∙ sym (powers_at a.m a.b k l.i (omega arith)))
          ∙ padded-next 512 (powers_of a.m a.b k) l.i (omega (arith, length_powers a.m a.b k)) (omega (arith, l.invariant.1, min-le_right a.n 512)),
    )

pub returns : goal.returns
returns c =
    let a = c.args in
    let k = c.smaller-e.result in
    c.loop-i.invariant.3 ∙ ap (padded 512) (take_all c.loop-i.i (powers_of a.m a.b k) (omega (arith, length_powers a.m a.b k)))
    ∙ ap (λ (n : ℕ). padded 512 (powers_of a.m a.b n)) c.smaller-e.ensures
