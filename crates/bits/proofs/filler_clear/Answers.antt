-- The loop's invariant: the filler bits from j on decide. Assumes nothing.
use mathlib.Core.Path.{sym, ap, ◌∙◌}
use Prim.Native.Nat.{ℕ, ◌-◌, ◌%◌, ◌<◌}
use native.Mathlib.Omega.{arith}
use borrow.Author.Tests.{eq-eqb, ne_eqb}
use lib.Dec.{eqb}
use Rattle.bits.specs.Bits.{from, every, bit_at, filler_clear}
use Rattle.bits.proofs.Lists.{every-next, every_stop, every_end, length_from, from_at}
use Rattle.bits.proofs.Pack.{filler_bits}
use Rattle.bits.proofs.filler_clear.Goals as goal

pub loop-j-init : goal.loop-j-init
unfolding filler_clear
loop-j-init c =
    let a = c.args in
    (omega arith, ap (λ (k : ℕ). every (λ i. eqb (bit_at a.s.now i) 0) (from a.n k)) (filler_bits a.n))

pub returns-then-bit_at-ne0 : goal.returns-then-bit_at-ne0
returns-then-bit_at-ne0 c =
    let l = c.loop-j in
    let a = c.args in
    let filler : ℕ = (8 - a.n % 8) % 8 in
    let h : l.j < filler = omega arith in
    every_stop _ (from a.n filler) l.j (rw length_from h)
    (ap (λ (i : ℕ). eqb (bit_at a.s.now i) 0) (from_at a.n filler l.j 0 h)
    ∙ ap (λ (x : ℕ). eqb x 0) (sym c.bit_at.ensures) ∙ ne_eqb _ 0 c.if-bit_at-ne0.true)
    ∙ l.invariant.1

pub loop-j-preserved : goal.loop-j-preserved
loop-j-preserved c =
    let l = c.loop-j in
    let a = c.args in
    let filler : ℕ = (8 - a.n % 8) % 8 in
    let h : l.j < filler = omega arith in (
      omega arith,
      every-next _ (from a.n filler) l.j (rw length_from h)
          (ap (λ (i : ℕ). eqb (bit_at a.s.now i) 0) (from_at a.n filler l.j 0 h)
          ∙ ap (λ (x : ℕ). eqb x 0) (sym c.bit_at.ensures) ∙ eq-eqb _ 0 c.if-bit_at-ne0.false)
          ∙ l.invariant.1,
    )

pub returns : goal.returns
returns c =
    let l = c.loop-j in
    every_end _ _ l.j (rw length_from (omega arith)) ∙ l.invariant.1
