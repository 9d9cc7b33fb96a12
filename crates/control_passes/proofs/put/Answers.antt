-- The loop's invariant: the first j bits of the layer are set, and no others. Assumes nothing.
use mathlib.Core.Path.{◌≡◌, refl, sym, ap, ◌∙◌, subst}
use Prim.Native.Nat.{ℕ, ◌*◌, ◌%◌}
use native.Mathlib.Omega.{arith}
use mathlib.Core.List.{List}
use lib.ListN.{length}
use borrow.Author.Rules.{rules}
use native.Mathlib.Decide.{ℕ_discrete}
use Rattle.bits.specs.Bits.{Bytes, bit_at}
use Rattle.bits.proofs.Bits.{length-set_bit, set_bit-same, set_bit_other, bytes_set_bit}
use Rattle.network.specs.Tables.{at}
use Rattle.control_passes.specs.Passes.{spot}
use Rattle.control_passes.proofs.Combine.{spot_other, spot_top}
use Rattle.control_passes.proofs.put.Goals as goal

mod_two : (x : ℕ) → x % 2 % 2 ≡ x % 2
mod_two x = omega arith

pub loop-j-init : goal.loop-j-init
loop-j-init c = (omega arith, refl, (λ i h. absurd (omega arith)), (λ k d. refl), λ k. search rules)

pub overflow_mul-i : goal.overflow_mul-i
overflow_mul-i c =
    let a = c.args in
    let l = c.loop-j in
    let b = c.requires.by_index l.j (omega arith) in
    let t = spot_top a.off a.step a.h a.l l.j c.requires.step_nonzero.0 in
    let w = c.requires.step_nonzero.1 in
    omega arith

pub overflow_add-i : goal.overflow_add-i
overflow_add-i c =
    let a = c.args in
    let l = c.loop-j in
    let b = c.requires.by_index l.j (omega arith) in
    let t = spot_top a.off a.step a.h a.l l.j c.requires.step_nonzero.0 in
    let w = c.requires.step_nonzero.1 in
    omega arith

pub overflow_mul-i-in-loop-j : goal.overflow_mul-i-in-loop-j
overflow_mul-i-in-loop-j c =
    let a = c.args in
    let l = c.loop-j in
    let b = c.requires.by_index l.j (omega arith) in
    let t = spot_top a.off a.step a.h a.l l.j c.requires.step_nonzero.0 in
    let w = c.requires.step_nonzero.1 in
    omega arith

pub overflow_add-i-in-loop-j : goal.overflow_add-i-in-loop-j
overflow_add-i-in-loop-j c =
    let a = c.args in
    let l = c.loop-j in
    let b = c.requires.by_index l.j (omega arith) in
    let t = spot_top a.off a.step a.h a.l l.j c.requires.step_nonzero.0 in
    let w = c.requires.step_nonzero.1 in
    omega arith

pub loop-j-preserved : goal.loop-j-preserved
loop-j-preserved c =
    let l = c.loop-j in
    let a = c.args in
    let e = c.set_bit.ensures in
    let w = c.requires.by_index l.j (omega arith) in (
      omega arith,
      ap length e ∙ length-set_bit l.b _ _ ∙ l.invariant.1,
      (λ i h. ap (λ (r : List ℕ). bit_at r (spot a.off a.step a.h a.l i)) e ∙ elim (ℕ_discrete i l.j) [
        | yes d ↦ rw d (set_bit-same l.b _ _ (omega arith) ∙ mod_two (at a.s.now (2 * l.j)))
        | no d ↦ set_bit_other l.b _ _ _ (spot_other a.off a.step a.h a.l i l.j c.requires.step_nonzero.0 d) ∙ l.invariant.2 i (omega arith)
      ]),
      (λ k d. ap (λ (r : List ℕ). bit_at r k) e ∙ set_bit_other l.b _ k _ (d l.j (omega arith)) ∙ l.invariant.3 k d),
      subst Bytes (sym e) (bytes_set_bit l.b _ _ l.invariant.4),
    )

pub returns : goal.returns
returns c = let l = c.loop-j in record { put = λ j h. l.invariant.2 j (omega arith); keep = l.invariant.3; bytes = l.invariant.4 }
