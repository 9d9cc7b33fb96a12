-- The loop's invariant: s, with the bits of d from k on, is the whole sum. Assumes nothing.
use mathlib.Core.Path.{◌≡◌, sym, ap, ◌∙◌}
use Prim.Native.Nat.{ℕ, ◌+◌, ◌/◌, ◌%◌, ◌^◌}
use native.Mathlib.Omega.{arith}
use lib.Bits.{and_mask}
use lib.Count.{ones}
use Rattle.bits.specs.Xor.{◌⊕◌}
use Rattle.bits.proofs.Product.{parity-start, parity-next, parity_end}
use Rattle.packed.proofs.parity.Goals as goal

pub loop-k-init : goal.loop-k-init
loop-k-init c = (omega arith, parity-start c.args.d)

pub loop-k-preserved : goal.loop-k-preserved
unfolding ◌⊕◌
loop-k-preserved c =
    let l = c.loop-k in
    let d : ℕ = c.args.d in (
      omega arith,
      ap (λ (b : ℕ). l.s ⊕ b ⊕ ones (d / 2 ^ (l.k + 1)) % 2) (and_mask (d / 2 ^ l.k) 1) ∙ parity-next l.s d l.k ∙ l.invariant.1,
    )

pub returns : goal.returns
returns c =
    let l = c.loop-k in
    let d : ℕ = c.args.d in
    let e : 8 ≡ l.k = omega arith in
    sym (parity_end l.s d (omega arith)) ∙ ap (λ (k : ℕ). l.s ⊕ ones (d / 2 ^ k) % 2) e ∙ l.invariant.1
