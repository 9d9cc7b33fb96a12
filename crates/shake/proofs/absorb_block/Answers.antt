-- The loop's invariant: the first i words are added. Assumes nothing.
use mathlib.Core.Path.{◌≡◌, sym, ap, ap₂, ◌∙◌}
use Prim.Native.Nat.{ℕ}
use native.Mathlib.Omega.{arith}
use native.Mathlib.Numerals.{add-one}
use mathlib.Core.List.{List}
use lib.ListN.{length, take, get_or, set}
use Rattle.bits.specs.Xor.{◌⊕◌}
use Rattle.bits.specs.Bits.{xor_row}
use Rattle.bits.proofs.Rows.{xor_row-nil, xor_row-suc, xor_row-take}
use Rattle.keccak.specs.Lanes.{words, absorbed}
use Rattle.keccak.proofs.Blocks.{words_count, words-at}
use borrow.Author.Rules.{rules}
use Rattle.shake.proofs.absorb_block.Goals as goal

pub loop-i-init : goal.loop-i-init
loop-i-init c = (omega arith, sym (xor_row-nil _))

pub loop-i-preserved : goal.loop-i-preserved
unfolding ◌⊕◌
loop-i-preserved c =
    let l = c.loop-i in
    let a = c.args in
    let n : length a.a ≡ 25 = search rules in (
      omega arith,
      ap₂ (λ (d : List ℕ) (w : ℕ). set d l.i (get_or d l.i 0 ⊕ w)) l.invariant.1
          (c.word.ensures ∙ sym (words-at a.block.now l.i (omega arith)))
          ∙ xor_row-suc a.a (words a.block.now) l.i (omega (arith, words_count a.block.now)) (omega arith)
          ∙ ap (λ (n : ℕ). xor_row a.a (take n (words a.block.now))) (sym (add-one l.i)),
    )

pub returns : goal.returns
unfolding absorbed
returns c =
    let l = c.loop-i in
    let a = c.args in
    l.invariant.1 ∙ xor_row-take a.a (words a.block.now) l.i (λ h. omega (arith, words_count a.block.now))
