-- Whether g has a root in a list, block after block. Assumes nothing.
use mathlib.Core.Path.{◌≡◌, sym, ap, ◌∙◌}
use mathlib.Core.Bool.{Bool, true, false, not, ◌&&◌}
use mathlib.Core.List.{List}
use Prim.Native.Nat.{ℕ, ◌+◌, ◌≤◌}
use lib.Dec.{eqb}
use lib.ListN.{length, take, drop, take-append-drop, drop_of_length-le}
use lib.Seq.{drop-drop}
use Rattle.bits.specs.Bits.{every}
use Rattle.bits.proofs.Lists.{every_append}
use Rattle.field.specs.Poly.{value}
use Rattle.poly.specs.Polynomials.{monic}
use Rattle.key.specs.Parts.{no_root}

module _ (m : ℕ) (g s : List ℕ) where
  -- k places from place `at` on, and those behind them
  in_two : (at k : ℕ) → no_root m g (drop at s) ≡ no_root m g (take k (drop at s)) && no_root m g (drop (at + k) s)
  unfolding no_root
  in_two at k =
      let right : ℕ → Bool = λ a. not (eqb (value m (monic g) a) 0) in
      sym (ap (every right) (take-append-drop k (drop at s)))
      ∙ every_append right (take k (drop at s)) (drop k (drop at s))
      ∙ ap (λ (l : List ℕ). every right (take k (drop at s)) && every right l) (drop-drop k at s)

  pub block_found : (at k : ℕ) → no_root m g (take k (drop at s)) ≡ false → false ≡ no_root m g (drop at s)
  block_found at k e = sym (in_two at k ∙ ap (λ (b : Bool). b && no_root m g (drop (at + k) s)) e)

  pub block_none : (at k : ℕ) → no_root m g (take k (drop at s)) ≡ true → no_root m g (drop (at + k) s) ≡ no_root m g (drop at s)
  block_none at k e = sym (in_two at k ∙ ap (λ (b : Bool). b && no_root m g (drop (at + k) s)) e)

  pub blocks_end : (at : ℕ) → length s ≤ at → true ≡ no_root m g (drop at s)
  unfolding no_root every
  blocks_end at h = rw (drop_of_length-le s h)
