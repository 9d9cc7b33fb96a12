-- The loop's invariant: v is x^(2^k - 2) for each x of the block, which a starts with. Assumes nothing.
use mathlib.Core.Path.{◌≡◌, refl, sym, ap, ◌∙◌}
use mathlib.Core.List.{List, map}
use Prim.Native.Nat.{ℕ, ◌+◌, ◌≤◌}
use native.Mathlib.Omega.{arith}
use lib.ListN.{length, take, length-map}
use Rattle.bits.specs.Bits.{padded}
use Rattle.bits.proofs.Padded.{length-padded, take-padded}
use Rattle.field.specs.Poly.{horner_each}
use Rattle.field.proofs.Table.{width_over_one}
use Rattle.field.proofs.Places.{length-horner_each}
use Rattle.field.proofs.Reciprocals.{even_power, squares_powers, powers_turn, powers_last}
use Rattle.field_places.proofs.Blocks.{block_whole}
use Rattle.field_places.proofs.inverse_block.Goals as goal

-- the copy a of the block v starts with v, by its length and by that of the squares s
module _ (m : ℕ) (v s a : List ℕ) (short : length v ≤ 512) (e : a ≡ padded 512 (take 512 v)) (q : s ≡ horner_each m 0 v v) where
  copy_start : take (length v) a ≡ v
  copy_start = ap (take (length v)) (block_whole _ e short) ∙ take-padded 512 v (length v) refl

  square_start : take (length s) a ≡ v
  square_start = ap (λ (n : ℕ). take n a) (ap length q ∙ length-horner_each m 0 v v) ∙ copy_start

pub loop-k-init : goal.loop-k-init
loop-k-init c =
    let q = c.square_block.ensures in
    let d = square_start _ _ _ _ c.requires.1 c.block-a.ensures q in
    let w = c.requires.0 in
    (omega arith, omega (arith, width_over_one _ w), omega (arith, ap length q ∙ length-horner_each _ _ _ _, c.requires.1), q ∙ squares_powers _ w _ ∙ ap (map (even_power _ 2)) (sym d))

pub slice_bounds-horner_each-end : goal.slice_bounds-horner_each-end
slice_bounds-horner_each-end c =
    let e = c.block-a.ensures in
    sym (ap length (block_whole c.args.v.now e c.requires.1) ∙ length-padded 512 _ c.requires.1)

pub loop-k-preserved : goal.loop-k-preserved
loop-k-preserved c =
    let l = c.loop-k in
    let d = square_start _ _ _ _ c.requires.1 c.block-a.ensures c.square_block.ensures in
    let m : ℕ = c.args.m in
    let v : List ℕ = c.args.v.now in
    let e : l.v ≡ map (even_power m l.k) v = l.invariant.3 ∙ ap (map (even_power m l.k)) d in
    let s = c.square_block-in-loop-k.ensures in
    let h = c.horner_each.ensures in
    let t = h ∙ ap (λ (r : List ℕ). horner_each m 0 r c.block-a.result) e in (
      omega arith,
      omega arith,
      omega (arith, ap length s ∙ length-horner_each _ _ _ _, ap length h ∙ length-horner_each _ _ _ _),
      s
          ∙ powers_turn m c.requires.0 v l.k l.invariant.0 _ (copy_start _ _ _ _ c.requires.1 c.block-a.ensures c.square_block.ensures) t
          ∙ ap (map (even_power m (l.k + 1))) (sym d),
    )

pub shape_of-v : goal.shape_of-v
shape_of-v c =
    let l = c.loop-k in
    let d = square_start _ _ _ _ c.requires.1 c.block-a.ensures c.square_block.ensures in
    let a = c.args in
    ap length (l.invariant.3 ∙ ap (map (even_power a.m l.k)) d) ∙ length-map a.v.now (even_power a.m l.k)

pub returns : goal.returns
returns c =
    let l = c.loop-k in
    let d = square_start _ _ _ _ c.requires.1 c.block-a.ensures c.square_block.ensures in
    l.invariant.3 ∙ ap (map (even_power c.args.m l.k)) (d) ∙ powers_last c.args.m c.requires.0 c.args.v.now (omega arith)
