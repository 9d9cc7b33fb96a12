-- `transform::everywhere::everywhere` meets its contract. Assumes nothing.
use mathlib.Core.Path.{◌≡◌, sym, ap, ◌∙◌}
use mathlib.Core.List.{List}
use Prim.Native.Nat.{ℕ, ◌+◌, ◌^◌, ◌≤◌, ◌<◌}
use native.Mathlib.Omega.{arith}
use lib.ListN.{length, take, replicate, length-replicate}
use Rattle.bits.specs.Bits.{padded}
use Rattle.field.proofs.Table.{width_narrow}
use Rattle.levels.specs.Levels.{two_of}
use Rattle.levels.proofs.TwoPowers.{two_below}
use Rattle.poly.specs.Polynomials.{monic}
use Rattle.transform.proofs.Whole.{length-monic, prefix_length, places_prefix, all}
use Rattle.transform.proofs.everywhere.everywhere.Goals as goal

-- the sizes: 2^k coefficients, k at most 9
module _ (g : List ℕ) (h : length g < 512) {k n : ℕ} (d : (length g + 1 ≤ 2 ^ k) × ((j : ℕ) → length g + 1 ≤ 2 ^ j → k ≤ j)) (e : n ≡ two_of k) where
  few : k ≤ 9
  few = d.1 9 (omega arith)

  many : n ≡ 2 ^ k
  many = two_below k e (omega (arith, few))

  whole : length (monic g) ≤ n
  whole = omega (arith, length-monic g, d.0, many)

  coefficients : {c : List ℕ} → c ≡ padded 512 (monic g) → (n ≤ length c) × (length (take n c) ≡ n)
  coefficients ec = prefix_length k n (monic g) (omega (arith, length-monic g)) few many ec

-- zeros
eight : (d : List ℕ) → d ≡ replicate 8192 0 → length d ≡ 8192
eight d e = ap length e ∙ length-replicate {A = ℕ} 8192 0

pub depth-k-requires : goal.depth-k-requires
depth-k-requires c = omega (arith, c.requires.2)

pub slice_bounds-c-end : goal.slice_bounds-c-end
slice_bounds-c-end c = (coefficients c.args.g.now c.requires.2 c.depth-k.ensures c.two-n.ensures c.monic-c.ensures).0

pub slice_bounds-transformed-end : goal.slice_bounds-transformed-end
slice_bounds-transformed-end c = sym (coefficients c.args.g.now c.requires.2 c.depth-k.ensures c.two-n.ensures c.monic-c.ensures).1

pub slice_bounds-transformed-end-2 : goal.slice_bounds-transformed-end-2
slice_bounds-transformed-end-2 c =
    let n = width_narrow _ c.requires.0 in
    (places_prefix c.args.m c.args.d.now n (two_below _ c.two-top.ensures n) (eight _ c.requires.3)).0

pub slice_bounds-transformed-end-3 : goal.slice_bounds-transformed-end-3
slice_bounds-transformed-end-3 c =
    let n = width_narrow _ c.requires.0 in
    sym (places_prefix c.args.m c.args.d.now n (two_below _ c.two-top.ensures n) (eight _ c.requires.3)).1

pub transformed-requires : goal.transformed-requires
transformed-requires c =
    let g = c.args.g.now in
    let n = width_narrow _ c.requires.0 in
    let k = few g c.requires.2 c.depth-k.ensures c.two-n.ensures in
    let e = two_below _ c.two-top.ensures n in (
      c.requires.0,
      omega (arith, k, c.requires.1),
      k,
      (coefficients g c.requires.2 c.depth-k.ensures c.two-n.ensures c.monic-c.ensures).1
          ∙ many g c.requires.2 c.depth-k.ensures c.two-n.ensures,
      (places_prefix c.args.m c.args.d.now n e (eight _ c.requires.3)).1 ∙ e,
    )

pub returns : goal.returns
returns c =
    let g = c.args.g.now in
    let n = width_narrow _ c.requires.0 in
    all c.args.m (monic g) c.requires.3 (whole g c.requires.2 c.depth-k.ensures c.two-n.ensures) (two_below _ c.two-top.ensures n) c.monic-c.ensures c.transformed.ensures
