-- `levels::bases::put_points` meets its contract. Assumes nothing.
use mathlib.Core.Path.{◌≡◌, ◌∙◌}
use Prim.Native.Nat.{ℕ, suc, ◌+◌, ◌^◌, ◌≤◌, ◌<◌}
use native.Mathlib.Nat.{pow-suc}
use native.Mathlib.Omega.{arith}
use lib.Pow.{pow_mono}
use Rattle.levels.proofs.Blocks.{block_length}
use Rattle.levels.proofs.Filled.{put_form}
use Rattle.levels.proofs.TwoPowers.{two_below}
use Rattle.levels.proofs.bases.put_points.Goals as goal

-- both halves of 2^(n + 1) places lie among 8192
two_fits : (n : ℕ) {h : ℕ} → n < 13 → h ≡ 2 ^ n → h + h ≤ 8192
two_fits n l e = omega (arith, e, pow-suc 2 n, pow_mono {i = suc n} {j = 13} l)

pub overflow_add-h : goal.overflow_add-h
overflow_add-h c = omega (arith, two_fits c.args.n c.requires.0 (two_below _ c.two-h.ensures (omega arith)))

pub offset_bounds-g-h : goal.offset_bounds-g-h
offset_bounds-g-h c = omega (arith, two_fits c.args.n c.requires.0 (two_below _ c.two-h.ensures (omega arith)))

pub slice_bounds-points-end : goal.slice_bounds-points-end
slice_bounds-points-end c = omega (arith, two_fits c.args.n c.requires.0 (two_below _ c.two-h.ensures (omega arith)))

pub points-requires : goal.points-requires
points-requires c =
    let e : c.two-h.result ≡ 2 ^ c.args.n = two_below _ c.two-h.ensures (omega arith) in
    (omega arith, block_length c.two-h.result c.two-h.result c.args.g.now (omega (arith, two_fits c.args.n c.requires.0 e)) ∙ e)

pub returns : goal.returns
returns c =
    let a = c.args in
    put_form a.n c.two-h.result a.b a.g.now _ (two_below _ c.two-h.ensures (omega arith)) c.points.ensures
