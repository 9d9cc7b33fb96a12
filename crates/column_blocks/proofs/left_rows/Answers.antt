-- g's values at the points, and the rows. Assumes nothing.
use mathlib.Core.Path.{◌≡◌, ap, ◌∙◌}
use mathlib.Core.List.{map}
use Prim.Native.Nat.{ℕ}
use native.Mathlib.Omega.{arith}
use lib.ListN.{length, take, length-replicate}
use Rattle.key.specs.Keys.{key_of, goppa_at}
use Rattle.column_blocks.proofs.Columns.{each_goppa}
use Rattle.column_blocks.proofs.left_rows.Goals as goal

pub parity_rows-requires : goal.parity_rows-requires
parity_rows-requires c =
    let a = c.args in
    let called = c.value_each in
    let long : length called.new.r ≡ 1664 = called.auto.r ∙ length-replicate {A = ℕ} 1664 1 in
    let values : take (length a.points.now) called.new.r ≡ map (goppa_at (key_of a.m a.points.now a.g.now)) a.points.now =
    ap (take (length a.points.now)) called.ensures ∙ each_goppa a.m c.requires.0 a.points.now a.g.now 1664 c.requires.1 in
    (c.requires.0, omega (arith, c.requires.1), omega (arith, c.requires.1), values, c.requires.2, c.requires.3, c.requires.4, c.requires.5)
