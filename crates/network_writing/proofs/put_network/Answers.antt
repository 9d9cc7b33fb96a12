-- Assumes nothing.
use mathlib.Core.Path.{◌≡◌, sym, ap, ◌∙◌, subst}
use mathlib.Core.List.{List}
use Prim.Native.Nat.{ℕ, ◌+◌, ◌*◌, ◌^◌}
use native.Mathlib.Omega.{arith}
use lib.ListN.{length, take}
use lib.Seq.{sets, length-take-le}
use Rattle.bits.specs.Bits.{pack}
use Rattle.network.specs.Network.{control_bits}
use Rattle.network.specs.Tables.{Each}
use Rattle.completion.proofs.Permutation.{narrow, permutation_each}
use Rattle.network_writing.proofs.Whole.{wide, errors_fit, g_fits, network-written}
use Rattle.network_writing.proofs.put_network.Goals as goal

pub slice_bounds-g-end : goal.slice_bounds-g-end
slice_bounds-g-end c = g_fits c.args.file.now c.args.s c.requires.0 c.write_g.new.g c.write_g.ensures

pub slice_bounds-put_head-end : goal.slice_bounds-put_head-end
slice_bounds-put_head-end c =
    let a = c.args in
    let g : List ℕ = c.write_g.new.g in
    sym (length-take-le a.s.t g (g_fits a.file.now a.s c.requires.0 g c.write_g.ensures))

pub put_head-requires : goal.put_head-requires
put_head-requires c =
    let a = c.args in
    let g : List ℕ = c.write_g.new.g in
    let e : length (take a.s.t g) ≡ a.s.t = length-take-le a.s.t g (g_fits a.file.now a.s c.requires.0 g c.write_g.ensures) in
    let w = wide a.file.now a.s c.requires.0 in
    let h = errors_fit a.file.now a.s c.requires.0 in
    (omega arith, omega arith, omega arith, narrow a.file.now a.s c.requires.0)

pub write_permutation-requires : goal.write_permutation-requires
write_permutation-requires c = c.requires.0

pub put_row-requires : goal.put_row-requires
put_row-requires c =
    let a = c.args in
    let e = c.requires.0 in record { le_m = (wide a.file.now a.s e, narrow a.file.now a.s e); each = subst (Each (2 ^ a.s.m)) (sym c.write_permutation.ensures) (permutation_each a.file.now a.s e); m_in_bounds = omega (arith, c.put_head.auto, c.requires.1) }

pub shape_of-out : goal.shape_of-out
shape_of-out c = omega (arith, c.put_row.auto, c.put_head.auto)

pub returns : goal.returns
returns c =
    let a = c.args in
    c.put_row.ensures
    ∙ ap (λ (o : List ℕ). sets o (9 + 2 * a.s.t) (pack (control_bits a.s.m (take (2 ^ a.s.m) c.write_permutation.new.values)))) c.put_head.ensures
    ∙ network-written a.file.now a.s c.requires.0 c.write_g.new.g c.write_permutation.new.values
    c.write_g.ensures c.write_permutation.ensures a.out.now
