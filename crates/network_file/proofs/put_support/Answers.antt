-- Zeros, and the support over them. Assumes nothing.
use mathlib.Core.Path.{ap, ◌∙◌}
use mathlib.Core.List.{List, ◌++◌}
use Prim.Native.Nat.{ℕ, ◌+◌, ◌*◌}
use lib.ListN.{drop, replicate}
use Rattle.bits.proofs.Parts.{part_all}
use Rattle.network_key.specs.Files.{support_of}
use Rattle.network_file.proofs.Files.{says_fit, support_array}
use Rattle.network_file.proofs.put_support.Goals as goal

pub slice_bounds-row-count : goal.slice_bounds-row-count
slice_bounds-row-count c = let f = says_fit c.args.file.now c.args.s c.requires in f.4

pub slice_bounds-row-start : goal.slice_bounds-row-start
slice_bounds-row-start c = let f = says_fit c.args.file.now c.args.s c.requires in f.4

pub fill_support-requires : goal.fill_support-requires
fill_support-requires c =
    let f = says_fit c.args.file.now c.args.s c.requires in
    (f.0, f.0, f.2, f.3)

pub returns : goal.returns
returns c =
    let z = c.args.s in
    c.fill_support.ensures
    ∙ ap (λ (row : List ℕ). support_of z.m z.n row ++ drop z.n (replicate 8192 0)) (part_all (9 + 2 * z.t) c.args.file.now)
    ∙ support_array _ z c.requires
