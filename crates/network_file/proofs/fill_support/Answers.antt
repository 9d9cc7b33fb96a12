-- The first n numbers are lent. Assumes nothing.
use mathlib.Core.Path.{sym, ap, ◌∙◌}
use mathlib.Core.List.{List, ◌++◌}
use Prim.Native.Nat.{ℕ}
use native.Mathlib.Omega.{arith}
use lib.ListN.{drop}
use lib.Seq.{length-take-le}
use Rattle.network_key.specs.Files.{support_of}
use Rattle.network_file.proofs.fill_support.Goals as goal

pub slice_bounds-elements_of-end-2 : goal.slice_bounds-elements_of-end-2
slice_bounds-elements_of-end-2 c = let a = c.args in sym (length-take-le a.n a.out.now (omega arith))

pub elements_of-requires : goal.elements_of-requires
elements_of-requires c =
    let e = length-take-le c.args.n c.args.out.now c.requires.0 in
    (c.requires.2, c.requires.3, omega arith)

pub returns : goal.returns
returns c =
    let a = c.args in
    ap (λ (l : List ℕ). l ++ drop a.n a.out.now)
    (c.elements_of.ensures ∙ ap (λ (i : ℕ). support_of a.m i a.row.now) (length-take-le a.n a.out.now c.requires.0))
