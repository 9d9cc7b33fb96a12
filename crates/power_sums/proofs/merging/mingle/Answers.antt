-- `power_sums::merging::mingle` meets its contract. Assumes nothing.
use mathlib.Core.Path.{◌≡◌, sym, ap, ◌∙◌}
use Prim.Native.Nat.{ℕ}
use native.Mathlib.Omega.{arith}
use mathlib.Core.List.{List}
use lib.ListN.{length, take, drop}
use borrow.Author.Rules.{rules}
use Rattle.field_places.proofs.Blocks.{block_first}
use Rattle.power_sums.specs.Sums.{zip}
use Rattle.power_sums.proofs.merging.mingle.Goals as goal

pub slice_bounds-t-end : goal.slice_bounds-t-end
slice_bounds-t-end c = let e : length c.block-t.result ≡ 512 = search rules in omega arith

pub slice_bounds-weave-end : goal.slice_bounds-weave-end
slice_bounds-weave-end c = sym (ap length (block_first _ c.args.c.now c.requires.0 (omega (arith, c.requires.1)) c.block-t.ensures) ∙ c.requires.0)

pub weave-requires : goal.weave-requires
weave-requires c = (ap length (block_first _ c.args.c.now c.requires.0 (omega (arith, c.requires.1)) c.block-t.ensures) ∙ c.requires.0, c.requires.0)

pub returns : goal.returns
returns c =
    let a = c.args in
    let e = block_first _ a.c.now c.requires.0 (omega (arith, c.requires.1)) c.block-t.ensures in
    c.weave.ensures ∙ ap (λ (l : List ℕ). zip (take a.h l) (drop a.h l)) e
