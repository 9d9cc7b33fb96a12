-- `field_places::square_block` meets its contract. Assumes nothing.
use mathlib.Core.Path.{refl, ap, ◌∙◌}
use mathlib.Core.List.{List}
use Prim.Native.Nat.{ℕ}
use lib.ListN.{length, take}
use Rattle.bits.proofs.Padded.{take-padded}
use Rattle.field.proofs.Places.{horner_start}
use Rattle.field_places.proofs.Blocks.{block_whole}
use Rattle.field_places.proofs.square_block.Goals as goal

pub returns : goal.returns
returns c =
    let e = block_whole _ c.block-a.ensures c.requires in
    let v : List ℕ = c.args.v.now in
    c.horner_each.ensures
    ∙ horner_start c.args.m 0 v _ (ap (take (length v)) e ∙ take-padded 512 v (length v) refl)
