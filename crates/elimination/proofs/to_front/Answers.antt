-- The row is copied out, the rows before it are moved up, and the row is copied to the front. Assumes nothing.
use mathlib.Core.Path.{ap, ap₂, ◌∙◌}
use mathlib.Core.List.{List, ◌++◌}
use Prim.Native.Nat.{ℕ}
use lib.ListN.{take, drop, replicate}
use Rattle.bits.proofs.Parts.{part_all}
use Rattle.elimination.proofs.Flat.{front_put}
use Rattle.elimination.proofs.to_front.Goals as goal

pub returns : goal.returns
returns c =
    let a = c.args in
    let z : List ℕ = drop a.b (replicate 1024 0) in
    c.copy-2.ensures
    ∙ ap₂ (λ (t w : List ℕ). take a.b t ++ drop a.b w)
    (c.copy.ensures ∙ ap (λ (p : List ℕ). take a.b p ++ z) (part_all a.k a.w.now))
    c.move_up.ensures
    ∙ front_put a.k a.b a.w.now z c.requires.0
