-- Assumes nothing.
use mathlib.Core.Path.{◌≡◌, sym, ◌∙◌, subst}
use Prim.Native.Nat.{ℕ, ◌≤◌}
use lib.ListN.{length}
use Rattle.completion.proofs.Permutation.{narrow, places, places_fit, completed_values, completed_each}
use borrow.Author.Rules.{rules}
use Rattle.completion.proofs.write_permutation.Goals as goal

pub reverse_first-requires : goal.reverse_first-requires
reverse_first-requires c =
    let a = c.args in
    let l : length c.write_support.new.support ≡ 8192 = search rules in
    (narrow a.file.now a.s c.requires, subst (λ (k : ℕ). a.s.n ≤ k) (sym l) (places_fit a.file.now a.s c.requires))

pub complete-requires : goal.complete-requires
complete-requires c =
    let a = c.args in (
      narrow a.file.now a.s c.requires,
      places a.file.now a.s c.requires,
      completed_each a.file.now a.s c.requires _ _ c.write_support.ensures c.reverse_first.ensures,
    )

pub returns : goal.returns
returns c =
    let a = c.args in
    c.complete.ensures
    ∙ completed_values a.file.now a.s c.requires _ _ c.write_support.ensures c.reverse_first.ensures
