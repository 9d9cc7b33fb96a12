-- `euclid::common::multiple` meets its contract. Assumes nothing.
use mathlib.Core.Path.{◌≡◌, ◌∙◌}
use borrow.Author.Rules.{rules}
use lib.ListN.{length}
use Rattle.euclid.proofs.Coefficients.{horner_multiple}
use Rattle.euclid.proofs.common.multiple.Goals as goal

pub returns : goal.returns
returns c =
    let a = c.args in
    let size : length a.b ≡ 129 = search rules in
    c.horner_each.ensures ∙ horner_multiple a.m a.c c.requires 129 a.b size
