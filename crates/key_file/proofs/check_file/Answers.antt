-- The header decides, then the elements. Assumes nothing.
use mathlib.Core.Path.{ap, ap₂, ◌∙◌}
use mathlib.Core.List.{List}
use Prim.Native.Nat.{ℕ}
use Rattle.field.specs.Verdicts.{verdict_of}
use Rattle.field.proofs.Verdicts.{verdict_accepted, verdict_refused}
use Rattle.key.specs.Keys.{key_number}
use Rattle.key.specs.Kept.{parts, kept}
use Rattle.key.proofs.Conditions.{first-take}
use Rattle.key_file.proofs.Files.{stored_decides}
use Rattle.key_file.proofs.check_file.Goals as goal

pub returns-in_default : goal.returns-in_default
returns-in_default c =
    let x = c.header-x.ensures in
    x ∙ ap verdict_of (first-take 3 _ (verdict_refused _ x c.in_default.is))

pub returns : goal.returns
returns c =
    let s = c.sizes-z.result in
    c.check.ensures
    ∙ ap₂ (λ (x y : List ℕ). verdict_of (key_number (kept (parts s.m s.n s.t x y)))) c.write_support.ensures c.write_g.ensures
    ∙ ap verdict_of (stored_decides _ (verdict_accepted _ c.header-x.ensures c.in-Accepted.is) s c.sizes-z.ensures)
