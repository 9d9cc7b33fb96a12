-- `divide` meets its contract. Assumes nothing.
use mathlib.Core.Path.{ap, ◌∙◌}
use mathlib.Core.List.{map}
use Prim.Native.Nat.{ℕ}
use native.Mathlib.Omega.{arith}
use Rattle.field.specs.Field.{mul}
use Rattle.field.proofs.Units.{inverse_given, inverse_not_refused}
use Rattle.irreducible.proofs.Rows.{horner_multiple}
use Rattle.irreducible.proofs.independence.divide.Goals as goal

pub returns-in_default : goal.returns-in_default
returns-in_default c = absurd (inverse_not_refused c.args.m _ c.requires.0 c.requires.3 c.inverse-i.ensures c.in_default.is)

pub returns : goal.returns
returns c =
    let a = c.args in
    c.horner_each.ensures ∙ horner_multiple a.m _ c.requires.0 128 a.w.now (omega arith) ∙ ap (λ (x : ℕ). map (mul a.m x) a.w.now) (inverse_given a.m _ c.inverse-i.ensures c.in-Value.is)
