-- `boundary::as_element` meets its contract. Assumes nothing.
use mathlib.Core.Path.{sym, ap, ◌∙◌}
use Prim.Native.Nat.{ℕ}
use Rattle.field.specs.declared.Answer.{Answer}
use Rattle.boundary.specs.Boundary.{as_element}
use Rattle.boundary.proofs.as_element.Goals as goal

pub returns-in_default : goal.returns-in_default
unfolding as_element
returns-in_default c =
    let h = c.in_default.is in
    let e = c.element_number.ensures ∙ ap (λ (a : Answer). (as_element a).refused) h in
    ap (λ (x : ℕ). record { refused = x; value = 0 }) e ∙ sym (ap as_element h)

pub returns : goal.returns
unfolding as_element
returns c = sym (ap as_element c.in-Value.is)
