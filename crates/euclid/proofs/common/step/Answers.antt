-- `euclid::common::step` meets its contract, by its three kinds. Assumes nothing.
use mathlib.Core.Path.{◌≡◌, sym, ap, ◌∙◌}
use mathlib.Core.Bool.{true}
use mathlib.Core.List.{List, map}
use Prim.Native.Nat.{ℕ, ◌-◌}
use lib.ListN.{get_or}
use Rattle.field.specs.Field.{mul}
use Rattle.field.specs.Answers.{is_unit}
use Rattle.field.proofs.Units.{inverse_given, inverse_not_refused}
use Rattle.euclid.specs.Euclid.{added, quotient}
use Rattle.euclid.proofs.Steps.{step-low, step_swap, step_reduce}
use Rattle.euclid.proofs.Elements.{leading_unit}
use Rattle.euclid.proofs.common.step.Goals as goal

pub returns-then-top-eq0 : goal.returns-then-top-eq0
returns-then-top-eq0 c = sym (step-low _ c.args.p c.if-top-eq0.true)

pub returns-then-da-db : goal.returns-then-da-db
returns-then-da-db c = sym (step_swap _ c.args.p c.if-top-eq0.false c.if-da-db.true)

pub returns-in_default : goal.returns-in_default
returns-in_default c =
    let m = c.args.m in
    let refused : is_unit m _ ≡ true → ⊥ = λ u. inverse_not_refused m _ c.requires.0 u c.inverse-i.ensures c.in_default.is in
    absurd (refused (leading_unit m c.args.p c.requires.4 c.if-top-eq0.false))

pub returns : goal.returns
returns c =
    let p = c.args.p in
    let m = c.args.m in
    let v = inverse_given m (get_or p.b (p.db - 1) 0) c.inverse-i.ensures c.in-Value.is in
    let q : c.times-c.result ≡ quotient m p = c.times-c.ensures ∙ ap (mul m (get_or p.a (p.da - 1) 0)) v in
    ap (λ (l : List ℕ). record { a = l; b = p.b; da = p.da - 1; db = p.db })
    (c.add_shifted.ensures
    ∙ ap (added (p.da - p.db) p.da p.a) (c.multiple.ensures ∙ ap (λ (x : ℕ). map (mul m x) p.b) q))
    ∙ sym (step_reduce m p c.if-top-eq0.false c.if-da-db.false)
