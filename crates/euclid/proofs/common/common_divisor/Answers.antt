-- `euclid::common::common_divisor` meets its contract. Assumes nothing.
use mathlib.Core.Path.{sym, ap, ◌∙◌, subst}
use Prim.Native.Nat.{◌+◌, ◌*◌, ◌≤◌}
use Rattle.euclid.specs.declared.common.Pair.{Pair}
use Rattle.euclid.specs.Euclid.{started, steps}
use Rattle.euclid.proofs.Size.{started_fit}
use Rattle.euclid.proofs.Answers.{accepted-parts, divisor_not_a, divisor_not_b, divisor_found}
use Rattle.euclid.proofs.Elements.{OfElements, started-elements}
use Rattle.euclid.proofs.common.common_divisor.Goals as goal

pub returns-then-not-accepted : goal.returns-then-not-accepted
returns-then-not-accepted c = sym (divisor_not_a _ _ _ (sym c.accepted.ensures ∙ c.if-not-accepted.true))

pub returns-then-not-accepted-2 : goal.returns-then-not-accepted-2
returns-then-not-accepted-2 c = sym (divisor_not_b _ _ _ (sym c.accepted.ensures ∙ c.if-not-accepted.false) (sym c.accepted-2.ensures ∙ c.if-not-accepted-2.true))

pub start-requires : goal.start-requires
start-requires c =
    let a = accepted-parts _ _ (sym c.accepted.ensures ∙ c.if-not-accepted.false) in
    let b = accepted-parts _ _ (sym c.accepted-2.ensures ∙ c.if-not-accepted-2.false) in
    (a.1, b.1)

pub steps-p-requires : goal.steps-p-requires
steps-p-requires c =
    let ea = sym c.accepted.ensures ∙ c.if-not-accepted.false in
    let eb = sym c.accepted-2.ensures ∙ c.if-not-accepted-2.false in
    let a = accepted-parts _ _ ea in
    let m = c.args.m in
    let f = started_fit _ _ a.1 (accepted-parts _ _ eb).1 in
    let e = started-elements m _ _ ea eb in
    let g = subst (λ (p : Pair). ((p.da ≤ 129) × (p.db ≤ 129)) × OfElements m p) (sym c.start.ensures) (f, e) in
    (a.0, g.0.0, g.0.1, g.1.0, g.1.1)

pub returns : goal.returns
unfolding started
returns c =
    let args = c.args in
    let a = sym c.accepted.ensures ∙ c.if-not-accepted.false in
    let b = sym c.accepted-2.ensures ∙ c.if-not-accepted-2.false in
    ap (λ (q : Pair). record { length = q.da; c = q.a })
    (c.steps-p.ensures ∙ ap (λ (p : Pair). steps args.m (p.da + 2 * p.db) p) c.start.ensures)
    ∙ sym (divisor_found args.m args.a.now args.b.now a b)
