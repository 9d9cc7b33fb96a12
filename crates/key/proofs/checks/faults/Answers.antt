-- The numbers 4, 5 and 6, then 7. Assumes nothing.
use mathlib.Core.Path.{ap, ◌∙◌}
use Rattle.field.specs.Verdicts.{verdict_of}
use Rattle.field.proofs.Verdicts.{refuses, verdict_accepted, verdict_refused}
use Rattle.key.proofs.Order.{failed, passed, early_clear, fault_root, fault_none}
use Rattle.key.proofs.Conditions.{first-take}
use Rattle.key.proofs.checks.faults.Goals as goal

pub faults_but_roots-x-requires : goal.faults_but_roots-x-requires
faults_but_roots-x-requires c = (c.requires.0, c.requires.2)

pub returns-in_default : goal.returns-in_default
returns-in_default c = let e = c.faults_but_roots-x.ensures in e ∙ ap verdict_of (first-take 3 _ (verdict_refused _ e c.in_default.is))

pub no_root-requires : goal.no_root-requires
no_root-requires c = (c.requires.0, c.requires.1)

pub returns-then-not-no_root : goal.returns-then-not-no_root
returns-then-not-no_root c =
    let p = early_clear _ _ _ (verdict_accepted _ c.faults_but_roots-x.ensures c.in-Accepted.is) in
    refuses (fault_root _ _ _ p.0 p.1 p.2 p.3 (failed c.no_root.ensures c.if-not-no_root.true))

pub returns : goal.returns
returns c =
    let r = c.faults_but_roots-x.ensures in
    let z = verdict_accepted _ r c.in-Accepted.is in
    let p = early_clear _ _ _ z in
    r ∙ ap verdict_of (z ∙ fault_none _ _ _ p.0 p.1 p.2 p.3 (passed c.no_root.ensures c.if-not-no_root.false))
