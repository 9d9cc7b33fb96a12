-- The checks before 23, then T. Assumes nothing.
use mathlib.Core.Path.{refl, sym, ap, ◌∙◌}
use Rattle.field.specs.Verdicts.{verdict_of}
use Rattle.field.proofs.Verdicts.{verdict_accepted, verdict_refused}
use Rattle.key.specs.Kept.{kept, parts}
use Rattle.publishing.proofs.ChecksWithin.{number_refused, output_refused, number-made, output_made, free_made}
use Rattle.small_publishing.proofs.publish_small.Goals as goal

pub returns-in_default : goal.returns-in_default
returns-in_default c =
    let a = c.args in
    let k = parts a.m a.n a.t a.support.now a.g.now in
    let r = c.check-x.ensures in
    let n = verdict_refused _ r c.in_default.is in
    let e = number_refused _ (kept k) a.out.now a.work.now n in
    record { answer = r ∙ ap verdict_of e; output = output_refused _ (kept k) a.out.now a.work.now (λ z. n (e ∙ z)); workspace = refl }

pub make-requires : goal.make-requires
make-requires c = verdict_accepted _ c.check-x.ensures c.in-Accepted.is

pub returns : goal.returns
returns c =
    let a = c.args in
    let k = parts a.m a.n a.t a.support.now a.g.now in
    let m = c.make in
    let clear = verdict_accepted _ c.check-x.ensures c.in-Accepted.is in
    record {
      answer = m.ensures.answer ∙ ap verdict_of (sym (number-made _ (kept k) a.out.now a.work.now clear));
      output = m.ensures.output ∙ output_made _ (kept k) a.out.now a.work.now clear;
      workspace = free_made _ (kept k) a.out.now a.work.now clear m.new.work m.ensures.rest;
    }
