-- The name, then the slot's call. Assumes nothing.
use mathlib.Core.Path.{refl, sym, ap, ◌∙◌}
use Rattle.ledger.specs.Publishing.{systematic, public_buffer}
use Rattle.ledger.specs.Calls.{publish, output_of}
use Rattle.field.specs.Verdicts.{verdict_of}
use Rattle.slot.specs.Replies.{Handed, handed}
use Rattle.slot.specs.declared.Slot.{Slot}
use Rattle.station.proofs.Picked.{slot_parts}
use Rattle.station.proofs.Named.{reply_unknown, output_unknown, publish_refused, publish_marked, output_known, free_known, same_rest}
use Rattle.station.proofs.Station.publish.Goals as goal

pub returns-then-not-is_name : goal.returns-then-not-is_name
unfolding output_of public_buffer
returns-then-not-is_name c =
    let a = c.args in
    let p = publish (systematic a.out.now a.work.now) in
    let k = sym c.is_name.ensures ∙ c.if-not-is_name.true in
    record { reply = c.refuse.ensures ∙ reply_unknown a.self a.name p k; output = output_unknown a.self a.name p k; workspace = refl }

pub returns-in_default : goal.returns-in_default
returns-in_default c =
    let a = c.args in
    let k = sym c.is_name.ensures ∙ c.if-not-is_name.false in
    let t = slot_parts a.name a.self c.byte.ensures c.byte-2.ensures c.number.ensures c.number-2.ensures c.places.ensures c.coefficients.ensures in
    let p = systematic a.out.now a.work.now in
    let h = ap (λ (s : Slot). handed s (publish p)) t in
    let v = c.publish-answer.ensures.answer ∙ ap (λ (r : Handed). verdict_of r.reply.refused) h in
    record {
      reply = c.refuse-in_default.ensures ∙ publish_refused a.self a.name p k v c.number-in_default.ensures c.in_default.is;
      output = c.publish-answer.ensures.output ∙ ap (λ (r : Handed). r.output) h ∙ output_known a.self a.name (publish p) k;
      workspace = same_rest _ _ (ap (λ (r : Handed). r.free) h ∙ free_known a.self a.name (publish p) k) c.publish-answer.ensures.workspace;
    }

pub returns : goal.returns
returns c =
    let a = c.args in
    let k = sym c.is_name.ensures ∙ c.if-not-is_name.false in
    let t = slot_parts a.name a.self c.byte.ensures c.byte-2.ensures c.number.ensures c.number-2.ensures c.places.ensures c.coefficients.ensures in
    let p = systematic a.out.now a.work.now in
    let h = ap (λ (s : Slot). handed s (publish p)) t in
    let v = c.publish-answer.ensures.answer ∙ ap (λ (r : Handed). verdict_of r.reply.refused) h in
    record {
      reply = c.mark.ensures ∙ publish_marked a.self a.name p k v c.in-Accepted.is;
      output = c.publish-answer.ensures.output ∙ ap (λ (r : Handed). r.output) h ∙ output_known a.self a.name (publish p) k;
      workspace = same_rest _ _ (ap (λ (r : Handed). r.free) h ∙ free_known a.self a.name (publish p) k) c.publish-answer.ensures.workspace;
    }
