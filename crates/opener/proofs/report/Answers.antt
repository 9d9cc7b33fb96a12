-- The text of the key, or the lines. Assumes nothing.
use mathlib.Core.Path.{sym, ap, ◌∙◌}
use Rattle.opener.specs.Prepared.{slot_a, key_text, capsule_lines}
use Rattle.opener.specs.declared.KeyAnswer.{KeyAnswer}
use Rattle.opener.specs.declared.Ready.{Ready}
use Rattle.opener.proofs.Written.{same_printed}
use Rattle.opener.proofs.Stages.{text_other, report-parts}
use Rattle.opener.proofs.report.Goals as goal

pub returns-in_default : goal.returns-in_default
returns-in_default c =
    let p = c.prepare-ready in
    let a = c.args in
    let r = p.result in
    let e =
    report-parts a.file.now a.input.now
    ∙ ap (λ (y : Ready). key_text y.answer (capsule_lines (slot_a y.station) a.input.now)) (sym p.ensures)
    ∙ text_other r.answer (capsule_lines (slot_a r.station) a.input.now) c.in_default.not-Accepted in
    same_printed (sym e) c.key_text.ensures

pub returns : goal.returns
unfolding key_text
returns c =
    let p = c.prepare-ready in
    let a = c.args in
    let r = p.result in
    let e =
    report-parts a.file.now a.input.now
    ∙ ap (λ (y : Ready). key_text y.answer (capsule_lines (slot_a y.station) a.input.now)) (sym p.ensures)
    ∙ ap (λ (x : KeyAnswer). key_text x (capsule_lines (slot_a r.station) a.input.now)) c.in-Accepted.is in
    same_printed (sym e) c.open_lines.ensures
