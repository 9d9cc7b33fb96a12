-- The number of what is answered. Assumes nothing.
use mathlib.Core.Path.{◌∙◌}
use Rattle.bench_calls.proofs.Powers.{refusal_read}
use Rattle.bench_calls.proofs.bench_read_afresh.Goals as goal

pub returns : goal.returns
returns c =
    let r = c.read_afresh.ensures in
    record { number = c.refusal.ensures ∙ refusal_read _ _ _ r.answer; output = r.output }
