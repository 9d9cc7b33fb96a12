-- The key and the mark, then the buffers. Assumes nothing.
use Prim.Native.Nat.{ℕ}
use mathlib.Core.Path.{ap, ◌∙◌}
use Rattle.field.specs.Numbers.{first_of}
use Rattle.field.specs.Verdicts.{verdict_of}
use Rattle.field.proofs.Verdicts.{verdict_accepted, verdict_refused}
use Rattle.key.specs.Kept.{kept}
use Rattle.code.specs.Publish.{capsule_bits}
use Rattle.reading.specs.Answers.{buffer_checks, open_checks}
use Rattle.reading.proofs.Refusals.{key_refused_lem, key_passed}
use Rattle.reading.proofs.calls.check_capsule.Goals as goal

pub returns-in_default : goal.returns-in_default
unfolding open_checks
returns-in_default c =
    let r = c.check_published-x.ensures in
    r ∙ ap verdict_of (key_refused_lem _ _ _ (verdict_refused _ r c.in_default.is))

pub returns : goal.returns
unfolding open_checks kept capsule_bits
returns c =
    let a = c.args in
    c.check_buffers.ensures
    ∙ ap (λ (k : ℕ). verdict_of (first_of (buffer_checks k a.n a.capsule.now a.len))) c.capsule_bits.ensures
    ∙ ap verdict_of (key_passed _ _ _ (verdict_accepted _ c.check_published-x.ensures c.in-Accepted.is))
