-- The header decides, then the elements. Assumes nothing.
use mathlib.Core.Path.{◌∙◌}
use Rattle.field.proofs.Verdicts.{verdict_accepted, verdict_taken}
use Rattle.key.proofs.Conditions.{first-take}
use Rattle.network_file.proofs.Files.{arrays_decide, network_refused, network-sizes, head_accepted}
use Rattle.network_file.proofs.read_key.Goals as goal

pub returns-in_default : goal.returns-in_default
returns-in_default c = let t = verdict_taken _ c.header-x.ensures c.in_default.is c.number.ensures in record { answer = network_refused _ (t.0 ∙ first-take 4 _ (λ z. t.1 (t.0 ∙ z))) t.1; support = (λ z. absurd (t.1 (t.0 ∙ head_accepted _ z))); g = (λ z. absurd (t.1 (t.0 ∙ head_accepted _ z))) }

pub put_support-requires : goal.put_support-requires
put_support-requires c = (verdict_accepted _ c.header-x.ensures c.in-Accepted.is, c.sizes-z.ensures)

pub put_g-requires : goal.put_g-requires
put_g-requires c = (verdict_accepted _ c.header-x.ensures c.in-Accepted.is, c.sizes-z.ensures)

pub returns-in_default-y : goal.returns-in_default-y
returns-in_default-y c =
    let v = arrays_decide _ _ (verdict_accepted _ c.header-x.ensures c.in-Accepted.is, c.sizes-z.ensures)
    c.check-y.ensures c.put_support.ensures c.put_g.ensures in
    let t = verdict_taken _ v c.in_default-y.is c.number-in_default-y.ensures in
    record { answer = network_refused _ t.0 t.1; support = (λ q. absurd (t.1 (t.0 ∙ q))); g = (λ q. absurd (t.1 (t.0 ∙ q))) }

pub returns : goal.returns
returns c =
    let v = arrays_decide _ _ (verdict_accepted _ c.header-x.ensures c.in-Accepted.is, c.sizes-z.ensures)
    c.check-y.ensures c.put_support.ensures c.put_g.ensures in
    record { answer = network-sizes _ c.sizes-z.ensures (verdict_accepted _ v c.in-Accepted-y.is); support = (λ q. c.put_support.ensures); g = (λ q. c.put_g.ensures) }
