-- The file is checked, then there is room or not. Assumes nothing.
use mathlib.Core.Path.{sym, ap, ◌∙◌}
use native.Mathlib.Omega.{arith}
use Rattle.key.specs.Answers.{answer_number}
use Rattle.key_file.proofs.Files.{shape_refused}
use Rattle.network_key.specs.Converting.{into_network, converted, way_conditions}
use Rattle.completion.proofs.Permutation.{none, narrow}
use Rattle.network_writing.proofs.Whole.{wide, network-size}
use Rattle.converting.proofs.Ways.{convert_refused, convert_short, convert_written}
use Rattle.converting.proofs.to_network.Goals as goal

pub returns-in_default : goal.returns-in_default
unfolding way_conditions answer_number
returns-in_default c =
    let t = c.in_default.is in
    let r = shape_refused _ (sym c.shape-a.ensures ∙ t) in
    let e = c.number.ensures ∙ ap answer_number t ∙ r.0 in
    let both = convert_refused into_network _ _ e (λ z. r.1 (sym e ∙ z)) in
    record { answer = both.0; output = both.1 }

pub network_length-length-requires : goal.network_length-length-requires
network_length-length-requires c =
    let e = sym c.shape-a.ensures ∙ c.in-Sizes.is in
    let w = wide _ _ e in
    (omega arith, narrow _ _ e)

pub returns-then-out-length : goal.returns-then-out-length
unfolding way_conditions converted
returns-then-out-length c =
    let e = sym c.shape-a.ensures ∙ c.in-Sizes.is in
    let both = convert_short into_network _ _ (none _ _ e) (c.network_length-length.ensures ∙ sym (network-size _ _ e)) c.if-out-length.true in
    record { answer = both.0; output = both.1 }

pub put_network-requires : goal.put_network-requires
put_network-requires c = (sym c.shape-a.ensures ∙ c.in-Sizes.is, omega (arith, c.network_length-length.ensures, c.if-out-length.false))

pub returns : goal.returns
unfolding way_conditions converted
returns c =
    let e = sym c.shape-a.ensures ∙ c.in-Sizes.is in
    let q = convert_written into_network _ _ (none _ _ e) (c.network_length-length.ensures ∙ sym (network-size _ _ e)) c.if-out-length.false in
    record { answer = q.0; output = c.put_network.ensures ∙ q.1 }
