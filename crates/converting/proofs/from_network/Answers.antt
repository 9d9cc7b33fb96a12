-- The key is read, then there is room or not. Assumes nothing.
use mathlib.Core.Path.{sym, ap, ◌∙◌}
use lib.Seq.{sets}
use Rattle.key.specs.Answers.{answer_number}
use Rattle.network_key.specs.Converting.{out_of_network, way_conditions}
use Rattle.network_file.proofs.Files.{shape_accepted, shape_refused, shape_says, says_fit}
use Rattle.converting.proofs.Ways.{convert_refused, convert_short, convert_written}
use Rattle.converting.proofs.Networks.{old_length, old_file}
use Rattle.converting.proofs.from_network.Goals as goal

pub returns-in_default : goal.returns-in_default
unfolding way_conditions answer_number
returns-in_default c =
    let t = c.in_default.is in
    let r = shape_refused _ (sym c.read_key-a.ensures.answer ∙ t) in
    let e = c.number.ensures ∙ ap answer_number t ∙ r.0 in
    let both = convert_refused out_of_network _ _ e (λ z. r.1 (sym e ∙ z)) in
    record { answer = both.0; output = both.1 }

pub returns-then-out-length : goal.returns-then-out-length
unfolding way_conditions
returns-then-out-length c =
    let a = shape_accepted _ (sym c.read_key-a.ensures.answer ∙ c.in-Sizes.is) in
    let both = convert_short out_of_network _ _ a.0 (old_length _ a.1) c.if-out-length.true in
    record { answer = both.0; output = both.1 }

pub put-requires : goal.put-requires
put-requires c =
    let f = says_fit _ _ (shape_says _ (sym c.read_key-a.ensures.answer ∙ c.in-Sizes.is)) in
    (c.if-out-length.false, f.0, f.1)

pub returns : goal.returns
unfolding way_conditions
returns c =
    let r = c.read_key-a.ensures in
    let a = shape_accepted _ (sym r.answer ∙ c.in-Sizes.is) in
    let q = convert_written out_of_network _ _ a.0 (old_length _ a.1) c.if-out-length.false in
    record { answer = q.0; output = c.put.ensures ∙ ap (sets _ 0) (old_file _ a.1 (r.support a.0) (r.g a.0)) ∙ q.1 }
