-- The name, then the slot's call, then the key in its place. Assumes nothing.
use mathlib.Core.Path.{sym, ap, ◌∙◌}
use Rattle.ledger.specs.Loading.{key_file}
use Rattle.ledger.specs.Calls.{load}
use Rattle.loading.specs.Forms.{loading_of}
use Rattle.slot.specs.Replies.{byte_of}
use Rattle.slot.specs.Parts.{keyless}
use Rattle.slot.proofs.Taken.{loaded_shape_lem}
use Rattle.station.specs.declared.Reply.{Reply}
use Rattle.station.proofs.Picked.{slot_state, written-first, written_second}
use Rattle.station.proofs.Named.{reply_unknown, load_refused, load_placed}
use Rattle.station.proofs.Station.put_load.Goals as goal

pub returns-then-not-is_name : goal.returns-then-not-is_name
returns-then-not-is_name c =
    let a = c.args in
    c.requires ∙ reply_unknown a.reply.now.station a.name (load (key_file a.file.now)) (sym c.is_name.ensures ∙ c.if-not-is_name.true)

pub returns-in_default : goal.returns-in_default
unfolding loading_of
returns-in_default c =
    let a = c.args in
    let k = sym c.is_name.ensures ∙ c.if-not-is_name.false in
    let h = c.byte.ensures ∙ slot_state a.name a.reply.now.station in
    ap (λ (q : Reply). record { station = q.station; refused = c.number-reply.result; ones = q.ones }) c.requires
    ∙ load_refused a.reply.now.station a.name k h (key_file a.file.now) c.load-answer.ensures c.number-reply.ensures c.in_default.is

pub returns-then-name-eq-A : goal.returns-then-name-eq-A
unfolding byte_of loading_of
returns-then-name-eq-A c =
    let a = c.args in
    let k = sym c.is_name.ensures ∙ c.if-not-is_name.false in
    let h = c.byte.ensures ∙ slot_state a.name a.reply.now.station in
    let z = loaded_shape_lem (keyless c.byte.result) (key_file a.file.now) (sym c.load-answer.ensures ∙ c.in-Sizes.is) in
    written-first a.name a.reply.now.station c.requires _ c.if-name-eq-A.true
    ∙ load_placed a.reply.now.station a.name k h (key_file a.file.now) c.load-answer.ensures c.in-Sizes.is (c.write_support.ensures z) (c.write_g.ensures z)

pub returns-else-name-eq-A : goal.returns-else-name-eq-A
unfolding byte_of loading_of
returns-else-name-eq-A c =
    let a = c.args in
    let k = sym c.is_name.ensures ∙ c.if-not-is_name.false in
    let h = c.byte.ensures ∙ slot_state a.name a.reply.now.station in
    let z = loaded_shape_lem (keyless c.byte.result) (key_file a.file.now) (sym c.load-answer.ensures ∙ c.in-Sizes.is) in
    written_second a.name a.reply.now.station c.requires _ c.if-name-eq-A.false
    ∙ load_placed a.reply.now.station a.name k h (key_file a.file.now) c.load-answer.ensures c.in-Sizes.is (c.write_support-else-name-eq-A.ensures z) (c.write_g-else-name-eq-A.ensures z)
