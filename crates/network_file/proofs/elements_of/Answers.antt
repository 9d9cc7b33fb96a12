-- What the network sends out, then reversed. Assumes nothing.
use mathlib.Core.Path.{ap, ◌∙◌}
use mathlib.Core.List.{map}
use Rattle.network_key.specs.Files.{reversed}
use Rattle.network_file.proofs.Digits.{support_reversed}
use Rattle.network_file.proofs.elements_of.Goals as goal

pub returns : goal.returns
returns c =
    let a = c.args in
    c.reverse_each.ensures ∙ ap (map (reversed a.m)) c.send.ensures ∙ support_reversed a.m _ a.row.now
