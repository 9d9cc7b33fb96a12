-- g stands as behind a support of no elements. Assumes nothing.
use mathlib.Core.Path.{◌∙◌}
use Rattle.network_file.proofs.Files.{g_array}
use Rattle.network_file.proofs.put_g.Goals as goal

pub returns : goal.returns
returns c = c.write_g.ensures ∙ g_array _ c.args.s c.requires
