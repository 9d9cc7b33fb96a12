-- The station's call, with room for both buffers. Assumes nothing.
use mathlib.Core.Path.{refl}
use Rattle.recipients.specs.Names.{byte_of}
use Rattle.opener.specs.Report.{room}
use Rattle.opener.proofs.publish.Goals as goal

pub slice_bounds-publish-end : goal.slice_bounds-publish-end
slice_bounds-publish-end c = refl

pub slice_bounds-publish-end-2 : goal.slice_bounds-publish-end-2
slice_bounds-publish-end-2 c = refl

pub returns : goal.returns
unfolding room byte_of
returns c = c.publish.ensures.reply
