-- n / 8 and one more for a rest is (n + 7) / 8. Assumes nothing.
use borrow.Author.Rules.{rules}
use Rattle.bits.specs.Bits.{bytes_for}
use Rattle.bits.proofs.bytes_for.Goals as goal

pub returns : goal.returns
unfolding bytes_for
returns c = search rules
