-- `field_places::selected` meets its contract. Assumes nothing.
use mathlib.Core.Path.{ap}
use Prim.Native.Nat.{ℕ, ◌*◌}
use lib.Bits.{and_mask}
use Rattle.field.proofs.Machine.{masked_lt}
use Rattle.field_places.proofs.selected.Goals as goal

pub overflow_mul-result : goal.overflow_mul-result
overflow_mul-result c = record { fits = masked_lt c.args.d c.ranges.v.fits }

pub returns : goal.returns
returns c = ap (λ (d : ℕ). d * c.args.v) (and_mask c.args.d 1)
