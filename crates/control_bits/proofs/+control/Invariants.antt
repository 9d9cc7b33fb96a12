-- The width falls. Assumes nothing.
use Rattle.control_bits.proofs.+control.Given as goal

abbrev pub decreases-control : goal.decreases-control
decreases-control l = l.k
