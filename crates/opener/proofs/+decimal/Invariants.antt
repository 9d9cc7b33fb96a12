-- The number itself falls: a tenth of it, then the last digit. Assumes nothing.
use Rattle.opener.proofs.+decimal.Given as goal

abbrev pub decreases-decimal : goal.decreases-decimal
decreases-decimal l = l.n
