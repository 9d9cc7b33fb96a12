-- What a check answers, from the number of its first condition that holds, and the number back. Assumes nothing.
use Rattle.std.specs.Prelude.{ℕ, zero, suc}
use Rattle.field.specs.declared.Verdict.{Verdict}
use Rattle.field.specs.declared.Verdict.TheVariants.{Accepted, Refused}

-- accepted where the number is 0, else the refusal with that number
unfoldable pub verdict_of : ℕ → Verdict
verdict_of zero = Accepted
verdict_of (suc n) = Refused (suc n)

-- the number of a refusal, and 0 where it is accepted
unfoldable pub number_of : Verdict → ℕ
number_of Accepted = 0
number_of (Refused n) = n
