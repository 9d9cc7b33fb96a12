-- A sum with its weights worked out by itself. Assumes nothing.
use Rattle.std.specs.Prelude.{ℕ, cond, List, map, eqb}
use Rattle.field.specs.Field.{inv}
use Rattle.field.specs.Answers.{inverse_number}
use Rattle.field.specs.Verdicts.{verdict_of}
use Rattle.field.specs.Poly.{horner_each}
use Rattle.poly.specs.Polynomials.{sum}
use Rattle.reading.specs.declared.calls.Answer.{Answer}
use Rattle.reading.specs.declared.calls.Answer.TheVariants.{Ones, Refused}
use Rattle.bench_calls.specs.declared.sums.Sum.{Sum}

-- the sum of x / v² for each v of a list and x of p; on refusal 0, with 1 where m is no width, 32 where the m low digits of a v are 0
unfoldable pub sum_by_squares : ℕ → List ℕ → List ℕ → Sum
sum_by_squares m v p =
    let h : List ℕ = map (inv m) v in
    let x : ℕ = inverse_number m v in
    record { verdict = verdict_of x; value = cond (eqb x 0) (sum (horner_each m 0 (horner_each m 0 h h) p)) 0 }

-- the number of a refusal, and 0 where there is none
unfoldable pub refusal_of : Answer → ℕ
refusal_of (Ones w) = 0
refusal_of (Refused x) = x
