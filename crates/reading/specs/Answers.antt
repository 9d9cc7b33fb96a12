-- What the calls answer, and the terms of their private functions. Assumes nothing.
use Rattle.std.specs.Prelude.{Bool, cond, not, List, [], ◌∷◌, ◌++◌, ℕ, zero, suc, eqb, ltb, length}
use Rattle.bits.specs.Bits.{bytes_for, unpack, ones, filler_clear, row_written}
use Rattle.field.specs.declared.Verdict.{Verdict}
use Rattle.field.specs.declared.Verdict.TheVariants as verdicts
use Rattle.key.specs.Keys.{Key, unsound, reducible}
use Rattle.code.specs.Publish.{capsule_bits}
use Rattle.decoder.specs.Reading.{reading, opening}
use Rattle.decoder.specs.Calls.{found, open_number, read_number}
use Rattle.decoding.specs.declared.decoding.Found.{Found}
use Rattle.reading.specs.declared.calls.Answer.{Answer}
use Rattle.reading.specs.declared.calls.Answer.TheVariants as variants

-- the number of ones where the number is 0, else the refusal with that number
unfoldable pub answer_of : ℕ → ℕ → Answer
answer_of zero w = variants.Ones w
answer_of (suc x) w = variants.Refused (suc x)

-- what read and open answer; the ones are those of the pattern
unfoldable pub read_of : Key → List ℕ → List ℕ → Answer
read_of k word out = answer_of (read_number k word out) (ones (found (reading k (unpack k.n word))))

unfoldable pub open_of : Bool → Key → List ℕ → List ℕ → Answer
open_of unpublished k capsule out =
    answer_of (open_number unpublished k capsule out) (ones (found (opening k (unpack (capsule_bits k) capsule))))

-- 8, 9 for a row of k bits
unfoldable pub row_checks : ℕ → List ℕ → List (Bool × ℕ)
row_checks k row = (not (eqb (length row) (bytes_for k)), 8) ∷ (not (filler_clear k row), 9) ∷ []

-- and 10 for an output of len bytes for n bits
unfoldable pub buffer_checks : ℕ → ℕ → List ℕ → ℕ → List (Bool × ℕ)
buffer_checks k n row len = row_checks k row ++ ((ltb len (bytes_for n), 10) ∷ [])

-- 25, and these of a word
unfoldable pub read_checks : Key → List ℕ → ℕ → List (Bool × ℕ)
read_checks k word len = (unsound k, 25) ∷ buffer_checks k.n k.n word len

-- 25, 34, 24
unfoldable pub key_checks : Bool → Key → List (Bool × ℕ)
key_checks unpublished k = (unsound k, 25) ∷ (reducible k, 34) ∷ (unpublished, 24) ∷ []

-- and those of a capsule
unfoldable pub open_checks : Bool → Key → List ℕ → ℕ → List (Bool × ℕ)
open_checks unpublished k capsule len = key_checks unpublished k ++ buffer_checks (capsule_bits k) k.n capsule len

-- the answer where the verdict accepts, else its refusal
unfoldable pub answer_by : Verdict → Answer → Answer
answer_by verdicts.Accepted a = a
answer_by (verdicts.Refused x) a = variants.Refused x

-- by the verdict, the ones of a pattern that is found, or the refusal with the number x
unfoldable pub counted_of : ℕ → Found → Answer
counted_of x e = answer_by e.verdict (cond e.found (variants.Ones e.ones) (variants.Refused x))

-- what is written where the verdict accepts, else the output as it is
unfoldable pub written_by : Verdict → List ℕ → List ℕ → List ℕ
written_by verdicts.Accepted written out = written
written_by (verdicts.Refused x) written out = out

-- the pattern's n bits as a row from the output's start, where one is found
unfoldable pub given_of : ℕ → Found → List ℕ → List ℕ
given_of n e out = written_by e.verdict (cond e.found (row_written e.pattern 0 n out) out) out
