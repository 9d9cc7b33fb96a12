-- What marked reading answers, and the checks in their order. Assumes nothing.
use Rattle.std.specs.Prelude.{Bool, not, List, [], ◌∷◌, ◌++◌, ℕ, ltb}
use Rattle.bits.specs.Bits.{bytes_for, unpack, well_formed}
use Rattle.key.specs.Keys.{Key, unsound}
use Rattle.decoder.specs.Calls.{found}
use Rattle.reading.specs.declared.calls.Answer.{Answer}
use Rattle.reading.specs.Answers.{answer_of, row_checks}
use Rattle.marks.specs.Marked.{differences, marked_reading, marked_number}

-- d where the number is 0, else the refusal with that number
unfoldable pub marked_of : Key → List ℕ → List ℕ → List ℕ → Answer
marked_of k word marks out =
    answer_of (marked_number k word marks out)
    (differences (unpack k.n marks) (found (marked_reading k (unpack k.n word) (unpack k.n marks))))

-- 8, 9, 37, 10 for a word of n bits, its marks and an output of len bytes
unfoldable pub rows_checks : ℕ → List ℕ → List ℕ → ℕ → List (Bool × ℕ)
rows_checks n word marks len = row_checks n word ++ ((not (well_formed n marks), 37) ∷ (ltb len (bytes_for n), 10) ∷ [])

-- and 25 before them
unfoldable pub marked_checks : Key → List ℕ → List ℕ → ℕ → List (Bool × ℕ)
marked_checks k word marks len = (unsound k, 25) ∷ rows_checks k.n word marks len
