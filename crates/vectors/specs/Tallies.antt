-- Agreements and differences of cases of several kinds. Assumes nothing.
use Rattle.std.specs.Prelude.{Bool, cond, List, ℕ, ◌+◌, ◌%◌, get_or, set, replicate}
use Rattle.vectors.specs.declared.tally.Tally.{Tally}

-- no case yet
unfoldable pub no_cases : Tally
no_cases = record { agree = replicate 16 0; differ = replicate 16 0 }

-- one more at k: right to 1,000,000
unfoldable pub one_more : List ℕ → ℕ → List ℕ
one_more l k = set l k (get_or l k 0 % 1000000 + 1)

-- one case more of a kind below 16
unfoldable pub counted_of : Tally → ℕ → Bool → Tally
counted_of t kind agrees =
    cond agrees
    (record { agree = one_more t.agree (kind % 16); differ = t.differ })
    (record { agree = t.agree; differ = one_more t.differ (kind % 16) })
