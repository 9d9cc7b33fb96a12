-- Document 01, 'Bench keys', and the last line of request L1: what the program prints, from the bytes of key.bin and of standard
-- input. Assumes nothing.
use Rattle.std.specs.Prelude.{Bool, cond, ◌||◌, List, [], ◌∷◌, ◌++◌, map, ℕ, zero, suc, ◌+◌, ◌-◌, ◌/◌, ◌%◌, eqb, ltb, length, get_or, take, replicate}
use Rattle.bits.specs.Bits.{unpack}
use Rattle.records.specs.Records.{capsules_of, occurrences}
use Rattle.ledger.specs.Slot.{Slot, fresh, Result}
use Rattle.ledger.specs.Loading.{key_file}
use Rattle.ledger.specs.Publishing.{systematic}
use Rattle.ledger.specs.Questions.{open_capsule}
use Rattle.ledger.specs.Calls.{load, publish, ask, step}

-- The words, in ASCII.

-- `key too large` and a newline
unfoldable pub too_large : List ℕ
too_large = 107 ∷ 101 ∷ 121 ∷ 32 ∷ 116 ∷ 111 ∷ 111 ∷ 32 ∷ 108 ∷ 97 ∷ 114 ∷ 103 ∷ 101 ∷ 10 ∷ []

-- `key refused `
unfoldable pub key_refused : List ℕ
key_refused = 107 ∷ 101 ∷ 121 ∷ 32 ∷ 114 ∷ 101 ∷ 102 ∷ 117 ∷ 115 ∷ 101 ∷ 100 ∷ 32 ∷ []

-- ` refused `
unfoldable pub refuses : List ℕ
refuses = 32 ∷ 114 ∷ 101 ∷ 102 ∷ 117 ∷ 115 ∷ 101 ∷ 100 ∷ 32 ∷ []

-- ` open`
unfoldable pub opens : List ℕ
opens = 32 ∷ 111 ∷ 112 ∷ 101 ∷ 110 ∷ []

-- `total `
unfoldable pub total_is : List ℕ
total_is = 116 ∷ 111 ∷ 116 ∷ 97 ∷ 108 ∷ 32 ∷ []

-- ` opened `
unfoldable pub are_opened : List ℕ
are_opened = 32 ∷ 111 ∷ 112 ∷ 101 ∷ 110 ∷ 101 ∷ 100 ∷ 32 ∷ []

unfoldable pub newline : List ℕ
newline = 10 ∷ []

-- the last k decimal digits of n, without leading zeros
unfoldable pub digits : ℕ → ℕ → List ℕ
digits zero n = []
digits (suc k) n = let front : List ℕ = digits k (n / 10) in cond (ltb n 10) [] front ++ ((48 + n % 10) ∷ [])

-- n in decimal: it has at most n + 1 digits
unfoldable pub decimal : ℕ → List ℕ
decimal n = digits (suc n) n

-- place i behind a blank, where its bit is one
unfoldable pub place : ℕ → ℕ → List ℕ
place zero i = []
place (suc b) i = 32 ∷ decimal i

-- the places of ones, rising, from i on
unfoldable pub places : ℕ → List ℕ → List ℕ
places i [] = []
places i (b ∷ e) = place b i ++ places (suc i) e

-- what follows the position: the pattern's places, or the number of a refusal
unfoldable pub answer : ℕ → List ℕ → List ℕ
answer zero e = opens ++ places 0 e
answer (suc n) e = refuses ++ decimal (suc n)

-- more bytes than T, its workspace or a pattern takes at m 4
unfoldable pub room : List ℕ
room = replicate 64 0

-- the line of the capsule at position p
unfoldable pub line : Slot → ℕ → List ℕ → List ℕ
line s p capsule =
    let r : Result = step s (ask (open_capsule capsule room)) in
    decimal p ++ (answer r.number (unpack s.key.n r.output) ++ newline)

-- the lines of the capsules from position p on
unfoldable pub lines : Slot → ℕ → List (List ℕ) → List ℕ
lines s p [] = []
lines s p (c ∷ cs) = line s p c ++ lines s (suc p) cs

-- the numbers with which the capsules are answered in their lines
unfoldable pub numbers : Slot → List (List ℕ) → List ℕ
numbers s capsules = map (λ c. (step s (ask (open_capsule c room))).number) capsules

-- of n capsules a are opened, the others refused
unfoldable pub total_line : ℕ → ℕ → List ℕ
total_line n a = (total_is ++ decimal n) ++ ((are_opened ++ decimal a) ++ ((refuses ++ decimal (n - a)) ++ newline))

-- the lines of a published slot, and how many of the capsules are opened
unfoldable pub opened : Slot → List ℕ → List ℕ
opened s input =
    let cs : List (List ℕ) = capsules_of s.key input in
    lines s 1 cs ++ total_line (length cs) (occurrences 0 (numbers s cs))

-- `key refused` and the number, where there is one
unfoldable pub unless_refused : ℕ → List ℕ → List ℕ
unless_refused zero text = text
unless_refused (suc n) text = (key_refused ++ decimal (suc n)) ++ newline

-- after publishing
unfoldable pub after_publish : Result → List ℕ → List ℕ
after_publish r input = unless_refused r.number (opened r.station input)

-- after loading
unfoldable pub after_load : Result → List ℕ → List ℕ
after_load r input = unless_refused r.number (after_publish (step r.station (publish (systematic room room))) input)

-- the width of a key file is 12 or 13
unfoldable pub large : List ℕ → Bool
large file = eqb (get_or file 0 0) 12 || eqb (get_or file 0 0) 13

-- the text for a key file and capsules
unfoldable pub whole : List ℕ → List ℕ → List ℕ
whole file input = cond (large file) too_large (after_load (step fresh (load (key_file file))) input)

-- of the file its first 4,096 bytes, of the input its first 65,536
unfoldable pub report : List ℕ → List ℕ → List ℕ
report file input = whole (take 4096 file) (take 65536 input)
