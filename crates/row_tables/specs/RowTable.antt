-- The multiples of a row's coefficients, and a multiple of the row added to another as a sum of them. Assumes nothing.
use Rattle.std.specs.Prelude.{ℕ, ◌+◌, ◌-◌, ◌*◌, ◌/◌, ◌%◌, ◌^◌, cond, List, map, eqb, ltb, length, get_or}
use Rattle.bits.specs.Xor.{◌⊕◌}
use Rattle.bits.specs.Bits.{from, each_with}
use Rattle.field.specs.Field.{mul}

-- what row q multiplies by: the numbers of four digits, then those of the three digits from 4, from 7 and from 10 on
unfoldable pub factor_at : ℕ → ℕ
factor_at q = cond (ltb q 16) q (q % 8 * 2 ^ (3 * (q / 8) - 2))

-- a row of 128 for each factor; 0 past the coefficients
unfoldable pub table_of : ℕ → List ℕ → List ℕ
table_of m a = map (λ x. mul m (get_or a (x % 128) 0) (factor_at (x / 128))) (from 0 5120)

-- over a list of as many numbers; a list of another length stays as it is
unfoldable pub table_in : ℕ → List ℕ → List ℕ → List ℕ
table_in m a l = cond (eqb (length l) 5120) (table_of m a) l

-- row q in column i
unfoldable pub entry_at : List ℕ → ℕ → ℕ → ℕ
entry_at t q i = get_or t (128 * q + i) 0

-- the entries in column i for the 13 low digits of c, added
unfoldable pub combination : List ℕ → ℕ → ℕ → ℕ
combination t i c = entry_at t (c % 16) i ⊕ entry_at t (16 + c / 16 % 8) i ⊕ entry_at t (24 + c / 128 % 8) i ⊕ entry_at t (32 + c / 1024 % 8) i

-- they are added at each of the first 128 places
unfoldable pub add_multiple : List ℕ → ℕ → List ℕ → List ℕ
add_multiple t c r = each_with (λ x i. x ⊕ combination t i c) r (from 0 128)
