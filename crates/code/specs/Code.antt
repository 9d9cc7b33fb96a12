-- Document 01, 'Code and public key': the code and its parity-check matrix H. Assumes nothing.
use Rattle.std.specs.Prelude.{ℕ, ◌*◌, ◌/◌, ◌%◌, ◌^◌, Bool, List, map, eqb}
use Rattle.bits.specs.Bits.{from, every, dot}
use Rattle.field.specs.Field.{mul, power, inv}
use Rattle.key.specs.Keys.{Key, goppa_at}

-- α^s / g(α)
unfoldable pub entry : Key → ℕ → ℕ → ℕ
entry k s a = mul k.m (power k.m a s) (inv k.m (goppa_at k a))

-- c is in the code: for each s from 0 to t - 1 the sum over i of c_i·α_i^s / g(α_i) is 0
unfoldable pub in_code : Key → List ℕ → Bool
in_code k c = every (λ s. eqb (dot c (map (entry k s) k.support)) 0) (from 0 k.t)

-- row s·m + k of H: the bit of value 2^k in each α_j^s / g(α_j)
unfoldable pub parity_row : Key → ℕ → List ℕ
parity_row k r = map (λ a. entry k (r / k.m) a / 2 ^ (r % k.m) % 2) k.support

-- H, m·t rows of n bits
unfoldable pub parity_rows : Key → List (List ℕ)
parity_rows k = map (parity_row k) (from 0 (k.m * k.t))
