-- The definitions at small permutations, against the standard's bits.
use mathlib.Core.Path.{◌≡◌, refl}
use mathlib.Core.List.{List, [], ◌∷◌}
use Prim.Native.Nat.{ℕ, zero, suc, ◌+◌, ◌*◌}
use lib.ListN.{get_or}
use native.Mathlib.Decide.{dec_lt, ℕ_discrete}
use Rattle.network.specs.Network.{pairs, exchange, sent, network, it, low, cyc, first, last, middle, middle⁻, part, bits, seek, control_bit}

row : (ℕ → ℕ) → ℕ → ℕ → List ℕ
row f i zero = []
row f i (suc k) = f i ∷ row f (suc i) k

four : row (control_bit 1 (2 ∷ 0 ∷ 3 ∷ 1 ∷ [])) 0 6 ≡ 0 ∷ 1 ∷ 0 ∷ 1 ∷ 1 ∷ 0 ∷ []
unfolding row dec_lt ℕ_discrete pairs exchange sent network it low cyc first last middle middle⁻ part bits seek control_bit
four = refl

eight : row (control_bit 2 (5 ∷ 2 ∷ 7 ∷ 0 ∷ 1 ∷ 6 ∷ 4 ∷ 3 ∷ [])) 0 20 ≡ 0 ∷ 0 ∷ 0 ∷ 0 ∷ 0 ∷ 0 ∷ 0 ∷ 0 ∷ 0 ∷ 1 ∷ 0 ∷ 1 ∷ 1 ∷ 0 ∷ 1 ∷ 0 ∷ 1 ∷ 1 ∷ 1 ∷ 0 ∷ []
unfolding row dec_lt ℕ_discrete pairs exchange sent network it low cyc first last middle middle⁻ part bits seek control_bit
eight = refl

out : row (network 2 (λ l j. get_or (0 ∷ 0 ∷ 0 ∷ 0 ∷ 0 ∷ 0 ∷ 0 ∷ 0 ∷ 0 ∷ 1 ∷ 0 ∷ 1 ∷ 1 ∷ 0 ∷ 1 ∷ 0 ∷ 1 ∷ 1 ∷ 1 ∷ 0 ∷ []) (4 * l + j) 0)) 0 8 ≡ 5 ∷ 2 ∷ 7 ∷ 0 ∷ 1 ∷ 6 ∷ 4 ∷ 3 ∷ []
unfolding row dec_lt ℕ_discrete pairs exchange sent network it low cyc first last middle middle⁻ part bits seek control_bit
out = refl
