-- A search over all lists of n bits. Assumes nothing.
use Rattle.std.specs.Prelude.{ℕ, zero, suc, Bool, cond, List, ◌∷◌}
use Rattle.std.proofs.Math.Option.{Option, none, some}

-- the first, or the second where it is none
unfoldable pub or_else : Option (List ℕ) → Option (List ℕ) → Option (List ℕ)
or_else none o = o
or_else (some x) o = some x

-- the first list of n bits on top of e for which p holds; the zeros come first
unfoldable pub first_row : (List ℕ → Bool) → ℕ → List ℕ → Option (List ℕ)
first_row p zero e = cond (p e) (some e) none
first_row p (suc n) e = let others : Option (List ℕ) = first_row p n (1 ∷ e) in or_else (first_row p n (0 ∷ e)) others
