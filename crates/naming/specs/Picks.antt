-- Terms of contracts: whether a byte is a name, and the part that it picks. Assumes nothing.
use Rattle.std.specs.Prelude.{ℕ, Bool, cond, ◌||◌, eqb}

-- the byte is a name
unfoldable pub known : ℕ → Bool
known b = eqb b 1 || eqb b 2

-- of two parts, A's and B's: A's for 1, else B's
unfoldable pub pick : {X : Type 0} → ℕ → X → X → X
pick b x y = cond (eqb b 1) x y
