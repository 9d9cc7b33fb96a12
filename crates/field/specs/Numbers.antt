-- Refusal numbers, in the order in which document 01 lists a call's conditions. Assumes nothing.
use Rattle.std.specs.Prelude.{ℕ, Bool, true, false, cond, List, [], ◌∷◌}

-- the number of the first condition that holds, and 0, accepted, where none does
unfoldable pub first_of : List (Bool × ℕ) → ℕ
first_of [] = 0
first_of (c ∷ cs) = let rest : ℕ = first_of cs in cond c.0 c.1 rest

-- the condition with the number n holds, and none before it does
pub data First : List (Bool × ℕ) → ℕ → Type 0 where
  holds : {n : ℕ} {cs : List (Bool × ℕ)} → First ((true, n) ∷ cs) n
  later : {k n : ℕ} {cs : List (Bool × ℕ)} → First cs n → First ((false, k) ∷ cs) n

-- no condition holds
pub data Clear : List (Bool × ℕ) → Type 0 where
  end : Clear []
  later : {k : ℕ} {cs : List (Bool × ℕ)} → Clear cs → Clear ((false, k) ∷ cs)
