-- State bytes. Assumes nothing.
use Prim.Native.Nat.{ℕ, zero, suc}
use mathlib.Core.Path.{◌≡◌, refl}
use mathlib.Core.Bool.{not}
use native.Mathlib.Omega.{arith}
use lib.Dec.{eqb, ltb}
use borrow.Author.Tests.{ne_eqb, lt-ltb}
use Rattle.ledger.specs.Slot.{is_empty, is_unpublished}
use Rattle.slot.specs.Replies.{state_of}

pub empty_byte : (b : ℕ) → eqb b 0 ≡ is_empty (state_of b)
unfolding state_of is_empty
empty_byte zero = refl
empty_byte (suc zero) = refl
empty_byte (suc (suc b)) = ne_eqb (suc (suc b)) 0 (λ e. omega arith)

pub published_byte : (b : ℕ) → ltb 1 b ≡ not (is_unpublished (state_of b))
unfolding state_of is_unpublished
published_byte zero = refl
published_byte (suc zero) = refl
published_byte (suc (suc b)) = lt-ltb 1 (suc (suc b)) (omega arith)
