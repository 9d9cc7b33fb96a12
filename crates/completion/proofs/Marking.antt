-- The marks of a list's numbers. Assumes nothing.
use mathlib.Core.Path.{◌≡◌, refl, sym, ◌∙◌}
use mathlib.Core.Bool.{Bool, true, false, cond, not}
use mathlib.Core.List.{List, [], ◌∷◌}
use Prim.Native.Nat.{ℕ, ◌+◌, ◌/◌, ◌≤◌, ◌<◌}
use native.Mathlib.Numerals.{add-one}
use native.Mathlib.Decide.{ℕ_discrete}
use lib.Dec.{eqb}
use lib.ListN.{length, get_or, drop, drop_of_length-le}
use lib.Seq.{drop-cons}
use borrow.Author.Tests.{eq-eqb, ne_eqb}
use Rattle.bits.specs.Bits.{every, bit_at, set_bit}
use Rattle.bits.proofs.Bits.{length-set_bit, set_bit-same, set_bit_other}
use Rattle.completion.specs.Marks.{marked}

-- the numbers from i on are left
pub marked_next : (s row : List ℕ) (i : ℕ) → i < length s → marked (drop (i + 1) s) (set_bit row (get_or s i 0) 1) ≡ marked (drop i s) row
unfolding marked
marked_next s row i h = rw (add-one i, drop-cons s i 0 h)

pub marked_end : (s row : List ℕ) (i : ℕ) → length s ≤ i → marked (drop i s) row ≡ row
unfolding marked
marked_end s row i h = rw (drop_of_length-le s h)

pub length_marked : (s row : List ℕ) → length (marked s row) ≡ length row
unfolding marked
length_marked [] row = refl
length_marked (x ∷ s) row = length_marked s (set_bit row x 1) ∙ length-set_bit row x 1

-- the number v is not in the list
abbrev pub fresh : List ℕ → ℕ → Bool
fresh s v = every (λ x. not (eqb x v)) s

same : (b : Bool) → ◌≡◌ {A = ℕ} (cond b 1 1) 1
same true = refl
same false = refl

-- v's bit is as it was where the list has not v, and 1 where it has
pub marked-at : (s row : List ℕ) (v : ℕ) → v / 8 < length row → bit_at (marked s row) v ≡ cond (fresh s v) (bit_at row v) 1
unfolding marked every
marked-at [] row v h = refl
marked-at (x ∷ s) row v h =
    marked-at s (set_bit row x 1) v (rw (length-set_bit row x 1) h)
    ∙ elim (ℕ_discrete x v) [
      | yes e ↦ rw (e, eq-eqb v v refl, set_bit-same row v 1 h) (same (fresh s v))
      | no n ↦ rw (ne_eqb x v n, set_bit_other row x v 1 (λ e. n (sym e)))
    ]
