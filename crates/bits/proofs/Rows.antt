-- The sum of two rows, place by place. Assumes nothing.
use mathlib.Core.Path.{◌≡◌, refl, sym, ap, ◌∙◌}
use mathlib.Core.List.{List, [], ◌∷◌}
use Prim.Native.Nat.{ℕ, zero, suc, ◌/◌, ◌%◌, ◌^◌, ◌≤◌, ◌<◌}
use native.Mathlib.Nat.{suc_inj, suc-ne-zero, le_of_suc-le-suc, not-suc-le-zero}
use lib.ListN.{length, get_or, take, set, replicate}
use Rattle.bits.specs.Xor.{◌⊕◌}
use Rattle.bits.specs.Bits.{Row, end, off, on, bit_at, each_with, xor_row}
use Rattle.bits.proofs.Xor.{xor_comm, xor_assoc, xor_self, xor-zero, xor_shr, xor_mod}
use Rattle.bits.proofs.Each.{length-each_with, each_with-nil, each_with-suc, each_with-take}
use Rattle.bits.proofs.Lists.{cons_eq}

pub length-xor_row : (d s : List ℕ) → length (xor_row d s) ≡ length d
unfolding xor_row
length-xor_row = length-each_with ◌⊕◌

pub xor_row-nil : (d : List ℕ) → xor_row d [] ≡ d
unfolding xor_row
xor_row-nil = each_with-nil ◌⊕◌

pub xor_row-suc : (d s : List ℕ) (i : ℕ) → i < length s → i < length d
    → set (xor_row d (take i s)) i (get_or (xor_row d (take i s)) i 0 ⊕ get_or s i 0) ≡ xor_row d (take (suc i) s)
unfolding xor_row
xor_row-suc = each_with-suc ◌⊕◌

pub xor_row-take : (d s : List ℕ) (n : ℕ) → (n < length s → length d ≤ n) → xor_row d (take n s) ≡ xor_row d s
unfolding xor_row
xor_row-take = each_with-take ◌⊕◌

pub get_d_xor_row : (d s : List ℕ) (k : ℕ) → length s ≤ length d → get_or (xor_row d s) k 0 ≡ get_or d k 0 ⊕ get_or s k 0
unfolding xor_row each_with
get_d_xor_row [] [] k h = sym (xor_self 0)
get_d_xor_row [] (y ∷ s) k h = absurd (not-suc-le-zero h)
get_d_xor_row (x ∷ d) [] k h = sym (xor-zero (get_or (x ∷ d) k 0))
get_d_xor_row (x ∷ d) (y ∷ s) zero h = refl
get_d_xor_row (x ∷ d) (y ∷ s) (suc k) h = get_d_xor_row d s k (le_of_suc-le-suc h)

pub bit_xor_row : (d s : List ℕ) (i : ℕ) → length s ≤ length d → bit_at (xor_row d s) i ≡ bit_at d i ⊕ bit_at s i
unfolding bit_at
bit_xor_row d s i h =
    ap (λ (b : ℕ). b / 2 ^ (i % 8) % 2) (get_d_xor_row d s (i / 8) h)
    ∙ ap (◌% 2) (xor_shr (get_or d (i / 8) 0) (get_or s (i / 8) 0) (i % 8))
    ∙ xor_mod (get_or d (i / 8) 0 / 2 ^ (i % 8)) (get_or s (i / 8) 0 / 2 ^ (i % 8)) 1

-- the group's laws
pub xor_row_comm : (a b : List ℕ) → length a ≡ length b → xor_row a b ≡ xor_row b a
unfolding xor_row each_with
xor_row_comm [] [] e = refl
xor_row_comm [] (y ∷ b) e = absurd (suc-ne-zero (length b) (sym e))
xor_row_comm (x ∷ a) [] e = absurd (suc-ne-zero (length a) e)
xor_row_comm (x ∷ a) (y ∷ b) e = cons_eq (xor_comm x y) (xor_row_comm a b (suc_inj e))

pub xor_row_assoc : (a b c : List ℕ) → length a ≤ length b → xor_row (xor_row a b) c ≡ xor_row a (xor_row b c)
unfolding xor_row each_with
xor_row_assoc [] b c h = refl
xor_row_assoc (x ∷ a) [] c h = absurd (not-suc-le-zero h)
xor_row_assoc (x ∷ a) (y ∷ b) [] h = refl
xor_row_assoc (x ∷ a) (y ∷ b) (z ∷ c) h =
    cons_eq (xor_assoc x y z) (xor_row_assoc a b c (le_of_suc-le-suc h))

pub xor_row_self : (a : List ℕ) → xor_row a a ≡ replicate (length a) 0
unfolding xor_row each_with
xor_row_self [] = refl
xor_row_self (x ∷ a) = cons_eq (xor_self x) (xor_row_self a)

pub xor_row_zeros : (a : List ℕ) (n : ℕ) → xor_row a (replicate n 0) ≡ a
unfolding xor_row each_with
xor_row_zeros [] n = refl
xor_row_zeros (x ∷ a) zero = refl
xor_row_zeros (x ∷ a) (suc n) = cons_eq (xor-zero x) (xor_row_zeros a n)

pub xor_row_twice : (a b : List ℕ) → xor_row (xor_row a b) b ≡ a
unfolding xor_row each_with
xor_row_twice [] b = refl
xor_row_twice (x ∷ a) [] = refl
xor_row_twice (x ∷ a) (y ∷ b) =
    cons_eq (xor_assoc x y y ∙ ap (◌⊕◌ x) (xor_self y) ∙ xor-zero x) (xor_row_twice a b)

pub row_xor_row : {n : ℕ} {a b : List ℕ} → Row n a → Row n b → Row n (xor_row a b)
unfolding xor_row each_with ◌⊕◌
row_xor_row end end = end
row_xor_row (off a) (off b) = off (row_xor_row a b)
row_xor_row (off a) (on b) = on (row_xor_row a b)
row_xor_row (on a) (off b) = on (row_xor_row a b)
row_xor_row (on a) (on b) = off (row_xor_row a b)
