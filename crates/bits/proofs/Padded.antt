-- A list written over another, or over zeros, place by place. Assumes nothing.
use mathlib.Core.Path.{◌≡◌, refl, sym, ap, ◌∙◌}
use mathlib.Core.List.{List, [], ◌∷◌, ◌++◌}
use Prim.Native.Nat.{ℕ, zero, suc, ◌+◌, ◌-◌, ◌≤◌, ◌<◌}
use native.Mathlib.Nat.{le_of_lt, sub-zero}
use native.Mathlib.Numerals.{add-one}
use native.Mathlib.Omega.{arith}
use lib.ListN.{length, get_or, take, drop, set, replicate, length-append, length-replicate, get_or-append}
use lib.Seq.{drop_at, drop-cons, set_at, take_at, take-suc, append_snoc, length-take-le}
use Rattle.bits.specs.Bits.{over, padded}
use Rattle.bits.proofs.Bits.{zeros_at}

-- over another list: the first i numbers, then one more
pub over-start : (l d : List ℕ) → d ≡ over (take 0 l) d
unfolding over
over-start l d = refl

over-take : (i : ℕ) (l d : List ℕ) → i ≤ length l → over (take i l) d ≡ take i l ++ drop i d
unfolding over
over-take i l d h = ap (λ (k : ℕ). take i l ++ drop k d) (length-take-le i l h)

pub over-next : (i : ℕ) (l d : List ℕ) → i < length l → i < length d → set (over (take i l) d) i (get_or l i 0) ≡ over (take (i + 1) l) d
over-next i l d h k =
    ap (λ (r : List ℕ). set r i (get_or l i 0)) (over-take i l d (le_of_lt h) ∙ ap (◌++◌ (take i l)) (drop-cons d i 0 k))
    ∙ set_at (take i l) (get_or d i 0) (drop (suc i) d) (get_or l i 0) i (length-take-le i l (le_of_lt h))
    ∙ sym (append_snoc (take i l) (get_or l i 0) (drop (suc i) d))
    ∙ ap (λ (r : List ℕ). r ++ drop (suc i) d) (sym (take-suc l i 0 h))
    ∙ sym (over-take (suc i) l d h)
    ∙ ap (λ (j : ℕ). over (take j l) d) (sym (add-one i))

-- n numbers over another list: they are its first, and the others stay
module _ (l out : List ℕ) (n : ℕ) (e : length l ≡ n) where
  pub over_first : take n (over l out) ≡ l
  unfolding over
  over_first = take_at l (drop (length l) out) n e

  pub over_rest : drop n (over l out) ≡ drop n out
  unfolding over
  over_rest = drop_at l (drop (length l) out) n e ∙ ap (λ (i : ℕ). drop i out) e

  pub over-at : (i : ℕ) → i < n → get_or (over l out) i 0 ≡ get_or l i 0
  unfolding over
  over-at i h = get_or-append l (drop (length l) out) 0 i (rw e h)

-- over zeros
pub drop_zeros : (n k : ℕ) → drop n (replicate {A = ℕ} k 0) ≡ replicate (k - n) 0
drop_zeros zero k = rw (sub-zero k)
drop_zeros (suc n) zero = let e : 0 - suc n ≡ zero = omega arith in rw e
drop_zeros (suc n) (suc k) = let e : suc k - suc n ≡ k - n = omega arith in rw e (drop_zeros n k)

pub over_zeros : (n : ℕ) (l : List ℕ) → over l (replicate n 0) ≡ padded n l
unfolding over padded
over_zeros n l = ap (◌++◌ l) (drop_zeros (length l) n)

module _ (n : ℕ) (l : List ℕ) where
  pub padded-start : replicate n 0 ≡ padded n (take 0 l)
  padded-start = over-start l (replicate n 0) ∙ over_zeros n (take 0 l)

  pub padded-next : (i : ℕ) → i < length l → i < n → set (padded n (take i l)) i (get_or l i 0) ≡ padded n (take (i + 1) l)
  padded-next i h k =
      let z : length {A = ℕ} (replicate n 0) ≡ n = length-replicate {A = ℕ} n 0 in
      ap (λ (r : List ℕ). set r i (get_or l i 0)) (sym (over_zeros n (take i l)))
      ∙ over-next i l (replicate n 0) h (omega arith)
      ∙ over_zeros n (take (i + 1) l)

  pub length-padded : length l ≤ n → length (padded n l) ≡ n
  unfolding padded
  length-padded h = omega (arith, length-append l (replicate (n - length l) 0), length-replicate {A = ℕ} (n - length l) 0)

  pub take-padded : (k : ℕ) → length l ≡ k → take k (padded n l) ≡ l
  unfolding padded
  take-padded k e = take_at l (replicate (n - length l) 0) k e

zeros_behind : (l : List ℕ) (n k : ℕ) → get_or (l ++ replicate n 0) k 0 ≡ get_or l k 0
zeros_behind [] n k = zeros_at n k
zeros_behind (x ∷ l) n zero = refl
zeros_behind (x ∷ l) n (suc k) = zeros_behind l n k

pub padded-at : (n : ℕ) (l : List ℕ) (k : ℕ) → get_or (padded n l) k 0 ≡ get_or l k 0
unfolding padded
padded-at n l k = zeros_behind l (n - length l) k
