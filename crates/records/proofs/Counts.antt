-- How often a value stands in a list; the counts of the byte values, and their sum. Assumes nothing.
use mathlib.Core.Path.{◌≡◌, refl, sym, ap, ap₂, ◌∙◌}
use mathlib.Core.Bool.{Bool, true, false, cond}
use mathlib.Core.List.{List, [], ◌∷◌, ◌++◌, map}
use Prim.Native.Nat.{ℕ, zero, suc, ◌+◌, ◌≤◌, ◌<◌}
use native.Mathlib.Nat.{zero-add, add_assoc}
use native.Mathlib.Decide.{ℕ_discrete}
use native.Mathlib.Numerals.{add-one}
use native.Mathlib.Omega.{arith}
use borrow.Author.Tests.{eq-eqb, ne_eqb}
use lib.Dec.{eqb}
use lib.ListN.{length, get_or, take, set, replicate, length-set}
use lib.Seq.{get_or-set_same, get_or-set_other, ext_get_or, take-suc}
use Rattle.bits.specs.Bits.{Bytes, from}
use Rattle.bits.proofs.Lists.{length-map-from, map-from-at}
use Rattle.records.specs.Records.{occurrences, counts_of, total}

-- occurrences
pub occurrences-append : (v : ℕ) (a b : List ℕ) → occurrences v (a ++ b) ≡ occurrences v a + occurrences v b
unfolding occurrences
occurrences-append v [] b = sym (zero-add (occurrences v b))
occurrences-append v (x ∷ a) b =
    ap (◌+◌ (cond (eqb x v) 1 0)) (occurrences-append v a b) ∙ sym (add_assoc (cond (eqb x v) 1 0) (occurrences v a) (occurrences v b))

at_most_one : (b : Bool) → cond b 1 0 ≤ 1
at_most_one true = omega arith
at_most_one false = omega arith

pub occurrences_most : (v : ℕ) (l : List ℕ) → occurrences v l ≤ length l
unfolding occurrences
occurrences_most v [] = omega arith
occurrences_most v (x ∷ l) = omega (arith, occurrences_most v l, at_most_one (eqb x v))

-- counts
pub counts_length : (l : List ℕ) → length (counts_of l) ≡ 256
unfolding counts_of
counts_length l = length-map-from (λ v. occurrences v l) 0 256

pub counts_at : (l : List ℕ) (v : ℕ) → v < 256 → get_or (counts_of l) v 0 ≡ occurrences v l
unfolding counts_of
counts_at l v h = map-from-at (λ v. occurrences v l) 0 256 v 0 h ∙ ap (λ (i : ℕ). occurrences i l) (zero-add v)

pub counts_most : (l : List ℕ) (v : ℕ) → v < 256 → get_or (counts_of l) v 0 ≤ length l
counts_most l v h = rw (counts_at l v h) (occurrences_most v l)

pub counts_none : counts_of [] ≡ replicate 256 0
unfolding counts_of occurrences from
counts_none = refl

-- one value more: its count rises by 1
counts_more : (l : List ℕ) (x : ℕ) → x < 256 → set (counts_of l) x (get_or (counts_of l) x 0 + 1) ≡ counts_of (l ++ (x ∷ []))
unfolding occurrences
counts_more l x h =
    ext_get_or 0 counts (counts_of (l ++ (x ∷ []))) (size ∙ sym (counts_length (l ++ (x ∷ []))))
    (λ v b. let k : v < 256 = rw size at b in
    go v k (ℕ_discrete v x) ∙ sym (counts_at (l ++ (x ∷ [])) v k ∙ occurrences-append v l (x ∷ [])))
  where
    counts : List ℕ
    counts = set (counts_of l) x (get_or (counts_of l) x 0 + 1)

    size : length counts ≡ 256
    size = length-set (counts_of l) x (get_or (counts_of l) x 0 + 1) ∙ counts_length l

    go : (v : ℕ) → v < 256 → Dec (v ≡ x) → get_or counts v 0 ≡ occurrences v l + (cond (eqb x v) 1 0 + 0)
    go v k (yes e) =
        rw e (get_or-set_same (counts_of l) x (get_or (counts_of l) x 0 + 1) 0 (rw (counts_length l) h)
        ∙ rw (counts_at l x h, eq-eqb x x refl) (omega arith))
    go v k (no e) =
        get_or-set_other (counts_of l) x v (get_or (counts_of l) x 0 + 1) 0 e
        ∙ counts_at l v k ∙ rw (ne_eqb x v (λ q. e (sym q))) (omega arith)

pub counts_next : (l : List ℕ) (i : ℕ) → i < length l → get_or l i 0 < 256
    → set (counts_of (take i l)) (get_or l i 0) (get_or (counts_of (take i l)) (get_or l i 0) 0 + 1) ≡ counts_of (take (i + 1) l)
counts_next l i h b = counts_more (take i l) (get_or l i 0) b ∙ ap counts_of (sym (take-suc l i 0 h)) ∙ ap (λ (j : ℕ). counts_of (take j l)) (sym (add-one i))

-- sums
total-add : (f g : ℕ → ℕ) (l : List ℕ) → total (map (λ v. f v + g v) l) ≡ total (map f l) + total (map g l)
unfolding total
total-add f g [] = refl
total-add f g (x ∷ l) = ap (◌+◌ (f x + g x)) (total-add f g l) ∙ (omega arith)

total_past : (x k n : ℕ) → x < k → total (map (λ v. cond (eqb x v) 1 0) (from k n)) ≡ 0
unfolding total from
total_past x k zero h = refl
total_past x k (suc n) h = ap₂ ◌+◌ (ap (λ (b : Bool). cond b 1 0) (ne_eqb x k (λ e. omega arith))) (total_past x (suc k) n (omega arith))

-- a number stands once among n from k on
total_once : (x k n : ℕ) → k ≤ x → x < k + n → total (map (λ v. cond (eqb x v) 1 0) (from k n)) ≡ 1
unfolding total from
total_once x k zero h b = absurd (omega arith)
total_once x k (suc n) h b = go (ℕ_discrete x k) (total_once x (suc k) n)
  where
    go : Dec (x ≡ k) → (suc k ≤ x → x < suc k + n → total (map (λ v. cond (eqb x v) 1 0) (from (suc k) n)) ≡ 1)
        → cond (eqb x k) 1 0 + total (map (λ v. cond (eqb x v) 1 0) (from (suc k) n)) ≡ 1
    go (yes e) ih = ap₂ ◌+◌ (ap (λ (b : Bool). cond b 1 0) (eq-eqb x k e)) (total_past x (suc k) n (omega arith))
    go (no e) ih = ap₂ ◌+◌ (ap (λ (b : Bool). cond b 1 0) (ne_eqb x k e)) (ih (omega arith) (omega arith))

-- the counts of bytes add up to their number
pub counts_sum : (l : List ℕ) → Bytes l → total (counts_of l) ≡ length l
unfolding counts_of occurrences total from
counts_sum [] h = refl
counts_sum (x ∷ l) h =
    total-add (λ v. cond (eqb x v) 1 0) (λ v. occurrences v l) (from 0 256)
    ∙ ap₂ ◌+◌ (total_once x 0 256 (omega arith) (h 0)) (counts_sum l (λ k. h (suc k)))
    ∙ (omega arith)
