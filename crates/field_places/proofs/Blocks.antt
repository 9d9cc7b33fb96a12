-- A function at each place of a list, block after block in place. Assumes nothing.
use mathlib.Core.Path.{◌≡◌, refl, sym, ap, ap₂, ◌∙◌}
use mathlib.Core.List.{List, ◌++◌, map, map-append, append_assoc, append-nil}
use Prim.Native.Nat.{ℕ, ◌+◌, ◌-◌, ◌≤◌, min}
use native.Mathlib.Nat.{min-eq_left, min-eq_right}
use native.Mathlib.Omega.{arith}
use native.Mathlib.Decide.{dec_le}
use lib.ListN.{length, take, drop, length-map, drop_of_length-le}
use lib.Seq.{length-take-le, take_all, take-add, take_at, drop_at, drop-drop}
use borrow.Rule.Slice.PartMut.{mid_of, put_mid}
use Rattle.bits.specs.Bits.{padded}
use Rattle.bits.proofs.Padded.{take-padded}

-- the first numbers of a list, as far as it goes
pub take_least : (v : List ℕ) (k : ℕ) {i : ℕ} → i ≡ min (length v) k → take i v ≡ take k v
take_least v k {i} e = elim (dec_le (length v) k) [
  | yes h ↦ take_all i v (omega (arith, e, min-eq_left h)) ∙ sym (take_all k v h)
  | no h ↦ ap (λ (n : ℕ). take n v) (e ∙ min-eq_right (omega arith))
]

-- a copy of at most 512 numbers has them all
pub block_whole : {a : List ℕ} (v : List ℕ) → a ≡ padded 512 (take 512 v) → length v ≤ 512 → a ≡ padded 512 v
block_whole v e h = e ∙ ap (padded 512) (take_all 512 v h)

-- and begins with them
pub block_first : (k : ℕ) (v : List ℕ) {a : List ℕ} → length v ≡ k → k ≤ 512 → a ≡ padded 512 (take 512 v) → take k a ≡ v
block_first k v e l ea = ap (take k) (block_whole v ea (omega arith)) ∙ take-padded 512 v k e

module _ (h : ℕ → ℕ) (s : List ℕ) where
  -- the first `at` places are done
  unfoldable pub mapped_to : ℕ → List ℕ
  mapped_to at = map h (take at s) ++ drop at s

  pub mapped_start : s ≡ mapped_to 0
  unfolding mapped_to
  mapped_start = refl

  pub mapped_all : (at : ℕ) → length s ≤ at → mapped_to at ≡ map h s
  unfolding mapped_to
  mapped_all at l = ap₂ (λ (x y : List ℕ). map h x ++ y) (take_all at s l) (drop_of_length-le s l) ∙ append-nil (map h s)

  module _ (at : ℕ) (l : at ≤ length s) (v : List ℕ) (ev : v ≡ mapped_to at) where
    done : length (map h (take at s)) ≡ at
    done = length-map (take at s) h ∙ length-take-le at s l

    before : take at v ≡ map h (take at s)
    unfolding mapped_to
    before = ap (take at) ev ∙ take_at (map h (take at s)) (drop at s) at done

    pub behind : drop at v ≡ drop at s
    unfolding mapped_to
    behind = ap (drop at) ev ∙ drop_at (map h (take at s)) (drop at s) at done

    pub mapped_next : (e : ℕ) → at ≤ e → (y : List ℕ) → y ≡ map h (mid_of at (e - at) v) → put_mid at (e - at) v y ≡ mapped_to e
    unfolding mapped_to
    mapped_next e i y ey =
        let k : at + (e - at) ≡ e = omega arith in
        let x : List ℕ = take (e - at) (drop at s) in
        let z : List ℕ = drop (e - at) (drop at s) in
        ap₂ (λ (b r : List ℕ). b ++ (r ++ drop (e - at) (drop at v))) before (ey ∙ ap (λ (d : List ℕ). map h (take (e - at) d)) behind)
        ∙ ap (λ (d : List ℕ). map h (take at s) ++ (map h x ++ drop (e - at) d)) behind
        ∙ sym (append_assoc (map h (take at s)) (map h x) z)
        ∙ ap₂ ◌++◌ (sym (map-append h (take at s) x) ∙ ap (map h) (sym (take-add at (e - at) s) ∙ ap (λ (n : ℕ). take n s) k))
        (drop-drop (e - at) at s ∙ ap (λ (n : ℕ). drop n s) k)
