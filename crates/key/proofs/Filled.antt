-- Elements read from a file into an array, and what is kept of a key. Assumes nothing.
use mathlib.Core.Path.{◌≡◌, refl, sym, ap, ap₂, ◌∙◌}
use mathlib.Core.List.{List, [], ◌∷◌, ◌++◌, map, append_assoc}
use Prim.Native.Nat.{ℕ, suc, ◌+◌, ◌-◌, ◌*◌, ◌<◌}
use native.Mathlib.Nat.{zero-add}
use native.Mathlib.Numerals.{add-one}
use lib.ListN.{length, get_or, drop, set, replicate}
use lib.Seq.{drop-cons, set_at, take_at}
use Rattle.bits.specs.Bits.{from, padded}
use Rattle.bits.proofs.Lists.{from-add, map-append}
use Rattle.key.specs.Keys.{pair, elements}
use Rattle.key.specs.Keys as Keys
use Rattle.key.specs.Kept.{kept, keep}
use Rattle.key.proofs.Parse.{length-elements}

module _ (file : List ℕ) (at : ℕ) where
  -- one element more
  elements-next : (i : ℕ) → elements file at (i + 1) ≡ elements file at i ++ (pair file (at + 2 * i) ∷ [])
  unfolding elements from
  elements-next i =
      let f : ℕ → ℕ = λ j. pair file (at + 2 * j) in
      ap (map f) (from-add 0 i 1) ∙ map-append f (from 0 i) (from (0 + i) 1)
      ∙ ap (λ (j : ℕ). map f (from 0 i) ++ (f j ∷ [])) (zero-add i)

  pub filled-start : (out : List ℕ) → out ≡ elements file at 0 ++ drop 0 out
  unfolding elements from
  filled-start out = refl

  pub filled_next : (out : List ℕ) (i : ℕ) → i < length out
      → set (elements file at i ++ drop i out) i (pair file (at + 2 * i)) ≡ elements file at (i + 1) ++ drop (i + 1) out
  filled_next out i h =
      ap (λ (l : List ℕ). set (elements file at i ++ l) i (pair file (at + 2 * i))) (drop-cons out i 0 h)
      ∙ set_at (elements file at i) (get_or out i 0) (drop (suc i) out) (pair file (at + 2 * i)) i (length-elements file at i)
      ∙ sym (append_assoc (elements file at i) (pair file (at + 2 * i) ∷ []) (drop (suc i) out))
      ∙ ap₂ ◌++◌ (sym (elements-next i)) (ap (λ (k : ℕ). drop k out) (sym (add-one i)))

-- what is kept of a key is that key
pub kept-keep : (k : Keys.Key) → length k.support ≡ k.n → length k.g ≡ k.t → kept (keep k) ≡ k
unfolding kept keep padded
kept-keep k s g =
    ap₂ (λ (x y : List ℕ). record { m = k.m; n = k.n; t = k.t; support = x; g = y })
    (take_at k.support (replicate (8192 - length k.support) 0) k.n s)
    (take_at k.g (replicate (128 - length k.g) 0) k.t g)
