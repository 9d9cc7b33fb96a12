-- Two lists compared, place by place. Assumes nothing.
use mathlib.Core.Path.{◌≡◌}
use mathlib.Core.Bool.{true, false}
use mathlib.Core.List.{List}
use Prim.Native.Nat.{ℕ, ◌+◌, ◌≤◌, ◌<◌}
use native.Mathlib.Numerals.{add-one}
use borrow.Author.Tests.{eq-eqb, ne_eqb}
use lib.ListN.{length, get_or, drop, drop_of_length-le}
use lib.Seq.{drop-cons}
use Rattle.poly.specs.Polynomials.{same}

-- two lists are the same as far as the places from i on are
module _ (a b : List ℕ) (i : ℕ) where
  module _ (h : i < length a) (k : i < length b) where
    pub same_next : get_or a i 0 ≡ get_or b i 0 → same (drop (i + 1) a) (drop (i + 1) b) ≡ same (drop i a) (drop i b)
    unfolding same
    same_next e = rw (add-one, drop-cons a i 0 h, drop-cons b i 0 k, eq-eqb _ _ e)

    pub same_stop : (get_or a i 0 ≡ get_or b i 0 → ⊥) → false ≡ same (drop i a) (drop i b)
    unfolding same
    same_stop e = rw (drop-cons a i 0 h, drop-cons b i 0 k, ne_eqb _ _ e)

  pub same_end : length a ≤ i → length b ≤ i → true ≡ same (drop i a) (drop i b)
  unfolding same
  same_end h k = rw (drop_of_length-le a h, drop_of_length-le b k)
