-- What the calls answer, by their conditions. Assumes nothing.
use mathlib.Core.Path.{◌≡◌}
use mathlib.Core.Bool.{Bool, true, false, ◌&&◌}
use mathlib.Core.List.{List}
use Prim.Native.Nat.{ℕ, ◌≤◌, ◌<◌}
use borrow.Author.Tests.{le-leb, lt-leb, leb-true}
use lib.Dec.{leb}
use lib.ListN.{length}
use Rattle.bits.specs.Bits.{every}
use Rattle.bits.proofs.Lists.{and_left, and_right}
use Rattle.field.specs.Field.{is_width, is_element}
use Rattle.field.proofs.Table.{Width, by_width}
use Rattle.poly.specs.Polynomials.{has_square}
use Rattle.euclid.specs.Euclid.{accepted, no_divisor, last_divisor, common_divisor, square_test}

module _ (m : ℕ) (p : List ℕ) where
  pub accepted_no_width : is_width m ≡ false → accepted m p ≡ false
  unfolding accepted
  accepted_no_width n = rw n

  pub accepted_long : Width m → 129 < length p → accepted m p ≡ false
  unfolding accepted
  accepted_long w h = rw (w, lt-leb (length p) 129 h)

  pub accepted_short : Width m → length p ≤ 129 → accepted m p ≡ every (is_element m) p
  unfolding accepted
  accepted_short w h = rw (w, le-leb (length p) 129 h)

  pub accepted-parts : accepted m p ≡ true → Width m × (length p ≤ 129) × (every (is_element m) p ≡ true)
  unfolding accepted
  accepted-parts e =
      let w : Bool = is_width m in
      let l : Bool = leb (length p) 129 in
      let s : Bool = every (is_element m) p in
      let h = and_left (w && l) s e in
      (and_left w l h, leb-true (length p) 129 (and_right w l h), and_right (w && l) s e)

module _ (m : ℕ) (a b : List ℕ) where
  pub divisor_not_a : accepted m a ≡ false → common_divisor m a b ≡ no_divisor
  unfolding common_divisor
  divisor_not_a e = rw e

  module _ (h : accepted m a ≡ true) where
    pub divisor_not_b : accepted m b ≡ false → common_divisor m a b ≡ no_divisor
    unfolding common_divisor
    divisor_not_b e = rw (h, e)

    pub divisor_found : accepted m b ≡ true → common_divisor m a b ≡ last_divisor m a b
    unfolding common_divisor
    divisor_found e = rw (h, e)

module _ (m : ℕ) (g : List ℕ) where
  pub square_no_width : is_width m ≡ false → square_test m g ≡ false
  unfolding square_test
  square_no_width n = rw n

  pub square_too_long : 128 < length g → square_test m g ≡ false
  unfolding square_test
  square_too_long h = by_width m (λ w. rw (w, lt-leb (length g) 128 h)) square_no_width

  module _ (w : Width m) (h : length g ≤ 128) where
    pub square_no_element : every (is_element m) g ≡ false → square_test m g ≡ false
    unfolding square_test
    square_no_element e = rw (w, le-leb (length g) 128 h, e)

    pub square_in_bounds : every (is_element m) g ≡ true → square_test m g ≡ has_square m g
    unfolding square_test
    square_in_bounds e = rw (w, le-leb (length g) 128 h, e)
