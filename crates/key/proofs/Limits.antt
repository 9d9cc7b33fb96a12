-- The tests of a shape's limits, in the order of the code. Assumes nothing.
use mathlib.Core.Path.{◌≡◌}
use mathlib.Core.Bool.{true, false}
use Prim.Native.Nat.{ℕ, ◌*◌, ◌^◌, ◌≤◌, ◌<◌}
use native.Mathlib.Omega.{arith}
use lib.Dec.{leb}
use lib.Pow.{pow_mono}
use borrow.Author.Tests.{lt-ltb, le-ltb, le-leb, lt-leb}
use Rattle.key.specs.Shapes.{in_limits}

module _ (m n t : ℕ) where
  pub t_small : t < 1 → false ≡ in_limits m n t
  unfolding in_limits
  t_small h = rw (lt-leb 1 t h)

  module _ (a : 1 ≤ t) where
    pub t_large : 128 < t → false ≡ in_limits m n t
    unfolding in_limits
    t_large h = rw (le-leb 1 t a, lt-leb t 128 h)

    module _ (b : t ≤ 128) where
      pub n_small : n ≤ m * t → false ≡ in_limits m n t
      unfolding in_limits
      n_small h = rw (le-leb 1 t a, le-leb t 128 b, le-ltb (m * t) n h)

      module _ (d : m * t < n) where
        pub n_decides : leb n (2 ^ m) ≡ in_limits m n t
        unfolding in_limits
        n_decides = rw (le-leb 1 t a, le-leb t 128 b, lt-ltb (m * t) n d)

        pub n_narrow : 16 ≤ m → n < 65536 → true ≡ in_limits m n t
        unfolding in_limits
        n_narrow w h = rw (le-leb 1 t a, le-leb t 128 b, lt-ltb (m * t) n d, le-leb n (2 ^ m) (omega (arith, pow_mono w)))
