-- Every shape of the standard's table has a width and is in the limits, by one computed test of the table. Assumes nothing.
use Prim.Native.Nat.{ℕ, ◌*◌, ◌^◌, ◌≤◌, ◌<◌, ◌-◌}
use mathlib.Core.Path.{◌≡◌}
use mathlib.Core.Bool.{Bool, true, ◌&&◌, ◌||◌}
use native.Mathlib.Omega.{arith}
use lib.Dec.{leb, ltb}
use lib.ListN.{get_or}
use borrow.Author.Tests.{ltb-true, ltb-false, leb-true, lt-ltb, le-leb}
use Rattle.bits.specs.Bits.{from, every}
use Rattle.bits.proofs.Lists.{and_left, and_right, every_below_at}
use Rattle.field.specs.Field.{is_width}
use Rattle.field.proofs.Table.{Width, width_12, width_13}
use Rattle.key.specs.Shapes.{in_limits, shapes, shape_number, shape_at}
use Rattle.field.proofs.Numbers.{first-clear}
use Rattle.key.proofs.Numbers.{or_false}

-- a width, and within the limits
unfoldable pub is_shape : ℕ × ℕ × ℕ → Bool
is_shape s = is_width s.0 && in_limits s.0 s.1 s.2

every_shape : every (λ i. is_shape (get_or shapes i (0, 0, 0))) (from 0 5) ≡ true
unfolding every from shapes is_shape in_limits
every_shape = rw (width_12, width_13)

-- t from 1 to 128 and m·t < n ≤ 2^m, as facts
pub record Limits (m n t : ℕ) : Type 0 where
  pub some : 1 ≤ t
  pub few : t ≤ 128
  pub over : m * t < n
  pub fits : n ≤ 2 ^ m

pub limits : (m n t : ℕ) → in_limits m n t ≡ true → Limits m n t
unfolding in_limits
limits m n t e =
    let three = and_left (leb 1 t && leb t 128 && ltb (m * t) n) (leb n (2 ^ m)) e in
    let two = and_left (leb 1 t && leb t 128) (ltb (m * t) n) three in
    record {
      some = leb-true 1 t (and_left (leb 1 t) (leb t 128) two);
      few = leb-true t 128 (and_right (leb 1 t) (leb t 128) two);
      over = ltb-true (m * t) n (and_right (leb 1 t && leb t 128) (ltb (m * t) n) three);
      fits = leb-true n (2 ^ m) (and_right (leb 1 t && leb t 128 && ltb (m * t) n) (leb n (2 ^ m)) e);
    }

pub limits_test : (m n t : ℕ) → Limits m n t → in_limits m n t ≡ true
unfolding in_limits
limits_test m n t l =
    rw (le-leb 1 t l.some, le-leb t 128 l.few, lt-ltb (m * t) n l.over, le-leb n (2 ^ m) l.fits)

-- the positions are 1 to 5
pub position : (p : ℕ) → shape_number p ≡ 0 → (1 ≤ p) × (p ≤ 5)
unfolding shape_number
position p e =
    let b = or_false (ltb p 1) (ltb 5 p) (first-clear (ltb p 1 || ltb 5 p) 2 _ e).0 in
    (ltb-false p 1 b.0, ltb-false 5 p b.1)

module _ (p : ℕ) (e : shape_number p ≡ 0) where
  pub shape_right : is_shape (shape_at p) ≡ true
  unfolding shape_at
  shape_right =
      let b = position p e in
      every_below_at (λ i. is_shape (get_or shapes i (0, 0, 0))) 5 every_shape (p - 1) (omega arith)

  pub shape_width : Width (shape_at p).0
  unfolding is_shape
  shape_width = and_left (is_width (shape_at p).0) _ shape_right

  pub shape_limits : in_limits (shape_at p).0 (shape_at p).1 (shape_at p).2 ≡ true
  unfolding is_shape
  shape_limits = and_right (is_width (shape_at p).0) _ shape_right
