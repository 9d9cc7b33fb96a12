-- A key of width 4: its test, and its limits as facts. Assumes nothing.
use mathlib.Core.Path.{◌≡◌, refl, ap₂}
use mathlib.Core.Bool.{true, false, ◌&&◌, ◌||◌}
use Prim.Native.Nat.{◌*◌, ◌≤◌, ◌<◌}
use borrow.Author.Tests.{eqb-true, eq-eqb, ne_eqb}
use lib.Dec.{eqb}
use Rattle.bits.proofs.Lists.{and_left, and_right}
use Rattle.field.proofs.Table.{width_smallest}
use Rattle.key.specs.Shapes.{in_limits}
use Rattle.key.specs.Keys.{Key, key_number}
use Rattle.key.proofs.Shapes.{Limits, limits, limits_test}
use Rattle.key.proofs.Accepted.{Accepted, accepted}
use Rattle.opener.specs.Prepared.{is_four}

pub record Four (k : Key) : Type 0 where
  pub width : k.m ≡ 4
  pub some : 1 ≤ k.t
  pub over : 4 * k.t < k.n
  pub fits : k.n ≤ 16

pub four : (k : Key) → is_four k ≡ true → Four k
unfolding is_four
four k e =
    let l = limits 4 k.n k.t (and_right (eqb k.m 4) (in_limits 4 k.n k.t) e) in
    record {
      width = eqb-true k.m 4 (and_left (eqb k.m 4) (in_limits 4 k.n k.t) e);
      some = l.some;
      over = l.over;
      fits = l.fits;
    }

-- the test, by the width
module _ (k : Key) where
  pub four_other : (k.m ≡ 4 → ⊥) → false ≡ is_four k
  unfolding is_four
  four_other h = rw (ne_eqb k.m 4 h) refl

  pub four_limits : k.m ≡ 4 → in_limits 4 k.n k.t ≡ is_four k
  unfolding is_four
  four_limits h = rw (eq-eqb k.m 4 h) refl

-- a key that load accepts and that is not too large
pub accepted-four : (k : Key) → key_number k ≡ 0 → (eqb k.m 12 || eqb k.m 13) ≡ false → is_four k ≡ true
unfolding is_four
accepted-four k good small =
    let a : Accepted k = accepted k good in
    let e : k.m ≡ 4 = width_smallest k.m a.width small in
    let l : Limits 4 k.n k.t = rw e at a.limits in
    ap₂ ◌&&◌ (eq-eqb k.m 4 e) (limits_test 4 k.n k.t l)
