-- The sizes of a key's small workspace. Assumes nothing.
use mathlib.Core.Path.{◌≡◌, refl, sym}
use mathlib.Core.Bool.{Bool, true, false, not, cond, false≢true}
use mathlib.Core.List.{List, map}
use Prim.Native.Nat.{ℕ, ◌-◌, ◌*◌, ◌≤◌, ◌<◌}
use native.Mathlib.Nat.{mul-le-mul, mul-add, mul_assoc}
use native.Mathlib.Omega.{arith}
use lib.ListN.{length, take, drop}
use Rattle.bits.specs.Bits.{every, bytes_for}
use Rattle.field.specs.Answers.{is_unit}
use Rattle.field.proofs.Table.{Width, width_pos}
use Rattle.key.specs.Keys.{Key, key_of, key_number, goppa_at}
use Rattle.key.proofs.Accepted.{Accepted, accepted}
use Rattle.key.proofs.Units.{goppa_units}
use Rattle.code.specs.Publish.{capsule_bits, small_bytes}
use Rattle.publishing.proofs.Checks.{Sizes, sizes}
use Rattle.block_product.specs.Blocks.{step_of}
use Rattle.column_blocks.proofs.Columns.{units_part}

-- at most 13·128 rows
pub rows_most : (k : Key) → Sizes k → k.m * k.t ≤ 1664
rows_most k z = let a : k.m ≤ 13 = omega (arith, z.narrow) in mul-le-mul a z.degree

-- the rows in two halves take the small workspace
pub small_is : (k : Key) → small_bytes k ≡ k.m * k.t * step_of (k.m * k.t)
unfolding capsule_bits step_of
small_is k =
    let r : ℕ = k.m * k.t in
    let b : ℕ = bytes_for r in
    omega (arith, mul-add r b b, mul_assoc 2 r b)

-- what an accepted key's parts are, by its support and g
pub record Fits (m : ℕ) (s g : List ℕ) : Type 0 where
  pub width : Width m
  pub few : m * length g ≤ 1664
  pub some : 0 < m * length g
  pub less : m * length g ≤ length s
  pub columns : length s ≤ 8192
  pub first_units : every (is_unit m) (map (goppa_at (key_of m (take (m * length g) s) g)) (take (m * length g) s)) ≡ true
  pub other_units : every (is_unit m) (map (goppa_at (key_of m (take (length s - m * length g) (drop (m * length g) s)) g)) (take (length s - m * length g) (drop (m * length g) s))) ≡ true

pub fits : (m : ℕ) (s g : List ℕ) → key_number (key_of m s g) ≡ 0 → Fits m s g
unfolding key_of
fits m s g e =
    let k : Key = key_of m s g in
    let a : Accepted k = accepted k e in
    let z : Sizes k = sizes k e in
    let r : ℕ = m * length g in
    let units = goppa_units k a in
    record {
      width = z.width;
      few = rows_most k z;
      some = let x : 1 ≤ m = width_pos m z.width in let y : 1 ≤ length g = a.limits.some in mul-le-mul x y;
      less = omega (arith, z.rows);
      columns = z.columns;
      first_units = units_part m s g 0 r (omega (arith, z.rows)) units;
      other_units = units_part m s g r (length s - r) (omega (arith, z.rows)) units;
    }

-- 23 exactly where the columns are dependent
pub refused_by_lem : (b : Bool) → false ≡ not b → ◌≡◌ {A = ℕ} 23 (cond b 23 0)
refused_by_lem true e = refl
refused_by_lem false e = absurd (false≢true e)

pub accepted_by : (b : Bool) → true ≡ not b → ◌≡◌ {A = ℕ} 0 (cond b 23 0)
accepted_by true e = absurd (false≢true (sym e))
accepted_by false e = refl
