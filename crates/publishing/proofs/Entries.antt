-- g's values at a support in a list of all places, and H before its first row. Assumes nothing.
use mathlib.Core.Path.{◌≡◌}
use mathlib.Core.Bool.{true}
use mathlib.Core.List.{List, map}
use Prim.Native.Nat.{ℕ, ◌*◌, ◌≤◌}
use native.Mathlib.Nat.{zero-mul}
use lib.ListN.{length, take}
use Rattle.bits.specs.Bits.{from, every}
use Rattle.field.specs.Field.{inv}
use Rattle.field.specs.Answers.{is_unit}
use Rattle.field.proofs.Table.{Width}
use Rattle.poly.specs.Polynomials.{values_at}
use Rattle.key.specs.Keys.{goppa_at, key_of}
use Rattle.key.proofs.Values.{values_goppa}
use Rattle.code.specs.Code.{entry, parity_row}
use Rattle.code.specs.Lock.{rows_of}
use Rattle.parity.proofs.Entries as within

module _ (m : ℕ) (w : Width m) (s g : List ℕ) where
  pub values_units : length s ≤ 8192 → every (is_unit m) (map (goppa_at (key_of m s g)) s) ≡ true → every (is_unit m) (take (length s) (values_at m g s)) ≡ true
  values_units l u = rw (values_goppa m w s g l) u

  -- 1/g(α) at all places
  pub entries_start : length s ≤ 8192 → map (inv m) (take (length s) (values_at m g s)) ≡ map (entry (key_of m s g) 0) s
  entries_start l = within.entries_start m w s g (take (length s) (values_at m g s)) (values_goppa m w s g l)

  pub parity_none : (w : List ℕ) → rows_of (0 * m) (length s) w ≡ map (parity_row (key_of m s g)) (from 0 (0 * m))
  unfolding rows_of from
  parity_none w = rw (zero-mul m)
