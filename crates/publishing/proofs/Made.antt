-- The public key by the workspace: rows of H before the elimination, the echelon form behind it. Assumes nothing.
use mathlib.Core.Path.{◌≡◌, sym, ap, ◌∙◌}
use mathlib.Core.Bool.{true, false, cond}
use mathlib.Core.List.{List, map, flat_map}
use mathlib.Core.Option.{none}
use Prim.Native.Nat.{ℕ, ◌*◌, ◌≤◌}
use native.Mathlib.Nat.{le_of_lt}
use lib.ListN.{length, drop}
use Rattle.bits.specs.Bits.{from, bytes_for, pack, over}
use Rattle.poly.specs.Polynomials.{same}
use Rattle.key.specs.Keys as Keys
use Rattle.code.specs.Code.{parity_rows}
use Rattle.code.specs.PublicKey.{Matrix, echelon, public_key, dependent, written}
use Rattle.code.specs.Lock.{rows_of}
use Rattle.code.proofs.PublicKey.{public_none, public_some}
use Rattle.elimination.specs.Elimination.{eliminates}
use Rattle.elimination.proofs.Sizes.{sizes_fit, eliminated}
use Rattle.publishing.proofs.Checks.{Sizes}

module _ (k : Keys.Key) (z : Sizes k) (w : List ℕ) (room : k.m * k.t * bytes_for k.n ≤ length w)
    (rows : rows_of (k.m * k.t) k.n w ≡ parity_rows k) where
  -- elimination looks at the columns of H
  eliminates-columns : same (echelon k.n (parity_rows k)).pivots (from 0 (k.m * k.t)) ≡ eliminates (k.m * k.t) k.n w
  eliminates-columns =
      ap (λ (h : Matrix). same (echelon k.n h).pivots (from 0 (k.m * k.t))) (sym rows)
      ∙ eliminated (k.m * k.t) k.n w (sizes_fit (k.m * k.t) k.n w (le_of_lt z.rows) z.columns room)

  -- they are dependent: nothing is written
  module _ (e : eliminates (k.m * k.t) k.n w ≡ false) where
    none_made : public_key k ≡ none
    none_made = public_none k (eliminates-columns ∙ e)

    pub dependent-made : ◌≡◌ {A = ℕ} 23 (cond (dependent k) 23 0)
    unfolding dependent
    dependent-made = rw (dependent, none_made)

    pub nothing_written : (out : List ℕ) → out ≡ over (written (public_key k)) out
    unfolding written over
    nothing_written out = rw none_made

  -- they are not: T is the columns behind them
  module _ (e : eliminates (k.m * k.t) k.n w ≡ true) where
    pub independent_made : ◌≡◌ {A = ℕ} 0 (cond (dependent k) 23 0)
    unfolding dependent
    independent_made = rw (dependent, public_some k (eliminates-columns ∙ e))

    pub columns-written : (after : List ℕ) → rows_of (k.m * k.t) k.n after ≡ (echelon k.n (rows_of (k.m * k.t) k.n w)).done
        → flat_map pack (map (drop (k.m * k.t)) (rows_of (k.m * k.t) k.n after)) ≡ written (public_key k)
    unfolding written
    columns-written after h =
        ap (λ (m : Matrix). flat_map pack (map (drop (k.m * k.t)) m)) (h ∙ ap (λ (m : Matrix). (echelon k.n m).done) rows)
        ∙ sym (ap written (public_some k (eliminates-columns ∙ e)))
