-- Three refusals that change nothing, and the reduction. Assumes nothing.
use mathlib.Core.Path.{◌≡◌, refl, sym, ap, ◌∙◌}
use mathlib.Core.Bool.{true, false, false≢true}
use mathlib.Core.List.{List}
use Prim.Native.Nat.{ℕ, ◌*◌}
use native.Mathlib.Omega.{arith}
use lib.ListN.{drop}
use Rattle.bits.specs.Bits.{bytes_for}
use Rattle.code.specs.PublicKey.{echelon}
use Rattle.code.specs.Lock.{rows_of}
use Rattle.elimination.specs.Elimination.{fits, eliminates}
use Rattle.elimination.proofs.Sizes.{sizes-le, more_rows, more_columns, less_room, sizes_fit, not_eliminated, eliminated}
use Rattle.elimination.proofs.eliminate.Goals as goal

refused : (rows n : ℕ) (w : List ℕ) → fits rows n w ≡ false
    → (false ≡ eliminates rows n w)
    × ((false ≡ true → rows_of rows n w ≡ (echelon n (rows_of rows n w)).done)
    × ((drop (rows * bytes_for n) w ≡ drop (rows * bytes_for n) w) × (fits rows n w ≡ false → w ≡ w)))
refused rows n w e = (not_eliminated rows n w e, ((λ f. absurd (false≢true f)), (refl, (λ f. refl))))

pub returns-then-n-rows : goal.returns-then-n-rows
returns-then-n-rows c =
    let a = c.args in
    let both = refused a.rows a.n a.work.now (more_rows a.rows a.n a.work.now (omega arith)) in
    record { value = both.0; work_after = both.1.0; work_unchanged = both.1.1.0; work_unchanged_2 = both.1.1.1 }

pub returns-then-n-gt8192 : goal.returns-then-n-gt8192
returns-then-n-gt8192 c =
    let a = c.args in
    let both = refused a.rows a.n a.work.now (more_columns a.rows a.n a.work.now (omega arith)) in
    record { value = both.0; work_after = both.1.0; work_unchanged = both.1.1.0; work_unchanged_2 = both.1.1.1 }

pub overflow_mul-rows : goal.overflow_mul-rows
overflow_mul-rows c =
    let a = c.args in
    omega (arith, sizes-le a.rows a.n c.bytes_for.result (omega arith) (omega arith) c.bytes_for.ensures)

pub returns-then-work-rows : goal.returns-then-work-rows
returns-then-work-rows c =
    let a = c.args in
    let e : a.rows * c.bytes_for.result ≡ a.rows * bytes_for a.n = ap (◌*◌ a.rows) c.bytes_for.ensures in
    let both = refused a.rows a.n a.work.now (less_room a.rows a.n a.work.now (omega arith)) in
    record { value = both.0; work_after = both.1.0; work_unchanged = both.1.1.0; work_unchanged_2 = both.1.1.1 }

pub reduce-requires : goal.reduce-requires
reduce-requires c =
    let a = c.args in
    let e : a.rows * c.bytes_for.result ≡ a.rows * bytes_for a.n = ap (◌*◌ a.rows) c.bytes_for.ensures in
    (omega arith, omega arith, omega arith)

pub returns : goal.returns
returns c =
    let a = c.args in
    let w : List ℕ = a.work.now in
    let r = c.reduce in
    let e : a.rows * c.bytes_for.result ≡ a.rows * bytes_for a.n = ap (◌*◌ a.rows) c.bytes_for.ensures in
    let good : fits a.rows a.n w ≡ true = sizes_fit a.rows a.n w (omega arith) (omega arith) (omega arith) in
    record {
      value = r.ensures.value ∙ eliminated a.rows a.n w good;
      work_after = r.ensures.w_after;
      work_unchanged = r.ensures.w_unchanged;
      work_unchanged_2 = (λ f. absurd (false≢true (sym f ∙ good)));
    }
