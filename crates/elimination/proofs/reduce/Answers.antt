-- The loop's invariant: from column i on, the workspace's rows have the echelon form of all. Assumes nothing.
use mathlib.Core.Path.{◌≡◌, refl, sym, ap, ◌∙◌, subst}
use mathlib.Core.Bool.{Bool, true, false, false≢true}
use Prim.Native.Nat.{ℕ, ◌+◌, ◌-◌}
use native.Mathlib.Omega.{arith}
use Rattle.code.specs.PublicKey.{Echelon, columns, echelon}
use Rattle.code.specs.Lock.{rows_of}
use Rattle.elimination.specs.Elimination.{stage, stepped, next}
use Rattle.elimination.proofs.Columns.{columns-start, columns-next, reduced, stopped}
use Rattle.elimination.proofs.reduce.Goals as goal

pub loop-i-init : goal.loop-i-init
loop-i-init c = let a = c.args in (omega arith, refl, columns-start a.rows a.n a.w.now, refl)

pub returns-then-not-column : goal.returns-then-not-column
unfolding next stepped
returns-then-not-column c =
    let l = c.loop-i in
    let a = c.args in
    let called = c.column in
    let e : Echelon = echelon a.n (rows_of a.rows a.n a.w.now) in
    let none : called.result ≡ false = c.if-not-column.true in
    let f : columns (a.n - (l.i + 1)) (l.i + 1) (stage l.i a.rows a.n called.new.w) ≡ e =
    ap (λ (r : Bool). columns (a.n - (l.i + 1)) (l.i + 1) (stage (next r l.i) a.rows a.n called.new.w)) (sym none)
    ∙ ap (columns (a.n - (l.i + 1)) (l.i + 1)) called.ensures.w_after
    ∙ sym (columns-next l.i a.n (stage l.i a.rows a.n l.w) (omega arith)) ∙ l.invariant.2 in
    record { value = stopped a.rows a.n e l.i called.new.w (omega arith) f; w_after = (λ g. absurd (false≢true g)); w_unchanged = called.ensures.w_unchanged ∙ l.invariant.3 }

pub loop-i-preserved : goal.loop-i-preserved
unfolding next stepped
loop-i-preserved c =
    let l = c.loop-i in
    let a = c.args in
    let called = c.column in
    let some : called.result ≡ true = c.if-not-column.false in (
      omega arith,
      called.auto.w ∙ l.invariant.1,
      ap (λ (r : Bool). columns (a.n - (l.i + 1)) (l.i + 1) (stage (next r l.i) a.rows a.n called.new.w)) (sym some)
          ∙ ap (columns (a.n - (l.i + 1)) (l.i + 1)) called.ensures.w_after
          ∙ sym (columns-next l.i a.n (stage l.i a.rows a.n l.w) (omega arith))
          ∙ l.invariant.2,
      called.ensures.w_unchanged ∙ l.invariant.3,
    )

pub returns : goal.returns
returns c =
    let l = c.loop-i in
    let a = c.args in
    let e : l.i ≡ a.rows = omega arith in
    let f = reduced a.rows a.n (echelon a.n (rows_of a.rows a.n a.w.now)) l.w
    (subst (λ (i : ℕ). columns (a.n - i) i (stage i a.rows a.n l.w) ≡ echelon a.n (rows_of a.rows a.n a.w.now)) e l.invariant.2) in
    record { value = f.0; w_after = (λ g. f.1); w_unchanged = l.invariant.3 }
