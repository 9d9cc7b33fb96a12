-- The loop's invariant: b was equal modulo g to its j lower coefficients as they are now. Assumes nothing.
use mathlib.Core.Path.{◌≡◌, sym, ap, ◌∙◌, subst}
use mathlib.Core.List.{List}
use Prim.Native.Nat.{ℕ, ◌-◌}
use native.Mathlib.Omega.{arith}
use borrow.Rule.Slice.PartMut.{put_mid}
use lib.ListN.{length, get_or, take, drop}
use Rattle.row_tables.specs.RowTable.{add_multiple}
use Rattle.irreducible.specs.Residues.{Reduced}
use Rattle.irreducible.proofs.Products.{reduced_none, reduced-next}
use Rattle.irreducible.proofs.residues.reduce.Goals as goal

pub loop-j-init : goal.loop-j-init
loop-j-init c = let a = c.args in (omega arith, omega arith, omega arith, reduced_none a.t.now a.n a.b.now (omega arith))

pub loop-j-preserved : goal.loop-j-preserved
loop-j-preserved c =
    let l = c.loop-j in
    let a = c.args in
    let called = c.add_multiple in
    let t : List ℕ = a.t.now in
    let j : ℕ = l.j - 1 in
    let s : ℕ = j - a.n in
    let e : j - s ≡ a.n = omega arith in
    let x : ℕ = get_or l.b j 0 in
    let next = reduced-next t a.n j l.j a.b.now l.b (omega arith) (omega arith) (omega arith) (omega arith) l.invariant.3 in
    let y : put_mid s (j - s) l.b called.new.r ≡ put_mid s a.n l.b (add_multiple t x (take a.n (drop s l.b))) =
    ap (put_mid s (j - s) l.b) called.ensures ∙ ap (λ (k : ℕ). put_mid s k l.b (add_multiple t x (take k (drop s l.b)))) e in
    (omega arith, omega arith, ap length y ∙ next.size ∙ c.requires.1, subst (Reduced t a.n j a.b.now) (sym y) next)

pub shape_of-b : goal.shape_of-b
shape_of-b c = c.loop-j.invariant.3.size

pub returns : goal.returns
returns c =
    let l = c.loop-j in
    let a = c.args in
    let e : l.j ≡ a.n = omega arith in
    subst (λ (k : ℕ). Reduced a.t.now a.n k a.b.now l.b) e l.invariant.3
