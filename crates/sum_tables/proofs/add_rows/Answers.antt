-- The loop's invariant: the first r rows are cleared, and what follows is as it was. Assumes nothing.
use mathlib.Core.Path.{◌≡◌, refl, sym, ap, ◌∙◌, subst}
use mathlib.Core.List.{List, ◌++◌, map}
use Prim.Native.Nat.{ℕ, ◌+◌, ◌-◌, ◌*◌, ◌≤◌}
use native.Mathlib.Nat.{zero-mul}
use native.Mathlib.Omega.{arith}
use borrow.Author.Rules.{rules}
use borrow.Rule.Slice.PartMut.{put_mid, same_len_mid}
use lib.ListN.{length, take, drop}
use Rattle.bits.specs.Bits.{from, bytes_for, unpack}
use Rattle.bits.proofs.Parts.{rows_in, next_row, part_all, part_back}
use Rattle.code.specs.Lock.{rows_of}
use Rattle.bits.specs.Bits.{xor_row}
use Rattle.sum_tables.specs.Apart.{plus}
use Rattle.sum_tables.proofs.Adding.{add-next, add_rest}
use Rattle.sum_tables.proofs.add_rows.Goals as goal

pub loop-r-init : goal.loop-r-init
unfolding rows_of from
loop-r-init c = let a = c.args in (omega arith, sym (zero-mul (bytes_for a.n)), omega arith, refl, refl, refl)

pub overflow_add-at : goal.overflow_add-at
overflow_add-at c =
    let l = c.loop-r in
    let a = c.args in
    omega (arith, rows_in l.r a.rows (bytes_for a.n) (omega arith))

pub loop-r-preserved : goal.loop-r-preserved
loop-r-preserved c =
    let l = c.loop-r in
    let a = c.args in
    let called = c.xor_row in
    let b : ℕ = bytes_for a.n in
    let w : List ℕ = l.w in
    let size : c.bytes_for-b.result ≡ b = search rules in
    let room : l.at + b ≤ length w = omega (arith, rows_in l.r a.rows b (omega arith)) in
    let y : called.new.dst ≡ xor_row (drop l.at w) a.p.now = called.ensures ∙ ap (λ (s : List ℕ). xor_row s a.p.now) (part_all l.at w) in
    let e : put_mid l.at (length w - l.at) w called.new.dst ≡ take l.at w ++ xor_row (drop l.at w) a.p.now =
    part_back l.at w called.new.dst ∙ ap (λ (z : List ℕ). take l.at w ++ z) y in
    let same : length (put_mid l.at (length w - l.at) w called.new.dst) ≡ length w = same_len_mid l.at (length w - l.at) w called.new.dst called.auto.dst in (
      omega arith,
      omega (arith, next_row l.r b),
      omega arith,
      omega arith,
      ap (rows_of (l.r + 1) a.n) e
          ∙ add-next l.r a.n l.at a.p.now a.w.now w (omega arith) l.invariant.1 room l.invariant.5 l.invariant.4,
      ap (λ (k : ℕ). drop (l.at + k) (put_mid l.at (length w - l.at) w called.new.dst)) size
          ∙ ap (drop (l.at + b)) e
          ∙ add_rest l.r a.n l.at a.p.now a.w.now w (omega arith) l.invariant.1 room l.invariant.5
          ∙ ap (λ (k : ℕ). drop (l.at + k) a.w.now) (sym size),
    )

pub shape_of-w : goal.shape_of-w
shape_of-w c = c.loop-r.invariant.3

pub returns : goal.returns
returns c =
    let l = c.loop-r in
    let a = c.args in
    let e : l.r ≡ a.rows = omega arith in
    let f : l.at ≡ a.rows * bytes_for a.n = l.invariant.1 ∙ ap (λ (k : ℕ). k * bytes_for a.n) e in
    record {
      w_after = subst (λ (k : ℕ). rows_of k a.n l.w ≡ map (plus (unpack a.n a.p.now)) (rows_of k a.n a.w.now)) e l.invariant.4;
      w_unchanged = subst (λ (k : ℕ). drop k l.w ≡ drop k a.w.now) f l.invariant.5;
    }
