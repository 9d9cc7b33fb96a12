-- The identity beside the matrix, and both eliminated. Assumes nothing.
use mathlib.Core.Path.{◌≡◌, ap, ◌∙◌}
use mathlib.Core.List.{List}
use Prim.Native.Nat.{ℕ, ◌+◌, ◌*◌, ◌≤◌}
use native.Mathlib.Omega.{arith}
use borrow.Author.Rules.{rules}
use lib.ListN.{length}
use Rattle.bits.specs.Bits.{bytes_for}
use Rattle.inversion.specs.Inversion.{pair_bits}
use Rattle.inversion.proofs.Beside.{few_bytes, invert_answer, invert_rows, invert_rest}
use Rattle.inversion.proofs.reduce.Goals as goal

pub overflow_mul-n : goal.overflow_mul-n
overflow_mul-n c =
    let a = c.args in
    let e : c.bytes_for.result ≡ bytes_for a.rows = search rules in
    omega (arith, few_bytes a.rows (omega arith))

pub overflow_add-n : goal.overflow_add-n
overflow_add-n c =
    let a = c.args in
    let e : c.bytes_for.result ≡ bytes_for a.rows = search rules in
    omega (arith, few_bytes a.rows (omega arith))

pub returns : goal.returns
unfolding pair_bits
returns c =
    let a = c.args in
    let made = c.identity in
    let gone = c.eliminate in
    let bytes = c.bytes_for in
    let w : List ℕ = made.new.w in
    let size : 8 * bytes.result + a.rows ≡ pair_bits a.rows = ap (λ (x : ℕ). 8 * x + a.rows) bytes.ensures in
    let few : a.rows ≤ 4088 = omega arith in
    let within : a.rows * (bytes_for a.rows + bytes_for a.rows) ≤ length w = omega (arith, made.auto.w) in
    record {
      answer = gone.ensures.value ∙ invert_answer a.rows _ a.w.now w size few within made.ensures.rows;
      reduced = λ t. invert_rows a.rows _ a.w.now w size few within made.ensures.rows gone.new.work (gone.ensures.work_after t);
      rest = invert_rest a.rows _ a.w.now w size few within made.ensures.rows gone.new.work gone.ensures.work_unchanged ∙ made.ensures.rest;
    }
