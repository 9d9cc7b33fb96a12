-- The first n and t numbers are those of the lent parts. Assumes nothing.
use mathlib.Core.Path.{◌≡◌, sym, ap₂, ◌∙◌}
use Prim.Native.Nat.{ℕ, ◌*◌}
use native.Mathlib.Omega.{arith}
use borrow.Author.Rules.{rules}
use lib.ListN.{length, drop}
use lib.Seq.{length-take-le}
use Rattle.bits.specs.Bits.{bytes_for}
use Rattle.key.specs.Keys.{key_of}
use Rattle.key.proofs.Accepted.{accepted}
use Rattle.key.proofs.Units.{goppa_units}
use Rattle.code.specs.Lock.{rows_of}
use Rattle.publishing.proofs.matrix.key_rows.Goals as goal

pub slice_bounds-parity_rows-end : goal.slice_bounds-parity_rows-end
slice_bounds-parity_rows-end c =
    let a = c.args in
    let e : length a.support.now ≡ 8192 = search rules in
    sym (length-take-le a.n a.support.now (omega arith))

pub slice_bounds-parity_rows-end-2 : goal.slice_bounds-parity_rows-end-2
slice_bounds-parity_rows-end-2 c =
    let a = c.args in
    let e : length a.g.now ≡ 128 = search rules in
    sym (length-take-le a.t a.g.now (omega arith))

pub parity_rows-requires : goal.parity_rows-requires
unfolding key_of
parity_rows-requires c =
    let a = c.args in
    let ls : length a.support.now ≡ 8192 = search rules in
    let lg : length a.g.now ≡ 128 = search rules in
    let s = length-take-le a.n a.support.now (omega arith) in
    let g = length-take-le a.t a.g.now (omega arith) in
    let A = accepted _ c.requires.3 in
    (A.width, omega arith, rw (s, g) c.requires.2, goppa_units _ A)

pub returns : goal.returns
returns c =
    let a = c.args in
    let ls : length a.support.now ≡ 8192 = search rules in
    let lg : length a.g.now ≡ 128 = search rules in
    let s = length-take-le a.n a.support.now (omega arith) in
    let g = length-take-le a.t a.g.now (omega arith) in
    let q = c.parity_rows in
    record {
      rows = ap₂ (λ (t n : ℕ). rows_of (a.m * t) n q.new.work) (sym g) (sym s) ∙ q.ensures.rows;
      rest = ap₂ (λ (t n : ℕ). drop (a.m * t * bytes_for n) q.new.work) (sym g) (sym s) ∙ q.ensures.rest ∙ ap₂ (λ (t n : ℕ). drop (a.m * t * bytes_for n) a.work.now) g s;
    }
