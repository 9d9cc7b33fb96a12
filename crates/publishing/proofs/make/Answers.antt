-- Rows of H, eliminated: T is the columns behind the first m·t, where these are independent. Assumes nothing.
use mathlib.Core.Path.{◌≡◌, sym, ap, ◌∙◌}
use mathlib.Core.List.{List}
use Prim.Native.Nat.{ℕ, ◌*◌, ◌≤◌}
use native.Mathlib.Omega.{arith}
use lib.ListN.{length}
use Rattle.bits.specs.Bits.{bytes_for, over}
use Rattle.field.proofs.Verdicts.{refuses, accepts}
use Rattle.key.specs.Keys.{key_number}
use Rattle.key.specs.Kept.{kept, parts}
use Rattle.key.proofs.Parts.{key_of-kept}
use Rattle.code.specs.Code.{parity_rows}
use Rattle.code.specs.Publish.{capsule_bits}
use Rattle.code.specs.Lock.{rows_of}
use Rattle.publishing.proofs.Checks.{Sizes, sizes, checks_clear}
use Rattle.publishing.proofs.Made.{dependent-made, nothing_written, independent_made, columns-written}
use Rattle.publishing.proofs.make.Goals as goal

pub overflow_mul-rows : goal.overflow_mul-rows
unfolding kept
overflow_mul-rows c =
    let a = c.args in
    let k = parts a.m a.n a.t a.support.now a.g.now in
    let f = checks_clear (kept k) _ _ c.requires in
    let z : Sizes (kept k) = sizes (kept k) f.0 in
    omega (arith, z.rows, z.columns)

pub key_rows-requires : goal.key_rows-requires
unfolding kept capsule_bits
key_rows-requires c =
    let a = c.args in
    let k = parts a.m a.n a.t a.support.now a.g.now in
    let f = checks_clear (kept k) _ _ c.requires in
    let z : Sizes (kept k) = sizes (kept k) f.0 in
    (z.columns, z.degree, f.2, ap key_number (key_of-kept k f.0) ∙ f.0)

pub returns-then-not-eliminate : goal.returns-then-not-eliminate
unfolding kept capsule_bits
returns-then-not-eliminate c =
    let a = c.args in
    let k = parts a.m a.n a.t a.support.now a.g.now in
    let q = c.key_rows in
    let w : List ℕ = q.new.work in
    let f = checks_clear (kept k) _ _ c.requires in
    let z : Sizes (kept k) = sizes (kept k) f.0 in
    let l : length w ≡ length c.args.work.now = q.auto.work in
    let room : k.m * k.t * bytes_for k.n ≤ length w = omega (arith, f.2) in
    let rows : rows_of (k.m * k.t) k.n w ≡ parity_rows (kept k) =
    q.ensures.rows ∙ ap parity_rows (key_of-kept k f.0) in
    let e = sym c.eliminate.ensures.value ∙ c.if-not-eliminate.true in
    record { answer = refuses (dependent-made (kept k) z w room rows e); output = nothing_written (kept k) z w room rows e c.args.out.now; rest = c.eliminate.ensures.work_unchanged ∙ q.ensures.rest }

pub write_rows-requires : goal.write_rows-requires
unfolding kept
write_rows-requires c =
    let a = c.args in
    let k = parts a.m a.n a.t a.support.now a.g.now in
    let f = checks_clear (kept k) _ _ c.requires in
    let z : Sizes (kept k) = sizes (kept k) f.0 in
    (omega (arith, z.rows), z.columns, omega (arith, f.1))

pub returns : goal.returns
unfolding kept capsule_bits
returns c =
    let a = c.args in
    let k = parts a.m a.n a.t a.support.now a.g.now in
    let q = c.key_rows in
    let w : List ℕ = q.new.work in
    let f = checks_clear (kept k) _ _ c.requires in
    let z : Sizes (kept k) = sizes (kept k) f.0 in
    let l : length w ≡ length c.args.work.now = q.auto.work in
    let room : k.m * k.t * bytes_for k.n ≤ length w = omega (arith, f.2) in
    let rows : rows_of (k.m * k.t) k.n w ≡ parity_rows (kept k) =
    q.ensures.rows ∙ ap parity_rows (key_of-kept k f.0) in
    let el = c.eliminate in
    let e = sym el.ensures.value ∙ c.if-not-eliminate.false in
    let d = el.ensures.work_after c.if-not-eliminate.false in
    record {
      answer = accepts (independent_made (kept k) z w room rows e);
      output = c.write_rows.ensures ∙ ap (λ (t : List ℕ). over t c.args.out.now) (columns-written (kept k) z w room rows e el.new.work d);
      rest = el.ensures.work_unchanged ∙ q.ensures.rest;
    }
