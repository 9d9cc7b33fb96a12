-- The first n and t numbers are those of the lent parts. Assumes nothing.
use mathlib.Core.Path.{◌≡◌, sym, ap, ◌∙◌, subst}
use mathlib.Core.Bool.{not}
use Prim.Native.Nat.{ℕ, ◌*◌, ◌≤◌}
use native.Mathlib.Omega.{arith}
use lib.ListN.{length, drop}
use Rattle.bits.specs.Bits.{over}
use Rattle.field.proofs.Verdicts.{refuses, accepts}
use Rattle.key.specs.Keys.{key_number}
use Rattle.key.specs.Kept.{kept, parts}
use Rattle.key.proofs.Parts.{kept-sizes, key_of-kept}
use Rattle.code.specs.PublicKey.{public_key, dependent, written}
use Rattle.publishing.proofs.Checks.{Sizes, sizes}
use Rattle.publishing.proofs.ChecksWithin.{checks_clear}
use Rattle.block_product.specs.Blocks.{step_of}
use Rattle.small_publishing.proofs.Sizes.{small_is, refused_by_lem, accepted_by}
use Rattle.small_publishing.proofs.make.Goals as goal

pub slice_bounds-make_rows-end : goal.slice_bounds-make_rows-end
slice_bounds-make_rows-end c =
    let a = c.args in
    let k = parts a.m a.n a.t a.support.now a.g.now in
    let f = checks_clear _ (kept k) _ _ c.requires in
    let z : Sizes (kept k) = sizes (kept k) f.0 in
    let long = kept-sizes k f.0 in
    sym long.0

pub slice_bounds-make_rows-end-2 : goal.slice_bounds-make_rows-end-2
slice_bounds-make_rows-end-2 c =
    let a = c.args in
    let k = parts a.m a.n a.t a.support.now a.g.now in
    let f = checks_clear _ (kept k) _ _ c.requires in
    let z : Sizes (kept k) = sizes (kept k) f.0 in
    let long = kept-sizes k f.0 in
    sym long.1

pub make_rows-requires : goal.make_rows-requires
unfolding kept
make_rows-requires c =
    let a = c.args in
    let k = parts a.m a.n a.t a.support.now a.g.now in
    let f = checks_clear _ (kept k) _ _ c.requires in
    let z : Sizes (kept k) = sizes (kept k) f.0 in
    let long = kept-sizes k f.0 in
    let room : k.m * k.t * step_of (k.m * k.t) ≤ length a.work.now = omega (arith, f.2, small_is (kept k)) in
    (ap key_number (key_of-kept k f.0) ∙ f.0, rw (long.0, long.1) f.1, rw long.1 room)

pub returns-then-not-make_rows : goal.returns-then-not-make_rows
unfolding kept
returns-then-not-make_rows c =
    let a = c.args in
    let k = parts a.m a.n a.t a.support.now a.g.now in
    let f = checks_clear _ (kept k) _ _ c.requires in
    let z : Sizes (kept k) = sizes (kept k) f.0 in
    let long = kept-sizes k f.0 in
    let made = c.make_rows in
    let key = key_of-kept k f.0 in
    let rest : drop (k.m * k.t * step_of (k.m * k.t)) made.new.work ≡ drop (k.m * k.t * step_of (k.m * k.t)) a.work.now = rw long.1 at made.ensures.rest in
    record {
      answer = refuses (refused_by_lem (dependent (kept k)) (sym c.if-not-make_rows.true ∙ made.ensures.answer ∙ ap (λ x. not (dependent x)) key));
      output = made.ensures.output ∙ ap (λ x. over (written (public_key x)) a.out.now) key;
      rest = subst (λ (x : ℕ). drop x made.new.work ≡ drop x a.work.now) (sym (small_is (kept k))) rest;
    }

pub returns : goal.returns
unfolding kept
returns c =
    let a = c.args in
    let k = parts a.m a.n a.t a.support.now a.g.now in
    let f = checks_clear _ (kept k) _ _ c.requires in
    let z : Sizes (kept k) = sizes (kept k) f.0 in
    let long = kept-sizes k f.0 in
    let made = c.make_rows in
    let key = key_of-kept k f.0 in
    let rest : drop (k.m * k.t * step_of (k.m * k.t)) made.new.work ≡ drop (k.m * k.t * step_of (k.m * k.t)) a.work.now = rw long.1 at made.ensures.rest in
    record {
      answer = accepts (accepted_by (dependent (kept k)) (sym c.if-not-make_rows.false ∙ made.ensures.answer ∙ ap (λ x. not (dependent x)) key));
      output = made.ensures.output ∙ ap (λ x. over (written (public_key x)) a.out.now) key;
      rest = subst (λ (x : ℕ). drop x made.new.work ≡ drop x a.work.now) (sym (small_is (kept k))) rest;
    }
