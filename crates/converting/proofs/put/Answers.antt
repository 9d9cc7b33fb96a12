-- The key's parts are the first n and t numbers of the arrays. Assumes nothing.
use mathlib.Core.Path.{◌≡◌, sym, ap₂, ◌∙◌}
use mathlib.Core.List.{◌∷◌, ◌++◌, flat_map}
use Prim.Native.Nat.{ℕ}
use native.Mathlib.Omega.{arith}
use lib.ListN.{length, take}
use lib.Seq.{sets, length-take-le}
use borrow.Author.Rules.{rules}
use Rattle.key.specs.Keys.{two_bytes, file_of}
use Rattle.key.specs.Kept.{kept}
use Rattle.converting.proofs.put.Goals as goal

pub slice_bounds-put_key-end : goal.slice_bounds-put_key-end
slice_bounds-put_key-end c =
    let a = c.args in
    let u : length a.support.now ≡ 8192 = search rules in
    sym (length-take-le a.s.n a.support.now (omega arith))

pub slice_bounds-put_key-end-2 : goal.slice_bounds-put_key-end-2
slice_bounds-put_key-end-2 c =
    let a = c.args in
    let u : length a.g.now ≡ 128 = search rules in
    sym (length-take-le a.s.t a.g.now (omega arith))

pub put_key-requires : goal.put_key-requires
put_key-requires c =
    let a = c.args in
    let u : length a.support.now ≡ 8192 = search rules in
    let v : length a.g.now ≡ 128 = search rules in
    let e = length-take-le a.s.n a.support.now (omega arith) in
    let f = length-take-le a.s.t a.g.now (omega arith) in (omega arith, omega arith, omega arith)

pub returns : goal.returns
unfolding file_of kept
returns c =
    let a = c.args in
    let u : length a.support.now ≡ 8192 = search rules in
    let v : length a.g.now ≡ 128 = search rules in
    c.put_key.ensures
    ∙ ap₂ (λ (n t : ℕ). sets a.out.now 0 (a.s.m ∷ (two_bytes n ++ (flat_map two_bytes (take a.s.n a.support.now) ++ (two_bytes t ++ flat_map two_bytes (take a.s.t a.g.now))))))
    (length-take-le a.s.n a.support.now (omega arith)) (length-take-le a.s.t a.g.now (omega arith))
