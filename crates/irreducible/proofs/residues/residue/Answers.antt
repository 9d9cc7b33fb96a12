-- `residue` meets its contract. Assumes nothing.
use mathlib.Core.Path.{◌≡◌, sym, ◌∙◌}
use Prim.Native.Nat.{ℕ, ◌+◌}
use native.Mathlib.Omega.{arith}
use borrow.Author.Rules.{rules}
use lib.ListN.{length, drop, length-append}
use lib.Seq.{length-take-le}
use Rattle.irreducible.proofs.Products.{residue_of}
use Rattle.irreducible.proofs.residues.residue.Goals as goal

pub slice_bounds-reduce-end : goal.slice_bounds-reduce-end
slice_bounds-reduce-end c = let a = c.args in let z : length a.b ≡ 256 = search rules in sym (length-take-le _ a.b (omega arith))

pub reduce-requires : goal.reduce-requires
reduce-requires c = let a = c.args in let z : length a.b ≡ 256 = search rules in (omega arith, length-take-le _ a.b (omega arith))

pub slice_bounds-c-end-2 : goal.slice_bounds-c-end-2
slice_bounds-c-end-2 c =
    let a = c.args in
    let n : ℕ = length a.r.now in
    let z : length a.b ≡ 256 = search rules in
    let x = c.reduce in
    let y : length x.new.b ≡ n + n = x.ensures.size ∙ length-take-le (n + n) a.b (omega arith) in
    omega (arith, length-append x.new.b (drop (n + n) a.b))

pub slice_bounds-copy_each-end : goal.slice_bounds-copy_each-end
slice_bounds-copy_each-end c =
    let a = c.args in
    let n : ℕ = length a.r.now in
    let z : length a.b ≡ 256 = search rules in
    let x = c.reduce in
    let y : length x.new.b ≡ n + n = x.ensures.size ∙ length-take-le (n + n) a.b (omega arith) in
    sym (length-take-le n _ (omega (arith, length-append x.new.b (drop (n + n) a.b))))

pub returns : goal.returns
returns c =
    let a = c.args in
    let z : length a.b ≡ 256 = search rules in
    residue_of a.t.now a.b a.r.now c.reduce.new.b _ z (omega arith) c.reduce.ensures c.copy_each.ensures
