-- The byte, the row and the capsule stand one behind another. Assumes nothing.
use mathlib.Core.Path.{sym, ap, ◌∙◌}
use mathlib.Core.List.{List}
use Prim.Native.Nat.{ℕ, ◌+◌}
use native.Mathlib.Omega.{arith}
use lib.ListN.{length, take, replicate}
use lib.Seq.{paste, length-take-le}
use Rattle.keccak.specs.Shake.{shake256}
use Rattle.session.specs.Session.{hashed}
use Rattle.session_key.proofs.Texts.{written}
use Rattle.session_key.proofs.hash.Goals as goal

pub slice_bounds-shake256-end : goal.slice_bounds-shake256-end
slice_bounds-shake256-end c = sym (length-take-le _ _ (omega arith))

pub returns : goal.returns
unfolding hashed
returns c =
    let a = c.args in
    let row = a.row.now in
    let capsule = a.capsule.now in
    let n : ℕ = 1 + length row in
    c.shake256.ensures
    ∙ ap (λ (d : List ℕ). shake256 32 (take (n + length capsule) d))
    (c.put-2.ensures ∙ ap (λ (d : List ℕ). paste d n capsule (length capsule)) c.put.ensures)
    ∙ ap (shake256 32) (written a.first row capsule (replicate 2049 0) (omega arith))
