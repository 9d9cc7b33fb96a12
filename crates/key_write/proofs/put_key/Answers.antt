-- Assumes nothing.
use mathlib.Core.Path.{refl, ap, ◌∙◌}
use mathlib.Core.List.{List, flat_map}
use Prim.Native.Nat.{ℕ, ◌+◌, ◌*◌}
use native.Mathlib.Omega.{arith}
use lib.ListN.{length, set, length-set}
use lib.Seq.{sets}
use Rattle.key.specs.Keys.{two_bytes}
use Rattle.key_write.proofs.Sets.{sets_key}
use Rattle.key_write.proofs.put_key.Goals as goal

pub put_pair-requires : goal.put_pair-requires
put_pair-requires c = (simp length-set (omega arith), omega arith)

pub put_elements-requires : goal.put_elements-requires
put_elements-requires c = (omega (arith, c.put_pair.auto, length-set c.args.out.now 0 c.args.m), omega arith)

pub put_pair-requires-2 : goal.put_pair-requires-2
put_pair-requires-2 c = (omega (arith, c.put_elements.auto, c.put_pair.auto, length-set c.args.out.now 0 c.args.m), omega arith)

pub put_elements-requires-2 : goal.put_elements-requires-2
put_elements-requires-2 c = (omega (arith, c.put_pair-2.auto, c.put_elements.auto, c.put_pair.auto, length-set c.args.out.now 0 c.args.m), omega arith)

pub shape_of-out : goal.shape_of-out
shape_of-out c = omega (arith, c.put_elements-2.auto, c.put_pair-2.auto, c.put_elements.auto, c.put_pair.auto, length-set c.args.out.now 0 c.args.m)

pub returns : goal.returns
returns c =
    let a = c.args in
    let n : ℕ = length a.support.now in
    let t : ℕ = length a.g.now in
    c.put_elements-2.ensures
    ∙ ap (λ (o : List ℕ). sets o (5 + 2 * n) (flat_map two_bytes a.g.now))
    (c.put_pair-2.ensures
    ∙ ap (λ (o : List ℕ). sets o (3 + 2 * n) (two_bytes t))
    (c.put_elements.ensures ∙ ap (λ (o : List ℕ). sets o 3 (flat_map two_bytes a.support.now)) c.put_pair.ensures))
    ∙ sets_key (set a.out.now 0 a.m) n t a.support.now a.g.now refl
