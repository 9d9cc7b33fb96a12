-- Assumes nothing.
use mathlib.Core.Path.{refl, ap, ◌∙◌}
use mathlib.Core.List.{List, flat_map}
use Prim.Native.Nat.{ℕ, ◌+◌, ◌*◌}
use native.Mathlib.Omega.{arith}
use lib.ListN.{length, set, length-set}
use lib.Seq.{sets}
use Rattle.key.specs.Keys.{two_bytes}
use Rattle.network.specs.Network.{switches}
use Rattle.network_key.specs.Files.{four_bytes}
use Rattle.network_writing.proofs.Head.{sets_head, count_small}
use Rattle.network_writing.proofs.put_head.Goals as goal

pub put_pair-requires : goal.put_pair-requires
put_pair-requires c = (simp length-set (omega arith), omega arith)

pub put_pair-requires-2 : goal.put_pair-requires-2
put_pair-requires-2 c = (omega (arith, c.put_pair.auto, length-set c.args.out.now 0 c.args.m), omega arith)

pub put_elements-requires : goal.put_elements-requires
put_elements-requires c = (omega (arith, c.put_pair.auto, c.put_pair-2.auto, length-set c.args.out.now 0 c.args.m), omega arith)

pub put_four-requires : goal.put_four-requires
put_four-requires c = (omega (arith, c.put_pair.auto, c.put_pair-2.auto, c.put_elements.auto, length-set c.args.out.now 0 c.args.m), omega arith, rw c.switches.ensures (omega (arith, count_small c.args.m (omega arith))))

pub shape_of-out : goal.shape_of-out
shape_of-out c = omega (arith, c.put_pair.auto, c.put_pair-2.auto, c.put_elements.auto, c.put_four.auto, length-set c.args.out.now 0 c.args.m)

pub returns : goal.returns
returns c =
    let a = c.args in
    let t : ℕ = length a.g.now in
    c.put_four.ensures
    ∙ ap (λ (x : ℕ). sets c.put_elements.new.out (5 + 2 * t) (four_bytes x)) c.switches.ensures
    ∙ ap (λ (o : List ℕ). sets o (5 + 2 * t) (four_bytes (switches a.m)))
    (c.put_elements.ensures
    ∙ ap (λ (o : List ℕ). sets o 5 (flat_map two_bytes a.g.now))
    (c.put_pair-2.ensures ∙ ap (λ (o : List ℕ). sets o 3 (two_bytes t)) c.put_pair.ensures))
    ∙ sets_head (set a.out.now 0 a.m) a.n t (switches a.m) a.g.now refl
