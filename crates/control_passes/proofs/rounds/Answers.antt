-- The loop's invariant: p is the 2^i-th iterate, and c the least of the first 2^i. Assumes nothing.
use mathlib.Core.Path.{◌≡◌, refl, sym, ap, ◌∙◌}
use Prim.Native.Nat.{◌^◌}
use native.Mathlib.Omega.{arith}
use borrow.Author.Rules.{rules}
use Rattle.network.specs.Network.{low}
use Rattle.network.specs.Tables.{at}
use Rattle.control_passes.proofs.Tabs.{it_below, round_it, round_low}
use Rattle.control_passes.proofs.Doubling.{it_one, low_one}
use Rattle.control_passes.proofs.rounds.Goals as goal

pub loop-i-init : goal.loop-i-init
loop-i-init c = (omega arith, refl, refl, refl, refl, (λ x h. sym (it_one _ x)), λ x h. c.requires.tab x h ∙ sym (low_one _ x))

pub double-requires : goal.double-requires
double-requires c =
    let l = c.loop-i in record {
      n_in_bounds = (omega arith, omega arith, omega arith, omega arith);
      by_index = λ x h. let b = it_below (at c.args.p.now) c.args.n c.requires.by_index (2 ^ l.i) x (omega arith) in
          let e = l.invariant.5 x (omega arith) in omega arith;
    }

pub loop-i-preserved : goal.loop-i-preserved
loop-i-preserved c =
    let l = c.loop-i in let d = c.double in (
      omega arith,
      search rules,
      search rules,
      search rules,
      search rules,
      (λ x h. c.copy.ensures x h ∙ round_it (at c.args.p.now) c.args.n c.requires.by_index l.p l.c l.i l.invariant.5 l.invariant.6
          d.new.p2 (λ y k. d.ensures.tab y (omega arith)) x h),
      (λ x h. c.copy-in-loop-i.ensures x h ∙ round_low (at c.args.p.now) c.args.n c.requires.by_index l.p l.c l.i l.invariant.5 l.invariant.6
          d.new.c2 (λ y k. d.ensures.tab_2 y (omega arith)) x h),
    )

pub returns : goal.returns
returns c =
    let l = c.loop-i in
    λ x h. l.invariant.6 x h ∙ ap (λ i. low (at c.args.p.now) (2 ^ i) x) (let e : l.i ≡ c.args.k = omega arith in e)
