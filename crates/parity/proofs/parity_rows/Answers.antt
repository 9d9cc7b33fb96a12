-- The values have inverses, and these are the entries for the power 0. Assumes nothing.
use mathlib.Core.Path.{◌≡◌, sym, ap, ◌∙◌}
use mathlib.Core.List.{List, map}
use Prim.Native.Nat.{ℕ}
use native.Mathlib.Omega.{arith}
use lib.ListN.{length, take, drop, length-drop, length-append, length-map}
use lib.Seq.{take_at, length-take-le}
use Rattle.field.proofs.Verdicts.{verdict_accepted}
use Rattle.field.proofs.Units.{inverses_given, inverses_not_refused}
use Rattle.key.specs.Keys.{key_of}
use Rattle.code.specs.Code.{entry}
use Rattle.parity.proofs.Entries.{entries_start}
use Rattle.parity.proofs.parity_rows.Goals as goal

pub slice_bounds-inverse_each-end-2 : goal.slice_bounds-inverse_each-end-2
slice_bounds-inverse_each-end-2 c =
    let a = c.args in
    sym (length-take-le (length a.support.now) a.p.now (omega arith))

pub returns-in_default : goal.returns-in_default
returns-in_default c = absurd (inverses_not_refused _ _ c.requires.0 (rw c.requires.3 c.requires.4) c.inverse_each-x.ensures.answer c.in_default.is)

pub power_rows-requires : goal.power_rows-requires
power_rows-requires c =
    let a = c.args in
    let n : ℕ = length a.support.now in
    let v : List ℕ = c.inverse_each-x.new.v in
    let z = verdict_accepted _ c.inverse_each-x.ensures.answer c.in-Accepted.is in
    let e : v ≡ map (entry (key_of a.m a.support.now a.g.now) 0) a.support.now =
    inverses_given _ _ z c.inverse_each-x.ensures.output
    ∙ entries_start a.m c.requires.0 a.support.now a.g.now (take n a.p.now) c.requires.3 in
    let l : length v ≡ n = ap length e ∙ length-map a.support.now _ in
    (c.requires.0, omega (arith, length-append v (drop n a.p.now), length-drop n a.p.now), c.requires.2, take_at v _ n l ∙ e, c.requires.5, c.requires.6, c.requires.7)
