-- A turn by its three cases. Assumes nothing.
use mathlib.Core.Path.{sym, ◌∙◌}
use native.Mathlib.Omega.{arith}
use Rattle.register.specs.Registered.{figure}
use Rattle.register.proofs.Across.{across_skip, across_fix, across_grow}
use Rattle.register.proofs.turn.Goals as goal

pub returns-then-d-eq0 : goal.returns-then-d-eq0
returns-then-d-eq0 c =
    let a = c.args in
    sym (across_skip a.m a.d a.n (figure a.c.now a.b.now a.k) (omega arith))

pub returns-then-n-k : goal.returns-then-n-k
returns-then-n-k c =
    let a = c.args in
    sym (across_fix a.m a.d a.n (figure a.c.now a.b.now a.k) c.correct.ensures (λ e. omega arith) (omega arith))

pub returns : goal.returns
returns c =
    let a = c.args in
    sym (across_grow a.m a.d a.n (figure a.c.now a.b.now a.k) c.correct-2.ensures (c.copy.ensures ∙ c.copied-old.ensures) (λ e. omega arith) (omega arith))
