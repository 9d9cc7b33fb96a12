-- The number, then the bytes. Assumes nothing.
use mathlib.Core.Path.{◌≡◌, refl, sym, ◌∙◌}
use borrow.Author.Tests.{eq-eqb, ne_eqb}
use Rattle.vectors.specs.Lines.{refused_of, output_of}
use Rattle.vectors.proofs.line.output.Goals as goal

pub returns-then-refused-ne0 : goal.returns-then-refused-ne0
unfolding output_of
returns-then-refused-ne0 c =
    let a = c.args in
    let e : refused_of a.line.now a.k ≡ 0 → ⊥ = λ h. c.if-refused-ne0.true (c.refused.ensures ∙ h) in
    c.no_bytes.ensures ∙ (rw (ne_eqb _ 0 e) refl)

pub returns : goal.returns
unfolding output_of
returns c =
    let a = c.args in
    let e : refused_of a.line.now a.k ≡ 0 = sym c.refused.ensures ∙ c.if-refused-ne0.false in
    c.bytes_of.ensures ∙ (rw (eq-eqb _ 0 e) refl)
