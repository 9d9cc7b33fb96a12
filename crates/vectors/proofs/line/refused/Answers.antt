-- The field's letter, then the number. Assumes nothing.
use mathlib.Core.Path.{◌≡◌, refl, sym, ap, ◌∙◌}
use Prim.Native.Nat.{ℕ}
use borrow.Author.Tests.{eq-eqb, ne_eqb}
use lib.ListN.{get_or}
use Rattle.vectors.specs.Lines.{start_of, refused_of}
use Rattle.vectors.proofs.line.refused.Goals as goal

pub returns-then-letter-eq114 : goal.returns-then-letter-eq114
unfolding refused_of
returns-then-letter-eq114 c =
    let a = c.args in
    let e : get_or a.line.now (start_of a.line.now a.k) 0 ≡ 114 =
    ap (λ (i : ℕ). get_or a.line.now i 0) (sym c.start.ensures.place) ∙ sym c.letter.ensures ∙ c.if-letter-eq114.true in
    c.number_of.ensures ∙ (rw (eq-eqb _ 114 e) refl)

pub returns : goal.returns
unfolding refused_of
returns c =
    let a = c.args in
    let e : get_or a.line.now (start_of a.line.now a.k) 0 ≡ 114 → ⊥ =
    λ h. c.if-letter-eq114.false (c.letter.ensures ∙ ap (λ (i : ℕ). get_or a.line.now i 0) c.start.ensures.place ∙ h) in
    rw (ne_eqb _ 114 e) refl
