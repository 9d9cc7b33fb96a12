-- The invariant: the bytes of what is left, behind those read, are the field's. Assumes nothing.
use mathlib.Core.Path.{sym, ap₂, ◌∙◌}
use Prim.Native.Nat.{ℕ}
use native.Mathlib.Omega.{arith}
use lib.ListN.{drop}
use Rattle.vectors.specs.Lines.{hex_bytes, field_of, with_bytes, bytes_of}
use Rattle.vectors.specs.declared.line.Bytes.{Bytes}
use Rattle.vectors.proofs.Fields.{bytes_short, bytes_stop, bytes_next}
use Rattle.vectors.proofs.line.bytes_of.Goals as goal

pub loop-i-init : goal.loop-i-init
unfolding bytes_of field_of
loop-i-init c =
    let s = c.start-i.ensures in
    let a = c.args in
    (omega (arith, s.within), ap₂ (λ (b : Bytes) (i : ℕ). with_bytes b (hex_bytes (drop i a.line.now))) c.no_bytes-b.ensures s.place)

pub returns-then-line-i-lt48 : goal.returns-then-line-i-lt48
returns-then-line-i-lt48 c =
    let l = c.loop-i in
    let a = c.args in
    sym (bytes_stop a.line.now l.i l.b (omega arith) c.if-line-i-lt48.true) ∙ l.invariant.1

pub loop-i-preserved : goal.loop-i-preserved
loop-i-preserved c =
    let l = c.loop-i in
    let a = c.args in
    (omega arith, sym (bytes_next a.line.now l.i l.b (omega arith) c.if-line-i-lt48.false c.byte.ensures c.with-b.ensures) ∙ l.invariant.1)

pub returns : goal.returns
returns c =
    let l = c.loop-i in
    let a = c.args in
    sym (bytes_short a.line.now l.i l.b (omega arith)) ∙ l.invariant.1
