-- The loop's invariant: the first q entries are made. Assumes nothing.
use mathlib.Core.Path.{ap, ◌∙◌}
use Prim.Native.Nat.{ℕ, ◌-◌, ◌*◌, ◌%◌}
use native.Mathlib.Omega.{arith}
use mathlib.Core.List.{List}
use lib.ListN.{get_or, set}
use Rattle.bits.specs.Xor.{◌⊕◌}
use Rattle.field.proofs.Table.{width_narrow, width_pos, modulus_none, modulus_some}
use Rattle.field.proofs.PointTable.{doubled, made, rows_next, rows_all, multiples_none}
use Rattle.field_places.proofs.multiples.Goals as goal

pub returns-then-f-eq0 : goal.returns-then-f-eq0
returns-then-f-eq0 c =
    let a = c.args in
    multiples_none a.m a.a.now (modulus_none _ c.modulus-f.ensures c.if-f-eq0.true)

pub first_row-t-requires : goal.first_row-t-requires
first_row-t-requires c = modulus_some _ c.modulus-f.ensures c.if-f-eq0.false

pub loop-q-init : goal.loop-q-init
unfolding made
loop-q-init c =
    let m : ℕ = c.args.m in
    let p = width_pos m (modulus_some _ c.modulus-f.ensures c.if-f-eq0.false) in
    (omega arith, omega arith, c.first_row-t.ensures)

pub bounds-t-q : goal.bounds-t-q
bounds-t-q c =
    let n = width_narrow _ (modulus_some _ c.modulus-f.ensures c.if-f-eq0.false) in
    omega arith

pub overflow_shr-d : goal.overflow_shr-d
overflow_shr-d c =
    let n = width_narrow _ (modulus_some _ c.modulus-f.ensures c.if-f-eq0.false) in
    omega arith

pub bounds-t-q-in-loop-q : goal.bounds-t-q-in-loop-q
bounds-t-q-in-loop-q c =
    let n = width_narrow _ (modulus_some _ c.modulus-f.ensures c.if-f-eq0.false) in
    omega arith

pub loop-q-preserved : goal.loop-q-preserved
unfolding ◌⊕◌
loop-q-preserved c =
    let l = c.loop-q in
    let a = c.args in
    let f = c.modulus-f in
    let w = modulus_some a.m f.ensures c.if-f-eq0.false in (
      omega arith,
      omega arith,
      ap (λ (x : ℕ). set l.t l.q (get_or l.t (l.q - 64) 0 * 2 % 65536 ⊕ x)) c.selected.ensures
          ∙ ap (λ (t : List ℕ). set t l.q (doubled a.m f.result (get_or t (l.q - 64) 0))) l.invariant.2
          ∙ rows_next a.m a.a.now w l.q f.result l.invariant.0 (omega arith) f.ensures,
    )

pub returns : goal.returns
returns c =
    let l = c.loop-q in
    let a = c.args in
    let w = modulus_some a.m c.modulus-f.ensures c.if-f-eq0.false in
    let n = width_narrow a.m w in
    l.invariant.2 ∙ rows_all a.m a.a.now w l.q (omega arith) (omega arith)
