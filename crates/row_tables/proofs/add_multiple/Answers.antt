-- The loop's invariant: the first i places are done; where the four rows start. Assumes nothing.
use mathlib.Core.Path.{refl, ap, ◌∙◌}
use Prim.Native.Nat.{ℕ, ◌/◌}
use native.Mathlib.Omega.{arith}
use mathlib.Core.List.{List}
use lib.Bits.{mask_lt}
use lib.ListN.{get_or, set, length-set}
use Rattle.bits.specs.Xor.{◌⊕◌}
use Rattle.row_tables.specs.RowTable.{combination}
use Rattle.row_tables.proofs.RowTable.{starts, added-start, added_next, added_all, combination-from}
use Rattle.row_tables.proofs.add_multiple.Goals as goal

pub start-p-requires : goal.start-p-requires
start-p-requires c = let a = c.args in omega (arith, mask_lt a.c 4)

pub overflow_add-c : goal.overflow_add-c
overflow_add-c c = let a = c.args in omega (arith, mask_lt (a.c / 16) 3)

pub start-q-requires : goal.start-q-requires
start-q-requires c = let a = c.args in omega (arith, mask_lt (a.c / 16) 3)

pub overflow_add-c-2 : goal.overflow_add-c-2
overflow_add-c-2 c = let a = c.args in omega (arith, mask_lt (a.c / 128) 3)

pub start-u-requires : goal.start-u-requires
start-u-requires c = let a = c.args in omega (arith, mask_lt (a.c / 128) 3)

pub overflow_add-c-3 : goal.overflow_add-c-3
overflow_add-c-3 c = let a = c.args in omega (arith, mask_lt (a.c / 1024) 3)

pub start-v-requires : goal.start-v-requires
start-v-requires c = let a = c.args in omega (arith, mask_lt (a.c / 1024) 3)

pub loop-i-init : goal.loop-i-init
loop-i-init c = (omega arith, refl, added-start _ _ _, starts c.args.c _ _ _ _ c.start-p.ensures c.start-q.ensures c.start-u.ensures c.start-v.ensures)

pub loop-i-preserved : goal.loop-i-preserved
unfolding ◌⊕◌
loop-i-preserved c =
    let l = c.loop-i in
    let a = c.args in
    let x = l.invariant.3 in (
      omega arith,
      length-set l.r _ _ ∙ l.invariant.1,
      ap (λ (v : ℕ). set l.r l.i (get_or l.r l.i 0 ⊕ v)) (combination-from a.t.now a.c a.r.now _ _ _ _ l.i x.first x.second x.third x.fourth)
          ∙ ap (λ (r : List ℕ). set r l.i (get_or r l.i 0 ⊕ combination a.t.now l.i a.c)) l.invariant.2
          ∙ added_next a.t.now a.c a.r.now l.i (omega arith) (omega arith),
      x,
    )

pub shape_of-r : goal.shape_of-r
shape_of-r c = c.loop-i.invariant.1

pub returns : goal.returns
returns c =
    let l = c.loop-i in
    let a = c.args in
    l.invariant.2 ∙ added_all a.t.now a.c a.r.now l.i (λ h. omega arith)
