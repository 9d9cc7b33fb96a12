-- Assumes nothing.
use mathlib.Core.Path.{◌≡◌, sym, ap, ◌∙◌}
use mathlib.Core.Bool.{cond}
use mathlib.Core.List.{List, ◌++◌, append-nil}
use Prim.Native.Nat.{ℕ, ◌+◌, ◌^◌, ◌≤◌, ◌<◌}
use native.Mathlib.Omega.{arith}
use lib.ListN.{length, take, replicate, length-set}
use lib.Seq.{length-take-le}
use Rattle.bits.specs.Bits.{bit_at}
use Rattle.bits.proofs.Bits.{bit_lt, bit_zeros}
use Rattle.field.proofs.Machine.{one_shl_digits}
use Rattle.network.specs.Network.{unused}
use Rattle.network.specs.Tables.{Each}
use Rattle.completion.proofs.Marking.{fresh, marked-at, length_marked}
use Rattle.completion.proofs.Completing.{pow_small, unused_none, completing_next, completing_left, completing_end}
use borrow.Author.Rules.{rules}
use Rattle.completion.proofs.complete.Goals as goal

-- a turn's numbers: v < 2^m, at < 2^m, 2^m ≤ 8192
inside : (m n at v : ℕ) (xs : List ℕ) → m < 14 → n ≤ 2 ^ m → length xs ≡ 8192 → Each (2 ^ m) (take n xs ++ unused (take n xs) (2 ^ m))
    → v ≤ 2 ^ m → at ≡ n + length (unused (take n xs) v) → at < 2 ^ m → (v < 2 ^ m) × (at < 2 ^ m) × (2 ^ m ≤ 8192)
inside m n at v xs h fit l each w e b =
    let p = pow_small m h in
    let s : length (take n xs) ≡ n = length-take-le n xs (omega arith) in
    (completing_left (take n xs) n (2 ^ m) s each v w (omega arith), b, p)

pub slice_bounds-marks-end : goal.slice_bounds-marks-end
slice_bounds-marks-end c =
    let a = c.args in
    let l : length a.values.now ≡ 8192 = search rules in
    sym (length-take-le a.n a.values.now (omega (arith, pow_small a.m (omega arith))))

pub loop-at-init : goal.loop-at-init
loop-at-init c =
    let a = c.args in
    let s : List ℕ = take a.n a.values.now in
    (omega arith, search rules, omega (arith, ap length (unused_none s)), sym (ap (◌++◌ s) (unused_none s) ∙ append-nil s))

pub overflow_cast-values : goal.overflow_cast-values
overflow_cast-values c =
    let a = c.args in
    let l = c.loop-at in
    let q = one_shl_digits a.m 64 (omega arith) in
    let i = inside a.m a.n l.at l.v a.values.now c.requires.0 c.requires.1 (search rules) c.requires.2 l.invariant.0 l.invariant.2 (omega arith) in
    omega arith

pub offset_bounds-values-at : goal.offset_bounds-values-at
offset_bounds-values-at c =
    let a = c.args in
    let l = c.loop-at in
    let q = one_shl_digits a.m 64 (omega arith) in
    let i = inside a.m a.n l.at l.v a.values.now c.requires.0 c.requires.1 (search rules) c.requires.2 l.invariant.0 l.invariant.2 (omega arith) in
    omega arith

pub bounds-values-at : goal.bounds-values-at
bounds-values-at c =
    let a = c.args in
    let l = c.loop-at in
    let q = one_shl_digits a.m 64 (omega arith) in
    let i = inside a.m a.n l.at l.v a.values.now c.requires.0 c.requires.1 (search rules) c.requires.2 l.invariant.0 l.invariant.2 (omega arith) in
    omega arith

pub slice_bounds-bit_at-end : goal.slice_bounds-bit_at-end
slice_bounds-bit_at-end c = sym (ap length c.marks-row.ensures ∙ length_marked _ (replicate 1024 0))

pub overflow_cast-at : goal.overflow_cast-at
overflow_cast-at c = rw c.bit_at.ensures (omega (arith, bit_lt c.marks-row.result c.loop-at.v))

pub overflow_sub-at : goal.overflow_sub-at
overflow_sub-at c = rw c.bit_at.ensures (omega (arith, bit_lt c.marks-row.result c.loop-at.v))

pub overflow_add-at : goal.overflow_add-at
overflow_add-at c =
    let a = c.args in
    let l = c.loop-at in
    let q = one_shl_digits a.m 64 (omega arith) in
    let i = inside a.m a.n l.at l.v a.values.now c.requires.0 c.requires.1 (search rules) c.requires.2 l.invariant.0 l.invariant.2 (omega arith) in
    omega arith

pub overflow_add-v : goal.overflow_add-v
overflow_add-v c =
    let a = c.args in
    let l = c.loop-at in
    let q = one_shl_digits a.m 64 (omega arith) in
    let i = inside a.m a.n l.at l.v a.values.now c.requires.0 c.requires.1 (search rules) c.requires.2 l.invariant.0 l.invariant.2 (omega arith) in
    omega arith

pub loop-at-smaller : goal.loop-at-smaller
loop-at-smaller c =
    let a = c.args in
    let l = c.loop-at in
    let q = one_shl_digits a.m 64 (omega arith) in
    let i = inside a.m a.n l.at l.v a.values.now c.requires.0 c.requires.1 (search rules) c.requires.2 l.invariant.0 l.invariant.2 (omega arith) in
    omega arith

pub loop-at-preserved : goal.loop-at-preserved
loop-at-preserved c =
    let l = c.loop-at in
    let a = c.args in
    let s : List ℕ = take a.n a.values.now in
    let q = one_shl_digits a.m 64 (omega arith) in
    let i = inside a.m a.n l.at l.v a.values.now c.requires.0 c.requires.1 (search rules) c.requires.2 l.invariant.0 l.invariant.2 (omega arith) in
    let bit : c.bit_at.result ≡ cond (fresh s l.v) 0 1 =
    c.bit_at.ensures
    ∙ ap (λ (r : List ℕ). bit_at r l.v) c.marks-row.ensures
    ∙ marked-at s (replicate 1024 0) l.v (omega arith)
    ∙ ap (λ (b : ℕ). cond (fresh s l.v) b 1) (bit_zeros 1024 l.v) in
    let next = completing_next s l.values a.n l.at l.v l.invariant.2 l.invariant.3 (omega arith) bit in
    (omega arith, length-set l.values l.at l.v ∙ l.invariant.1, next.0, next.1)

pub returns : goal.returns
returns c =
    let l = c.loop-at in
    let a = c.args in
    let s : List ℕ = take a.n a.values.now in
    let p = pow_small a.m (omega arith) in
    let q = one_shl_digits a.m 64 (omega arith) in
    let e : length a.values.now ≡ 8192 = search rules in
    completing_end s a.n (2 ^ a.m) (length-take-le a.n a.values.now (omega arith)) c.requires.2 l.values l.at l.v l.invariant.2 l.invariant.3 (omega arith) (omega arith)
