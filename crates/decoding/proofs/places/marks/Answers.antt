-- The loop's invariant: the marks from place 8·q on are left to write. Assumes nothing.
use mathlib.Core.Path.{◌≡◌, refl, sym, ap, ◌∙◌}
use mathlib.Core.List.{List, map}
use Prim.Native.Nat.{ℕ, ◌+◌, ◌-◌, ◌*◌}
use native.Mathlib.Omega.{arith}
use borrow.Rule.Slice.PartMut.{put_mid, same_len_mid}
use lib.ListN.{length, take, drop, length-map}
use Rattle.bits.specs.Bits.{put_bits}
use Rattle.bits.proofs.PutBits.{put_lent, put_end}
use Rattle.decoding.specs.Parts.{mark}
use Rattle.decoding.proofs.Packed.{packed-put, map-part, row_marks}
use Rattle.decoding.proofs.places.marks.Goals as goal

-- the marks of k values from `at` on
marks_part : (values : List ℕ) (q at k : ℕ) → at ≡ 8 * q → map mark (take k (drop at values)) ≡ take k (drop (8 * q) (map mark values))
marks_part values q at k h = map-part mark at k values ∙ ap (λ (i : ℕ). take k (drop i (map mark values))) h

pub loop-q-init : goal.loop-q-init
loop-q-init c = (omega arith, refl, refl, refl)

pub loop-q-preserved : goal.loop-q-preserved
loop-q-preserved c =
    let l = c.loop-q in
    let a = c.args in
    let h = c.mark_bits in
    let bits : List ℕ = map mark a.values.now in
    let size : length bits ≡ length a.values.now = length-map a.values.now mark in
    let next : 8 * (l.q + 1) ≡ 8 * l.q + 8 = omega arith in
    let eight : l.at + 8 - l.at ≡ 8 = omega arith in
    let part = ap (λ (k : ℕ). map mark (take k (drop l.at a.values.now))) eight ∙ marks_part a.values.now l.q l.at 8 l.invariant.1 in
    let lent : List ℕ = take (1024 - l.q) (drop l.q l.pattern) in (
      omega arith,
      omega arith,
      same_len_mid l.q (1024 - l.q) l.pattern h.new.out h.auto.out ∙ l.invariant.2,
      ap (λ (i : ℕ). put_bits (drop i bits) i (put_mid l.q (1024 - l.q) l.pattern h.new.out)) next
          ∙ put_lent bits l.q 8 1024 l.pattern h.new.out l.invariant.2 (omega arith) (omega arith)
          (h.ensures ∙ ap (λ (t : List ℕ). put_bits t 0 lent) part)
          ∙ l.invariant.3,
    )

pub returns : goal.returns
returns c =
    let l = c.loop-q in
    let a = c.args in
    let h = c.mark_bits-2 in
    let bits : List ℕ = map mark a.values.now in
    let size : length bits ≡ length a.values.now = length-map a.values.now mark in
    let k : ℕ = length a.values.now - l.at in
    let part = marks_part a.values.now l.q l.at k l.invariant.1 in
    let lent : List ℕ = take (1024 - l.q) (drop l.q l.pattern) in
    sym (put_end bits (8 * l.q + k) (put_mid l.q (1024 - l.q) l.pattern h.new.out) (omega arith))
    ∙ put_lent bits l.q k 1024 l.pattern h.new.out l.invariant.2 (omega arith) (omega arith)
    (h.ensures ∙ ap (λ (t : List ℕ). put_bits t 0 lent) part)
    ∙ l.invariant.3
    ∙ packed-put (row_marks a.values.now) (omega arith)
