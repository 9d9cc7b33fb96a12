-- Each number is below 8192 and none stands twice, by a table of bits of the numbers seen. Assumes nothing.
use mathlib.Core.Path.{◌≡◌, refl, sym, ap, ◌∙◌}
use mathlib.Core.Bool.{Bool, true, false, not, ◌&&◌, and-true, and-false, and_assoc}
use mathlib.Core.List.{List}
use Prim.Native.Nat.{ℕ, suc, ◌+◌, ◌/◌, ◌≤◌, ◌<◌}
use native.Mathlib.Numerals.{add-one}
use native.Mathlib.Decide.{ℕ_discrete}
use lib.Dec.{eqb, ltb}
use lib.ListN.{length, get_or, drop, replicate, drop_of_length-le}
use lib.Seq.{drop-cons}
use borrow.Author.Tests.{eq-eqb, ne_eqb, lt-ltb, le-ltb}
use Rattle.bits.specs.Bits.{every, bit_at, set_bit}
use Rattle.bits.proofs.Bits.{bit_zeros, set_bit-same, set_bit_other}
use Rattle.key.specs.Keys.{distinct}
use Rattle.key.specs.Parts.{distinct_below}
use Rattle.key.proofs.Scan.{every_both, every_true}

-- x is below 8192 and not seen
unfoldable pub free : List ℕ → ℕ → Bool
free seen x = ltb x 8192 && eqb (bit_at seen x) 0

pub free_large : (seen : List ℕ) (x : ℕ) → 8192 ≤ x → free seen x ≡ false
unfolding free
free_large seen x h = rw (le-ltb x 8192 h)

pub free_seen : (seen : List ℕ) (x : ℕ) → x < 8192 → (bit_at seen x ≡ 0 → ⊥) → free seen x ≡ false
unfolding free
free_seen seen x h n = rw (lt-ltb x 8192 h, ne_eqb (bit_at seen x) 0 n)

pub free_new : (seen : List ℕ) (x : ℕ) → x < 8192 → bit_at seen x ≡ 0 → free seen x ≡ true
unfolding free
free_new seen x h e = rw (lt-ltb x 8192 h, eq-eqb (bit_at seen x) 0 e)

-- every number is free, and none stands twice
unfoldable pub fresh : List ℕ → List ℕ → Bool
fresh seen s = every (free seen) s && distinct s

pub fresh_start : (n : ℕ) (s : List ℕ) → fresh (replicate n 0) s ≡ distinct_below 8192 s
unfolding fresh free distinct_below
fresh_start n s =
    let small : ℕ → Bool = λ x. ltb x 8192 in
    let unseen : ℕ → Bool = λ x. eqb (bit_at (replicate n 0) x) 0 in
    ap (λ (b : Bool). b && distinct s)
    (sym (every_both small unseen (free (replicate n 0)) (λ x. refl) s)
    ∙ ap (◌&&◌ (every small s)) (every_true unseen (λ x. eq-eqb (bit_at (replicate n 0) x) 0 (bit_zeros n x)) s)
    ∙ and-true (every small s))

-- free and other than x: free once x is marked
marked : (seen : List ℕ) (x : ℕ) → x / 8 < length seen → (y : ℕ) → free seen y && not (eqb x y) ≡ free (set_bit seen x 1) y
unfolding free
marked seen x l y = elim (ℕ_discrete x y) [
  | yes e ↦ rw (sym e, eq-eqb x x refl, set_bit-same seen x 1 l) (and-false (free seen x) ∙ sym (and-false (ltb x 8192)))
  | no n ↦ rw (ne_eqb x y n, set_bit_other seen x y 1 (λ e. n (sym e))) (and-true (free seen y))
]

module _ (seen s : List ℕ) (i : ℕ) (h : i < length s) where
  pub fresh_stop : free seen (get_or s i 0) ≡ false → false ≡ fresh seen (drop i s)
  unfolding fresh every
  fresh_stop e = rw (drop-cons s i 0 h, e)

  pub fresh-next : get_or s i 0 / 8 < length seen → free seen (get_or s i 0) ≡ true → fresh (set_bit seen (get_or s i 0) 1) (drop (i + 1) s) ≡ fresh seen (drop i s)
  unfolding fresh every distinct
  fresh-next l e =
      let x : ℕ = get_or s i 0 in
      let rest : List ℕ = drop (suc i) s in
      let other : ℕ → Bool = λ y. not (eqb x y) in
      rw (add-one, drop-cons s i 0 h, e)
      (ap (λ (b : Bool). b && distinct rest) (sym (every_both (free seen) other (free (set_bit seen x 1)) (marked seen x l) rest))
      ∙ and_assoc (every (free seen) rest) (every other rest) (distinct rest))

pub fresh_end : (seen s : List ℕ) (i : ℕ) → length s ≤ i → true ≡ fresh seen (drop i s)
unfolding fresh every distinct
fresh_end seen s i h = rw (drop_of_length-le s h)
