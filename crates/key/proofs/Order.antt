-- The numbers of a key, in the order of their conditions. Assumes nothing.
use mathlib.Core.Path.{◌≡◌, sym, ◌∙◌}
use mathlib.Core.Bool.{Bool, true, false, not}
use mathlib.Core.List.{List, ◌++◌}
use Prim.Native.Nat.{ℕ}
use native.Mathlib.Nat.{le_of_suc-le-suc}
use native.Mathlib.Omega.{arith}
use lib.Dec.{ltb}
use lib.ListN.{get_or, take}
use lib.Pow.{pow_mono}
use borrow.Author.Tests.{lt-ltb, not-false}
use Rattle.bits.specs.Bits.{every}
use Rattle.bits.proofs.Lists.{every_append, every_all, and_left, and_right}
use Rattle.field.specs.Numbers.{first_of}
use Rattle.field.specs.Field.{is_element}
use Rattle.field.proofs.Table.{Width, width_narrow}
use Rattle.field.proofs.Arrays.{every-elements}
use Rattle.field.proofs.Numbers.{first-clear}
use Rattle.poly.specs.Polynomials.{has_square}
use Rattle.key.specs.Keys.{distinct}
use Rattle.key.specs.Parts.{distinct_below, no_root, faults}
use Rattle.key.proofs.Conditions.{first-from}

-- the code's test of an answer r, for the value q
pub failed : {r q : Bool} → r ≡ q → r ≡ false → q ≡ false
failed e h = sym e ∙ h

pub passed : {r q : Bool} → r ≡ q → r ≡ true → q ≡ true
passed e h = sym e ∙ h

-- elements have 13 digits, so they are distinct where the table says so
pub distinct-elements : (m : ℕ) (s : List ℕ) → Width m → every (is_element m) s ≡ true → distinct_below 8192 s ≡ distinct s
unfolding distinct_below
distinct-elements m s w e = rw small
  where
    small : every (λ x. ltb x 8192) s ≡ true
    small =
        every_all (λ x. ltb x 8192) s 0
        (λ i h. lt-ltb (get_or s i 0) 8192
        (omega (arith, every-elements m s e i, pow_mono (le_of_suc-le-suc (width_narrow m w)))))

-- the first of 4, 5 and 6, by the tests of the code
module _ (m : ℕ) (s g : List ℕ) where
  pub early_support : every (is_element m) s ≡ false → 4 ≡ first_of (take 3 (faults m s g))
  unfolding faults first_of
  early_support e = rw (every_append (is_element m) s g, e)

  module _ (a : every (is_element m) s ≡ true) where
    pub early_coefficient : every (is_element m) g ≡ false → 4 ≡ first_of (take 3 (faults m s g))
    unfolding faults first_of
    early_coefficient e = rw (every_append (is_element m) s g, a, e)

    module _ (b : every (is_element m) g ≡ true) where
      pub early_twice : distinct s ≡ false → 5 ≡ first_of (take 3 (faults m s g))
      unfolding faults first_of
      early_twice e = rw (every_append (is_element m) s g, a, b, e)

      module _ (d : distinct s ≡ true) where
        pub early_square : has_square m g ≡ true → 6 ≡ first_of (take 3 (faults m s g))
        unfolding faults first_of
        early_square e = rw (every_append (is_element m) s g, a, b, d, e)

        pub early_none : has_square m g ≡ false → 0 ≡ first_of (take 3 (faults m s g))
        unfolding faults first_of
        early_none e = rw (every_append (is_element m) s g, a, b, d, e)

  -- none of 4, 5 and 6: each test passes
  pub early_clear : first_of (take 3 (faults m s g)) ≡ 0
      → (every (is_element m) s ≡ true) × (every (is_element m) g ≡ true) × (distinct s ≡ true) × (has_square m g ≡ false)
  unfolding faults
  early_clear z =
      let c4 = first-clear (not (every (is_element m) (s ++ g))) 3 _ z in
      let c5 = first-clear (not (distinct s)) 4 _ c4.1 in
      let c6 = first-clear (has_square m g) 5 _ c5.1 in
      let both = sym (every_append (is_element m) s g) ∙ not-false _ c4.0 in
      (and_left (every (is_element m) s) _ both, and_right (every (is_element m) s) _ both, not-false _ c5.0, c6.0)

-- the first of 4, 5, 6 and 7
module _ (m : ℕ) (s g : List ℕ) where
  pub fault_support : every (is_element m) s ≡ false → 4 ≡ first_of (faults m s g)
  fault_support e = first-from 3 _ (early_support m s g e)

  module _ (a : every (is_element m) s ≡ true) where
    pub fault_coefficient : every (is_element m) g ≡ false → 4 ≡ first_of (faults m s g)
    fault_coefficient e = first-from 3 _ (early_coefficient m s g a e)

    module _ (b : every (is_element m) g ≡ true) where
      pub fault_twice : distinct s ≡ false → 5 ≡ first_of (faults m s g)
      fault_twice e = first-from 3 _ (early_twice m s g a b e)

      module _ (d : distinct s ≡ true) where
        pub fault_square : has_square m g ≡ true → 6 ≡ first_of (faults m s g)
        fault_square e = first-from 3 _ (early_square m s g a b d e)

        module _ (q : has_square m g ≡ false) where
          pub fault_root : no_root m g s ≡ false → 7 ≡ first_of (faults m s g)
          unfolding faults first_of
          fault_root e = rw (every_append (is_element m) s g, a, b, d, q, e)

          pub fault_none : no_root m g s ≡ true → 0 ≡ first_of (faults m s g)
          unfolding faults first_of
          fault_none e = rw (every_append (is_element m) s g, a, b, d, q, e)
