-- The numbers 1 to 3, then 4 to 6, then 7. Assumes nothing.
use mathlib.Core.Path.{◌≡◌, refl, sym, ◌∙◌}
use mathlib.Core.Bool.{true, false, not, ◌&&◌}
use mathlib.Core.List.{[], ◌∷◌}
use Prim.Native.Nat.{ℕ, suc, ◌≤◌}
use lib.Dec.{eqb}
use lib.ListN.{length, take}
use borrow.Author.Tests.{eqb-true, not-false}
use Rattle.bits.specs.Bits.{every}
use Rattle.bits.proofs.Lists.{and_left, and_right}
use Rattle.field.specs.Numbers.{first_of}
use Rattle.field.specs.Field.{is_width}
use Rattle.field.proofs.Table.{Width}
use Rattle.field.proofs.Numbers.{numbered, first-clear, first-append}
use Rattle.key.specs.Shapes.{in_limits}
use Rattle.key.specs.Keys.{Key, conditions, goppa_at, key_number}
use Rattle.key.specs.Parts.{no_root, head_number, number_but_roots}
use Rattle.key.proofs.Conditions.{first-take, limits_fit}

-- the sizes of a key that has none of 1 to 3
pub record Sized (k : Key) : Type 0 where
  pub width : Width k.m
  pub support_length : length k.support ≡ k.n
  pub g_length : length k.g ≡ k.t
  pub places : k.n ≤ 8192
  pub errors : k.t ≤ 128

module _ (k : Key) where
  -- one of 1 to 3 is the key's number, and so is one of 1 to 6
  pub elements_later : (head_number k ≡ 0 → ⊥) → head_number k ≡ number_but_roots k
  unfolding head_number number_but_roots conditions
  elements_later h = first-take 3 _ h

  pub head_first : (head_number k ≡ 0 → ⊥) → head_number k ≡ key_number k
  unfolding head_number key_number
  head_first h = first-take 3 _ h

  pub roots_later : (number_but_roots k ≡ 0 → ⊥) → number_but_roots k ≡ key_number k
  unfolding number_but_roots key_number
  roots_later h = first-take 6 _ h

  -- none of the first 3 + i numbers
  clear_sized : (i : ℕ) → first_of (take (suc (suc (suc i))) (conditions (not (eqb (length k.support) k.n && eqb (length k.g) k.t)) k)) ≡ 0 → Sized k
  unfolding conditions
  clear_sized i z =
      let c1 = first-clear (not (is_width k.m)) 0 _ z in
      let c2 = first-clear (not (eqb (length k.support) k.n && eqb (length k.g) k.t)) 1 _ c1.1 in
      let c3 = first-clear (not (in_limits k.m k.n k.t)) 2 _ c2.1 in
      let w = not-false (is_width k.m) c1.0 in
      let sizes = not-false (eqb (length k.support) k.n && eqb (length k.g) k.t) c2.0 in
      let fit = limits_fit k.m k.n k.t w (not-false _ c3.0) in
      record {
        width = w;
        support_length = eqb-true _ _ (and_left (eqb (length k.support) k.n) _ sizes);
        g_length = eqb-true _ _ (and_right (eqb (length k.support) k.n) _ sizes);
        places = fit.0;
        errors = fit.1;
      }

  pub head_sized : head_number k ≡ 0 → Sized k
  unfolding head_number
  head_sized z = clear_sized 0 z

  module _ (z : number_but_roots k ≡ 0) where
    pub sized : Sized k
    unfolding number_but_roots
    sized = clear_sized 3 z

    -- 7 decides
    last : key_number k ≡ first_of ((not (every (λ a. not (eqb (goppa_at k a) 0)) k.support), 7) ∷ [])
    unfolding number_but_roots key_number conditions numbered
    last = first-append _ _ refl z

    pub root_found : no_root k.m k.g k.support ≡ false → 7 ≡ key_number k
    unfolding no_root goppa_at first_of
    root_found e = sym (last ∙ rw e)

    pub root_none : no_root k.m k.g k.support ≡ true → 0 ≡ key_number k
    unfolding no_root goppa_at first_of
    root_none e = sym (last ∙ rw e)
