-- What an accepted key is: the tests of its conditions as facts. Assumes nothing.
use Prim.Native.Nat.{ℕ, zero, suc, ◌^◌, ◌<◌}
use mathlib.Core.Path.{◌≡◌, sym, ◌∙◌}
use mathlib.Core.Bool.{Bool, true, false, not, ◌&&◌}
use mathlib.Core.List.{List, [], ◌∷◌, ◌++◌}
use native.Mathlib.Omega.{arith}
use native.Mathlib.Nat.{le_of_suc-le-suc, not-suc-le-zero}
use lib.Dec.{eqb}
use lib.ListN.{length, get_or}
use borrow.Author.Tests.{eqb-true, eqb-false, not-true, not-false}
use Rattle.bits.specs.Bits.{every}
use Rattle.bits.proofs.Lists.{and_left, and_right, every-at, every_append}
use Rattle.field.specs.Field.{is_width, is_element}
use Rattle.field.proofs.Table.{Width}
use Rattle.field.proofs.Arrays.{every-elements}
use Rattle.poly.specs.Polynomials.{has_square}
use Rattle.key.specs.Shapes.{in_limits}
use Rattle.key.specs.Keys.{Key, distinct, goppa_at, conditions, key_number}
use Rattle.field.proofs.Numbers.{first-clear}
use Rattle.key.proofs.Shapes.{Limits, limits}

every-parts : (p : ℕ → Bool) (l r : List ℕ) → every p (l ++ r) ≡ true → (every p l ≡ true) × (every p r ≡ true)
every-parts p l r e = let h = sym (every_append p l r) ∙ e in (and_left (every p l) (every p r) h, and_right (every p l) (every p r) h)

-- no element of the list stands twice
pub distinct-at : (l : List ℕ) → distinct l ≡ true → (i j : ℕ) → i < j → j < length l → get_or l i 0 ≡ get_or l j 0 → ⊥
unfolding distinct
distinct-at [] e i j h b = absurd (not-suc-le-zero b)
distinct-at (x ∷ l) e i zero h b = absurd (not-suc-le-zero h)
distinct-at (x ∷ l) e zero (suc j) h b =
    eqb-false x (get_or l j 0)
    (not-true _ (every-at (λ y. not (eqb x y)) l (and_left (every (λ y. not (eqb x y)) l) (distinct l) e) j 0 (le_of_suc-le-suc b)))
distinct-at (x ∷ l) e (suc i) (suc j) h b =
    distinct-at l (and_right (every (λ y. not (eqb x y)) l) (distinct l) e) i j (le_of_suc-le-suc h) (le_of_suc-le-suc b)

pub record Accepted (k : Key) : Type 0 where
  pub width : Width k.m
  pub support_length : length k.support ≡ k.n
  pub g_length : length k.g ≡ k.t
  pub limits : Limits k.m k.n k.t
  pub support_below : (i : ℕ) → get_or k.support i 0 < 2 ^ k.m
  pub g_below : (i : ℕ) → get_or k.g i 0 < 2 ^ k.m
  pub different : (i j : ℕ) → i < j → j < k.n → get_or k.support i 0 ≡ get_or k.support j 0 → ⊥
  pub square_free : has_square k.m k.g ≡ false
  pub no_root_lem : (i : ℕ) → i < k.n → goppa_at k (get_or k.support i 0) ≡ 0 → ⊥

pub accepted : (k : Key) → key_number k ≡ 0 → Accepted k
unfolding key_number conditions
accepted k e =
    let c1 = first-clear (not (is_width k.m)) 0 _ e in
    let c2 = first-clear (not (eqb (length k.support) k.n && eqb (length k.g) k.t)) 1 _ c1.1 in
    let c3 = first-clear (not (in_limits k.m k.n k.t)) 2 _ c2.1 in
    let c4 = first-clear (not (every (is_element k.m) (k.support ++ k.g))) 3 _ c3.1 in
    let c5 = first-clear (not (distinct k.support)) 4 _ c4.1 in
    let c6 = first-clear (has_square k.m k.g) 5 _ c5.1 in
    let c7 = first-clear (not (every (λ a. not (eqb (goppa_at k a) 0)) k.support)) 6 _ c6.1 in
    let sizes = not-false (eqb (length k.support) k.n && eqb (length k.g) k.t) c2.0 in
    let size : length k.support ≡ k.n = eqb-true _ _ (and_left (eqb (length k.support) k.n) _ sizes) in
    let parts = every-parts (is_element k.m) k.support k.g (not-false _ c4.0) in
    record {
      width = not-false (is_width k.m) c1.0;
      support_length = size;
      g_length = eqb-true _ _ (and_right (eqb (length k.support) k.n) _ sizes);
      limits = limits k.m k.n k.t (not-false _ c3.0);
      support_below = every-elements k.m k.support parts.0;
      g_below = every-elements k.m k.g parts.1;
      different = λ i j h b. distinct-at k.support (not-false _ c5.0) i j h (omega arith);
      square_free = c6.0;
      no_root_lem = λ i b. eqb-false (goppa_at k (get_or k.support i 0)) 0 (not-true _ (every-at (λ a. not (eqb (goppa_at k a) 0)) k.support (not-false _ c7.0) i 0 (omega arith)));
    }
