-- No file is both an accepted key file and an accepted network file: the bit count's low two bytes would be an element of the
-- support, and they are 2^m or more. Assumes nothing.
use mathlib.Core.Path.{◌≡◌, ap, ◌∙◌, subst}
use mathlib.Core.List.{List}
use Prim.Native.Nat.{ℕ, ◌+◌, ◌*◌, ◌^◌, ◌<◌}
use native.Mathlib.Omega.{arith}
use lib.ListN.{length}
use borrow.Author.Tests.{eqb-true, not-false}
use Rattle.bits.specs.Bits.{bytes_for}
use Rattle.bits.proofs.Lists.{map-from-at}
use Rattle.field.specs.Numbers.{first_of}
use Rattle.field.proofs.Numbers.{first-clear}
use Rattle.key.specs.Keys.{pair, elements, parse, conditions, file_conditions}
use Rattle.key.proofs.Accepted.{Accepted, accepted}
use Rattle.key.proofs.Parse.{right_length, accepted_key}
use Rattle.network.specs.Network.{switches}
use Rattle.network_key.specs.Files.{four, parse_network, network_conditions}
use Rattle.network_key.proofs.Widths.{width_cases}

module _ (f : List ℕ) (old : first_of (file_conditions f) ≡ 0) (new : first_of (network_conditions f) ≡ 0) where
  a : Accepted (parse f)
  a = accepted (parse f) (accepted_key f old)

  abbrev m : ℕ
  m = (parse f).m

  abbrev count_at : ℕ
  count_at = (parse_network f).t

  old_length : length f ≡ 5 + 2 * (parse f).n + 2 * (parse f).t
  unfolding file_conditions
  old_length = eqb-true _ _ (not-false _ (right_length _ (parse f) old))

  new_clear : (length f ≡ 9 + 2 * count_at + bytes_for (switches m)) × (four f (5 + 2 * count_at) ≡ switches m)
  unfolding network_conditions conditions parse parse_network
  new_clear =
      let c1 = first-clear _ 0 _ new in
      let c2 = first-clear _ 1 _ c1.1 in
      let c3 = first-clear _ 35 _ c2.1 in
      (eqb-true _ _ (not-false _ c2.0), eqb-true _ _ (not-false _ c3.0))

  -- two bytes among those of the support are an element
  element : (i : ℕ) → i < (parse f).n → pair f (3 + 2 * i) < 2 ^ m
  unfolding parse elements
  element i h =
      let z : 0 + i ≡ i = omega arith in
      subst (◌< 2 ^ m) (map-from-at (λ j. pair f (3 + 2 * j)) 0 (parse f).n i 0 h ∙ ap (λ (i : ℕ). pair f (3 + 2 * i)) z) (a.support_below i)

  count_low : 2 + count_at < (parse f).n → (pair f (5 + 2 * count_at) < 2 ^ m) × (pair f (5 + 2 * count_at + 2) < 2 ^ m)
  count_low h =
      let d : 3 + 2 * (1 + count_at) ≡ 5 + 2 * count_at = omega arith in
      let e : 3 + 2 * (2 + count_at) ≡ 5 + 2 * count_at + 2 = omega arith in (
        subst (λ (i : ℕ). pair f i < 2 ^ m) d (element (1 + count_at) (omega arith)),
        subst (λ (i : ℕ). pair f i < 2 ^ m) e (element (2 + count_at) h),
      )

  at_4 : m ≡ 4 → ⊥
  unfolding switches bytes_for
  at_4 e =
      let l : length f ≡ 9 + 2 * count_at + 7 = new_clear.0 ∙ ap (λ (m : ℕ). 9 + 2 * count_at + bytes_for (switches m)) e in
      omega (arith, old_length, l)

  at_12 : m ≡ 12 → ⊥
  unfolding switches bytes_for four
  at_12 e =
      let l : length f ≡ 9 + 2 * count_at + 5888 = new_clear.0 ∙ ap (λ (m : ℕ). 9 + 2 * count_at + bytes_for (switches m)) e in
      let c : four f (5 + 2 * count_at) ≡ 47104 = new_clear.1 ∙ ap switches e in
      let p = count_low (omega (arith, old_length, l, a.limits.few)) in
      let x : pair f (5 + 2 * count_at) < 4096 = subst (λ (m : ℕ). pair f (5 + 2 * count_at) < 2 ^ m) e p.0 in
      omega (arith, c, x)

  at_13 : m ≡ 13 → ⊥
  unfolding switches bytes_for four
  at_13 e =
      let l : length f ≡ 9 + 2 * count_at + 12800 = new_clear.0 ∙ ap (λ (m : ℕ). 9 + 2 * count_at + bytes_for (switches m)) e in
      let c : four f (5 + 2 * count_at) ≡ 102400 = new_clear.1 ∙ ap switches e in
      let p = count_low (omega (arith, old_length, l, a.limits.few)) in
      let x : pair f (5 + 2 * count_at) < 8192 = subst (λ (m : ℕ). pair f (5 + 2 * count_at) < 2 ^ m) e p.0 in
      omega (arith, c, x)

pub one_form : (f : List ℕ) → first_of (file_conditions f) ≡ 0 → first_of (network_conditions f) ≡ 0 → ⊥
one_form f old new = width_cases (parse f).m (a f old new).width (at_4 f old new) (at_12 f old new) (at_13 f old new)
