-- The usual way of reading is the definition's search: the places that the register of a word's sums gives are the pattern that
-- corrects the word, where there is one, and the check refuses them where there is none. Assumes nothing.
use mathlib.Core.Path.{◌≡◌, refl, sym, ap, ap₂, ◌∙◌, subst}
use mathlib.Core.Logic.{◌↔◌}
use mathlib.Core.Bool.{Bool, true, false, cond, ◌&&◌}
use mathlib.Core.List.Memᴰ
use mathlib.Core.List.{List, [], ◌∷◌, map, Memᴰ}
use mathlib.Core.Option.{Option, none, some}
use Prim.Native.Nat.{ℕ, ◌*◌, ◌≤◌}
use native.Mathlib.Nat.{suc_inj, suc-ne-zero}
use native.Mathlib.Omega.{arith}
use lib.Dec.{eqb, leb}
use lib.ListN.{length}
use borrow.Author.Tests.{eqb-true, eq-eqb, leb-true, le-leb}
use Rattle.bits.specs.Bits.{Row, end, off, on, ones}
use Rattle.bits.proofs.Xor.{Digit}
use Rattle.bits.proofs.Xor as xor
use Rattle.bits.proofs.Lists.{cons_eq}
use Rattle.bits.proofs.Pack.{row_cons}
use Rattle.algebra.proofs.Points.{all_at, Distinct}
use Rattle.algebra.proofs.Locator.{found-places}
use Rattle.field.specs.Poly.{value}
use Rattle.field.proofs.Gf.{val, gf}
use Rattle.field.proofs.Arrays.{Elements, poly}
use Rattle.poly.specs.Polynomials.{same, monic}
use Rattle.poly.specs.Register.{Register, register}
use Rattle.poly.proofs.Laws.{same_eq, eq_same}
use Rattle.poly.proofs.RegisterLaws.{register_shortest, register_lead, register-elements}
use Rattle.key.specs.Keys.{Key}
use Rattle.key.proofs.Accepted.{Accepted}
use Rattle.decoder.specs.Reading.{reading}
use Rattle.decoder.specs.Decoding.{chosen, square_sums, reversed, places, located, explained}
use Rattle.decoder.proofs.Sanity.{Corrects, reading_sound, reading_complete}
use Rattle.decoder.proofs.Words.{all_chosen, word_points, distinct_support, distinct_word, length_word}
use Rattle.decoder.proofs.Distance.{square_inverse, square_not_zero}
use Rattle.decoder.proofs.Sums.{length-square_sums, square_sums-at, square_sums-elements, square_sum_lem, code_same}
use Rattle.decoder.proofs.Reversed.{reversed-zero}

-- a member of a list that is not its head
member_rest : {F : Type 0} {x y : F} {l : List F} → ¬ (y ≡ x) → Memᴰ x (y ∷ l) → Memᴰ x l
member_rest n (Memᴰ.head e) = absurd (n (sym e))
member_rest n (Memᴰ.tail m) = m

-- 1 for true and 0 for false
mark_digit : (b : Bool) → Digit (cond b 1 0)
mark_digit true = xor.on
mark_digit false = xor.off

no_mark : (b : Bool) → (b ≡ true → ⊥) → ◌≡◌ {A = ℕ} (cond b 1 0) 0
no_mark true h = absurd (h refl)
no_mark false h = refl

-- a one at each member of a list that passes
module _ (p : ℕ → Bool) where
  abbrev pub marks : List ℕ → List ℕ
  marks l = map (λ a. cond (p a) 1 0) l

  pub row_marks : (l : List ℕ) → Row (length l) (marks l)
  row_marks [] = end
  row_marks (a ∷ l) = row_cons (mark_digit (p a)) (row_marks l)

  -- where the chosen pass and no others do, the marks are the choice
  marks_chosen : {F : Type 0} (f : ℕ → F) {n : ℕ} {e : List ℕ} → Row n e → (l : List ℕ) → length l ≡ n → Distinct (map f l)
      → ((a : ℕ) → Memᴰ a l → (p a ≡ true) ↔ Memᴰ (f a) (map f (chosen e l))) → marks l ≡ e
  unfolding chosen
  marks_chosen f end [] s d h = refl
  marks_chosen f end (a ∷ l) s d h = absurd (suc-ne-zero _ s)
  marks_chosen f (off r) [] s d h = absurd (suc-ne-zero _ (sym s))
  marks_chosen f (on r) [] s d h = absurd (suc-ne-zero _ (sym s))
  marks_chosen f (off {e = e} r) (a ∷ l) s d h =
      cons_eq
      (no_mark (p a) (λ q. all_at (λ x. ¬ (f a ≡ x)) (all_chosen (λ x. ¬ (f a ≡ x)) f e l d.0) ((h a (Memᴰ.head refl)).0 q) refl))
      (marks_chosen f r l (suc_inj s) d.1 (λ b m. h b (Memᴰ.tail m)))
  marks_chosen f (on {e = e} r) (a ∷ l) s d h =
      cons_eq
      (ap (λ (b : Bool). cond b 1 0) ((h a (Memᴰ.head refl)).1 (Memᴰ.head refl)))
      (marks_chosen f r l (suc_inj s) d.1 (λ b m. (
        λ q. member_rest (all_at (λ x. ¬ (f a ≡ x)) d.0 (Memᴰ.map f m)) ((h b (Memᴰ.tail m)).0 q),
        λ q. (h b (Memᴰ.tail m)).1 (Memᴰ.tail q),
      )))

-- the places are n bits
pub row_places : (k : Key) → length k.support ≡ k.n → (r : Register) → Row k.n (places k r)
unfolding places
row_places k size r =
    subst (λ (i : ℕ). Row i (places k r)) size
    (row_marks (λ a. eqb (value k.m (monic (reversed r)) a) 0) k.support)

pub row_located : (k : Key) → length k.support ≡ k.n → (w : List ℕ) → Row k.n (located k w)
unfolding located
row_located k size w = row_places k size (register k.m (square_sums k w))

module _ (k : Key) (A : Accepted k) where
  -- the reversed polynomial for the sums of a pattern with at most t ones is 0 exactly at the pattern's points
  pub reversed_points : {e : List ℕ} → Row k.n e → ones e ≤ k.t → (a : ℕ)
      → (value k.m (monic (reversed (register k.m (square_sums k e)))) a ≡ 0) ↔ Memᴰ (val k.m a) (word_points k e)
  reversed_points {e} r few a =
      let size : length (square_sums k e) ≡ 2 * k.t = length-square_sums k e in
      let short : length (square_sums k e) ≤ 256 = omega (arith, size, A.limits.few) in
      let elements : Elements k.m (square_sums k e) = square_sums-elements k r in
      let zero =
      reversed-zero k.m A.width (register k.m (square_sums k e)) (register_lead k.m A.width (square_sums k e) elements short) a
      (register-elements k.m A.width (square_sums k e) elements short) in
      let member =
      found-places (gf k.m A.width) (length (square_sums k e)) (square_inverse k A) (word_points k e) (poly k.m (square_sums k e))
      (distinct_word k A e) (square_not_zero k A e)
      (λ s b. ap (val k.m) (square_sums-at k e s (omega (arith, size))) ∙ square_sum_lem k A r s)
      (omega (arith, size, length_word k A r)) (register_shortest k.m A.width (square_sums k e) elements short) (val k.m a) in
      (λ h. member.0 (zero.0 h), λ h. zero.1 (member.1 h))

  -- such a pattern is what its own sums locate
  pub located_self : {e : List ℕ} → Row k.n e → ones e ≤ k.t → located k e ≡ e
  unfolding located places
  located_self r few =
      marks_chosen _ (val k.m) r k.support A.support_length (distinct_support k A) (λ a m. (
        λ h. (reversed_points r few a).0 (eqb-true _ 0 h),
        λ h. eq-eqb _ 0 ((reversed_points r few a).1 h),
      ))

  -- so is the pattern that corrects a word, since it has the word's sums
  pub located-corrects : {w e : List ℕ} → Row k.n w → Corrects k w e → located k w ≡ e
  unfolding located
  located-corrects {w} {e} r c =
      ap (λ (s : List ℕ). places k (register k.m s)) (sym ((code_same k A r c.bits).0 c.code)) ∙ located_self c.bits c.few

not_both : (a b : Bool) → (a ≡ true → b ≡ true → ⊥) → a && b ≡ false
not_both false b h = refl
not_both true false h = refl
not_both true true h = absurd (h refl refl)

-- the answer, by its two tests
module _ (k : Key) (w : List ℕ) where
  pub explained_test : (b : Bool) → leb (ones (located k w)) k.t && same (square_sums k (located k w)) (square_sums k w) ≡ b
      → explained k w ≡ cond b (some (located k w)) none
  unfolding explained
  explained_test b e = ap (λ (x : Bool). cond x (some (located k w)) none) e

  pub explained_some : ones (located k w) ≤ k.t → square_sums k (located k w) ≡ square_sums k w → explained k w ≡ some (located k w)
  explained_some few e = explained_test true (ap₂ ◌&&◌ (le-leb (ones (located k w)) k.t few) (eq_same _ _ e))

  pub explained_none : (ones (located k w) ≤ k.t → square_sums k (located k w) ≡ square_sums k w → ⊥) → explained k w ≡ none
  explained_none h =
      explained_test false
      (not_both _ _ (λ a b. h (leb-true (ones (located k w)) k.t a) (same_eq (square_sums k (located k w)) (square_sums k w) b)))

-- the usual way is the search
pub reading-explained : (k : Key) → Accepted k → {w : List ℕ} → Row k.n w → reading k w ≡ explained k w
reading-explained k A {w} r = go (reading k w) refl
  where
    go : (o : Option (List ℕ)) → reading k w ≡ o → reading k w ≡ explained k w
    go none h =
        h ∙ sym (explained_none k w (λ few e.
        reading_complete k w h (located k w)
        record { bits = row_located k A.support_length w; few = few; code = (code_same k A r (row_located k A.support_length w)).1 e }))
    go (some e) h =
        let c : Corrects k w e = reading_sound k w e h in
        let l : located k w ≡ e = located-corrects k A r c in
        h ∙ ap some (sym l) ∙ sym (explained_some k w (rw l c.few) (rw l ((code_same k A r c.bits).0 c.code)))
