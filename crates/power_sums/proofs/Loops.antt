-- The loops over places of the weighted sums. Assumes nothing.
use mathlib.Core.Path.{◌≡◌, refl, sym, ap, ap₂, ◌∙◌}
use mathlib.Core.List.{List, [], ◌∷◌, ◌++◌, append-nil}
use Prim.Native.Nat.{ℕ, zero, suc, ◌+◌, ◌-◌, ◌*◌, ◌≤◌, ◌<◌}
use native.Mathlib.Nat.{le_of_suc-le-suc, not-suc-le-zero}
use native.Mathlib.Numerals.{add-one}
use native.Mathlib.Omega.{arith}
use lib.ListN.{length, get_or, take, drop, set, length-drop, drop_of_length-le}
use lib.Seq.{take_all, get_or-take, get_or-drop, length-take-le}
use Rattle.bits.specs.Xor.{◌⊕◌}
use Rattle.bits.specs.Bits.{over}
use Rattle.bits.proofs.Xor.{xor_comm}
use Rattle.bits.proofs.Padded.{over-next}
use Rattle.power_sums.specs.Sums.{added, collected, zip}

-- pairs: the first k
unfoldable pub added_to : ℕ → List ℕ → List ℕ
added_to zero l = l
added_to (suc k) [] = []
added_to (suc k) (a ∷ []) = a ∷ []
added_to (suc k) (a ∷ b ∷ l) = a ∷ (a ⊕ b) ∷ added_to k l

added-step : (k i : ℕ) (l : List ℕ) → i ≡ k + k → suc i < length l
    → set (added_to k l) (suc i) (get_or (added_to k l) (suc i) 0 ⊕ get_or (added_to k l) i 0) ≡ added_to (suc k) l
unfolding added_to
added-step k i [] e h = absurd (not-suc-le-zero h)
added-step k i (a ∷ []) e h = absurd (omega arith)
added-step zero zero (a ∷ b ∷ l) e h = ap (λ (x : ℕ). a ∷ x ∷ l) (xor_comm b a)
added-step zero (suc i) (a ∷ b ∷ l) e h = absurd (omega arith)
added-step (suc k) zero (a ∷ b ∷ l) e h = absurd (omega arith)
added-step (suc k) (suc zero) (a ∷ b ∷ l) e h = absurd (omega arith)
added-step (suc k) (suc (suc i)) (a ∷ b ∷ l) e h =
    ap (λ (r : List ℕ). a ∷ (a ⊕ b) ∷ r) (added-step k i l (omega arith) (le_of_suc-le-suc (le_of_suc-le-suc h)))

pub added_next : (k : ℕ) (l c : List ℕ) → c ≡ added_to k l → 2 * k + 1 < length l
    → set c (2 * k + 1) (get_or c (2 * k + 1) 0 ⊕ get_or c (2 * k) 0) ≡ added_to (k + 1) l
added_next k l c e h =
    ap₂ (λ (d : List ℕ) (j : ℕ). set d j (get_or d j 0 ⊕ get_or d (2 * k) 0)) e (add-one (2 * k))
    ∙ added-step k (2 * k) l (omega arith) (omega arith) ∙ ap (λ (j : ℕ). added_to j l) (sym (add-one k))

pub added_all : (k : ℕ) (l : List ℕ) → length l ≤ suc (2 * k) → added_to k l ≡ added l
unfolding added_to added
added_all zero [] h = refl
added_all zero (a ∷ []) h = refl
added_all zero (a ∷ b ∷ l) h = absurd (omega arith)
added_all (suc k) [] h = refl
added_all (suc k) (a ∷ []) h = refl
added_all (suc k) (a ∷ b ∷ l) h = ap (λ (r : List ℕ). a ∷ (a ⊕ b) ∷ r) (added_all k l (omega arith))

pub length-added : (l : List ℕ) → length (added l) ≡ length l
unfolding added
length-added [] = refl
length-added (a ∷ []) = refl
length-added (a ∷ b ∷ l) = ap (λ (n : ℕ). suc (suc n)) (length-added l)

-- collection: the first i sums
unfoldable pub collected_to : ℕ → List ℕ → List ℕ
collected_to zero l = l
collected_to (suc i) [] = []
collected_to (suc i) (x ∷ l) = x ∷ collected_to i (added l)

pub length_collected_to : (i : ℕ) (l : List ℕ) → length (collected_to i l) ≡ length l
unfolding collected_to
length_collected_to zero l = refl
length_collected_to (suc i) [] = refl
length_collected_to (suc i) (x ∷ l) = ap suc (length_collected_to i (added l) ∙ length-added l)

collected-step : (i : ℕ) (l : List ℕ) → i < length l → take (suc i) (collected_to i l) ++ added (drop (suc i) (collected_to i l)) ≡ collected_to (suc i) l
unfolding collected_to
collected-step zero [] h = absurd (not-suc-le-zero h)
collected-step zero (x ∷ l) h = refl
collected-step (suc i) [] h = absurd (not-suc-le-zero h)
collected-step (suc i) (x ∷ l) h = ap (◌∷◌ x) (collected-step i (added l) (rw length-added (le_of_suc-le-suc h)))

pub collected-next : (i : ℕ) (l c y : List ℕ) → c ≡ collected_to i l → i < length l → y ≡ added (take (length c - (i + 1)) (drop (i + 1) c))
    → take (i + 1) c ++ (y ++ drop (length c - (i + 1)) (drop (i + 1) c)) ≡ collected_to (i + 1) l
collected-next i l c y ec h ey =
    let d : List ℕ = drop (i + 1) c in
    ap (λ (r : List ℕ). take (i + 1) c ++ r)
    (ap₂ ◌++◌ (ey ∙ ap added (take_all (length c - (i + 1)) d (omega (arith, length-drop (i + 1) c)))) (drop_of_length-le d {i = length c - (i + 1)} (omega (arith, length-drop (i + 1) c))) ∙ append-nil (added d))
    ∙ ap₂ (λ (j : ℕ) (r : List ℕ). take j r ++ added (drop j r)) (add-one i) ec ∙ collected-step i l h ∙ ap (λ (j : ℕ). collected_to j l) (sym (add-one i))

pub collected_all : (i : ℕ) (l : List ℕ) → i ≡ length l → collected_to i l ≡ collected (length l) l
unfolding collected_to collected
collected_all zero [] e = refl
collected_all zero (x ∷ l) e = absurd (omega arith)
collected_all (suc i) [] e = absurd (omega arith)
collected_all (suc i) (x ∷ l) e = ap (◌∷◌ x) (collected_all i (added l) (omega (arith, length-added l)) ∙ ap (λ (n : ℕ). collected n (added l)) (length-added l))

-- two lists in turn
pub zip-at : (i : ℕ) (l r : List ℕ) → length l ≡ length r → i < length l → (get_or (zip l r) (i + i) 0 ≡ get_or l i 0) × (get_or (zip l r) (suc (i + i)) 0 ≡ get_or r i 0)
unfolding zip
zip-at i [] r e h = absurd (not-suc-le-zero h)
zip-at i (x ∷ l) [] e h = absurd (omega arith)
zip-at zero (x ∷ l) (y ∷ r) e h = (refl, refl)
zip-at (suc i) (x ∷ l) (y ∷ r) e h =
    let d : suc i + suc i ≡ suc (suc (i + i)) = omega arith in
    let q = zip-at i l r (omega arith) (le_of_suc-le-suc h) in
    (ap (λ (j : ℕ). get_or (x ∷ y ∷ zip l r) j 0) d ∙ q.0, ap (λ (j : ℕ). get_or (x ∷ y ∷ zip l r) (suc j) 0) d ∙ q.1)

pub length-zip : (l r : List ℕ) → length l ≡ length r → length (zip l r) ≡ length l + length r
unfolding zip
length-zip [] [] e = refl
length-zip [] (y ∷ r) e = absurd (omega arith)
length-zip (x ∷ l) [] e = absurd (omega arith)
length-zip (x ∷ l) (y ∷ r) e = ap (λ (n : ℕ). suc (suc n)) (length-zip l r (omega arith)) ∙ omega arith

module _ (t c : List ℕ) (h : ℕ) (et : length t ≡ h + h) (ec : length c ≡ h + h) where
  woven : List ℕ
  woven = zip (take h t) (drop h t)

  length-first : length (take h t) ≡ h
  length-first = length-take-le h t (omega arith)

  length_second : length (drop h t) ≡ h
  length_second = length-drop h t ∙ omega arith

  length_woven : length woven ≡ h + h
  unfolding woven
  length_woven = length-zip (take h t) (drop h t) (length-first ∙ sym length_second) ∙ ap₂ ◌+◌ length-first length_second

  pub weave_next : (i : ℕ) (d : List ℕ) → d ≡ over (take (2 * i) (zip (take h t) (drop h t))) c → i < h
      → set (set d (2 * i) (get_or t i 0)) (2 * i + 1) (get_or t (h + i) 0) ≡ over (take (2 * (i + 1)) (zip (take h t) (drop h t))) c
  unfolding woven
  weave_next i d ed k =
      let z : List ℕ = zip (take h t) (drop h t) in
      let q = zip-at i (take h t) (drop h t) (length-first ∙ sym length_second) (omega (arith, length-first)) in
      let e : 2 * i ≡ i + i = omega arith in
      let f : 2 * i + 1 ≡ suc (i + i) = omega arith in
      let g : 2 * i + 1 + 1 ≡ 2 * (i + 1) = omega arith in
      let a : get_or t i 0 ≡ get_or z (2 * i) 0 = sym (ap (λ (j : ℕ). get_or z j 0) e ∙ q.0 ∙ get_or-take h t i 0 k) in
      let b : get_or t (h + i) 0 ≡ get_or z (2 * i + 1) 0 = sym (ap (λ (j : ℕ). get_or z j 0) f ∙ q.1 ∙ get_or-drop h t i 0) in
      ap₂ (λ (x y : ℕ). set (set d (2 * i) x) (2 * i + 1) y) a b
      ∙ ap (λ (r : List ℕ). set (set r (2 * i) (get_or z (2 * i) 0)) (2 * i + 1) (get_or z (2 * i + 1) 0)) ed
      ∙ ap (λ (r : List ℕ). set r (2 * i + 1) (get_or z (2 * i + 1) 0)) (over-next (2 * i) z c (omega (arith, length_woven)) (omega arith))
      ∙ over-next (2 * i + 1) z c (omega (arith, length_woven)) (omega arith) ∙ ap (λ (j : ℕ). over (take j z) c) g

  pub weave_all : (i : ℕ) → h ≤ i → over (take (2 * i) (zip (take h t) (drop h t))) c ≡ zip (take h t) (drop h t)
  unfolding over woven
  weave_all i k =
      let z : List ℕ = zip (take h t) (drop h t) in
      ap (λ (r : List ℕ). r ++ drop (length r) c) (take_all (2 * i) z (omega (arith, length_woven)))
      ∙ ap (◌++◌ z) (drop_of_length-le c {i = length z} (omega (arith, length_woven))) ∙ append-nil z
