-- The points of a word, the members of the support where it is 1: they are distinct and as many as its ones, and the sums
-- that define the code are power sums over them. Assumes nothing.
use mathlib.Core.Path.{◌≡◌, refl, sym, ap, ap₂, ◌∙◌}
use mathlib.Core.Logic.{◌↔◌}
use mathlib.Core.Bool.{true}
use mathlib.Core.List.{List, [], ◌∷◌, map}
use Prim.Native.Nat.{ℕ, zero, suc, ◌+◌, ◌<◌}
use native.Mathlib.Nat.{zero-add, zero-mul, one-mul, suc_inj, suc-ne-zero}
use native.Mathlib.Omega.{arith}
use lib.Dec.{eqb}
use lib.ListN.{length, length-map}
use lib.Pow.{pow_pos}
use borrow.Author.Tests.{eqb-true, eq-eqb}
use Rattle.bits.specs.Xor.{◌⊕◌}
use Rattle.bits.specs.Bits.{Row, end, off, on, ones, dot}
use Rattle.bits.proofs.Xor.{zero_xor}
use Rattle.bits.proofs.Lists.{every_below_at, every_from_all}
use Rattle.algebra.proofs.Points.{All, Distinct, pow, total, power_sum}
use Rattle.algebra.proofs.Eval.{eval}
use Rattle.algebra.proofs.Field.{inv-mul}
use Rattle.algebra.proofs.Goppa.{Reciprocals}
use Rattle.field.specs.Field.{power, inv}
use Rattle.field.proofs.Table.{Width}
use Rattle.field.proofs.Laws.{mul-lt}
use Rattle.field.proofs.Gf.{Elem, val, val_inj, val-zero, val-xor, val-mul, val-inv, val-power, plus, times, inverse, zero_elem, laws, gf}
use Rattle.field.proofs.Arrays.{points, all_points, distinct_points}
use Rattle.poly.specs.Polynomials.{sum}
use Rattle.key.specs.Keys.{Key, goppa_at}
use Rattle.key.proofs.Accepted.{Accepted}
use Rattle.key.proofs.Goppa.{goppa_poly, goppa_value, goppa_lt}
use Rattle.code.specs.Code.{entry, in_code}
use Rattle.code.proofs.Parity.{dot-lt}
use Rattle.decoder.specs.Decoding.{chosen}

one_more_lem : (x : ℕ) → suc x ≡ 1 + x
one_more_lem x = omega arith

-- as many as the ones
pub length-chosen : {n : ℕ} {c : List ℕ} → Row n c → (l : List ℕ) → length l ≡ n → length (chosen c l) ≡ ones c
unfolding chosen ones
length-chosen end l h = refl
length-chosen (off r) [] h = absurd (suc-ne-zero _ (sym h))
length-chosen (on r) [] h = absurd (suc-ne-zero _ (sym h))
length-chosen (off r) (a ∷ l) h = length-chosen r l (suc_inj h) ∙ sym (zero-add _)
length-chosen (on r) (a ∷ l) h = ap suc (length-chosen r l (suc_inj h)) ∙ one_more_lem _

-- what holds of all points holds of the chosen ones
pub all_chosen : {F : Type 0} (P : F → Type 0) (f : ℕ → F) (c l : List ℕ) → All P (map f l) → All P (map f (chosen c l))
unfolding chosen
all_chosen P f [] l h = tt
all_chosen P f (b ∷ c) [] h = tt
all_chosen P f (zero ∷ c) (a ∷ l) h = all_chosen P f c l h.1
all_chosen P f (suc b ∷ c) (a ∷ l) h = (h.0, all_chosen P f c l h.1)

pub distinct-chosen : {F : Type 0} (f : ℕ → F) (c l : List ℕ) → Distinct (map f l) → Distinct (map f (chosen c l))
unfolding chosen
distinct-chosen f [] l h = tt
distinct-chosen f (b ∷ c) [] h = tt
distinct-chosen f (zero ∷ c) (a ∷ l) h = distinct-chosen f c l h.1
distinct-chosen f (suc b ∷ c) (a ∷ l) h = (all_chosen (λ x. ¬ (f a ≡ x)) f c l h.0, distinct-chosen f c l h.1)

-- a sum over the ones of a word, as the sum over the chosen
pub dot_chosen : {n : ℕ} {c : List ℕ} → Row n c → (f : ℕ → ℕ) (l : List ℕ) → dot c (map f l) ≡ sum (map f (chosen c l))
unfolding dot chosen sum
dot_chosen end f l = refl
dot_chosen (off r) f [] = refl
dot_chosen (on r) f [] = refl
dot_chosen (off {e = c} r) f (a ∷ l) =
    ap (λ (x : ℕ). x ⊕ dot c (map f l)) (zero-mul (f a)) ∙ zero_xor (dot c (map f l)) ∙ dot_chosen r f l
dot_chosen (on r) f (a ∷ l) = ap₂ ◌⊕◌ (one-mul (f a)) (dot_chosen r f l)

module _ (m : ℕ) (W : Width m) (f : ℕ → ℕ) (h : Elem m → Elem m) (e : (a : ℕ) → val m (f a) ≡ h (val m a)) where
  -- and read in the field
  sum-total : (l : List ℕ) → val m (sum (map f l)) ≡ total (laws m W) h (points m l)
  unfolding sum total
  sum-total [] = val-zero m
  sum-total (a ∷ l) = val-xor m (f a) (sum (map f l)) ∙ ap₂ (plus m) (e a) (sum-total l)

  pub dot-total : {n : ℕ} {c : List ℕ} → Row n c → (l : List ℕ) → val m (dot c (map f l)) ≡ total (laws m W) h (points m (chosen c l))
  dot-total {c = c} r l = ap (val m) (dot_chosen r f l) ∙ sum-total (chosen c l)

-- the points of a word
abbrev pub word_points : (k : Key) → List ℕ → List (Elem k.m)
word_points k c = points k.m (chosen c k.support)

module _ (k : Key) (A : Accepted k) where
  -- 1 / g(x)
  unfoldable pub goppa_inverse : Elem k.m → Elem k.m
  goppa_inverse x = inverse k.m (eval (laws k.m A.width) (suc k.t) (goppa_poly k) x)

  pub distinct_support : Distinct (points k.m k.support)
  distinct_support = distinct_points k.m k.support A.support_below (λ i j h b. A.different i j h (rw A.support_length at b))

  pub distinct_word : (c : List ℕ) → Distinct (word_points k c)
  distinct_word c = distinct-chosen (val k.m) c k.support distinct_support

  pub length_word : {c : List ℕ} → Row k.n c → length (word_points k c) ≡ ones c
  length_word {c} r = length-map (chosen c k.support) (val k.m) ∙ length-chosen r k.support A.support_length

  -- g is not 0 at the points
  pub word_reciprocals : (c : List ℕ) → Reciprocals (laws k.m A.width) (suc k.t) (goppa_poly k) goppa_inverse (word_points k c)
  unfolding Reciprocals goppa_inverse
  word_reciprocals c =
      all_chosen _ (val k.m) c k.support
      (all_points k.m _ k.support (λ i b.
      inv-mul (gf k.m A.width) _
      (λ z. A.no_root_lem i (rw A.support_length at b)
      (val_inj k.m (goppa_lt k A _) (pow_pos k.m) (sym (goppa_value k A _) ∙ z ∙ sym (val-zero k.m))))))

  pub inverse_weight : (a : ℕ) → val k.m (inv k.m (goppa_at k a)) ≡ goppa_inverse (val k.m a)
  unfolding goppa_inverse
  inverse_weight a = val-inv k.m (goppa_at k a) ∙ ap (inverse k.m) (sym (goppa_value k A a))

  pub entry-weight : (s a : ℕ) → val k.m (entry k s a) ≡ times k.m (goppa_inverse (val k.m a)) (pow (laws k.m A.width) (val k.m a) s)
  unfolding entry
  entry-weight s a =
      val-mul k.m (power k.m a s) (inv k.m (goppa_at k a))
      ∙ ap₂ (times k.m) (val-power k.m A.width a s) (inverse_weight a)
      ∙ (laws k.m A.width).mul_comm _ _

  -- the sums of the definition are power sums over the points
  pub word_sum : {c : List ℕ} → Row k.n c → (s : ℕ)
      → val k.m (dot c (map (entry k s) k.support)) ≡ power_sum (laws k.m A.width) goppa_inverse s (word_points k c)
  word_sum r s = dot-total k.m A.width (entry k s) _ (entry-weight s) r k.support

-- the code, by its sums
pub code_sums : (k : Key) (c : List ℕ) → in_code k c ≡ true → (s : ℕ) → s < k.t → dot c (map (entry k s) k.support) ≡ 0
unfolding in_code
code_sums k c h s b = eqb-true _ 0 (every_below_at (λ s. eqb (dot c (map (entry k s) k.support)) 0) k.t h s b)

pub sums_code : (k : Key) (c : List ℕ) → ((s : ℕ) → s < k.t → dot c (map (entry k s) k.support) ≡ 0) → in_code k c ≡ true
unfolding in_code
sums_code k c h =
    every_from_all (λ s. eqb (dot c (map (entry k s) k.support)) 0) 0 k.t (λ s b. rw zero-add (eq-eqb _ 0 (h s b)))

-- a word is in the code exactly when t power sums over its points are 0
module _ (k : Key) (A : Accepted k) {c : List ℕ} (r : Row k.n c) where
  pub code_powers : (in_code k c ≡ true) ↔ ((s : ℕ) → s < k.t → power_sum (laws k.m A.width) (goppa_inverse k A) s (word_points k c) ≡ zero_elem k.m)
  unfolding entry
  code_powers = (
    λ h s b. sym (word_sum k A r s) ∙ ap (val k.m) (code_sums k c h s b) ∙ val-zero k.m,
    λ h. sums_code k c (λ s b.
        val_inj k.m (dot-lt k.m r (entry k s) (λ a. mul-lt k.m _ _) k.support) (pow_pos k.m)
        (word_sum k A r s ∙ h s b ∙ sym (val-zero k.m))),
  )
