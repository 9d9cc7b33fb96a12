-- What the loops over places compute. Assumes nothing.
use mathlib.Core.Path.{◌≡◌, refl, sym, ap, ap₂, ◌∙◌}
use mathlib.Core.List.{List, map}
use Prim.Native.Nat.{ℕ, ◌+◌, ◌-◌, ◌^◌, ◌≤◌, ◌<◌}
use native.Mathlib.Nat.{lt_of_lt_of_le}
use native.Mathlib.Numerals.{add-one}
use native.Mathlib.Omega.{arith}
use native.Mathlib.Decide.{dec_lt}
use lib.Pow.{pow_mono}
use lib.ListN.{length, get_or, take, set, replicate, length-set}
use lib.Seq.{ext_get_or, get_or-set_same, get_or-set_other, get_or-take, length-take-le}
use Rattle.bits.specs.Xor.{◌⊕◌}
use Rattle.bits.specs.Bits.{from, each_with}
use Rattle.bits.proofs.Xor.{xor-zero}
use Rattle.bits.proofs.Bits.{zeros_at}
use Rattle.bits.proofs.Lists.{map-from}
use Rattle.bits.proofs.Each.{length-each_with, each_with-nil, each_with-suc, each_with-take, each_with-at}
use Rattle.field.specs.Field.{mul}
use Rattle.field.specs.Poly.{horner_each}
use Rattle.field.proofs.Table.{Width, width_narrow}
use Rattle.field.proofs.Laws.{mul_comm, mul-zero, mul-lt}
use Rattle.field.proofs.PointTable.{mul_past}
use Rattle.field.proofs.Places.{horner_each-at, each_rest, each_self}
use Rattle.poly.specs.Polynomials.{sum}
use Rattle.poly.specs.Parts.{Earlier}
use Rattle.register.specs.Across.{Past, Multiples, Fits, discrepancy_across}

-- c in the place of b, with the first places done: none; one more; all
module _ (b c : List ℕ) where
  unfoldable pub copied_to : ℕ → List ℕ
  copied_to i = each_with (λ x y. y) b (take i c)

  pub copied_none : b ≡ copied_to 0
  unfolding copied_to
  copied_none = sym (each_with-nil (λ x y. y) b)

  pub copied_next : (i : ℕ) → i < length c → i < length b → set (copied_to i) i (get_or c i 0) ≡ copied_to (i + 1)
  unfolding copied_to
  copied_next i h k = each_with-suc (λ x y. y) b c i h k ∙ ap copied_to (sym (add-one i))

  pub copied_all : (i : ℕ) → length b ≡ length c → length c ≤ i → copied_to i ≡ c
  unfolding copied_to
  copied_all i e h =
      let l : length (each_with (λ x y. y) b c) ≡ length b = length-each_with (λ x y. y) b c in
      each_with-take (λ x y. y) b c i (λ k. omega arith)
      ∙ ext_get_or 0 (each_with (λ x y. y) b c) c (l ∙ e) (λ j k. each_with-at (λ x y. y) b c j (omega arith) (omega arith))

-- a·c, with the first places done: none; one more; all, where c has 0 past the place l
module _ (m a : ℕ) (c : List ℕ) where
  unfoldable pub scaled_to : ℕ → List ℕ
  scaled_to i = each_with (λ x y. mul m a x) c (take i c)

  pub scaled_none : c ≡ scaled_to 0
  unfolding scaled_to
  scaled_none = sym (each_with-nil (λ x y. mul m a x) c)

  pub scaled-next : (i : ℕ) → i < length c → set (scaled_to i) i (mul m a (get_or (scaled_to i) i 0)) ≡ scaled_to (i + 1)
  unfolding scaled_to
  scaled-next i h = each_with-suc (λ x y. mul m a x) c c i h h ∙ ap scaled_to (sym (add-one i))

  pub scaled_all : (l i : ℕ) → l < i → Past l c → scaled_to i ≡ map (mul m a) c
  unfolding scaled_to
  scaled_all l i h z =
      each_rest (λ x y. mul m a x) c c i (λ j k. ap (mul m a) (z j (omega arith)) ∙ mul-zero m a ∙ sym (z j (omega arith)))
      ∙ each_self (λ x y. mul m a x) c

-- the multiples of a in the first j places of t, with zeros behind them
module _ (m a : ℕ) where
  pub record Made (j : ℕ) (t : List ℕ) : Type 0 where
    pub size : length t ≡ 13
    pub low : (i : ℕ) → i < j → get_or t i 0 ≡ mul m a (2 ^ i)
    pub high : (i : ℕ) → j ≤ i → get_or t i 0 ≡ 0

  pub made-next : (j v : ℕ) (t : List ℕ) → j < 13 → v ≡ mul m a (2 ^ j) → Made j t → Made (j + 1) (set t j v)
  made-next j v t h e f =
      record {
        size = length-set t j v ∙ f.size;
        low = λ i l. elim (dec_lt i j) [
          | yes k ↦ get_or-set_other t j i v 0 (λ z. omega arith) ∙ f.low i k
          | no k ↦ (let z : i ≡ j = omega arith in rw z (get_or-set_same t j v 0 (omega (arith, f.size)) ∙ e))
        ];
        high = λ i l. get_or-set_other t j i v 0 (λ z. omega arith) ∙ f.high i (omega arith);
      }

  pub made-first : Made 0 (replicate 13 0)
  made-first = record { size = refl; low = λ i l. absurd (omega arith); high = λ i l. zeros_at 13 i }

  pub made_all : Width m → (j : ℕ) (t : List ℕ) → m ≤ j → Made j t → Multiples m a t
  made_all w j t h f i l = elim (dec_lt i j) [
    | yes k ↦ f.low i k
    | no k ↦ f.high i (omega arith) ∙ sym (mul_past m w a i (omega arith))
  ]

  pub multiples_fit : Width m → (t : List ℕ) → Multiples m a t → Fits t
  multiples_fit w t f j h =
      let n : m < 14 = width_narrow m w in
      rw (f j h) (lt_of_lt_of_le (mul-lt m a (2 ^ j)) (pow_mono {i = m} {j = 16} (omega arith)))

-- the discrepancy's terms in p, over all places at once
pub discrepancy-at : (m : ℕ) (s c v p : List ℕ) (l n e : ℕ) → Width m → Earlier s n (l + 1) v
    → p ≡ horner_each m 0 (set v 0 (get_or s n 0)) (take e c) → l < e → e ≤ length c → l < length v
    → get_or p 0 0 ⊕ sum (map (λ k. get_or p k 0) (from 1 l)) ≡ discrepancy_across m s c l n
unfolding discrepancy_across
discrepancy-at m s c v p l n e w f g a b h =
    ap₂ ◌⊕◌ (at 0 (omega arith) (get_or-set_same v 0 (get_or s n 0) 0 (omega arith)))
    (ap sum (map-from (λ k. get_or p k 0) (λ i. mul m (get_or c i 0) (get_or s (n - i) 0)) 1 1 l
    (λ i k. at (1 + i) (omega arith) (get_or-set_other v 0 (1 + i) (get_or s n 0) 0 (λ z. omega arith) ∙ f (1 + i) (omega arith) (omega arith)))))
  where
    u : List ℕ
    u = set v 0 (get_or s n 0)

    at : (i : ℕ) → i ≤ l → {x : ℕ} → get_or u i 0 ≡ x → get_or p i 0 ≡ mul m (get_or c i 0) x
    at i k q =
        let o : length u ≡ length v = length-set v 0 (get_or s n 0) in
        let t : length (take e c) ≡ e = length-take-le e c b in
        ap (λ (y : List ℕ). get_or y i 0) g ∙ horner_each-at m 0 u (take e c) w i (omega arith) (omega arith) ∙ xor-zero _
        ∙ ap₂ (mul m) q (get_or-take e c i 0 (omega arith)) ∙ mul_comm m _ _
