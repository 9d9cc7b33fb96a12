-- Linear-feedback shift registers: a connection polynomial C with C 0 = 1, zero past the length l. It generates the first n
-- terms of S if (C·S) k = 0 for l ≤ k < n. The shortest is unique where twice its length is at most n. Assumes nothing.
use mathlib.Core.Path.{◌≡◌, sym, ◌∙◌, ap, ap₂, fun_ext}
use mathlib.Core.Logic.{◌≢◌}
use Prim.Native.Nat.{ℕ, zero, suc, ◌+◌, ◌-◌, ◌≤◌, ◌<◌}
use native.Mathlib.Nat.{add-zero as nat-add-zero}
use native.Mathlib.Omega.{arith}
use native.Mathlib.Decide.{dec_le, dec_lt}
use Rattle.algebra.proofs.Ring.{add_cancel, mul_left, one-mul, mul-zero}
use Rattle.algebra.proofs.Field.{Field, inv-mul}
use Rattle.algebra.proofs.Series.{Series, operations, C-at, scale_mul, add-mul-at, plus-at, skip, skip_mul}
use Rattle.algebra.proofs.Poly.{Below, below_add, below_scale, mul_vanish, mul-first}

module _ (K : Field) where
  open K use {F, eq?, 𝟘, 𝟙, ◌⊕◌, ◌⊗◌, inv, laws as L}
  open operations L use {◌⊞◌, ◌⊠◌, C as const, series}

  infixl 65 ◌⊕◌
  infixl 70 ◌⊗◌
  infixl 65 ◌⊞◌
  infixl 70 ◌⊠◌
  -- a register, but for the leading coefficient
  pub record Kills (C : Series F) (l : ℕ) (S : Series F) (n : ℕ) : Type 0 where
    pub short : Below L (suc l) C
    pub zeros : (k : ℕ) → l ≤ k → k < n → (C ⊠ S) k ≡ 𝟘

  pub record Generates (C : Series F) (l : ℕ) (S : Series F) (n : ℕ) : Type 0 where
    pub lead : C 0 ≡ 𝟙
    pub kills : Kills C l S n

  pub record Shortest (C : Series F) (l : ℕ) (S : Series F) (n : ℕ) : Type 0 where
    pub gen : Generates C l S n
    pub least : (C' : Series F) (l' : ℕ) → Generates C' l' S n → l ≤ l'

  -- the length must change: (C·C'·S) n, computed in two ways
  pub length_change : {C C' S : Series F} {l l' n : ℕ} → Kills C l S n → (C ⊠ S) n ≢ 𝟘 → Generates C' l' S (suc n) → n < l + l'
  length_change {C} {C'} {S} {l} {l'} {n} c wrong g = elim (dec_le (suc n) (l + l')) [ yes h ↦ h | no h ↦ absurd (wrong (go h)) ]
    where
      go : ¬ (n < l + l') → (C ⊠ S) n ≡ 𝟘
      go h =
          sym (one-mul L _) ∙ ap (λ x. x ⊗ (C ⊠ S) n) (sym g.lead)
          ∙ sym (mul-first L l' C' (C ⊠ S) n g.kills.short (λ i j b e. c.zeros j (omega arith) (omega arith)))
          ∙ ap (λ p. p n) (mul_left series C' C S)
          ∙ mul_vanish L (suc l) C (C' ⊠ S) n c.short (λ i j b e. g.kills.zeros j (omega arith) (omega arith))

  pub fewer : {C S : Series F} {l n n' : ℕ} → n ≤ n' → Generates C l S n' → Generates C l S n
  fewer b g = record { lead = g.lead; kills = record { short = g.kills.short; zeros = λ k h h'. g.kills.zeros k h (omega arith) } }

  pub kills_more : {C S : Series F} {l n : ℕ} → Kills C l S n → (C ⊠ S) n ≡ 𝟘 → Kills C l S (suc n)
  kills_more {C} {S} {l} {n} c e = record { short = c.short; zeros = zeros }
    where
      zeros : (k : ℕ) → l ≤ k → k < suc n → (C ⊠ S) k ≡ 𝟘
      zeros k a b = elim (dec_lt k n) [ yes h ↦ c.zeros k a h | no h ↦ (let i : k ≡ n = omega arith in rw i e) ]

  pub generates_more : {C S : Series F} {l n : ℕ} → Generates C l S n → (C ⊠ S) n ≡ 𝟘 → Generates C l S (suc n)
  generates_more g e = record { lead = g.lead; kills = kills_more g.kills e }

  -- divided by the leading coefficient
  monic : {C S : Series F} {l n : ℕ} → Kills C l S n → C 0 ≢ 𝟘 → Generates (const (inv (C 0)) ⊠ C) l S n
  monic {C} {S} c h = record {
    lead = C-at L (inv (C 0)) C 0 ∙ inv-mul K (C 0) h;
    kills = record {
      short = below_scale L (inv (C 0)) c.short;
      zeros = λ k a b. scale_mul L (inv (C 0)) C S k ∙ ap (λ x. inv (C 0) ⊗ x) (c.zeros k a b) ∙ mul-zero L _;
    };
  }

  module _ {C S : Series F} {l n : ℕ} (s : Shortest C l S n) (long : l + l ≤ n) where
    -- no shorter polynomial that is not 0 at 0 kills even the first n - a terms
    none : {D : Series F} {e a : ℕ} → D 0 ≢ 𝟘 → e + a ≡ l → 0 < a → (t N : ℕ) → N + t ≡ n → n ≤ a + N → Kills D e S N → ⊥
    none {D} {e} {a} h i b zero N j r c =
        let z : N ≡ n = omega arith in
        let w : l ≤ e = s.least _ _ (monic (rw z at c) h) in omega arith
    none {D} {e} {a} h i b (suc t) N j r c = elim (eq? ((D ⊠ S) N) 𝟘) [
      | yes z ↦ none {D = D} {e = e} {a = a} h i b t (suc N) (omega arith) (omega arith) (kills_more c z)
      | no w ↦ (let x : N < e + l = length_change c w (fewer (omega arith) s.gen) in omega arith)
    ]

    first : {D : Series F} → Kills D l S n → D 0 ≡ 𝟘 → (a : ℕ) → ((k : ℕ) → k < a → D k ≡ 𝟘) → D a ≡ 𝟘
    first {D} c z zero low = z
    first {D} c z (suc p) low = elim (dec_le (suc l) (suc p)) [
      | yes b ↦ c.short (suc p) b
      | no b ↦ elim (eq? (D (suc p)) 𝟘) [
        | yes e ↦ e
        | no w ↦
            absurd (none {D = skip L (suc p) D} {e = l - suc p} {a = suc p} (rw nat-add-zero w) (omega arith) (omega arith) (suc p) (n - suc p) (omega arith) (omega arith)
            record {
              short = λ k h. c.short (suc p + k) (omega arith);
              zeros = λ k h h'. skip_mul L (suc p) D S low k ∙ c.zeros (suc p + k) (omega arith) (omega arith);
            })
      ]
    ]

    same : {D : Series F} → Kills D l S n → D 0 ≡ 𝟘 → (a k : ℕ) → k < a → D k ≡ 𝟘
    same c z zero k b = absurd (omega arith)
    same {D} c z (suc a) k b = elim (dec_lt k a) [
      | yes h ↦ same c z a k h
      | no h ↦ (let e : k ≡ a = omega arith in rw e (first c z a (same c z a)))
    ]

    pub unique : {C' : Series F} → Generates C' l S n → C ≡ C'
    unique {C'} g = fun_ext λ k. add_cancel L (C k) (C' k) (sym (plus-at L C C' k) ∙ same both begin (suc k) k (omega arith))
      where
        begin : (C ⊞ C') 0 ≡ 𝟘
        begin = plus-at L C C' 0 ∙ ap₂ ◌⊕◌ s.gen.lead g.lead ∙ L.add_self 𝟙

        both : Kills (C ⊞ C') l S n
        both = record {
          short = below_add L s.gen.kills.short g.kills.short;
          zeros = λ k h h'. add-mul-at L C C' S k ∙ ap₂ ◌⊕◌ (s.gen.kills.zeros k h h') (g.kills.zeros k h h') ∙ L.add_self 𝟘;
        }
