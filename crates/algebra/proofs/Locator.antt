-- Power sums of a list E of distinct points, S k = Σ w(a)·a^k with no weight 0: their shortest register is the locator
-- Π (1 + a·X), and a is in E where X^l·C(1/X) is 0 at a. A point 0 is no special case. Assumes nothing.
use mathlib.Core.Path.{◌≡◌, refl, sym, ◌∙◌, ap, ap₂, fun_ext}
use mathlib.Core.Logic.{◌≢◌, ◌↔◌}
use mathlib.Core.List.{List, [], ◌∷◌, Memᴰ}
use Prim.Native.Nat.{ℕ, zero, suc, ◌+◌, ◌-◌, ◌≤◌, ◌<◌}
use native.Mathlib.Nat.{add-zero as nat-add-zero, add-suc as nat-add-suc}
use native.Mathlib.Omega.{arith}
use native.Mathlib.Decide.{dec_le}
use lib.ListN.{length}
use Rattle.algebra.proofs.Ring.{ring, add_cancel, mul_left, mul-zero, zero-mul, one-mul}
use Rattle.algebra.proofs.Field.{Field, no_divisors}
use Rattle.algebra.proofs.Points.{All, all_at, all_of, Distinct, pow, pow-zero, pow-suc, total, total-cons, total_cong, total_none, total-add, total-mul, product, power_sum}
use Rattle.algebra.proofs.Series as Ser
use Rattle.algebra.proofs.Series.{Series, operations, C-at, scale_mul, X-suc, X-zero, add-mul-at, plus-at, mul-zero-at, mul-suc-at, mul_cong, mul_none}
use Rattle.algebra.proofs.Poly.{Below, below_add, below_scale, below_mul, below_C, below_X}
use Rattle.algebra.proofs.Register.{Generates, Shortest, unique}

module _ (K : Field) where
  open K use {F, eq?, 𝟘, 𝟙, 𝟙≢𝟘, ◌⊕◌, ◌⊗◌, laws as L}
  open operations L use {◌⊞◌, ◌⊠◌, C as const, X, series}

  infixl 65 ◌⊕◌
  infixl 70 ◌⊗◌
  infixl 65 ◌⊞◌
  infixl 70 ◌⊠◌
  -- the product with 1 + a·X + a²·X² + ..
  pub mul-pow-zero : (p : Series F) (a : F) → (p ⊠ pow L a) 0 ≡ p 0
  mul-pow-zero p a = mul-zero-at L p (pow L a) ∙ ap (λ x. p 0 ⊗ x) (pow-zero L a) ∙ L.mul-one (p 0)

  pub mul-pow : (p : Series F) (a : F) (k : ℕ) → (p ⊠ pow L a) (suc k) ≡ p (suc k) ⊕ a ⊗ (p ⊠ pow L a) k
  unfolding Ser.tail
  mul-pow p a k =
      ap (λ q. q (suc k)) (series.mul_comm p (pow L a)) ∙ mul-suc-at L (pow L a) p k
      ∙ ap₂ ◌⊕◌ (ap (λ x. x ⊗ p (suc k)) (pow-zero L a) ∙ one-mul L _)
      (ap (λ q. (q ⊠ p) k) (fun_ext λ i. pow-suc L a i ∙ sym (C-at L a (pow L a) i)) ∙ scale_mul L a (pow L a) p k
      ∙ ap (λ q. a ⊗ q k) (series.mul_comm (pow L a) p))

  -- past the degree, a geometric sequence
  pub mul-pow_past : (l : ℕ) (p : Series F) (a : F) → Below L (suc l) p → (k : ℕ) → (p ⊠ pow L a) (l + k) ≡ pow L a k ⊗ (p ⊠ pow L a) l
  mul-pow_past l p a b zero = simp (nat-add-zero, pow-zero L, ring, L)
  mul-pow_past l p a b (suc k) =
      simp (nat-add-suc, mul-pow) (ap₂ (λ x y. x ⊕ a ⊗ y) (b (suc (l + k)) (omega arith)) (mul-pow_past l p a b k) ∙ simp (pow-suc L, ring, L))

  -- the value at a of X^l·C(1/X), the reversed polynomial of a register of length l
  abbrev pub reversed : ℕ → Series F → F → F
  reversed l C a = (C ⊠ pow L a) l

  pub mul_power_sum : (C : Series F) (w : F → F) (E : List F) (k : ℕ) → (C ⊠ (λ s. power_sum L w s E)) k ≡ total L (λ a. w a ⊗ (C ⊠ pow L a) k) E
  unfolding total
  mul_power_sum C w [] k = mul_none L C _ k (λ i j e. mul-zero L _)
  mul_power_sum C w (a ∷ E) k =
      ap (λ q. (C ⊠ q) k) (fun_ext λ s. ap (λ x. x ⊕ power_sum L w s E) (sym (C-at L (w a) (pow L a) s)) ∙ sym (plus-at L _ _ s))
      ∙ ap (λ q. q k) (series.mul-add C (const (w a) ⊠ pow L a) (λ s. power_sum L w s E)) ∙ plus-at L _ _ k
      ∙ ap₂ ◌⊕◌ (ap (λ q. q k) (mul_left series C (const (w a)) (pow L a)) ∙ C-at L (w a) (C ⊠ pow L a) k) (mul_power_sum C w E k)

  -- b + a is not 0 at the points b other than a
  cancel_apart : (f : F → F) (a : F) (E : List F) → All (λ b. ¬ (a ≡ b)) E → All (λ b. (b ⊕ a) ⊗ f b ≡ 𝟘) E → All (λ b. f b ≡ 𝟘) E
  cancel_apart f a E d h = all_of _ E λ b m. no_divisors K (b ⊕ a) (f b) (λ e. all_at _ d m (sym (add_cancel L b a e))) (all_at _ h m)

  -- weights times b + a: the power sums lose the point a
  times_sum : (z : F → F) (a : F) (E : List F) (s : ℕ) → power_sum L (λ b. (b ⊕ a) ⊗ z b) s E ≡ power_sum L z (suc s) E ⊕ a ⊗ power_sum L z s E
  times_sum z a E s =
      total_cong L _ _ E (all_of _ E (λ b m. spread b (z b) (pow L b s) ∙ ap (λ x. z b ⊗ x ⊕ a ⊗ (z b ⊗ pow L b s)) (sym (pow-suc L b s))))
      ∙ total-add L _ _ E ∙ ap (λ x. power_sum L z (suc s) E ⊕ x) (total-mul L a _ E)
    where
      spread : (b y p : F) → (b ⊕ a) ⊗ y ⊗ p ≡ y ⊗ (b ⊗ p) ⊕ a ⊗ (y ⊗ p)
      spread b y p = simp (ring, L)

  lose : (z : F → F) (a : F) (E : List F) (s : ℕ) → power_sum L z s (a ∷ E) ≡ 𝟘 → power_sum L z (suc s) (a ∷ E) ≡ 𝟘 → power_sum L (λ b. (b ⊕ a) ⊗ z b) s E ≡ 𝟘
  lose z a E s h h' =
      sym (total-cons L _ a E ∙ ap (λ x. x ⊗ z a ⊗ pow L a s ⊕ power_sum L (λ b. (b ⊕ a) ⊗ z b) s E) (L.add_self a) ∙ simp (ring, L))
      ∙ times_sum z a (a ∷ E) s ∙ ap₂ (λ x y. x ⊕ a ⊗ y) h' h ∙ simp (ring, L)

  alone : (z : F → F) (a : F) (E : List F) → All (λ b. z b ≡ 𝟘) E → power_sum L z 0 (a ∷ E) ≡ z a
  alone z a E h =
      total-cons L _ a E ∙ ap₂ ◌⊕◌ (ap (λ x. z a ⊗ x) (pow-zero L a) ∙ L.mul-one (z a))
      (total_none L _ E (all_of _ E (λ b m. ap (λ x. x ⊗ pow L b 0) (all_at _ h m) ∙ zero-mul L _)))
      ∙ L.add-zero (z a)

  -- power sums that are 0 at as many exponents as there are points have no weight but 0
  pub vandermonde : (z : F → F) (E : List F) → Distinct E → ((s : ℕ) → s < length E → power_sum L z s E ≡ 𝟘) → All (λ a. z a ≡ 𝟘) E
  vandermonde z [] d h = tt
  vandermonde z (a ∷ E) d h =
      let less = vandermonde (λ b. (b ⊕ a) ⊗ z b) E d.1 (λ s c. lose z a E s (h s (omega arith)) (h (suc s) (omega arith))) in
      let rest = cancel_apart z a E d.0 less in
      (sym (alone z a E rest) ∙ h 0 (omega arith), rest)

  -- 1 + a·X, the inverse of 1 + a·X + a²·X² + ..
  unfoldable pub factor : F → Series F
  factor a = const 𝟙 ⊞ const a ⊠ X

  factor_at_lem : (a : F) (p : Series F) (n : ℕ) → (factor a ⊠ p) n ≡ p n ⊕ a ⊗ (X ⊠ p) n
  unfolding factor
  factor_at_lem a p n = add-mul-at L (const 𝟙) (const a ⊠ X) p n ∙ ap₂ ◌⊕◌ (C-at L 𝟙 p n ∙ one-mul L _) (scale_mul L a X p n)

  pub factor_zero : (a : F) (p : Series F) → (factor a ⊠ p) 0 ≡ p 0
  factor_zero a p = factor_at_lem a p 0 ∙ ap (λ x. p 0 ⊕ a ⊗ x) (X-zero L p) ∙ simp (ring, L)

  pub factor_suc : (a : F) (p : Series F) (n : ℕ) → (factor a ⊠ p) (suc n) ≡ p (suc n) ⊕ a ⊗ p n
  factor_suc a p n = factor_at_lem a p (suc n) ∙ ap (λ x. p (suc n) ⊕ a ⊗ x) (X-suc L p n)

  pub factor_pow : (a : F) → factor a ⊠ pow L a ≡ const 𝟙
  unfolding Ser.C
  factor_pow a = fun_ext go
    where
      go : (n : ℕ) → (factor a ⊠ pow L a) n ≡ const 𝟙 n
      go zero = factor_zero a _ ∙ pow-zero L a
      go (suc n) = factor_suc a _ n ∙ ap (λ x. x ⊕ a ⊗ pow L a n) (pow-suc L a n) ∙ L.add_self _

  pub below_factor : (a : F) → Below L 2 (factor a)
  unfolding factor
  below_factor a = below_add L (λ i h. below_C L 𝟙 i (omega arith)) (below_scale L a (below_X L))

  pub reversed_factor : (l : ℕ) (a b : F) (p : Series F) → Below L (suc l) p → reversed (suc l) (factor a ⊠ p) b ≡ (b ⊕ a) ⊗ reversed l p b
  reversed_factor l a b p h =
      ap (λ q. q (suc l)) (series.mul_assoc (factor a) p (pow L b)) ∙ factor_suc a _ l
      ∙ ap (λ x. x ⊕ a ⊗ reversed l p b) (mul-pow p b l ∙ ap (λ x. x ⊕ b ⊗ reversed l p b) (h (suc l) (omega arith)))
      ∙ simp (ring, L)

  -- where a is a root of the reversed p, 1 + a·X divides p: the quotient is p·(1 + a·X + a²·X² + ..)
  factor_quotient : (a : F) (p : Series F) → factor a ⊠ (p ⊠ pow L a) ≡ p
  factor_quotient a p = mul_left series (factor a) p (pow L a) ∙ ap (λ q. p ⊠ q) (factor_pow a) ∙ series.mul-one p

  below_quotient : (l : ℕ) (a : F) (p : Series F) → Below L (suc l) p → reversed l p a ≡ 𝟘 → Below L l (p ⊠ pow L a)
  below_quotient l a p b r k h =
      let e : k ≡ l + (k - l) = omega arith in
      ap (p ⊠ pow L a) e ∙ mul-pow_past l p a b (k - l) ∙ ap (λ x. pow L a (k - l) ⊗ x) r ∙ mul-zero L _

  -- a reversed register of length l has at most l roots
  pub few_roots : (l : ℕ) (C : Series F) (E : List F) → Distinct E → C 0 ≡ 𝟙 → Below L (suc l) C → All (λ a. reversed l C a ≡ 𝟘) E → length E ≤ l
  few_roots l C [] d e b r = omega arith
  few_roots zero C (a ∷ E) d e b r = absurd (𝟙≢𝟘 (sym (mul-pow-zero C a ∙ e) ∙ r.0))
  few_roots (suc l) C (a ∷ E) d e b r =
      let Q = C ⊠ pow L a in
      let short : Below L (suc l) Q = below_quotient (suc l) a C b r.0 in
      let roots : All (λ c. (c ⊕ a) ⊗ reversed l Q c ≡ 𝟘) E =
      all_of _ E (λ c m. sym (reversed_factor l a c Q short) ∙ ap (λ q. reversed (suc l) q c) (factor_quotient a C) ∙ all_at _ r.1 m) in
      let less : length E ≤ l = few_roots l Q E d.1 (mul-pow-zero C a ∙ e) short (cancel_apart _ a E d.0 roots) in omega arith

  -- Π (1 + a·X)
  unfoldable pub locator : List F → Series F
  locator [] = const 𝟙
  locator (a ∷ E) = factor a ⊠ locator E

  pub locator_lead : (E : List F) → locator E 0 ≡ 𝟙
  unfolding locator Ser.C
  locator_lead [] = refl
  locator_lead (a ∷ E) = factor_zero a (locator E) ∙ locator_lead E

  pub below_locator : (E : List F) → Below L (suc (length E)) (locator E)
  unfolding locator
  below_locator [] = below_C L 𝟙
  below_locator (a ∷ E) = λ i h. below_mul L (below_factor a) (below_locator E) i (omega arith)

  pub reversed_locator : (E : List F) (a : F) → reversed (length E) (locator E) a ≡ product L (λ b. a ⊕ b) E
  unfolding locator product
  reversed_locator [] a = mul-pow-zero (locator []) a ∙ locator_lead []
  reversed_locator (b ∷ E) a = reversed_factor (length E) b a (locator E) (below_locator E) ∙ ap (λ x. (a ⊕ b) ⊗ x) (reversed_locator E a)

  product_member : {a : F} {E : List F} → Memᴰ a E → product L (λ b. a ⊕ b) E ≡ 𝟘
  unfolding product
  product_member {a} (Memᴰ.head {x} {xs} e) = ap (λ y. (a ⊕ y) ⊗ product L (λ b. a ⊕ b) xs) (sym e) ∙ simp (ring, L)
  product_member {a} (Memᴰ.tail {x} {xs} m) = ap (λ y. (a ⊕ x) ⊗ y) (product_member m) ∙ mul-zero L _

  member_product : (a : F) (E : List F) → product L (λ b. a ⊕ b) E ≡ 𝟘 → Memᴰ a E
  unfolding product
  member_product a [] e = absurd (𝟙≢𝟘 e)
  member_product a (b ∷ E) e = elim (eq? a b) [
    | yes h ↦ Memᴰ.head h
    | no w ↦ Memᴰ.tail (member_product a E (no_divisors K (a ⊕ b) _ (λ z. w (add_cancel L a b z)) e))
  ]

  -- the roots of the reversed locator are the members of E
  pub locator_places : (E : List F) (a : F) → reversed (length E) (locator E) a ≡ 𝟘 ↔ Memᴰ a E
  locator_places E a = (λ e. member_product a E (sym (reversed_locator E a) ∙ e), λ m. reversed_locator E a ∙ product_member m)

  -- S begins with n power sums of E
  module _ (n : ℕ) (w : F → F) (E : List F) (S : Series F) (d : Distinct E) (weights : All (λ a. w a ≢ 𝟘) E)
      (given : (k : ℕ) → k < n → S k ≡ power_sum L w k E) (long : length E + length E ≤ n) where
    mul-given : (C : Series F) (k : ℕ) → k < n → (C ⊠ S) k ≡ total L (λ a. w a ⊗ (C ⊠ pow L a) k) E
    mul-given C k b = mul_cong L C S C _ k (λ i j e. ap (λ x. C i ⊗ x) (given j (omega arith))) ∙ mul_power_sum C w E k

    past : (C : Series F) (l k : ℕ) → Below L (suc l) C → l + k < n → (C ⊠ S) (l + k) ≡ power_sum L (λ a. w a ⊗ reversed l C a) k E
    past C l k b h = mul-given C (l + k) h
        ∙ total_cong L _ _ E (all_of _ E (λ a m. ap (λ x. w a ⊗ x) (mul-pow_past l C a b k) ∙ turn (w a) (pow L a k) (reversed l C a)))
      where
        turn : (x y z : F) → x ⊗ (y ⊗ z) ≡ x ⊗ z ⊗ y
        turn x y z = simp (ring, L)

    pub locator_generates : Generates K (locator E) (length E) S n
    locator_generates = record { lead = locator_lead E; kills = record { short = below_locator E; zeros = zeros } }
      where
        zeros : (k : ℕ) → length E ≤ k → k < n → (locator E ⊠ S) k ≡ 𝟘
        zeros k h c =
            let j : ℕ = k - length E in
            let e : k ≡ length E + j = omega arith in
            ap (locator E ⊠ S) e ∙ past (locator E) (length E) j (below_locator E) (omega arith)
            ∙ total_none L _ E (all_of _ E (λ a m. ap (λ x. w a ⊗ x ⊗ pow L a j) ((locator_places E a).1 m) ∙ simp (ring, L)))

    pub locator_least : (C : Series F) (l : ℕ) → Generates K C l S n → length E ≤ l
    locator_least C l g = elim (dec_le (length E) l) [
      | yes h ↦ h
      | no h ↦
          (let zero-sums : All (λ a. w a ⊗ reversed l C a ≡ 𝟘) E = vandermonde _ E d λ s c.
          sym (past C l s g.kills.short (omega arith)) ∙ g.kills.zeros (l + s) (omega arith) (omega arith) in
          few_roots l C E d g.lead g.kills.short (all_of _ E (λ a m. no_divisors K (w a) _ (all_at _ weights m) (all_at _ zero-sums m))))
    ]

    -- a shortest register is the locator, and its reversed polynomial is 0 exactly at the members of E
    module _ {C : Series F} {l : ℕ} (s : Shortest K C l S n) where
      pub found-length : l ≡ length E
      found-length =
          let a : l ≤ length E = s.least _ _ locator_generates in
          let b : length E ≤ l = locator_least _ _ s.gen in omega arith

      pub found_locator : C ≡ locator E
      found_locator = unique K s (omega (arith, found-length)) (rw found-length locator_generates)

      pub found-places : (a : F) → reversed l C a ≡ 𝟘 ↔ Memᴰ a E
      found-places a = rw (found-length, found_locator) (locator_places E a)
