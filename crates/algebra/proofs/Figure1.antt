-- Document 004's Figure 1, the iteration of Berlekamp and Massey, with its invariant: the register found is shortest.
-- Assumes nothing.
use mathlib.Core.Path.{◌≡◌, refl, ◌∙◌, ap, ap₂}
use mathlib.Core.Logic.{◌≢◌}
use Prim.Native.Nat.{ℕ, zero, suc, ◌+◌, ◌-◌, ◌≤◌, ◌<◌}
use native.Mathlib.Nat.{sub-zero}
use native.Mathlib.Omega.{arith}
use native.Mathlib.Decide.{dec_le, dec_lt}
use Rattle.algebra.proofs.Ring.{ring, one-mul}
use Rattle.algebra.proofs.Field.{Field, inv-mul}
use Rattle.algebra.proofs.Series as Ser
use Rattle.algebra.proofs.Series.{Series, operations, C-at, scale_mul, plus-at, add-mul-at, shift, shift_mul, shift_at, shift_low}
use Rattle.algebra.proofs.Poly.{Below, below_add, below_scale, below_C, below_shift}
use Rattle.algebra.proofs.Sum.{sum, sum_head, mul_short}
use Rattle.algebra.proofs.Register.{Generates, Shortest, length_change, fewer, generates_more}

module _ (K : Field) where
  open K use {F, eq?, 𝟘, 𝟙, 𝟙≢𝟘, ◌⊕◌, ◌⊗◌, inv, laws as L}
  open operations L use {◌⊞◌, ◌⊠◌, C as const}

  infixl 65 ◌⊕◌
  infixl 70 ◌⊗◌
  infixl 65 ◌⊞◌
  infixl 70 ◌⊠◌
  -- the register (C, l); the last one before its length changed, with the discrepancy d at which it failed, y terms ago
  pub record State : Type 0 where
    pub C : Series F
    pub l : ℕ
    pub B : Series F
    pub d : F
    pub y : ℕ

  unfoldable pub start : State
  start = record { C = const 𝟙; l = 0; B = const 𝟙; d = 𝟙; y = 1 }

  -- C with the discrepancy δ taken away
  abbrev pub mend : State → F → Series F
  mend s δ = s.C ⊞ const (δ ⊗ inv s.d) ⊠ shift L s.y s.B

  pub mend_low : (s : State) (δ : F) (k : ℕ) → k < s.y → mend s δ k ≡ s.C k
  mend_low s δ k h =
      plus-at L _ _ k ∙ ap (λ x. s.C k ⊕ x) (C-at L _ _ k ∙ ap (λ x. δ ⊗ inv s.d ⊗ x) (shift_low L s.y s.B k h)) ∙ simp (ring, L)

  pub mend_at : (s : State) (δ : F) (j : ℕ) → mend s δ (s.y + j) ≡ s.C (s.y + j) ⊕ δ ⊗ inv s.d ⊗ s.B j
  mend_at s δ j =
      plus-at L _ _ (s.y + j) ∙ ap (λ x. s.C (s.y + j) ⊕ x) (C-at L _ _ (s.y + j) ∙ ap (λ x. δ ⊗ inv s.d ⊗ x) (shift_at L s.y s.B j))

  -- the three cases of a turn
  abbrev pub skipped : State → State
  skipped s = record { C = s.C; l = s.l; B = s.B; d = s.d; y = suc s.y }

  abbrev pub fixed : State → F → State
  fixed s δ = record { C = mend s δ; l = s.l; B = s.B; d = s.d; y = suc s.y }

  abbrev pub grown : State → F → ℕ → State
  grown s δ n = record { C = mend s δ; l = suc n - s.l; B = s.C; d = δ; y = 1 }

  unfoldable pub next : (s : State) (n : ℕ) (δ : F) → Dec (δ ≡ 𝟘) → Dec (s.l + s.l ≤ n) → State
  next s n δ (yes _) _ = skipped s
  next s n δ (no _) (no _) = fixed s δ
  next s n δ (no _) (yes _) = grown s δ n

  unfoldable pub step : Series F → ℕ → State → State
  step S n s = next s n ((s.C ⊠ S) n) (eq? ((s.C ⊠ S) n) 𝟘) (dec_le (s.l + s.l) n)

  module _ (s : State) (n : ℕ) (δ : F) where
    next_skip : (p : Dec (δ ≡ 𝟘)) (q : Dec (s.l + s.l ≤ n)) → δ ≡ 𝟘 → next s n δ p q ≡ skipped s
    unfolding next
    next_skip (yes _) q e = refl
    next_skip (no w) q e = absurd (w e)

    next_fix : (p : Dec (δ ≡ 𝟘)) (q : Dec (s.l + s.l ≤ n)) → δ ≢ 𝟘 → n < s.l + s.l → next s n δ p q ≡ fixed s δ
    unfolding next
    next_fix (yes e) q w h = absurd (w e)
    next_fix (no _) (no _) w h = refl
    next_fix (no _) (yes q) w h = absurd (omega arith)

    next_grow : (p : Dec (δ ≡ 𝟘)) (q : Dec (s.l + s.l ≤ n)) → δ ≢ 𝟘 → s.l + s.l ≤ n → next s n δ p q ≡ grown s δ n
    unfolding next
    next_grow (yes e) q w h = absurd (w e)
    next_grow (no _) (no q) w h = absurd (omega arith)
    next_grow (no _) (yes _) w h = refl

  -- one turn, by its case
  module _ (S : Series F) (n : ℕ) (s : State) where
    pub step_skip : (s.C ⊠ S) n ≡ 𝟘 → step S n s ≡ skipped s
    unfolding step
    step_skip = next_skip s n _ _ _

    pub step_fix : (s.C ⊠ S) n ≢ 𝟘 → n < s.l + s.l → step S n s ≡ fixed s ((s.C ⊠ S) n)
    unfolding step
    step_fix = next_fix s n _ _ _

    pub step_grow : (s.C ⊠ S) n ≢ 𝟘 → s.l + s.l ≤ n → step S n s ≡ grown s ((s.C ⊠ S) n) n
    unfolding step
    step_grow = next_grow s n _ _ _

  -- after n terms of S
  unfoldable pub run : Series F → ℕ → State
  run S zero = start
  run S (suc n) = step S n (run S n)

  pub run-zero : (S : Series F) → run S 0 ≡ start
  unfolding run
  run-zero S = refl

  pub run-suc : (S : Series F) (n : ℕ) → run S (suc n) ≡ step S n (run S n)
  unfolding run
  run-suc S n = refl

  -- B, of length l_b, failed y terms ago: m is one more than the index there, and 0 if no register has failed yet
  pub record Failed (S : Series F) (n l : ℕ) (B : Series F) (d : F) (y : ℕ) : Type 0 where
    pub m : ℕ
    pub l_b : ℕ
    pub ago : y + m ≡ suc n
    pub past : 0 < y
    pub lengths : l_b + l ≡ m
    pub short : Below L (suc l_b) B
    pub zeros : (k : ℕ) → l_b ≤ k → suc k < m → (B ⊠ S) k ≡ 𝟘
    pub fails : (k : ℕ) → suc k ≡ m → (B ⊠ S) k ≡ d
    pub d≢𝟘 : d ≢ 𝟘

  pub record Inv (S : Series F) (n : ℕ) (s : State) : Type 0 where
    pub shortest : Shortest K s.C s.l S n
    pub failed : Failed S n s.l s.B s.d s.y

  later : {S B : Series F} {n l y : ℕ} {d : F} → Failed S n l B d y → Failed S (suc n) l B d (suc y)
  later f =
      record {
        m = f.m;
        l_b = f.l_b;
        ago = omega arith;
        past = omega arith;
        lengths = f.lengths;
        short = f.short;
        zeros = f.zeros;
        fails = f.fails;
        d≢𝟘 = f.d≢𝟘;
      }

  module _ {S : Series F} {n : ℕ} {s : State} (i : Inv S n s) where
    pub fits : s.l ≤ n
    fits = omega arith

    -- y and the degree of B stay small: what is added to C reaches no further than n + 1 - l
    pub y_fits : s.l + s.y ≤ suc n
    y_fits = omega arith

    pub B-past : (j : ℕ) → suc n < s.l + s.y + j → s.B j ≡ 𝟘
    B-past j h = i.failed.short j (omega arith)

    pub mend_below : (δ : F) (l' : ℕ) → s.l ≤ l' → suc n ≤ s.l + l' → Below L (suc l') (mend s δ)
    mend_below δ l' a b = below_add L (λ k h. i.shortest.gen.kills.short k (omega arith))
        (below_scale L _ (λ k h. below_shift L s.y (suc i.failed.l_b) s.B i.failed.short k (omega arith)))

    -- what a program adds up
    pub discrepancy : (s.C ⊠ S) n ≡ sum L (suc s.l) (λ j. s.C j ⊗ S (n - j))
    discrepancy = mul_short L (suc s.l) s.C S n i.shortest.gen.kills.short (omega arith)

    -- the same as Figure 1 writes it, with C 0 = 1
    pub discrepancy-from_one : (s.C ⊠ S) n ≡ S n ⊕ sum L s.l (λ j. s.C (suc j) ⊗ S (n - suc j))
    discrepancy-from_one =
        discrepancy ∙ sum_head L s.l (λ j. s.C j ⊗ S (n - j))
        ∙ ap₂ (λ x k. x ⊗ S k ⊕ sum L s.l (λ j. s.C (suc j) ⊗ S (n - suc j))) i.shortest.gen.lead (sub-zero n)
        ∙ ap (λ x. x ⊕ sum L s.l (λ j. s.C (suc j) ⊗ S (n - suc j))) (one-mul L (S n))

    mended : (l' : ℕ) → s.l ≤ l' → suc n ≤ s.l + l' → Generates K (mend s ((s.C ⊠ S) n)) l' S (suc n)
    mended l' a b = record { lead = lead; kills = record { short = mend_below _ l' a b; zeros = zeros } }
      where
        δ : F
        δ = (s.C ⊠ S) n

        f : F
        f = δ ⊗ inv s.d

        g : Generates K s.C s.l S n
        g = i.shortest.gen

        lead : mend s δ 0 ≡ 𝟙
        lead = mend_low s δ 0 i.failed.past ∙ g.lead

        expand : (k : ℕ) → (mend s δ ⊠ S) k ≡ (s.C ⊠ S) k ⊕ f ⊗ shift L s.y (s.B ⊠ S) k
        expand k = add-mul-at L _ _ S k ∙ ap (λ x. (s.C ⊠ S) k ⊕ x) (scale_mul L f _ S k ∙ ap (λ p. f ⊗ p k) (shift_mul L s.y s.B S))

        cancel : f ⊗ s.d ≡ δ
        cancel = L.mul_assoc _ _ _ ∙ ap (λ x. δ ⊗ x) (inv-mul K s.d i.failed.d≢𝟘) ∙ L.mul-one δ

        zeros : (k : ℕ) → l' ≤ k → k < suc n → (mend s δ ⊠ S) k ≡ 𝟘
        zeros k h h' =
            let j : ℕ = k - s.y in
            let e : k ≡ s.y + j = omega arith in
            let e' : shift L s.y (s.B ⊠ S) k ≡ (s.B ⊠ S) j = ap (shift L s.y (s.B ⊠ S)) e ∙ shift_at L s.y (s.B ⊠ S) j in
            expand k ∙ elim (dec_lt k n) [
              | yes c ↦ ap₂ (λ x z. x ⊕ f ⊗ z) (g.kills.zeros k (omega arith) c) (e' ∙ i.failed.zeros j (omega arith) (omega arith)) ∙ simp (ring, L)
              | no c ↦
                  (let z : k ≡ n = omega arith in
                  ap₂ ◌⊕◌ (ap (s.C ⊠ S) z) (ap (λ x. f ⊗ x) (e' ∙ i.failed.fails j (omega arith)) ∙ cancel) ∙ L.add_self δ)
            ]

    -- the three cases keep the invariant
    pub skip : (s.C ⊠ S) n ≡ 𝟘 → Inv S (suc n) (skipped s)
    skip e =
        record {
          shortest =
              record { gen = generates_more K i.shortest.gen e; least = λ C' l' g. i.shortest.least C' l' (fewer K (omega arith) g) };
          failed = later i.failed;
        }

    pub fix : n < s.l + s.l → Inv S (suc n) (fixed s ((s.C ⊠ S) n))
    fix q =
        record {
          shortest =
              record { gen = mended s.l (omega arith) (omega arith); least = λ C' l' g. i.shortest.least C' l' (fewer K (omega arith) g) };
          failed = later i.failed;
        }

    pub grow : (s.C ⊠ S) n ≢ 𝟘 → s.l + s.l ≤ n → Inv S (suc n) (grown s ((s.C ⊠ S) n) n)
    grow e q =
        record {
          shortest =
              record {
                gen = mended (suc n - s.l) (omega arith) (omega arith);
                least = λ C' l' g. (let h : n < s.l + l' = length_change K i.shortest.gen.kills e g in omega arith);
              };
          failed =
              record {
                m = suc n;
                l_b = s.l;
                ago = omega arith;
                past = omega arith;
                lengths = omega arith;
                short = i.shortest.gen.kills.short;
                zeros = λ k a b. i.shortest.gen.kills.zeros k a (omega arith);
                fails = λ k h. (let z : k ≡ n = omega arith in rw z);
                d≢𝟘 = e;
              };
        }

    kept : (p : Dec ((s.C ⊠ S) n ≡ 𝟘)) (q : Dec (s.l + s.l ≤ n)) → Inv S (suc n) (next s n ((s.C ⊠ S) n) p q)
    unfolding next
    kept (yes e) q = skip e
    kept (no e) (no q) = fix (omega arith)
    kept (no e) (yes q) = grow e q

    pub step_kept : Inv S (suc n) (step S n s)
    unfolding step
    step_kept = kept _ _

  pub start-inv : (S : Series F) → Inv S 0 start
  unfolding start Ser.C
  start-inv S =
      record {
        shortest =
            record {
              gen = record { lead = refl; kills = record { short = below_C L 𝟙; zeros = λ k a b. absurd (omega arith) } };
              least = λ C' l' g. omega arith;
            };
        failed =
            record {
              m = 0;
              l_b = 0;
              ago = omega arith;
              past = omega arith;
              lengths = omega arith;
              short = below_C L 𝟙;
              zeros = λ k a b. absurd (omega arith);
              fails = λ k e. absurd (omega arith);
              d≢𝟘 = 𝟙≢𝟘;
            };
      }

  pub run-inv : (S : Series F) (n : ℕ) → Inv S n (run S n)
  unfolding run
  run-inv S zero = start-inv S
  run-inv S (suc n) = step_kept (run-inv S n)
