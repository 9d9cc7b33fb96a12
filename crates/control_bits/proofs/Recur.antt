-- The recursion of the control-bit program. Assumes nothing.
use mathlib.Core.Path.{◌≡◌, sym, ap, ◌∙◌, subst, subst₂, subst₃, fun_ext}
use mathlib.Core.List.{List, ◌++◌}
use Prim.Native.Nat.{ℕ, suc, ◌+◌, ◌-◌, ◌*◌, ◌/◌, ◌%◌, ◌^◌, ◌≤◌, ◌<◌}
use native.Mathlib.Omega.{arith}
use native.Mathlib.Decide.{dec_lt}
use lib.ListN.{length, take, drop, length-drop, length-append, get_or-eq_default}
use lib.Seq.{get_or-take, get_or-drop, length-take-le, drop_at, take_all}
use native.Mathlib.Nat.{pow-succ'}
use lib.Pow.{pow_pos}
use Rattle.network.specs.Network.{first, last, middle, middle⁻, part, bits, seek, val}
use Rattle.network.specs.Tables.{at, Each, Tab}
use Rattle.bits.specs.Bits.{bit_at}
use Rattle.control_passes.specs.Passes.{spot, Level, Layer, Done, Fits, Halved, Outer}
use Rattle.network.proofs.Split.{Perm, inside, injective, part_perm}
use Rattle.network.proofs.Lists.{get_d_any, each_perm}
use Rattle.control_passes.proofs.Combine.{combined, spot_half}
use Rattle.control_passes.proofs.Outside.{pow_half}

-- a list that holds a permutation
module _ (h : ℕ) (s : List ℕ) (π ρ : ℕ → ℕ) (perm : Perm h π ρ) (size : length s ≡ h) (tab : Tab h s π) where
  same : (x : ℕ) → val s x ≡ π x
  same x = elim (dec_lt x h) [
    | yes b ↦ get_d_any s x x 0 (omega arith) ∙ tab x b
    | no b ↦ get_or-eq_default s x (omega arith) ∙ sym (perm.outside x (omega arith))
  ]

  same-val : val s ≡ π
  same-val = fun_ext same

  holds_each : Each h s
  holds_each = record {
    size = size;
    below = λ x b. rw (same x) (inside perm x b);
    once = λ x y a b e. injective perm x y (sym (same x) ∙ e ∙ same y);
  }

  same-seek : seek (val s) h ≡ ρ
  same-seek = fun_ext (λ x. ap (seek (val s) h) (sym (perm.right x) ∙ sym (same (ρ x))) ∙ (each_perm holds_each).left (ρ x))

  holds_done : (m off step : ℕ) (b b' : List ℕ) → Done m off step (val s) (seek (val s) h) b b' → Done m off step π ρ b b'
  holds_done m off step b b' = subst₂ (λ f g. Done m off step f g b b') same-val same-seek

-- two numbers: one layer of one switch
pub pair_size : (k : ℕ) (pi : List ℕ) → Level k pi → k ≡ 1 → length pi ≡ 2
pair_size k pi lv e = lv.each.size ∙ ap (2 ^◌) e

pub fits_base : (k off step : ℕ) (b : List ℕ) → Fits (k - 1) off step b → (j : ℕ) → j < 1 → spot off step 1 0 j < 8 * length b
fits_base k off step b f j h =
    let z : j ≡ 0 = omega arith in
    let q = f 0 0 (omega arith) (pow_pos (k - 1)) in
    rw z (omega (arith, q))

pub base : (k off step : ℕ) (pi b b' : List ℕ) (ρ : ℕ → ℕ) → k ≡ 1 → length pi ≡ 2 → Layer off step 1 0 (λ j. at pi (2 * j) % 2) b b' → Done (k - 1) off step (val pi) ρ b b'
unfolding bits
base k off step pi b b' ρ e s o =
    subst (λ i. Done i off step (val pi) ρ b b') (let d : 0 ≡ k - 1 = omega arith in d)
    (record { put = put; keep = λ k d. o.keep k (λ j c. d 0 j (omega arith) c); bytes = o.bytes })
  where
    put : (l j : ℕ) → l < 2 * 0 + 1 → j < 2 ^ 0 → bit_at b' (spot off step (2 ^ 0) l j) ≡ bits 0 (val pi) ρ l j
    put l j a d = let x : l ≡ 0 = omega arith in rw x (o.put j d ∙ ap (◌% 2) (get_d_any pi (2 * j) 0 (2 * j) (omega arith)))

module _ (off step : ℕ) (pos : 0 < step) (π ρ : ℕ → ℕ) (b b₁ b₂ b₃ b₄ : List ℕ) where
  abbrev Step : ℕ → ℕ → ℕ → Type 0
  Step k k₁ k₂ =
      Layer off step (2 ^ k₁) 0 (first (2 ^ k) π ρ) b b₁ → Layer off step (2 ^ k₁) (2 * k₁) (last (2 ^ k) π ρ) b₁ b₂
      → Done k₂ (off + step * 2 ^ k₁) (2 * step) (part 0 (middle (2 ^ k) π ρ)) (part 0 (middle⁻ (2 ^ k) π ρ)) b₂ b₃
      → Done k₂ (off + step * (2 ^ k₁ + 1)) (2 * step) (part 1 (middle (2 ^ k) π ρ)) (part 1 (middle⁻ (2 ^ k) π ρ)) b₃ b₄
      → Done k₁ off step π ρ b b₄

  finish : (k : ℕ) → 2 ≤ k → Step k (k - 1) (k - 1 - 1)
  finish k h = subst₃ Step (let e : suc (suc (k - 2)) ≡ k = omega arith in e) (let e : suc (k - 2) ≡ k - 1 = omega arith in e) (let e : k - 2 ≡ k - 1 - 1 = omega arith in e) (go (k - 2))
    where
      go : (m : ℕ) → Step (suc (suc m)) (suc m) m
      go m o z ev od = combined m off step pos π ρ b b₁ b₂ b₃ b₄ o
          (subst (λ l. Layer off step (2 ^ suc m) l (last (2 ^ suc (suc m)) π ρ) b₁ b₂) (let e : 2 * suc m ≡ suc (2 * m + 1) = omega arith in e) z)
          (subst (λ i. Done m (off + step * i) (2 * step) (part 0 (middle (2 ^ suc (suc m)) π ρ)) (part 0 (middle⁻ (2 ^ suc (suc m)) π ρ)) b₂ b₃) (let e : 2 ^ suc m ≡ 2 ^ suc m + 0 = omega arith in e) ev)
          od

-- What is known once the step has run on pi and the row b: r is then the list, and b₂ the row.
pub record Stepped (k off step : ℕ) (pi r b b₂ : List ℕ) : Type 0 where
  pub level : Level k pi
  pub two : 2 ≤ k
  pub pos : 0 < step
  pub room : Fits (k - 1) off step b
  pub few : length b ≤ 4294967296
  pub size : length r ≡ 2 ^ k
  pub kept : length b₂ ≡ length b
  pub outer : Outer k off step pi b b₂
  pub halved : Halved (2 ^ k) (2 ^ (k - 1)) pi r

-- room for a half's bits
fits_half : (m off step p : ℕ) (b b' : List ℕ) → p < 2 → length b' ≡ length b → Fits (suc m) off step b → Fits m (off + step * (2 ^ suc m + p)) (2 * step) b'
fits_half m off step p b b' q e f l j a c =
    let t : 2 ^ suc m ≡ 2 * 2 ^ m = pow-succ' 2 m in
    rw (spot_half off step m p l j, e) (f (suc l) (2 * j + p) (omega arith) (omega arith))

module _ (k off step : ℕ) (pi r b b₂ : List ℕ) (s : Stepped k off step pi r b b₂) where
  abbrev h : ℕ
  h = 2 ^ (k - 1)

  abbrev M : ℕ → ℕ
  M = middle (2 ^ k) (val pi) (seek (val pi) (2 ^ k))

  abbrev M⁻ : ℕ → ℕ
  M⁻ = middle⁻ (2 ^ k) (val pi) (seek (val pi) (2 ^ k))

  twice : 2 ^ k ≡ 2 * h
  twice = pow_half k s.level.some

  pub half : length r / 2 ≡ h
  half = omega (arith, s.size, twice)

  -- the odd half's first place is small
  pub odd_small : off + step * (length r / 2) + step < 34359738368
  odd_small =
      let e : h ≡ 2 * 2 ^ (k - 1 - 1) = pow_half (k - 1) (omega (arith, s.two)) in
      let q = s.room 1 1 (omega (arith, s.two)) (omega (arith, pow_pos (k - 1 - 1))) in
      rw half (omega (arith, s.few, q))

  -- the halves hold the middle's halves, which are permutations
  perm_half : (p : ℕ) → p < 2 → Perm h (part p M) (part p M⁻)
  perm_half p c = part_perm (2 ^ k) _ _ (each_perm s.level.each) h twice (pow_pos (k - 1)) p c

  evens : Tab h (take h r) (part 0 M)
  evens j c = get_or-take h r j 0 c ∙ s.halved.even j c

  odds : Tab h (drop h r) (part 1 M)
  odds j c = get_or-drop h r j 0 ∙ s.halved.odd j c

  size_even : length (take h r) ≡ h
  size_even = length-take-le h r (omega (arith, s.size, twice))

  size_odd : length (drop h r) ≡ h
  size_odd = length-drop h r ∙ (omega (arith, s.size, twice))

  level_half : (q : List ℕ) → Each h q → Level (k - 1) q
  level_half q e = record { each = e; some = omega (arith, s.two); small = omega (arith, s.level.small) }

  pub level_even : Level (k - 1) (take (length r / 2) r)
  level_even = rw half (level_half (take h r) (holds_each h (take h r) (part 0 M) (part 0 M⁻) (perm_half 0 (omega arith)) size_even evens))

  pub level_odd : Level (k - 1) (drop (length r / 2) r)
  level_odd = rw half (level_half (drop h r) (holds_each h (drop h r) (part 1 M) (part 1 M⁻) (perm_half 1 (omega arith)) size_odd odds))

  one_less : suc (k - 1 - 1) ≡ k - 1
  one_less = omega (arith, s.two)

  fits-part : (p : ℕ) (b' : List ℕ) → p < 2 → length b' ≡ length b → Fits (k - 1 - 1) (off + step * (h + p)) (2 * step) b'
  fits-part p b' c e =
      subst (λ i. Fits i off step b → Fits (k - 1 - 1) (off + step * (2 ^ i + p)) (2 * step) b') one_less
      (fits_half (k - 1 - 1) off step p b b' c e) s.room

  pub fits_even : Fits (k - 1 - 1) (off + step * (length r / 2)) (2 * step) b₂
  fits_even = subst (λ i. Fits (k - 1 - 1) i (2 * step) b₂) (rw half (omega arith)) (fits-part 0 b₂ (omega arith) s.kept)

  odd_place : off + step * (h + 1) ≡ off + step * (length r / 2) + step
  odd_place = rw half (omega arith)

  pub fits_odd : (b₃ : List ℕ) → length b₃ ≡ length b → Fits (k - 1 - 1) (off + step * (length r / 2) + step) (2 * step) b₃
  fits_odd b₃ e = subst (λ i. Fits (k - 1 - 1) i (2 * step) b₃) odd_place (fits-part 1 b₃ (omega arith) e)

  pub finished : (b₃ b₄ q : List ℕ) → q ≡ drop (length r / 2) r
      → Done (k - 1 - 1) (off + step * (length r / 2)) (2 * step) (val (take (length r / 2) r)) (seek (val (take (length r / 2) r)) h) b₂ b₃
      → Done (k - 1 - 1) (off + step * (length r / 2) + step) (2 * step) (val q) (seek (val q) h) b₃ b₄
      → Done (k - 1) off step (val pi) (seek (val pi) (2 ^ k)) b b₄
  finished b₃ b₄ q e ev od =
      finish off step s.pos (val pi) (seek (val pi) (2 ^ k)) b s.outer.between b₂ b₃ b₄ k s.two s.outer.first_layer s.outer.last_layer
      (holds_done h (take h r) (part 0 M) (part 0 M⁻) (perm_half 0 (omega arith)) size_even evens (k - 1 - 1) (off + step * h) (2 * step) b₂ b₃
      (subst (λ i. Done (k - 1 - 1) (off + step * i) (2 * step) (val (take i r)) (seek (val (take i r)) h) b₂ b₃) half ev))
      (holds_done h (drop h r) (part 1 M) (part 1 M⁻) (perm_half 1 (omega arith)) size_odd odds (k - 1 - 1) (off + step * (h + 1)) (2 * step) b₃ b₄
      (subst₂ (λ x y. Done (k - 1 - 1) x (2 * step) (val y) (seek (val y) h) b₃ b₄) (sym odd_place) (e ∙ ap (λ i. drop i r) half) od))

-- the second half, once the first is back in its place
pub second : (ys r : List ℕ) (a : ℕ) → length ys ≡ a → take (length (ys ++ drop a r) - a) (drop a (ys ++ drop a r)) ≡ drop a r
second ys r a e =
    ap (take (length (ys ++ drop a r) - a)) (drop_at ys (drop a r) a e)
    ∙ take_all (length (ys ++ drop a r) - a) (drop a r) (simp length-append (omega arith))
