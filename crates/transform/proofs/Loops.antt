-- The loops over places. Assumes nothing.
use mathlib.Core.Path.{◌≡◌, refl, sym, ap, ap₂, ◌∙◌}
use mathlib.Core.List.{List, [], ◌∷◌, ◌++◌, append-nil, append_assoc}
use Prim.Native.Nat.{ℕ, zero, suc, ◌+◌, ◌-◌, ◌*◌, ◌≤◌, ◌<◌}
use native.Mathlib.Nat.{le_of_suc-le-suc, not-suc-le-zero, le_refl, zero-mul, suc-mul, mul-le-mul_right}
use native.Mathlib.Numerals.{add-one}
use native.Mathlib.Omega.{arith}
use lib.ListN.{length, get_or, take, drop, set, replicate, length-append, length-take, length-drop, length-replicate, drop_of_length-le, take-append-drop, get_or-append}
use lib.Seq.{take_at, drop_at, take_all, take-suc, drop-cons, append_snoc, set-append_left, length-take-le, drop-drop, get_or-drop, get_or-append-add}
use Rattle.bits.specs.Xor.{◌⊕◌}
use Rattle.bits.specs.Bits.{over}
use Rattle.bits.proofs.Padded.{over-next}
use Rattle.levels.proofs.Loops.{set_right}
use Rattle.transform.specs.Halves.{paired, expanded, unzip}
use Rattle.transform.specs.Values.{spread}
use Rattle.transform.proofs.Lengths.{length-expanded}

-- pairs: the first k
unfoldable pub paired_to : ℕ → List ℕ → List ℕ
paired_to zero l = l
paired_to (suc k) [] = []
paired_to (suc k) (a ∷ []) = a ∷ []
paired_to (suc k) (a ∷ b ∷ l) = (a ⊕ b) ∷ b ∷ paired_to k l

pub length_paired_to : (k : ℕ) (l : List ℕ) → length (paired_to k l) ≡ length l
unfolding paired_to
length_paired_to zero l = refl
length_paired_to (suc k) [] = refl
length_paired_to (suc k) (a ∷ []) = refl
length_paired_to (suc k) (a ∷ b ∷ l) = ap (λ (n : ℕ). suc (suc n)) (length_paired_to k l)

paired-step : (k i : ℕ) (l : List ℕ) → i ≡ k + k → suc i < length l
    → set (paired_to k l) i (get_or (paired_to k l) i 0 ⊕ get_or (paired_to k l) (suc i) 0) ≡ paired_to (suc k) l
unfolding paired_to
paired-step k i [] e h = absurd (not-suc-le-zero h)
paired-step k i (a ∷ []) e h = absurd (omega arith)
paired-step zero zero (a ∷ b ∷ l) e h = refl
paired-step zero (suc i) (a ∷ b ∷ l) e h = absurd (omega arith)
paired-step (suc k) zero (a ∷ b ∷ l) e h = absurd (omega arith)
paired-step (suc k) (suc zero) (a ∷ b ∷ l) e h = absurd (omega arith)
paired-step (suc k) (suc (suc i)) (a ∷ b ∷ l) e h =
    ap (λ (r : List ℕ). (a ⊕ b) ∷ b ∷ r) (paired-step k i l (omega arith) (le_of_suc-le-suc (le_of_suc-le-suc h)))

pub paired-next : (k : ℕ) (l c : List ℕ) → c ≡ paired_to k l → 2 * k + 1 < length l
    → set c (2 * k) (get_or c (2 * k) 0 ⊕ get_or c (2 * k + 1) 0) ≡ paired_to (k + 1) l
paired-next k l c e h =
    ap₂ (λ (d : List ℕ) (j : ℕ). set d (2 * k) (get_or d (2 * k) 0 ⊕ get_or d j 0)) e (add-one (2 * k))
    ∙ paired-step k (2 * k) l (omega arith) (omega arith) ∙ ap (λ (j : ℕ). paired_to j l) (sym (add-one k))

pub paired_all : (k : ℕ) (l : List ℕ) → length l ≤ suc (2 * k) → paired_to k l ≡ paired l
unfolding paired_to paired
paired_all zero [] h = refl
paired_all zero (a ∷ []) h = refl
paired_all zero (a ∷ b ∷ l) h = absurd (omega arith)
paired_all (suc k) [] h = refl
paired_all (suc k) (a ∷ []) h = refl
paired_all (suc k) (a ∷ b ∷ l) h = ap (λ (r : List ℕ). (a ⊕ b) ∷ b ∷ r) (paired_all k l (omega arith))

-- expansion, from place i on
unfoldable pub expanded_from : ℕ → List ℕ → List ℕ
expanded_from i l = take i l ++ expanded (drop i l)

-- place h + i of two lists, the first of h numbers
get_d_right : (p q : List ℕ) (h i : ℕ) → length p ≡ h → get_or (p ++ q) (h + i) 0 ≡ get_or q i 0
get_d_right p q h i e = ap (λ (k : ℕ). get_or (p ++ q) (k + i) 0) (sym e) ∙ get_or-append-add p q i 0

length_over : (l d : List ℕ) (i : ℕ) → length d ≡ length l → length (over (take i l) d) ≡ length d
unfolding over
length_over l d i e =
    length-append (take i l) (drop (length (take i l)) d) ∙ omega (arith, length-take i l, length-drop (length (take i l)) d)

-- what stands at place i before it is written
over-at : (l d : List ℕ) (i : ℕ) → i ≤ length l → get_or (over (take i l) d) i 0 ≡ get_or d i 0
unfolding over
over-at l d i h =
    let e : length (take i l) ≡ i = length-take-le i l h in
    let z : i + 0 ≡ i = omega arith in
    ap₂ (λ (k j : ℕ). get_or (take i l ++ drop k d) j 0) e (sym z) ∙ get_d_right (take i l) (drop i d) i 0 e
    ∙ get_or-drop i d 0 0 ∙ ap (λ (j : ℕ). get_or d j 0) z

-- two lists written over the halves of another, both as far as place i
module _ (a b u v : List ℕ) where
  unfoldable pub both_to : ℕ → List ℕ
  both_to i = over (take i a) u ++ over (take i b) v

  pub both_start : both_to 0 ≡ u ++ v
  unfolding both_to over
  both_start = refl

  pub both_next : (h i : ℕ) → length a ≡ h → length b ≡ h → length u ≡ h → length v ≡ h → i < h
      → set (set (both_to i) i (get_or a i 0)) (h + i) (get_or b i 0) ≡ both_to (i + 1)
  unfolding both_to
  both_next h i ea eb eu ev l =
      ap (λ (r : List ℕ). set r (h + i) (get_or b i 0))
      (set-append_left (over (take i a) u) (over (take i b) v) i (get_or a i 0) (omega (arith, length_over a u i (eu ∙ sym ea)))
      ∙ ap (λ (r : List ℕ). r ++ over (take i b) v) (over-next i a u (omega arith) (omega arith)))
      ∙ set_right (over (take (i + 1) a) u) (over (take i b) v) h i (get_or b i 0) (length_over a u (i + 1) (eu ∙ sym ea) ∙ eu)
      ∙ ap (λ (r : List ℕ). over (take (i + 1) a) u ++ r) (over-next i b v (omega arith) (omega arith))

  pub both_all : (i : ℕ) → length a ≤ i → length b ≤ i → length u ≡ length a → length v ≡ length b → both_to i ≡ a ++ b
  unfolding both_to over
  both_all i ha hb eu ev =
      ap₂ (λ (x y : List ℕ). (x ++ drop (length x) u) ++ (y ++ drop (length y) v)) (take_all i a ha) (take_all i b hb)
      ∙ ap₂ (λ (x y : List ℕ). (a ++ x) ++ (b ++ y)) (drop_of_length-le u {i = length a} (omega arith)) (drop_of_length-le v {i = length b} (omega arith))
      ∙ ap₂ ◌++◌ (append-nil a) (append-nil b)

  pub both_left : (i : ℕ) → i ≤ length a → length u ≡ length a → i < length u → get_or (both_to i) i 0 ≡ get_or u i 0
  unfolding both_to
  both_left i h e k =
      get_or-append (over (take i a) u) (over (take i b) v) 0 i (omega (arith, length_over a u i e)) ∙ over-at a u i h

  pub both_right : (h i : ℕ) → length a ≡ h → length u ≡ h → i ≤ length b → get_or (both_to i) (h + i) 0 ≡ get_or v i 0
  unfolding both_to
  both_right h i ea eu k =
      get_d_right (over (take i a) u) (over (take i b) v) h i (length_over a u i (eu ∙ sym ea) ∙ eu) ∙ over-at b v i k

-- even and odd places
pub unzip-at : (i : ℕ) (t : List ℕ) → (get_or (unzip t).0 i 0 ≡ get_or t (i + i) 0) × (get_or (unzip t).1 i 0 ≡ get_or t (suc (i + i)) 0)
unfolding unzip
unzip-at i [] = (refl, refl)
unzip-at zero (a ∷ []) = (refl, refl)
unzip-at (suc i) (a ∷ []) =
    let e : suc i + suc i ≡ suc (suc (i + i)) = omega arith in
    (sym (ap (λ (j : ℕ). get_or (a ∷ []) j 0) e), sym (ap (λ (j : ℕ). get_or (a ∷ []) (suc j) 0) e))
unzip-at zero (a ∷ b ∷ t) = (refl, refl)
unzip-at (suc i) (a ∷ b ∷ t) =
    let e : suc i + suc i ≡ suc (suc (i + i)) = omega arith in
    let r = unzip-at i t in
    (r.0 ∙ sym (ap (λ (j : ℕ). get_or (a ∷ b ∷ t) j 0) e), r.1 ∙ sym (ap (λ (j : ℕ). get_or (a ∷ b ∷ t) (suc j) 0) e))

-- one number everywhere
pub fill_all : (x : ℕ) (d : List ℕ) (i : ℕ) → length d ≤ i → over (take i (replicate (length d) x)) d ≡ replicate (length d) x
unfolding over
fill_all x d i h =
    let r : List ℕ = replicate (length d) x in
    let l : length r ≡ length d = length-replicate {A = ℕ} (length d) x in
    ap (λ (s : List ℕ). s ++ drop (length s) d) (take_all i r (omega arith)) ∙ ap (◌++◌ r) (drop_of_length-le d {i = length r} (omega arith)) ∙ append-nil r

-- expansion: none yet; one coefficient more; all
pub expand_start : (l : List ℕ) → l ≡ expanded_from (length l) l
unfolding expanded_from expanded
expand_start l = sym (ap₂ (λ (x y : List ℕ). x ++ expanded y) (take_all (length l) l (le_refl (length l))) (drop_of_length-le l (le_refl (length l))) ∙ append-nil l)

pub length_expanded_from : (i : ℕ) (l : List ℕ) → length (expanded_from i l) ≡ length l
unfolding expanded_from
length_expanded_from i l =
    length-append (take i l) (expanded (drop i l)) ∙ ap (◌+◌ (length (take i l))) (length-expanded (drop i l))
    ∙ sym (length-append (take i l) (drop i l)) ∙ ap length (take-append-drop i l)

pub expand_next : (i : ℕ) (l c y : List ℕ) → c ≡ expanded_from i l → 0 < i → i ≤ length l → y ≡ paired (take (length c - i) (drop i c))
    → take i c ++ (y ++ drop (length c - i) (drop i c)) ≡ expanded_from (i - 1) l
unfolding expanded_from expanded
expand_next i l c y ec p h ey =
    let t : List ℕ = take i l in
    let e : List ℕ = expanded (drop i l) in
    let lt : length t ≡ i = length-take-le i l h in
    let lc : length c ≡ length l = ap length ec ∙ length_expanded_from i l in
    let j : i ≡ suc (i - 1) = omega arith in
    let dc : drop i c ≡ e = ap (drop i) ec ∙ drop_at t e i lt in
    let all : take (length c - i) (drop i c) ≡ e = take_all (length c - i) (drop i c) (omega (arith, length-drop i c)) ∙ dc in
    ap₂ ◌++◌ (ap (take i) ec ∙ take_at t e i lt) (ap₂ ◌++◌ (ey ∙ ap paired all) (drop_of_length-le (drop i c) {i = length c - i} (omega (arith, length-drop i c))) ∙ append-nil (paired e))
    ∙ ap₂ (λ (k n : ℕ). take k l ++ paired (expanded (drop n l))) j j
    ∙ ap (λ (r : List ℕ). r ++ paired (expanded (drop (suc (i - 1)) l))) (take-suc l (i - 1) 0 (omega arith))
    ∙ append_snoc (take (i - 1) l) (get_or l (i - 1) 0) (paired (expanded (drop (suc (i - 1)) l)))
    ∙ ap (λ (r : List ℕ). take (i - 1) l ++ expanded r) (sym (drop-cons l (i - 1) 0 (omega arith)))

pub expand_all : (l : List ℕ) → expanded_from 0 l ≡ expanded l
unfolding expanded_from
expand_all l = refl

pub length-spread : (r : ℕ) (l : List ℕ) → length (spread r l) ≡ length l * r
unfolding spread
length-spread r [] = sym (zero-mul r)
length-spread r (x ∷ l) = length-append (replicate r x) (spread r l) ∙ ap₂ ◌+◌ (length-replicate {A = ℕ} r x) (length-spread r l) ∙ omega (arith, suc-mul (length l) r)

-- each number r times: as far as k
module _ (r : ℕ) (c d : List ℕ) where
  unfoldable pub spread_to : ℕ → List ℕ
  spread_to k = spread r (take k c) ++ drop (k * r) d

  spread_snoc : (l : List ℕ) (x : ℕ) → spread r (l ++ (x ∷ [])) ≡ spread r l ++ replicate r x
  unfolding spread
  spread_snoc [] x = append-nil (replicate r x)
  spread_snoc (y ∷ l) x = ap (◌++◌ (replicate r y)) (spread_snoc l x) ∙ sym (append_assoc (replicate r y) (spread r l) (replicate r x))

  pub spread-start : d ≡ spread_to 0
  unfolding spread_to spread
  spread-start = ap (λ (i : ℕ). drop i d) (sym (zero-mul r))

  pub spread-next : (k at : ℕ) (b y : List ℕ) → b ≡ spread_to k → at ≡ k * r → k < length c → length d ≡ length c * r
      → y ≡ replicate (length (take (at + r - at) (drop at b))) (get_or c k 0) → take at b ++ (y ++ drop (at + r - at) (drop at b)) ≡ spread_to (k + 1)
  unfolding spread_to
  spread-next k at b y eb e h l ey =
      let n : at + r - at ≡ r = omega arith in
      let s : List ℕ = spread r (take k c) in
      let ls : length s ≡ at = length-spread r (take k c) ∙ ap (λ (i : ℕ). i * r) (length-take-le k c (omega arith)) ∙ sym e in
      let db : drop at b ≡ drop (k * r) d = ap (drop at) eb ∙ drop_at s (drop (k * r) d) at ls in
      let j : k * r + r ≡ suc k * r = omega (arith, suc-mul k r) in
      let fits : suc k * r ≤ length d = rw l (mul-le-mul_right r h) in
      let lm : length (take (at + r - at) (drop at b)) ≡ r = length-take-le (at + r - at) (drop at b) (omega (arith, ap length db, length-drop (k * r) d)) ∙ n in
      ap₂ ◌++◌ (ap (take at) eb ∙ take_at s (drop (k * r) d) at ls)
      (ap₂ ◌++◌ (ey ∙ ap (λ (i : ℕ). replicate i (get_or c k 0)) lm) (ap₂ drop n db ∙ drop-drop r (k * r) d ∙ ap (λ (i : ℕ). drop i d) j))
      ∙ sym (append_assoc s (replicate r (get_or c k 0)) (drop (suc k * r) d))
      ∙ ap (λ (x : List ℕ). x ++ drop (suc k * r) d) (sym (spread_snoc (take k c) (get_or c k 0)) ∙ ap (spread r) (sym (take-suc c k 0 h)))
      ∙ ap (λ (i : ℕ). spread r (take i c) ++ drop (i * r) d) (sym (add-one k))

  pub length_spread_to : (k : ℕ) → k ≤ length c → length d ≡ length c * r → length (spread_to k) ≡ length d
  unfolding spread_to
  length_spread_to k h l =
      let f : k * r ≤ length c * r = mul-le-mul_right r h in
      length-append (spread r (take k c)) (drop (k * r) d)
      ∙ ap₂ ◌+◌ (length-spread r (take k c) ∙ ap (λ (i : ℕ). i * r) (length-take-le k c h)) (length-drop (k * r) d) ∙ omega arith

  pub spread_all : (k : ℕ) → length c ≤ k → k ≤ length c → length d ≡ length c * r → spread_to k ≡ spread r c
  unfolding spread_to
  spread_all k h g l =
      let e : k ≡ length c = omega arith in
      ap₂ (λ (x y : List ℕ). spread r x ++ y) (take_all k c h) (drop_of_length-le d {i = k * r} (omega (arith, ap (λ (i : ℕ). i * r) e))) ∙ append-nil (spread r c)
