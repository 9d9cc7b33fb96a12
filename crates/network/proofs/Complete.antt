-- A list of different numbers below n, with the unused ones after it in rising order, has each number below n once.
-- Assumes nothing.
use mathlib.Core.Path.{◌≡◌, refl, sym, ap, ◌∙◌}
use mathlib.Core.Logic.{◌≢◌, ◌⊎◌, inl, inr, ⊎_elim}
use mathlib.Core.Bool.{Bool, true, false, cond, not}
use mathlib.Core.List.{List, [], ◌∷◌, ◌++◌, append-nil}
use Prim.Native.Nat.{ℕ, zero, suc, ◌+◌, ◌-◌, ◌≤◌, ◌<◌}
use native.Mathlib.Omega.{arith}
use native.Mathlib.Decide.{dec_lt}
use lib.Dec.{eqb}
use borrow.Author.Tests.{ne_eqb, eqb-false, not-true}
use lib.ListN.{length, length-append, get_or-append}
use lib.Seq.{get_or-append-add}
use Rattle.network.specs.Network.{unused}
use Rattle.network.specs.Tables.{at, Each}
use Rattle.bits.specs.Bits.{every}
use Rattle.bits.proofs.Lists.{every-at, every_all}
use Rattle.network.proofs.Cycle.{Found, find, Alike, pigeon}
use Rattle.network.proofs.Lists.{get_d_any}

pub record Rest (s : List ℕ) (v : ℕ) (t : List ℕ) : Type 0 where
  pub below : (i : ℕ) → i < length t → at t i < v
  pub fresh : (i x : ℕ) → i < length t → x < length s → at t i ≢ at s x
  pub rising : (i j : ℕ) → i < j → j < length t → at t i < at t j
  pub all : (u : ℕ) → u < v → Found (at s) u (length s) ⊎ Found (at t) u (length t)

-- k different numbers below n that are all of them: k is n
pub counted : (f : ℕ → ℕ) (k n : ℕ) → ((x : ℕ) → x < k → f x < n) → ((x y : ℕ) → x < k → y < k → f x ≡ f y → x ≡ y)
    → ((u : ℕ) → u < n → Found f u k) → k ≡ n
counted f k n below once all = elim (dec_lt n k) [
  | yes h ↦ absurd (many (pigeon n f (λ i c. below i (omega arith))) h)
  | no h ↦ elim (dec_lt k n) [ yes g ↦ absurd (few g (pigeon k index (λ i c. index_below i g c))) | no g ↦ omega arith ]
]
  where
    many : Alike f n → n < k → ⊥
    many a h = let e = once a.i a.j (omega arith) (omega arith) a.same in omega arith

    pick : (u : ℕ) → Dec (u < n) → ℕ
    pick u (yes h) = (all u h).at
    pick u (no _) = 0

    index : ℕ → ℕ
    index u = pick u (dec_lt u n)

    pick_below : (u : ℕ) (d : Dec (u < n)) → u < n → pick u d < k
    pick_below u (yes h) b = (all u h).below
    pick_below u (no d) b = absurd (d b)

    index_below : (u : ℕ) → k < n → u ≤ k → index u < k
    index_below u g c = pick_below u (dec_lt u n) (omega arith)

    pick_is : (u : ℕ) (d : Dec (u < n)) → u < n → f (pick u d) ≡ u
    pick_is u (yes h) b = (all u h).is
    pick_is u (no d) b = absurd (d b)

    few : k < n → Alike index k → ⊥
    few g a =
        let e : a.i ≡ a.j = sym (pick_is a.i (dec_lt a.i n) (omega arith)) ∙ ap f a.same ∙ pick_is a.j (dec_lt a.j n) (omega arith) in
        omega arith

-- one more number
module _ (s : List ℕ) (v : ℕ) (t : List ℕ) (r : Rest s v t) where
  more_yes : Found (at s) v (length s) → Rest s (suc v) t
  more_yes g = record {
    below = λ i h. (let b = r.below i h in omega arith);
    fresh = r.fresh;
    rising = r.rising;
    all = λ u h. elim (dec_lt u v) [ yes b ↦ r.all u b | no b ↦ inl (record { at = g.at; below = g.below; is = g.is ∙ (let e : v ≡ u = omega arith in e) }) ];
  }

  old : (i : ℕ) → i < length t → at (t ++ (v ∷ [])) i ≡ at t i
  old i h = get_or-append t (v ∷ []) 0 i h

  new : at (t ++ (v ∷ [])) (length t) ≡ v
  new = ap (at (t ++ (v ∷ []))) (let e : length t ≡ length t + 0 = omega arith in e) ∙ get_or-append-add t (v ∷ []) 0 0

  len : length (t ++ (v ∷ [])) ≡ length t + 1
  len = length-append t (v ∷ [])

  more_no : ¬ Found (at s) v (length s) → Rest s (suc v) (t ++ (v ∷ []))
  more_no none = record { below = below; fresh = fresh; rising = rising; all = all }
    where
      below : (i : ℕ) → i < length (t ++ (v ∷ [])) → at (t ++ (v ∷ [])) i < suc v
      below i h = elim (dec_lt i (length t)) [
        | yes b ↦ rw (old i b) (let c = r.below i b in omega arith)
        | no b ↦ (let e : i ≡ length t = omega (arith, len) in rw (e, new) (omega arith))
      ]

      fresh : (i x : ℕ) → i < length (t ++ (v ∷ [])) → x < length s → at (t ++ (v ∷ [])) i ≢ at s x
      fresh i x h b = elim (dec_lt i (length t)) [
        | yes c ↦ rw (old i c) (r.fresh i x c b)
        | no c ↦ (let e : i ≡ length t = omega (arith, len) in rw (e, new) (λ d. none (record { at = x; below = b; is = sym d })))
      ]

      rising : (i j : ℕ) → i < j → j < length (t ++ (v ∷ [])) → at (t ++ (v ∷ [])) i < at (t ++ (v ∷ [])) j
      rising i j h b = elim (dec_lt j (length t)) [
        | yes c ↦ rw (old i (omega arith), old j c) (r.rising i j h c)
        | no c ↦ (let e : j ≡ length t = omega (arith, len) in rw (e, new, old i (omega (arith, len))) (r.below i (omega (arith, len))))
      ]

      all : (u : ℕ) → u < suc v → Found (at s) u (length s) ⊎ Found (at (t ++ (v ∷ []))) u (length (t ++ (v ∷ [])))
      all u h = elim (dec_lt u v) [
        | yes b ↦ ⊎_elim (λ g. inl g) (λ g. inr (record { at = g.at; below = omega (arith, len, g.below); is = old g.at g.below ∙ g.is })) (r.all u b)
        | no b ↦ inr (record { at = length t; below = omega (arith, len); is = new ∙ (let e : v ≡ u = omega arith in e) })
      ]

not_true_false : (b : Bool) → (b ≡ true → ⊥) → b ≡ false
not_true_false true h = absurd (h refl)
not_true_false false h = refl

-- the test of one number
unseen : (s : List ℕ) (v : ℕ) → ¬ Found (at s) v (length s) → every (λ x. not (eqb x v)) s ≡ true
unseen s v none =
    every_all (λ x. not (eqb x v)) s 0 (λ i h. ap not (ne_eqb (at s i) v (λ e. none (record { at = i; below = h; is = e }))))

seen : (s : List ℕ) (v : ℕ) → Found (at s) v (length s) → every (λ x. not (eqb x v)) s ≡ false
seen s v g = not_true_false _ (λ e. eqb-false (at s g.at) v (not-true _ (every-at (λ x. not (eqb x v)) s e g.at 0 g.below)) g.is)

pub unused_is : (s : List ℕ) (v : ℕ) → Rest s v (unused s v)
unfolding unused
unused_is s zero = record { below = λ i h. absurd (omega arith); fresh = λ i x h b. absurd (omega arith); rising = λ i j h b. absurd (omega arith); all = λ u h. absurd (omega arith) }
unused_is s (suc v) = go (find (at s) v (length s)) (unused_is s v)
  where
    go : Dec (Found (at s) v (length s)) → Rest s v (unused s v) → Rest s (suc v) (unused s v ++ cond (every (λ x. not (eqb x v)) s) (v ∷ []) [])
    go (yes g) r = rw (seen s v g, append-nil (unused s v)) (more_yes s v (unused s v) r g)
    go (no none) r = rw (unseen s v none) (more_no s v (unused s v) r none)

module _ (n : ℕ) (s : List ℕ) (small : (x : ℕ) → x < length s → at s x < n) (once : (x y : ℕ) → x < length s → y < length s → at s x ≡ at s y → x ≡ y) where
  abbrev t : List ℕ
  t = unused s n

  abbrev w : List ℕ
  w = s ++ t

  r : Rest s n t
  r = unused_is s n

  total : length w ≡ length s + length t
  total = length-append s t

  left : (x : ℕ) → x < length s → at w x ≡ at s x
  left x h = get_or-append s t 0 x h

  right : (x : ℕ) → length s ≤ x → at w x ≡ at t (x - length s)
  right x h = ap (at w) (let e : x ≡ length s + (x - length s) = omega arith in e) ∙ get_or-append-add s t (x - length s) 0

  w_below : (x : ℕ) → x < length w → at w x < n
  w_below x h = elim (dec_lt x (length s)) [
    | yes b ↦ rw (left x b) (small x b)
    | no b ↦ rw (right x (omega arith)) (r.below (x - length s) (omega (arith, total)))
  ]

  rising_once : (i j : ℕ) → i < length t → j < length t → at t i ≡ at t j → i ≡ j
  rising_once i j a b e = elim (dec_lt i j) [
    | yes h ↦ absurd (let c = r.rising i j h b in omega arith)
    | no h ↦ elim (dec_lt j i) [ yes g ↦ absurd (let c = r.rising j i g a in omega arith) | no g ↦ omega arith ]
  ]

  w_once : (x y : ℕ) → x < length w → y < length w → at w x ≡ at w y → x ≡ y
  w_once x y a b e = elim (dec_lt x (length s)) [
    | yes p ↦ elim (dec_lt y (length s)) [
      | yes q ↦ once x y p q (sym (left x p) ∙ e ∙ left y q)
      | no q ↦ absurd (r.fresh (y - length s) x (omega (arith, total)) p (sym (right y (omega arith)) ∙ sym e ∙ left x p))
    ]
    | no p ↦ elim (dec_lt y (length s)) [
      | yes q ↦ absurd (r.fresh (x - length s) y (omega (arith, total)) q (sym (right x (omega arith)) ∙ e ∙ left y q))
      | no q ↦ (let f = rising_once (x - length s) (y - length s) (omega (arith, total)) (omega (arith, total)) (sym (right x (omega arith)) ∙ e ∙ right y (omega arith)) in omega arith)
    ]
  ]

  w_all : (u : ℕ) → u < n → Found (at w) u (length w)
  w_all u h = ⊎_elim
      (λ g. record { at = g.at; below = omega (arith, total, g.below); is = left g.at g.below ∙ g.is })
      (λ g. record { at = length s + g.at; below = omega (arith, total, g.below); is = get_or-append-add s t g.at 0 ∙ g.is })
      (r.all u h)

  size : length w ≡ n
  size = counted (at w) (length w) n w_below w_once w_all

  pub completed : Each n (s ++ unused s n)
  completed = record {
    size = size;
    below = λ x h. rw (get_d_any w x x 0 (omega (arith, size))) (w_below x (omega (arith, size)));
    once = λ x y a b e. w_once x y (omega (arith, size)) (omega (arith, size)) (get_d_any w x 0 x (omega (arith, size)) ∙ e ∙ get_d_any w y y 0 (omega (arith, size)));
  }
