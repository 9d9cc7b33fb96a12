-- A list of the numbers below n, each once, as a permutation with its inverse.
-- Assumes nothing.
use mathlib.Core.Path.{◌≡◌, refl, sym, ap, ◌∙◌}
use mathlib.Core.Logic.{◌≢◌}
use mathlib.Core.List.{List, [], ◌∷◌}
use Prim.Native.Nat.{ℕ, zero, suc, ◌≤◌, ◌<◌}
use native.Mathlib.Omega.{arith}
use native.Mathlib.Decide.{dec_lt, ℕ_discrete}
use lib.ListN.{length, get_or, get_or-eq_default}
use Rattle.network.specs.Network.{seek, val}
use Rattle.network.specs.Tables.{Each}
use Rattle.network.proofs.Cycle.{Found, find, Alike, pigeon}
use Rattle.network.proofs.Split.{Perm}

pub get_d_any : (s : List ℕ) (x d e : ℕ) → x < length s → get_or s x d ≡ get_or s x e
get_d_any [] x d e h = absurd (omega arith)
get_d_any (a ∷ s) zero d e h = refl
get_d_any (a ∷ s) (suc x) d e h = get_d_any s x d e (omega arith)

seek_found : (f : ℕ → ℕ) (n v : ℕ) → Found f v n → (seek f n v < n) × (f (seek f n v) ≡ v)
unfolding seek
seek_found f zero v h = absurd (omega arith)
seek_found f (suc n) v h = go (ℕ_discrete (f n) v) (λ d. seek_found f n v (back d))
  where
    back : ¬ (f n ≡ v) → Found f v n
    back d = record {
      at = h.at;
      is = h.is;
      below = (
          let e : h.at ≢ n = λ k. d (ap f (sym k) ∙ h.is) in omega arith);
    }

    go : (d : Dec (f n ≡ v)) → (¬ (f n ≡ v) → (seek f n v < n) × (f (seek f n v) ≡ v))
        → (elim d as (λ _. ℕ) [ yes _ ↦ n | no _ ↦ seek f n v ] < suc n) × (f (elim d as (λ _. ℕ) [ yes _ ↦ n | no _ ↦ seek f n v ]) ≡ v)
    go (yes e) r = (omega arith, e)
    go (no d) r = let q = r d in (omega arith, q.1)

seek_none : (f : ℕ → ℕ) (n v : ℕ) → ((i : ℕ) → i < n → f i ≢ v) → seek f n v ≡ v
unfolding seek
seek_none f zero v h = refl
seek_none f (suc n) v h = go (ℕ_discrete (f n) v) (seek_none f n v (λ i b. h i (omega arith)))
  where
    go : (d : Dec (f n ≡ v)) → seek f n v ≡ v → elim d as (λ _. ℕ) [ yes _ ↦ n | no _ ↦ seek f n v ] ≡ v
    go (yes e) r = absurd (h n (omega arith) e)
    go (no d) r = r

-- n different numbers below n are all of them
pub onto : (f : ℕ → ℕ) (n : ℕ) → ((x : ℕ) → x < n → f x < n) → ((x y : ℕ) → x < n → y < n → f x ≡ f y → x ≡ y)
    → (v : ℕ) → v < n → Found f v n
onto f n inside once v b = elim (find f v n) [ yes h ↦ h | no none ↦ absurd (clash none (pigeon n g (λ i c. small i (dec_lt i n)))) ]
  where
    pick : (i : ℕ) → Dec (i < n) → ℕ
    pick i (yes _) = f i
    pick i (no _) = v

    g : ℕ → ℕ
    g i = pick i (dec_lt i n)

    small : (i : ℕ) (d : Dec (i < n)) → pick i d < n
    small i (yes h) = inside i h
    small i (no _) = b

    same : ¬ Found f v n → (i j : ℕ) → i < j → j ≤ n → (d : Dec (i < n)) (e : Dec (j < n)) → pick i d ≡ pick j e → ⊥
    same none i j h t (yes p) (yes q) s = let k = once i j p q s in omega arith
    same none i j h t (yes p) (no q) s = none (record { at = i; below = p; is = s })
    same none i j h t (no p) e s = omega arith

    clash : ¬ Found f v n → Alike g n → ⊥
    clash none a = same none a.i a.j a.below a.top (dec_lt a.i n) (dec_lt a.j n) a.same

pub each_perm : {n : ℕ} {s : List ℕ} → Each n s → Perm n (val s) (seek (val s) n)
each_perm {n} {s} e = record { left = left; right = right; outside = outside }
  where
    outside : (x : ℕ) → n ≤ x → val s x ≡ x
    outside x h = get_or-eq_default s x (omega arith)

    away : (x : ℕ) → n ≤ x → seek (val s) n x ≡ x
    away x h = seek_none (val s) n x (λ i b k. let l = e.below i b in omega arith)

    left : (x : ℕ) → seek (val s) n (val s x) ≡ x
    left x = elim (dec_lt x n) [
      | yes h ↦ (let q = seek_found (val s) n (val s x) (record { at = x; below = h; is = refl }) in e.once _ x q.0 h q.1)
      | no h ↦ ap (seek (val s) n) (outside x (omega arith)) ∙ away x (omega arith)
    ]

    right : (x : ℕ) → val s (seek (val s) n x) ≡ x
    right x = elim (dec_lt x n) [
      | yes h ↦ (seek_found (val s) n x (onto (val s) n e.below e.once x h)).1
      | no h ↦ ap (val s) (away x (omega arith)) ∙ outside x (omega arith)
    ]

pub seek_below : {n : ℕ} {s : List ℕ} → Each n s → (x : ℕ) → x < n → seek (val s) n x < n
seek_below {n} {s} e x h = (seek_found (val s) n x (onto (val s) n e.below e.once x h)).0
