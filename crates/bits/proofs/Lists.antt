-- Numbers from k on, maps over them, tests of every one, and bounds on parts of lists. Assumes nothing.
use mathlib.Core.Path.{◌≡◌, refl, sym, ap, ap₂, ◌∙◌}
use mathlib.Core.Bool.{Bool, true, false, ◌&&◌, and_assoc, false≢true}
use mathlib.Core.List.{List, [], ◌∷◌, ◌++◌, map}
use Prim.Native.Nat.{ℕ, zero, suc, ◌+◌, ◌≤◌, ◌<◌, suc-le-suc, zero-le}
use native.Mathlib.Nat.{add-zero, zero-add, suc-add, zero-lt-suc, le_of_suc-le-suc, not-suc-le-zero, lt_of_le_of_lt}
use native.Mathlib.Numerals.{add-one}
use native.Mathlib.Omega.{arith}
use lib.ListN.{length, get_or, take, drop, length-map, length-drop, drop_of_length-le, get_or-eq_default}
use lib.Seq.{get_or-take, get_or-drop, drop-cons, length-take-le, ext_get_or}
use Rattle.bits.specs.Bits.{from, every}

pub cons_eq : {x y : ℕ} {l r : List ℕ} → x ≡ y → l ≡ r → x ∷ l ≡ y ∷ r
cons_eq e f = ap₂ (λ (z : ℕ) (t : List ℕ). z ∷ t) e f

pub and_left : (a b : Bool) → a && b ≡ true → a ≡ true
and_left true b e = refl
and_left false b e = absurd (false≢true e)

pub and_right : (a b : Bool) → a && b ≡ true → b ≡ true
and_right true b e = e
and_right false b e = absurd (false≢true e)

-- from the place k, the next place and i more is the place i + 1
next : (k i : ℕ) → suc k + i ≡ k + suc i
next k i = omega arith

pub length_from : (k n : ℕ) → length (from k n) ≡ n
unfolding from
length_from k zero = refl
length_from k (suc n) = ap suc (length_from (suc k) n)

pub from_at : (k n i d : ℕ) → i < n → get_or (from k n) i d ≡ k + i
unfolding from
from_at k zero i d h = absurd (not-suc-le-zero h)
from_at k (suc n) zero d h = sym (add-zero k)
from_at k (suc n) (suc i) d h = from_at (suc k) n i d (le_of_suc-le-suc h) ∙ next k i

pub from-add : (k n m : ℕ) → from k (n + m) ≡ from k n ++ from (k + n) m
unfolding from
from-add k zero m = rw (zero-add, add-zero)
from-add k (suc n) m = rw suc-add (ap (◌∷◌ k) (from-add (suc k) n m ∙ ap (λ (x : ℕ). from (suc k) n ++ from x m) (next k n)))

pub map-append : (f : ℕ → ℕ) (l r : List ℕ) → map f (l ++ r) ≡ map f l ++ map f r
map-append f [] r = refl
map-append f (x ∷ l) r = ap (◌∷◌ (f x)) (map-append f l r)

pub map_at : {A B : Type 0} (f : A → B) (l : List A) (i : ℕ) (a : A) (b : B) → i < length l → get_or (map f l) i b ≡ f (get_or l i a)
map_at f [] i a b h = absurd (not-suc-le-zero h)
map_at f (x ∷ l) zero a b h = refl
map_at f (x ∷ l) (suc i) a b h = map_at f l i a b (le_of_suc-le-suc h)

-- maps over numbers in sequence: their lengths, their elements, and when two are equal
pub length-map-from : (f : ℕ → ℕ) (k n : ℕ) → length (map f (from k n)) ≡ n
length-map-from f k n = length-map (from k n) f ∙ length_from k n

pub map-from-at : (f : ℕ → ℕ) (k n i d : ℕ) → i < n → get_or (map f (from k n)) i d ≡ f (k + i)
unfolding from
map-from-at f k zero i d h = absurd (not-suc-le-zero h)
map-from-at f k (suc n) zero d h = ap f (sym (add-zero k))
map-from-at f k (suc n) (suc i) d h = map-from-at f (suc k) n i d (le_of_suc-le-suc h) ∙ ap f (next k i)

pub map-from_past : (f : ℕ → ℕ) (k n i d : ℕ) → n ≤ i → get_or (map f (from k n)) i d ≡ d
map-from_past f k n i d h = get_or-eq_default (map f (from k n)) d (rw length-map-from h)

pub map-from-part : (f : ℕ → ℕ) (k n j m : ℕ) → j + m ≤ n → take m (drop j (map f (from k n))) ≡ map f (from (k + j) m)
map-from-part f k n j m h =
    let l : List ℕ = map f (from k n) in
    let e : length l ≡ n = length-map-from f k n in
    let c : length (take m (drop j l)) ≡ m = length-take-le m (drop j l) (omega (arith, length-drop j l)) in
    ext_get_or 0 (take m (drop j l)) (map f (from (k + j) m)) (c ∙ sym (length-map-from f (k + j) m))
    (λ i b.
    let b : i < m = rw c at b in
    let s : k + (j + i) ≡ k + j + i = omega arith in
    get_or-take m (drop j l) i 0 b
    ∙ get_or-drop j l i 0
    ∙ map-from-at f k n (j + i) 0 (omega arith)
    ∙ ap f s
    ∙ sym (map-from-at f (k + j) m i 0 b))

pub map-from : {A : Type 0} (f g : ℕ → A) (k j n : ℕ) → ((i : ℕ) → i < n → f (k + i) ≡ g (j + i)) → map f (from k n) ≡ map g (from j n)
unfolding from
map-from f g k j zero h = refl
map-from {A} f g k j (suc n) h =
    ap₂ (λ (x : A) (l : List A). x ∷ l)
    (ap f (sym (add-zero k)) ∙ h 0 (zero-lt-suc n) ∙ ap g (add-zero j))
    (map-from f g (suc k) (suc j) n (λ i l. ap f (next k i) ∙ h (suc i) (suc-le-suc l) ∙ ap g (sym (next j i))))

-- a test of every number of a list
pub every-at : (p : ℕ → Bool) (l : List ℕ) → every p l ≡ true → (i d : ℕ) → i < length l → p (get_or l i d) ≡ true
unfolding every
every-at p [] e i d h = absurd (not-suc-le-zero h)
every-at p (x ∷ l) e zero d h = and_left (p x) (every p l) e
every-at p (x ∷ l) e (suc i) d h = every-at p l (and_right (p x) (every p l) e) i d (le_of_suc-le-suc h)

pub every_append : (p : ℕ → Bool) (l r : List ℕ) → every p (l ++ r) ≡ every p l && every p r
unfolding every
every_append p [] r = refl
every_append p (x ∷ l) r = ap (◌&&◌ (p x)) (every_append p l r) ∙ sym (and_assoc (p x) (every p l) (every p r))

pub every_all : (p : ℕ → Bool) (l : List ℕ) (d : ℕ) → ((i : ℕ) → i < length l → p (get_or l i d) ≡ true) → every p l ≡ true
unfolding every
every_all p [] d h = refl
every_all p (x ∷ l) d h = ap₂ ◌&&◌ (h 0 (zero-lt-suc (length l))) (every_all p l d (λ i k. h (suc i) (suc-le-suc k)))

-- the same as a loop over the places makes it: those from i on decide
module _ (p : ℕ → Bool) (s : List ℕ) where
  module _ (i : ℕ) (h : i < length s) where
    pub every-next : p (get_or s i 0) ≡ true → every p (drop (i + 1) s) ≡ every p (drop i s)
    unfolding every
    every-next e = rw (add-one, drop-cons s i 0, e)

    pub every_stop : p (get_or s i 0) ≡ false → false ≡ every p (drop i s)
    unfolding every
    every_stop e = rw (drop-cons s i 0, e)

  pub every_end : (i : ℕ) → length s ≤ i → true ≡ every p (drop i s)
  unfolding every
  every_end i h = rw (drop_of_length-le s h)

pub every-from-at : (p : ℕ → Bool) (k n : ℕ) → every p (from k n) ≡ true → (i : ℕ) → i < n → p (k + i) ≡ true
every-from-at p k n e i h = ap p (sym (from_at k n i 0 h)) ∙ every-at p (from k n) e i 0 (rw length_from h)

pub every_below_at : (p : ℕ → Bool) (n : ℕ) → every p (from 0 n) ≡ true → (i : ℕ) → i < n → p i ≡ true
every_below_at p n e i h = ap p (sym (zero-add i)) ∙ every-from-at p 0 n e i h

pub every_from_all : (p : ℕ → Bool) (k n : ℕ) → ((i : ℕ) → i < n → p (k + i) ≡ true) → every p (from k n) ≡ true
every_from_all p k n h =
    every_all p (from k n) 0
    (λ i l. let b : i < n = rw length_from at l in ap p (from_at k n i 0 b) ∙ h i b)

pub every-from : (p q : ℕ → Bool) (k j n : ℕ) → ((i : ℕ) → i < n → p (k + i) ≡ q (j + i)) → every p (from k n) ≡ every q (from j n)
unfolding from every
every-from p q k j zero h = refl
every-from p q k j (suc n) h =
    ap₂ ◌&&◌
    (ap p (sym (add-zero k)) ∙ h 0 (zero-lt-suc n) ∙ ap q (add-zero j))
    (every-from p q (suc k) (suc j) n (λ i l. ap p (next k i) ∙ h (suc i) (suc-le-suc l) ∙ ap q (sym (next j i))))

-- a bound on every number of a list holds for its parts
pub take_below : (c m : ℕ) (l : List ℕ) → ((k : ℕ) → get_or l k 0 < c) → (k : ℕ) → get_or (take m l) k 0 < c
take_below c zero l h k = lt_of_le_of_lt zero-le (h 0)
take_below c (suc m) [] h k = h k
take_below c (suc m) (x ∷ l) h zero = h 0
take_below c (suc m) (x ∷ l) h (suc k) = take_below c m l (λ k. h (suc k)) k

pub drop_below : (c m : ℕ) (l : List ℕ) → ((k : ℕ) → get_or l k 0 < c) → (k : ℕ) → get_or (drop m l) k 0 < c
drop_below c m l h k = rw get_or-drop (h (m + k))
