-- What the sums divide by: the number of all divisors, by those of the word and those of the places found. Assumes nothing.
use mathlib.Core.Path.{◌≡◌, refl, ap, ap₂, ◌∙◌}
use mathlib.Core.Bool.{Bool, true, false, cond, ◌&&◌}
use mathlib.Core.List.{List, [], ◌∷◌, map, append-nil}
use Prim.Native.Nat.{ℕ, zero, suc, ◌≤◌, ◌<◌}
use borrow.Author.Tests.{eq-eqb, ne_eqb, lt-leb, le-leb}
use lib.Dec.{leb}
use lib.ListN.{replicate}
use Rattle.bits.specs.Bits.{every, ones, padded}
use Rattle.bits.proofs.Lists.{and_left, and_right, every_append}
use Rattle.field.specs.Answers.{is_unit, inverse_number}
use Rattle.field.specs.Verdicts.{verdict_of}
use Rattle.field.specs.declared.Verdict.{Verdict}
use Rattle.field.specs.declared.Verdict.TheVariants.{Accepted, Refused}
use Rattle.field.proofs.Verdicts.{verdict_accepted, verdict_refused}
use Rattle.field.proofs.Units.{inverse_append}
use Rattle.key.specs.Keys.{Key, goppa_at}
use Rattle.decoder.specs.Decoding.{chosen, located}
use Rattle.decoding.specs.Parts.{sums_of, divisors, decoded_divisors}
use Rattle.decoding.specs.declared.sums.Sums.{Sums}

-- what holds for every member of a list holds for every chosen one
pub every-chosen : (p : ℕ → Bool) (f : ℕ → ℕ) (c l : List ℕ) → every p (map f l) ≡ true → every p (map f (chosen c l)) ≡ true
unfolding every chosen
every-chosen p f [] l e = refl
every-chosen p f (b ∷ c) [] e = refl
every-chosen p f (zero ∷ c) (a ∷ l) e = every-chosen p f c l (and_right (p (f a)) (every p (map f l)) e)
every-chosen p f (suc b ∷ c) (a ∷ l) e =
    rw (and_left (p (f a)) (every p (map f l)) e) (every-chosen p f c l (and_right (p (f a)) (every p (map f l)) e))

-- the word's divisors decide where they are refused; else those of the places found, where these are at most t
module _ (k : Key) (w : List ℕ) where
  abbrev e : List ℕ
  e = located k w

  pub number_word : (inverse_number k.m (divisors k w) ≡ 0 → ⊥)
      → inverse_number k.m (decoded_divisors k w) ≡ inverse_number k.m (divisors k w)
  unfolding decoded_divisors
  number_word h = inverse_append k.m (divisors k w) _ ∙ rw (ne_eqb (inverse_number k.m (divisors k w)) 0 h)

  module _ (z : inverse_number k.m (divisors k w) ≡ 0) where
    pub number_many : k.t < ones e → inverse_number k.m (decoded_divisors k w) ≡ 0
    unfolding decoded_divisors
    number_many h = rw (lt-leb (ones e) k.t h, append-nil (divisors k w)) z

    pub number_few : ones e ≤ k.t → inverse_number k.m (decoded_divisors k w) ≡ inverse_number k.m (divisors k e)
    unfolding decoded_divisors
    number_few h = rw (le-leb (ones e) k.t h, inverse_append k.m (divisors k w) (divisors k e), z)

-- all have an inverse where g has no root in the support
pub divisors_units : (k : Key) → every (is_unit k.m) (map (goppa_at k) k.support) ≡ true → (w : List ℕ) → every (is_unit k.m) (decoded_divisors k w) ≡ true
unfolding every divisors decoded_divisors
divisors_units k u w =
    let e : List ℕ = located k w in
    every_append (is_unit k.m) (divisors k w) _ ∙ ap₂ ◌&&◌ (at w) (go (leb (ones e) k.t) e)
  where
    at : (c : List ℕ) → every (is_unit k.m) (divisors k c) ≡ true
    at c = every-chosen (is_unit k.m) (goppa_at k) c k.support u

    go : (b : Bool) (c : List ℕ) → every (is_unit k.m) (cond b (divisors k c) []) ≡ true
    go true c = at c
    go false c = refl

-- sums by their number
module _ (x : ℕ) (l : List ℕ) where
  pub sums_refused : {v : Verdict} {y : ℕ} → v ≡ verdict_of x → v ≡ Refused y → ◌≡◌ {A = Sums} record { verdict = v; s = replicate 256 0 } (sums_of x l)
  unfolding sums_of padded
  sums_refused e h = rw (e, ne_eqb x 0 (verdict_refused x e h))

  pub sums_accepted : {v : Verdict} {s : List ℕ} → v ≡ verdict_of x → v ≡ Accepted → s ≡ padded 256 l → ◌≡◌ {A = Sums} record { verdict = v; s = s } (sums_of x l)
  unfolding sums_of
  sums_accepted e h q = rw (e, q, eq-eqb x 0 (verdict_accepted x e h))

  pub sums_verdict : {r : Sums} → r ≡ sums_of x l → r.verdict ≡ verdict_of x
  unfolding sums_of
  sums_verdict e = ap (λ (r : Sums). r.verdict) e

  pub sums_given : {r : Sums} → r ≡ sums_of x l → x ≡ 0 → r.s ≡ padded 256 l
  unfolding sums_of
  sums_given e z = ap (λ (r : Sums). r.s) e ∙ rw z
