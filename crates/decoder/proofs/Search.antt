-- The law of search: what first_row finds, and when it finds nothing. Assumes nothing.
use mathlib.Core.Path.{◌≡◌, refl, sym, ap, ◌∙◌, subst}
use mathlib.Core.Logic.{◌⊎◌, inl, inr}
use mathlib.Core.Bool.{Bool, true, false, cond}
use mathlib.Core.List.{List, [], ◌∷◌}
use mathlib.Core.Option.{Option, none, some}
use Prim.Native.Nat.{ℕ, zero, suc, ◌+◌}
use native.Mathlib.Nat.{add-zero, zero-add}
use native.Mathlib.Omega.{arith}
use lib.ListN.{replicate}
use Rattle.bits.specs.Bits.{Row, end, off, on}
use Rattle.decoder.specs.Search.{or_else, first_row}

-- n bits on top of e make x
data On : ℕ → List ℕ → List ℕ → Type 0 where
  here : {e : List ℕ} → On 0 e e
  zero_bit : {n : ℕ} {e x : List ℕ} → On n (0 ∷ e) x → On (suc n) e x
  one_bit : {n : ℕ} {e x : List ℕ} → On n (1 ∷ e) x → On (suc n) e x

off_on : {n : ℕ} {e x : List ℕ} → On n e x → On (suc n) e (0 ∷ x)
off_on here = zero_bit here
off_on (zero_bit h) = zero_bit (off_on h)
off_on (one_bit h) = one_bit (off_on h)

on_on : {n : ℕ} {e x : List ℕ} → On n e x → On (suc n) e (1 ∷ x)
on_on here = one_bit here
on_on (zero_bit h) = zero_bit (on_on h)
on_on (one_bit h) = one_bit (on_on h)

on_row : {n : ℕ} {x : List ℕ} → Row n x → On n [] x
on_row end = here
on_row (off r) = off_on (on_row r)
on_row (on r) = on_on (on_row r)

row_on : {n k : ℕ} {e x : List ℕ} → On n e x → Row k e → Row (n + k) x
row_on {k = k} {x = x} here r = subst (λ (i : ℕ). Row i x) (sym (zero-add k)) r
row_on {k = k} {x = x} (zero_bit {n = n} h) r = subst (λ (i : ℕ). Row i x) (omega arith) (row_on h (off r))
row_on {k = k} {x = x} (one_bit {n = n} h) r = subst (λ (i : ℕ). Row i x) (omega arith) (row_on h (on r))

-- constructors that differ are never equal
differ : {A : Type 0} → ◌≡◌ {A = ℕ} 0 1 → A
differ e = absurd (omega arith)

or_none : (o r : Option (List ℕ)) → or_else o r ≡ none → (o ≡ none) × (r ≡ none)
unfolding or_else
or_none none r h = (refl, h)
or_none (some x) r h = differ (cc)

or_some : (o r : Option (List ℕ)) (x : List ℕ) → or_else o r ≡ some x → (o ≡ some x) ⊎ (r ≡ some x)
unfolding or_else
or_some none r x h = inr h
or_some (some y) r x h = inl h

module _ (p : List ℕ → Bool) where
  finds : (n : ℕ) (e x : List ℕ) → first_row p n e ≡ some x → On n e x × (p x ≡ true)
  unfolding first_row
  finds zero e x h = go (p e) refl h
    where
      go : (b : Bool) → p e ≡ b → cond b (some e) none ≡ some x → On 0 e x × (p x ≡ true)
      go true q h = let r : e ≡ x = cc in (subst (On 0 e) r here, subst (λ (y : List ℕ). p y ≡ true) r q)
      go false q h = differ (cc)
  finds (suc n) e x h = go (or_some _ _ x h) (finds n (0 ∷ e) x) (finds n (1 ∷ e) x)
    where
      go : (first_row p n (0 ∷ e) ≡ some x) ⊎ (first_row p n (1 ∷ e) ≡ some x) → (first_row p n (0 ∷ e) ≡ some x → On n (0 ∷ e) x × (p x ≡ true))
          → (first_row p n (1 ∷ e) ≡ some x → On n (1 ∷ e) x × (p x ≡ true)) → On (suc n) e x × (p x ≡ true)
      go (inl h) f g = (zero_bit (f h).0, (f h).1)
      go (inr h) f g = (one_bit (g h).0, (g h).1)

  misses : (n : ℕ) (e : List ℕ) → first_row p n e ≡ none → {x : List ℕ} → On n e x → p x ≡ true → ⊥
  unfolding first_row
  misses zero e h here q = go (p e) q h
    where
      go : (b : Bool) → b ≡ true → ◌≡◌ {A = Option (List ℕ)} (cond b (some e) none) none → ⊥
      go true q h = differ (cc)
      go false q h = differ (cc)
  misses (suc n) e h (zero_bit r) q = misses n (0 ∷ e) (or_none _ _ h).0 r q
  misses (suc n) e h (one_bit r) q = misses n (1 ∷ e) (or_none _ _ h).1 r q

  -- what is found is a row for which p holds
  pub search_sound : {n : ℕ} {x : List ℕ} → first_row p n [] ≡ some x → Row n x × (p x ≡ true)
  search_sound {n} {x} h = let f = finds n [] x h in (subst (λ (i : ℕ). Row i x) (add-zero n) (row_on f.0 end), f.1)

  -- where none is found, p holds for no row
  pub search_none : {n : ℕ} → first_row p n [] ≡ none → (x : List ℕ) → Row n x → p x ≡ true → ⊥
  search_none {n} h x r q = misses n [] h (on_row r) q

  -- the only row for which p holds is found
  pub search_only : {n : ℕ} (x : List ℕ) → Row n x → p x ≡ true → ((y : List ℕ) → Row n y → p y ≡ true → y ≡ x) → first_row p n [] ≡ some x
  search_only {n} x r q u = go (first_row p n []) refl
    where
      go : (o : Option (List ℕ)) → first_row p n [] ≡ o → first_row p n [] ≡ some x
      go none h = absurd (search_none h x r q)
      go (some y) h = h ∙ ap some (u y (search_sound h).0 (search_sound h).1)

  -- where p holds for no row, none is found
  pub search_nothing : {n : ℕ} → ((y : List ℕ) → Row n y → p y ≡ true → ⊥) → first_row p n [] ≡ none
  search_nothing {n} u = go (first_row p n []) refl
    where
      go : (o : Option (List ℕ)) → first_row p n [] ≡ o → first_row p n [] ≡ none
      go none h = h
      go (some y) h = absurd (u y (search_sound h).0 (search_sound h).1)

-- the row of zeros is tried first
zeros_on : ℕ → List ℕ → List ℕ
zeros_on zero e = e
zeros_on (suc n) e = zeros_on n (0 ∷ e)

zeros_cons : (n : ℕ) (e : List ℕ) → zeros_on n (0 ∷ e) ≡ 0 ∷ zeros_on n e
unfolding zeros_on
zeros_cons zero e = refl
zeros_cons (suc n) e = zeros_cons n (0 ∷ e)

zeros_on_lem : (n : ℕ) → zeros_on n [] ≡ replicate n 0
unfolding zeros_on
zeros_on_lem zero = refl
zeros_on_lem (suc n) = zeros_cons n [] ∙ ap (◌∷◌ 0) (zeros_on_lem n)

zeros_found : (p : List ℕ → Bool) (n : ℕ) (e : List ℕ) → p (zeros_on n e) ≡ true → first_row p n e ≡ some (zeros_on n e)
unfolding first_row or_else zeros_on
zeros_found p zero e h = rw h
zeros_found p (suc n) e h = ap (λ (o : Option (List ℕ)). or_else o (first_row p n (1 ∷ e))) (zeros_found p n (0 ∷ e) h)

pub zeros_first : (p : List ℕ → Bool) (n : ℕ) → p (replicate n 0) ≡ true → first_row p n [] ≡ some (replicate n 0)
zeros_first p n = subst (λ (x : List ℕ). p x ≡ true → first_row p n [] ≡ some x) (zeros_on_lem n) (zeros_found p n [])
