-- What is left of a line from place i on: the steps of the loops. Assumes nothing.
use mathlib.Core.Path.{◌≡◌, refl, sym, ap, ◌∙◌}
use mathlib.Core.Bool.{Bool, cond}
use mathlib.Core.List.{List, [], ◌∷◌}
use Prim.Native.Nat.{ℕ, zero, suc, ◌+◌, ◌-◌, ◌*◌, ◌%◌, ◌≤◌, ◌<◌}
use native.Mathlib.Nat.{add_assoc}
use native.Mathlib.Numerals.{add-one}
use native.Mathlib.Omega.{arith}
use borrow.Author.Tests.{eq-eqb, ne_eqb, lt-ltb, le-ltb}
use lib.Dec.{eqb, ltb}
use lib.ListN.{length, drop, get_or, length-drop, drop_of_length-le}
use lib.Seq.{drop-cons}
use Rattle.vectors.specs.Lines.{end_of, start_of, digit_of, hex_bytes, decimal_from, with_byte, with_bytes}
use Rattle.vectors.specs.declared.line.Bytes.{Bytes}

-- the byte at i, then the rest
pub next : (l : List ℕ) (i : ℕ) → i < length l → drop i l ≡ get_or l i 0 ∷ drop (i + 1) l
next l i h = drop-cons l i 0 h ∙ ap (λ (k : ℕ). get_or l i 0 ∷ drop k l) (sym (add-one i))

-- the newline
module _ (l : List ℕ) (i : ℕ) where
  pub end_here : i < length l → get_or l i 0 ≡ 10 → end_of (drop i l) ≡ 0
  unfolding end_of
  end_here h e = ap end_of (next l i h) ∙ ap (λ (b : Bool). cond b 0 (suc (end_of (drop (i + 1) l)))) (eq-eqb (get_or l i 0) 10 e)

  pub end_next : i < length l → (get_or l i 0 ≡ 10 → ⊥) → end_of (drop i l) ≡ suc (end_of (drop (i + 1) l))
  unfolding end_of
  end_next h e = ap end_of (next l i h) ∙ ap (λ (b : Bool). cond b 0 (suc (end_of (drop (i + 1) l)))) (ne_eqb (get_or l i 0) 10 e)

  pub end_none : length l ≤ i → end_of (drop i l) ≡ 0
  unfolding end_of
  end_none h = ap end_of (drop_of_length-le l h)

-- the field's start
start-zero : (l : List ℕ) → start_of l 0 ≡ 0
unfolding start_of
start-zero [] = refl
start-zero (b ∷ l) = refl

start-cons : (x : ℕ) (l : List ℕ) (k : ℕ) → (k ≡ 0 → ⊥) → start_of (x ∷ l) k ≡ suc (start_of l (cond (eqb x 32) (k - 1) k))
unfolding start_of
start-cons x l zero z = absurd (z refl)
start-cons x l (suc k) z = let e : k ≡ suc k - 1 = omega arith in ap (λ (j : ℕ). suc (start_of l (cond (eqb x 32) j (suc k)))) e

module _ (l : List ℕ) (i k : ℕ) where
  pub start_here : k ≡ 0 → start_of (drop i l) k ≡ 0
  start_here e = ap (start_of (drop i l)) e ∙ start-zero (drop i l)

  pub start_none : length l ≤ i → start_of (drop i l) k ≡ 0
  unfolding start_of
  start_none h = ap (λ (r : List ℕ). start_of r k) (drop_of_length-le l h)

  step : i < length l → (k ≡ 0 → ⊥) → start_of (drop i l) k ≡ suc (start_of (drop (i + 1) l) (cond (eqb (get_or l i 0) 32) (k - 1) k))
  step h z = ap (λ (r : List ℕ). start_of r k) (next l i h) ∙ start-cons (get_or l i 0) (drop (i + 1) l) k z

  pub start-blank : i < length l → (k ≡ 0 → ⊥) → get_or l i 0 ≡ 32 → start_of (drop i l) k ≡ suc (start_of (drop (i + 1) l) (k - 1))
  start-blank h z e = step h z ∙ ap (λ (b : Bool). suc (start_of (drop (i + 1) l) (cond b (k - 1) k))) (eq-eqb (get_or l i 0) 32 e)

  pub start_other : i < length l → (k ≡ 0 → ⊥) → (get_or l i 0 ≡ 32 → ⊥) → start_of (drop i l) k ≡ suc (start_of (drop (i + 1) l) k)
  start_other h z e = step h z ∙ ap (λ (b : Bool). suc (start_of (drop (i + 1) l) (cond b (k - 1) k))) (ne_eqb (get_or l i 0) 32 e)

-- the bytes behind b
hex_short : (l : List ℕ) → length l ≤ 1 → hex_bytes l ≡ []
unfolding hex_bytes
hex_short [] h = refl
hex_short (x ∷ []) h = refl
hex_short (x ∷ y ∷ l) h = absurd (omega arith)

module _ (l : List ℕ) (i : ℕ) (b : Bytes) where
  pub bytes_short : length l ≤ i + 1 → with_bytes b (hex_bytes (drop i l)) ≡ b
  unfolding with_bytes
  bytes_short h = ap (with_bytes b) (hex_short (drop i l) (omega (arith, length-drop i l)))

  module _ (h : i + 1 < length l) where
    pair : hex_bytes (drop i l)
        ≡ cond (ltb (get_or l i 0) 48) [] ((16 * digit_of (get_or l i 0) + digit_of (get_or l (i + 1) 0)) ∷ hex_bytes (drop (i + 2) l))
    unfolding hex_bytes
    pair =
        ap hex_bytes (next l i (omega arith) ∙ ap (◌∷◌ (get_or l i 0)) (next l (i + 1) h))
        ∙ ap
        (λ (k : ℕ). cond (ltb (get_or l i 0) 48) [] ((16 * digit_of (get_or l i 0) + digit_of (get_or l (i + 1) 0)) ∷ hex_bytes (drop k l)))
        (add_assoc i 1 1)

    pub bytes_stop : get_or l i 0 < 48 → with_bytes b (hex_bytes (drop i l)) ≡ b
    unfolding with_bytes
    bytes_stop e = ap (with_bytes b) pair ∙ rw (lt-ltb (get_or l i 0) 48 e) refl

    pub bytes_next : {x : ℕ} {c : Bytes} → 48 ≤ get_or l i 0 → x ≡ 16 * digit_of (get_or l i 0) + digit_of (get_or l (i + 1) 0) → c ≡ with_byte b x
        → with_bytes b (hex_bytes (drop i l)) ≡ with_bytes c (hex_bytes (drop (i + 2) l))
    unfolding with_bytes
    bytes_next {x} {c} e f g =
        ap (with_bytes b) pair
        ∙ (rw (le-ltb (get_or l i 0) 48 e) refl)
        ∙ ap (λ (y : ℕ). with_bytes (with_byte b y) (hex_bytes (drop (i + 2) l))) (sym f)
        ∙ ap (λ (d : Bytes). with_bytes d (hex_bytes (drop (i + 2) l))) (sym g)

-- the number behind the digits of x
module _ (l : List ℕ) (i x : ℕ) where
  pub number_end : length l ≤ i → decimal_from x (drop i l) ≡ x
  unfolding decimal_from
  number_end h = ap (decimal_from x) (drop_of_length-le l h)

  pub number_stop : i < length l → get_or l i 0 ≡ 32 → decimal_from x (drop i l) ≡ x
  unfolding decimal_from
  number_stop h e =
      ap (decimal_from x) (next l i h)
      ∙ ap (λ (b : Bool). cond b x (decimal_from (x % 6000 * 10 + digit_of (get_or l i 0)) (drop (i + 1) l))) (eq-eqb (get_or l i 0) 32 e)

  pub number-next : {d : ℕ} → i < length l → (get_or l i 0 ≡ 32 → ⊥) → d ≡ digit_of (get_or l i 0)
      → decimal_from x (drop i l) ≡ decimal_from (x % 6000 * 10 + d) (drop (i + 1) l)
  unfolding decimal_from
  number-next {d} h e f =
      ap (decimal_from x) (next l i h)
      ∙ ap (λ (b : Bool). cond b x (decimal_from (x % 6000 * 10 + digit_of (get_or l i 0)) (drop (i + 1) l))) (ne_eqb (get_or l i 0) 32 e)
      ∙ ap (λ (y : ℕ). decimal_from (x % 6000 * 10 + y) (drop (i + 1) l)) (sym f)
