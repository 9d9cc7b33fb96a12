-- Bytes written one after the other, as far as the output reaches. Assumes nothing.
use mathlib.Core.Path.{◌≡◌, refl, sym, ap, subst, ◌∙◌}
use mathlib.Core.List.{List, [], ◌∷◌, ◌++◌}
use Prim.Native.Nat.{ℕ, suc, ◌+◌, ◌≤◌, ◌<◌}
use native.Mathlib.Nat.{add-zero, add-suc, suc-add, zero-add}
use native.Mathlib.Numerals.{add-one}
use native.Mathlib.Omega.{arith}
use lib.ListN.{length, take, drop, get_or, set, length-append, drop_of_length-le}
use lib.Seq.{sets, drop-cons}
use Rattle.bits.specs.Bits.{over}
use Rattle.opener.specs.Wrote.{Wrote, Printed}

-- one text, then another
pub sets_append : (out : List ℕ) (at : ℕ) (a b : List ℕ) → sets out at (a ++ b) ≡ sets (sets out at a) (at + length a) b
sets_append out at [] b = ap (λ (k : ℕ). sets out k b) (sym (add-zero at))
sets_append out at (x ∷ a) b =
    sets_append (set out at x) (suc at) a b
    ∙ ap (λ (k : ℕ). sets (sets (set out at x) (suc at) a) k b) (suc-add at (length a) ∙ sym (add-suc at (length a)))

-- the byte at i, then the rest
pub sets_next : (out : List ℕ) (at i : ℕ) (l : List ℕ) → i < length l
    → sets (set out (at + i) (get_or l i 0)) (at + (i + 1)) (drop (i + 1) l) ≡ sets out (at + i) (drop i l)
sets_next out at i l h =
    ap (λ (k : ℕ). sets (set out (at + i) (get_or l i 0)) (at + k) (drop k l)) (add-one i)
    ∙ ap (λ (k : ℕ). sets (set out (at + i) (get_or l i 0)) k (drop (suc i) l)) (add-suc at i)
    ∙ ap (λ (r : List ℕ). sets out (at + i) r) (sym (drop-cons l i 0 h))

-- nothing is left
pub sets_none : (out : List ℕ) (at i : ℕ) (l : List ℕ) → length l ≤ i → sets out at (drop i l) ≡ out
sets_none out at i l h = ap (sets out at) (drop_of_length-le l h)

-- one part behind another
pub joined : (a b : List ℕ) {out mid after : List ℕ} {at next end : ℕ} → Wrote a out at next mid → Wrote b mid next end after
    → Wrote (a ++ b) out at end after
joined a b {out} {mid} {after} {at} {next} {end} x y = record {
  place = simp length-append (omega (arith, x.place, y.place));
  output =
      y.output
      ∙ ap (λ (o : List ℕ). sets o next b) x.output
      ∙ ap (λ (k : ℕ). sets (sets out at a) k b) x.place
      ∙ sym (sets_append out at a b);
}

-- the same text
pub same_text : {a b out after : List ℕ} {at next : ℕ} → a ≡ b → Wrote a out at next after → Wrote b out at next after
same_text {out = out} {after = after} {at = at} {next = next} e w = subst (λ (l : List ℕ). Wrote l out at next after) e w

pub wrote_nothing : (out : List ℕ) (at : ℕ) → Wrote [] out at at out
wrote_nothing out at = record { place = sym (add-zero at); output = refl }

-- What is left of a text: writing it behind what is written gives the whole.
pub record Left (text out : List ℕ) (at : ℕ) (whole out₀ : List ℕ) (at₀ : ℕ) : Type 0 where
  pub place : at + length text ≡ at₀ + length whole
  pub output : sets out at text ≡ sets out₀ at₀ whole

pub left_start : {a whole : List ℕ} (out : List ℕ) (at : ℕ) → a ≡ whole → Left a out at whole out at
left_start out at e = record { place = ap (λ (l : List ℕ). at + length l) e; output = ap (sets out at) e }

pub left_step : (a b : List ℕ) {l out after whole out₀ : List ℕ} {at next at₀ : ℕ} → l ≡ a ++ b → Left l out at whole out₀ at₀
    → Wrote a out at next after → Left b after next whole out₀ at₀
left_step a b {out = out} {after = after} {at = at} {next = next} e l w = record {
  place = omega (arith, w.place, l.place, length-append a b, ap length e);
  output =
      ap (λ (o : List ℕ). sets o next b) w.output
      ∙ ap (λ (k : ℕ). sets (sets out at a) k b) w.place
      ∙ sym (sets_append out at a b)
      ∙ ap (sets out at) (sym e)
      ∙ l.output;
}

pub left_none : {a out whole out₀ : List ℕ} {at at₀ : ℕ} → a ≡ [] → Left a out at whole out₀ at₀ → Wrote whole out₀ at₀ at out
left_none {out = out} {at = at} e l = record {
  place = omega (arith, l.place, ap length e);
  output = ap (sets out at) (sym e) ∙ l.output;
}

sets_empty : (at : ℕ) (text : List ℕ) → sets [] at text ≡ []
sets_empty at [] = refl
sets_empty at (b ∷ text) = sets_empty (suc at) text

sets_behind : (x : ℕ) (out : List ℕ) (at : ℕ) (text : List ℕ) → sets (x ∷ out) (suc at) text ≡ x ∷ sets out at text
sets_behind x out at [] = refl
sets_behind x out at (b ∷ text) = sets_behind x (set out at b) (suc at) text

-- from the start: as much of the text as there is room for, and the rest of the output as it was
pub sets_over : (text out : List ℕ) → sets out 0 text ≡ over (take (length out) text) out
unfolding over
sets_over [] [] = refl
sets_over [] (x ∷ out) = refl
sets_over (b ∷ text) [] = sets_empty 1 text
sets_over (b ∷ text) (x ∷ out) = sets_behind b out 0 text ∙ ap (◌∷◌ b) (sets_over text out)

-- a text from the output's start on, no longer than the longest
pub printed : {text out after : List ℕ} {end : ℕ} → Wrote text out 0 end after → end ≤ 1114176 → Printed text out end after
printed {text} {out} w h = record { place = w.place ∙ zero-add (length text); output = w.output ∙ sets_over text out; fits = h }

pub printed_nothing : (out : List ℕ) → Printed [] out 0 out
printed_nothing out = printed (wrote_nothing out 0) (omega arith)

pub same_printed : {a b out after : List ℕ} {end : ℕ} → a ≡ b → Printed a out end after → Printed b out end after
same_printed {out = out} {after = after} {end = end} e w = subst (λ (l : List ℕ). Printed l out end after) e w
