-- What converting answers and writes, either way, by the tests of the code. Assumes nothing.
use mathlib.Core.Path.{◌≡◌, refl, sym, ap, ap₂, ◌∙◌}
use mathlib.Core.Bool.{Bool, true, false, cond}
use mathlib.Core.List.{List, [], ◌∷◌, ◌++◌}
use Prim.Native.Nat.{ℕ, ◌≤◌, ◌<◌}
use native.Mathlib.Nat.{zero-add}
use native.Mathlib.Omega.{arith}
use lib.Dec.{eqb, ltb}
use lib.ListN.{length, drop}
use lib.Seq.{sets, sets-eq}
use borrow.Author.Tests.{eq-eqb, ne_eqb, lt-ltb, le-ltb}
use Rattle.bits.specs.Bits.{over}
use Rattle.field.specs.Numbers.{first_of}
use Rattle.field.proofs.Numbers.{numbered, first-append}
use Rattle.key.specs.Keys.{conditions, file_conditions}
use Rattle.network_key.specs.Files.{network_conditions}
use Rattle.network_key.specs.Converting.{Way, into_network, out_of_network, converted, way_conditions, convert_number, convert_length, convert_output}
use Rattle.converting.specs.declared.Converted.{Converted}
use Rattle.converting.specs.Answers.{converted_of}

abbrev answer : ℕ → ℕ → Converted
answer q l = record { refused = q; length = l }

-- a condition of the first list decides
pub first_front : (cs ds : List (Bool × ℕ)) → (first_of cs ≡ 0 → ⊥) → first_of (cs ++ ds) ≡ first_of cs
unfolding first_of
first_front [] ds n = absurd (n refl)
first_front (c ∷ cs) ds n = go c.0 c.1 (first_front cs ds) n
  where
    go : (b : Bool) (k : ℕ) → ((first_of cs ≡ 0 → ⊥) → first_of (cs ++ ds) ≡ first_of cs)
        → (first_of ((b, k) ∷ cs) ≡ 0 → ⊥) → first_of ((b, k) ∷ (cs ++ ds)) ≡ first_of ((b, k) ∷ cs)
    go true k ih n = refl
    go false k ih n = ih n

way_numbered : (w : Way) (file : List ℕ) → numbered (way_conditions w file) ≡ true
unfolding way_conditions file_conditions network_conditions conditions numbered
way_numbered into_network file = refl
way_numbered out_of_network file = refl

module _ (w : Way) (file out : List ℕ) where
  -- by the number: a refusal, and none
  answer_refused : {x : ℕ} → x ≡ convert_number w file (length out) → (x ≡ 0 → ⊥)
      → (answer x 0 ≡ converted_of w file (length out)) × (out ≡ convert_output w file out)
  unfolding converted_of convert_length convert_output
  answer_refused {x} e n =
      let b : eqb (convert_number w file (length out)) 0 ≡ false = ne_eqb (convert_number w file (length out)) 0 (λ z. n (e ∙ z)) in (
        ap₂ answer e (sym (ap (λ (c : Bool). cond c (length (converted w file)) 0) b)),
        sym (ap (λ (c : Bool). cond c (over (converted w file) out) out) b),
      )

  -- the load's number
  pub convert_refused : {x : ℕ} → x ≡ first_of (way_conditions w file) → (x ≡ 0 → ⊥)
      → (answer x 0 ≡ converted_of w file (length out)) × (out ≡ convert_output w file out)
  unfolding convert_number
  convert_refused e n = answer_refused (e ∙ sym (first_front (way_conditions w file) _ (λ z. n (e ∙ z)))) n

  -- an accepted file, and l bytes to write
  module _ (z : first_of (way_conditions w file) ≡ 0) {l : ℕ} (el : l ≡ length (converted w file)) where
    room : (b : Bool) → ltb (length out) l ≡ b → convert_number w file (length out) ≡ cond b 10 0
    unfolding convert_number first_of
    room b h =
        first-append (way_conditions w file) _ (way_numbered w file) z
        ∙ ap (λ (c : Bool). cond c 10 0) (ap (ltb (length out)) (sym el) ∙ h)

    pub convert_short : length out < l → (answer 10 0 ≡ converted_of w file (length out)) × (out ≡ convert_output w file out)
    convert_short h = answer_refused (sym (room true (lt-ltb (length out) l h))) (λ q. omega arith)

    pub convert_written : l ≤ length out → (answer 0 l ≡ converted_of w file (length out)) × (sets out 0 (converted w file) ≡ convert_output w file out)
    unfolding converted_of convert_length convert_output over
    convert_written h =
        let e = room false (le-ltb (length out) l h) in
        let b : eqb (convert_number w file (length out)) 0 ≡ true = eq-eqb (convert_number w file (length out)) 0 e in (
          ap₂ answer (sym e) (el ∙ sym (ap (λ (c : Bool). cond c (length (converted w file)) 0) b)),
          sets-eq (converted w file) out 0 (omega arith)
              ∙ ap (λ (i : ℕ). converted w file ++ drop i out) (zero-add (length (converted w file)))
              ∙ sym (ap (λ (c : Bool). cond c (over (converted w file) out) out) b),
        )
