-- The round trips in the calls' own words: what one call wrote, the other is given. Assumes nothing.
use mathlib.Core.Path.{◌≡◌, refl, sym, ap, ◌∙◌, subst}
use mathlib.Core.Bool.{Bool, cond}
use mathlib.Core.List.{List}
use Prim.Native.Nat.{ℕ, ◌≤◌}
use native.Mathlib.Decide.{ℕ_discrete}
use lib.ListN.{length, take, drop}
use borrow.Author.Tests.{eq-eqb}
use Rattle.bits.specs.Bits.{Bytes, over}
use lib.Seq.{take-append_seam}
use Rattle.field.specs.Numbers.{first_of}
use Rattle.key.specs.Keys.{file_conditions}
use Rattle.network_key.specs.Files.{parse_network, network_conditions, to_network, from_network}
use Rattle.network_key.specs.Converting.{Way, into_network, out_of_network, converted, way_conditions, convert_number, convert_length, convert_output}
use Rattle.network_key.proofs.Convert as Convert
use Rattle.converting.specs.declared.Converted.{Converted}
use Rattle.converting.specs.Answers.{converted_of}
use Rattle.converting.proofs.Ways.{first_front, convert_written}

-- the bytes that a conversion writes to an output
abbrev pub written : Way → List ℕ → List ℕ → List ℕ
written w file out = take (convert_length w file (length out)) (convert_output w file out)

module _ (w : Way) (file out : List ℕ) where
  -- accepted: nothing refuses the file, and the other file is written
  none : convert_number w file (length out) ≡ 0 → first_of (way_conditions w file) ≡ 0
  unfolding convert_number
  none z = elim (ℕ_discrete (first_of (way_conditions w file)) 0) [
    | yes e ↦ e
    | no n ↦ absurd (n (sym (first_front (way_conditions w file) _ n) ∙ z))
  ]

  written-whole : convert_number w file (length out) ≡ 0 → written w file out ≡ converted w file
  unfolding convert_length convert_output over
  written-whole z =
      let b = eq-eqb (convert_number w file (length out)) 0 z in
      ap (λ (c : Bool). take (cond c (length (converted w file)) 0) (cond c (over (converted w file) out) out)) b
      ∙ take-append_seam (converted w file) (drop (length (converted w file)) out)

  -- room is all that an accepted file asks for
  room_enough : first_of (way_conditions w file) ≡ 0 → length (converted w file) ≤ length out → convert_number w file (length out) ≡ 0
  unfolding converted_of
  room_enough z h = sym (ap (λ (c : Converted). c.refused) (convert_written w file out z refl h).0)

-- Old to new and back gives the same bytes.
pub there_and_back : (file out back : List ℕ) → Bytes file → convert_number into_network file (length out) ≡ 0 → length file ≤ length back
    → (convert_number out_of_network (written into_network file out) (length back) ≡ 0) × (written out_of_network (written into_network file out) back ≡ file)
unfolding way_conditions converted
there_and_back file out back bytes z h =
    let e : first_of (file_conditions file) ≡ 0 = none into_network file out z in
    let same : from_network (to_network file) ≡ file = Convert.old_new_old file bytes e in
    let n : convert_number out_of_network (to_network file) (length back) ≡ 0 =
    room_enough out_of_network (to_network file) back (Convert.converted file e).0 (subst (λ (x : List ℕ). length x ≤ length back) (sym same) h) in
    rw (written-whole into_network file out z) (n, written-whole out_of_network (to_network file) back n ∙ same)

-- New to old and forward again keeps the key: support and g.
pub back_and_there : (file old out : List ℕ) → convert_number out_of_network file (length old) ≡ 0 → length (to_network (from_network file)) ≤ length out
    → (convert_number into_network (written out_of_network file old) (length out) ≡ 0)
    × (parse_network (written into_network (written out_of_network file old) out) ≡ parse_network file)
unfolding way_conditions converted
back_and_there file old out z h =
    let e : first_of (network_conditions file) ≡ 0 = none out_of_network file old z in
    let n : convert_number into_network (from_network file) (length out) ≡ 0 =
    room_enough into_network (from_network file) out (Convert.converted_back file e).0 h in
    rw (written-whole out_of_network file old z) (n, ap parse_network (written-whole into_network (from_network file) out n) ∙ Convert.new_old_new file e)
