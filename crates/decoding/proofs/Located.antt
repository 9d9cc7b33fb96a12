-- The coefficients and the places of a register, as the code holds them. Assumes nothing.
use mathlib.Core.Path.{◌≡◌, ap, ap₂, ◌∙◌}
use mathlib.Core.List.{List, [], map, map-map}
use Prim.Native.Nat.{ℕ, ◌-◌, ◌≤◌, ◌<◌}
use native.Mathlib.Nat.{zero-add}
use native.Mathlib.Omega.{arith}
use lib.ListN.{length, get_or, take}
use Rattle.bits.specs.Bits.{padded}
use Rattle.bits.proofs.Lists.{length-map-from, map-from-at}
use Rattle.field.specs.Poly.{value}
use Rattle.field.proofs.Arrays.{every-elements}
use Rattle.poly.specs.Polynomials.{monic, values_at}
use Rattle.poly.specs.Register.{register, register_number}
use Rattle.register.specs.Registered.{registered, registered_of}
use Rattle.register.specs.declared.Registered.{Registered}
use Rattle.poly.proofs.Answers.{accepted}
use Rattle.poly.proofs.AtPoints.{take_values}
use Rattle.poly.proofs.RegisterLaws.{register-length}
use Rattle.key.specs.Keys.{key_of}
use Rattle.decoder.specs.Decoding.{backward, reversed, places}
use Rattle.decoding.specs.Parts.{mark, packed}
use Rattle.bits.proofs.Padded.{take-padded}

module _ (c : List ℕ) (l : ℕ) where
  pub length-backward : length (backward c l) ≡ l
  unfolding backward
  length-backward = length-map-from (λ i. get_or c (l - i) 0) 0 l

  pub backward-at : (i : ℕ) → i < l → get_or (backward c l) i 0 ≡ get_or c (l - i) 0
  unfolding backward
  backward-at i h = map-from-at (λ i. get_or c (l - i) 0) 0 l i 0 h ∙ ap (λ (j : ℕ). get_or c (l - j) 0) (zero-add i)

-- what the register's call answers for a list that it takes
module _ (m : ℕ) (s : List ℕ) (z : register_number m s ≡ 0) (r : Registered) (e : r ≡ registered_of m s) where
  answer : r ≡ record { refused = 0; length = (register m s).l; c = (register m s).c }
  unfolding registered_of registered
  answer = e ∙ ap (λ (x : ℕ). registered x (register m s)) z

  pub register_few : r.length ≤ 256
  register_few =
      let a = accepted m s z in
      let l = register-length m a.0 s (every-elements m s a.2) a.1 in
      omega (arith, ap (λ (x : Registered). x.length) answer, l.0)

  -- the marks of the values at the support are the places
  pub marks_places : (support q v : List ℕ) → length support ≤ 8192 → q ≡ padded 256 (backward r.c r.length)
      → v ≡ values_at m (take r.length q) support
      → packed (map mark (take (length support) v)) ≡ packed (places (key_of m support []) (register m s))
  unfolding places reversed backward key_of mark
  marks_places support q v h eq ev =
      let whole : take r.length q ≡ reversed (register m s) =
      ap (take r.length) eq ∙ take-padded 256 (backward r.c r.length) r.length (length-backward r.c r.length)
      ∙ ap₂ backward (ap (λ (x : Registered). x.c) answer) (ap (λ (x : Registered). x.length) answer) in
      ap (λ (x : List ℕ). packed (map mark x))
      (ap (take (length support)) (ev ∙ ap (λ (g : List ℕ). values_at m g support) whole)
      ∙ take_values m (accepted m s z).0 (reversed (register m s)) support h)
      ∙ ap packed (map-map mark (value m (monic (reversed (register m s)))) support)
