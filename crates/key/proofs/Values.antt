-- The values of g at a list of places, and whether one is 0. Assumes nothing.
use mathlib.Core.Path.{◌≡◌, refl, ap, ◌∙◌}
use mathlib.Core.Bool.{Bool, not, ◌&&◌}
use mathlib.Core.List.{List, [], ◌∷◌, map}
use Prim.Native.Nat.{ℕ, ◌≤◌}
use lib.Dec.{eqb}
use lib.ListN.{length, take, replicate}
use Rattle.bits.specs.Bits.{every}
use Rattle.field.specs.Poly.{value}
use Rattle.field.proofs.Table.{Width}
use Rattle.poly.specs.Polynomials.{monic, each_value, values_at}
use Rattle.poly.proofs.AtPoints.{take_values, take_each}
use Rattle.key.specs.Keys.{goppa_at, key_of}
use Rattle.key.specs.Parts.{no_root}

every_map : (p : ℕ → Bool) (h : ℕ → ℕ) (s : List ℕ) → every p (map h s) ≡ every (λ a. p (h a)) s
unfolding every
every_map p h [] = refl
every_map p h (a ∷ s) = ap (◌&&◌ (p (h a))) (every_map p h s)

-- g at the places
pub values_goppa : (m : ℕ) → Width m → (s g : List ℕ) → length s ≤ 8192 → take (length s) (values_at m g s) ≡ map (goppa_at (key_of m s g)) s
unfolding goppa_at key_of
values_goppa m w s g h = take_values m w g s h

-- whether one of them is 0
root_map : (m : ℕ) (g s : List ℕ) {v : List ℕ} → v ≡ map (value m (monic g)) s → every (λ x. not (eqb x 0)) v ≡ no_root m g s
unfolding no_root
root_map m g s e = ap (every (λ x. not (eqb x 0))) e ∙ every_map (λ x. not (eqb x 0)) (value m (monic g)) s

pub values_root : (m : ℕ) → Width m → (g s : List ℕ) → length s ≤ 8192 → every (λ x. not (eqb x 0)) (take (length s) (values_at m g s)) ≡ no_root m g s
values_root m w g s h = root_map m g s (take_values m w g s h)

pub few_root : (m : ℕ) → Width m → (g s : List ℕ) (k : ℕ) → length s ≤ k → every (λ x. not (eqb x 0)) (take (length s) (each_value m g (replicate k 1) s)) ≡ no_root m g s
few_root m w g s k h = root_map m g s (take_each m w g s k h)
