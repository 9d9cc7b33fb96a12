-- What the call answers: a refusal, or the register. Assumes nothing.
use mathlib.Core.Path.{◌≡◌, refl, sym, ap, ap₂}
use mathlib.Core.List.{List}
use Prim.Native.Nat.{ℕ, zero, suc}
use lib.ListN.{replicate}
use Rattle.poly.specs.Register.{longest, register, register_number}
use Rattle.register.specs.Registered.{registered, registered_of}
use Rattle.register.specs.declared.Registered.{Registered}

module _ (m : ℕ) (s : List ℕ) where
  pub refused : (n : ℕ) → n ≡ register_number m s → (n ≡ 0 → ⊥)
      → ◌≡◌ {A = Registered} record { refused = n; length = 0; c = replicate 257 0 } (registered_of m s)
  unfolding registered_of registered longest
  refused zero e h = absurd (h refl)
  refused (suc n) e h = ap (λ (k : ℕ). registered k (register m s)) e

  pub found : {l : ℕ} {c : List ℕ} → l ≡ (register m s).l → c ≡ (register m s).c
      → ◌≡◌ {A = Registered} record { refused = 0; length = l; c = c } (registered 0 (register m s))
  unfolding registered
  found h k = ap₂ (λ (l : ℕ) (c : List ℕ). record { refused = 0; length = l; c = c }) h k

  pub answered : register_number m s ≡ 0 → registered 0 (register m s) ≡ registered_of m s
  unfolding registered_of
  answered e = ap (λ (k : ℕ). registered k (register m s)) (sym e)
