-- 25 and 34, with which the numbers of publish and of every call that opens begin. Assumes nothing.
use Prim.Native.Nat.{ℕ}
use mathlib.Core.Path.{◌≡◌}
use mathlib.Core.Bool.{Bool, true, false}
use mathlib.Core.List.{List, ◌∷◌}
use Rattle.field.specs.Numbers.{first_of}
use Rattle.field.proofs.Numbers.{first-clear}
use Rattle.key.specs.Keys.{Key, reducible}

-- neither holds, nor one of the others
pub record Exchangeable (bad : Bool) (k : Key) (others : List (Bool × ℕ)) : Type 0 where
  pub sound : bad ≡ false
  pub irreducible : reducible k ≡ false
  pub rest : first_of others ≡ 0

pub exchangeable : (bad : Bool) (k : Key) (others : List (Bool × ℕ)) → first_of ((bad, 25) ∷ (reducible k, 34) ∷ others) ≡ 0 → Exchangeable bad k others
exchangeable bad k others e =
    let c25 = first-clear _ 24 _ e in
    let c34 = first-clear _ 33 _ c25.1 in
    record { sound = c25.0; irreducible = c34.0; rest = c34.1 }

-- a sound key: 34 where it is reducible, else the number of the others
pub exchange_refused : (bad : Bool) (k : Key) (others : List (Bool × ℕ)) → bad ≡ false → reducible k ≡ true → first_of ((bad, 25) ∷ (reducible k, 34) ∷ others) ≡ 34
unfolding first_of
exchange_refused bad k others s r = rw (s, r)

pub exchange_others : (bad : Bool) (k : Key) (others : List (Bool × ℕ)) → bad ≡ false → reducible k ≡ false → first_of ((bad, 25) ∷ (reducible k, 34) ∷ others) ≡ first_of others
unfolding first_of
exchange_others bad k others s r = rw (s, r)
