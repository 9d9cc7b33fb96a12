-- Loads that are refused alike and have the same key hand back the same. Assumes nothing.
use Prim.Native.Nat.{ℕ, zero, suc}
use mathlib.Core.Path.{◌≡◌, refl, ap, ◌∙◌}
use mathlib.Core.Bool.{Bool, true, false}
use mathlib.Core.List.{List, [], ◌∷◌}
use Rattle.field.specs.Numbers.{first_of}
use Rattle.key.specs.Keys as Keys
use Rattle.key.specs.Kept.{keep}
use Rattle.ledger.specs.Slot.{held_by, Result}
use Rattle.ledger.specs.Slot as Definition
use Rattle.ledger.specs.Loading.{Loading, loading_conditions, loaded_key}
use Rattle.ledger.specs.Calls.{Call, load, conditions_of, output_of, no_answer, made, unless, step}
use Rattle.slot.specs.Replies.{byte_of, view, moved, reply_of, Handed, handed}
use Rattle.slot.specs.declared.Slot.{Slot}

first_behind : (b : Bool) (n : ℕ) (cs ds : List (Bool × ℕ)) → first_of cs ≡ first_of ds → first_of ((b, n) ∷ cs) ≡ first_of ((b, n) ∷ ds)
unfolding first_of
first_behind true n cs ds e = refl
first_behind false n cs ds e = e

module _ (s : Slot) where
  -- what a call hands back, by its number
  unfoldable by : ℕ → Call → Handed
  by n c =
      let r : Result = unless n (view s) c (made (view s) c) in
      record { reply = reply_of r.number s (moved s c) r.count; answer = r.answer; output = r.output; free = r.free }

  same_key : (n : ℕ) (f g : Loading) → loaded_key f ≡ loaded_key g → by n (load f) ≡ by n (load g)
  unfolding by unless made moved output_of no_answer reply_of
  same_key zero f g e =
      ap (λ (k : Keys.Key). record { reply = reply_of 0 s (record { state = byte_of Definition.loaded; key = keep k }) 0; answer = []; output = []; free = 0 }) e
  same_key (suc n) f g e = refl

  pub loads_alike : (f g : Loading) → first_of (loading_conditions f) ≡ first_of (loading_conditions g) → loaded_key f ≡ loaded_key g
      → handed s (load f) ≡ handed s (load g)
  unfolding by handed step conditions_of
  loads_alike f g e k = ap (λ (n : ℕ). by n (load f)) (first_behind _ 22 _ _ e) ∙ same_key _ f g k
