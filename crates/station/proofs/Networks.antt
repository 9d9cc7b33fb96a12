-- Request L7: the load of a network file holds the key that the load of the converted file would hold. Assumes nothing.
use Prim.Native.Nat.{ℕ}
use mathlib.Core.Path.{◌≡◌, refl, sym, ap, ◌∙◌}
use mathlib.Core.List.{List}
use mathlib.Core.Option.{Option, none, some}
use Rattle.field.specs.Numbers.{first_of}
use Rattle.key.specs.Keys.{file_conditions}
use Rattle.network_key.specs.Files.{network_conditions, to_network, from_network}
use Rattle.network_key.proofs.Convert.{converted, converted_back}
use Rattle.ledger.specs.Slot.{Outcome}
use Rattle.ledger.specs.Loading.{Loading, key_file, network_file, loading_conditions, loaded_key}
use Rattle.ledger.specs.Calls.{load, output_of, no_answer}
use Rattle.slot.specs.Replies.{outcome_of}
use Rattle.slot.specs.Replies as Slots
use Rattle.slot.proofs.Alike as Alike
use Rattle.recipients.specs.Names.{Name, name_of, named}
use Rattle.recipients.specs.Recipients.{unknown, within, called}
use Rattle.station.specs.Replies.{slot_of, put, handed}
use Rattle.station.specs.declared.Station.{Station}

loads_alike : (s : Station) (b : ℕ) (f g : Loading) → first_of (loading_conditions f) ≡ first_of (loading_conditions g) → loaded_key f ≡ loaded_key g
    → handed s (named b (load f)) ≡ handed s (named b (load g))
unfolding handed called unknown output_of no_answer
loads_alike s b f g e k = go (name_of b)
  where
    of : Loading → Option Name → Outcome Station
    of f x = elim x [ none ↦ unknown s (load f) | some x ↦ within (λ t. put x t s) (outcome_of (Slots.handed (slot_of x s) (load f))) ]

    go : (x : Option Name) → of f x ≡ of g x
    go none = refl
    go (some x) = ap (λ h. within (λ t. put x t s) (outcome_of h)) (Alike.loads_alike (slot_of x s) f g e k)

-- an accepted network file, and the old file that it is converted to: the same reply on every station, under every name
pub network_load : (s : Station) (b : ℕ) (file : List ℕ) → first_of (network_conditions file) ≡ 0
    → handed s (named b (load (network_file file))) ≡ handed s (named b (load (key_file (from_network file))))
unfolding loading_conditions loaded_key
network_load s b file e =
    let c = converted_back file e in
    loads_alike s b (network_file file) (key_file (from_network file)) (e ∙ sym c.0) (sym c.1)

-- an accepted old file, and the network file that it is converted to
pub converted_load : (s : Station) (b : ℕ) (file : List ℕ) → first_of (file_conditions file) ≡ 0
    → handed s (named b (load (key_file file))) ≡ handed s (named b (load (network_file (to_network file))))
unfolding loading_conditions loaded_key
converted_load s b file e =
    let c = converted file e in
    loads_alike s b (key_file file) (network_file (to_network file)) (e ∙ sym c.0) (sym c.1)
