-- The parts of one slot become zeros. Assumes nothing.
use mathlib.Core.Path.{ap₂, ◌∙◌}
use mathlib.Core.List.{List}
use Prim.Native.Nat.{ℕ}
use Rattle.key.specs.Kept.{parts, no_key}
use Rattle.slot.specs.Replies.{byte_of, fresh_slot}
use Rattle.station.proofs.Picked.{put_first, put_second}
use Rattle.station.proofs.Station.cleared.Goals as goal

pub returns-then-name-eq-A : goal.returns-then-name-eq-A
unfolding fresh_slot byte_of no_key
returns-then-name-eq-A c =
    let a = c.args in
    ap₂ (λ (x y : List ℕ). record { a = record { state = 0; key = parts 0 0 0 x y }; b = a.self.b }) c.clear_places.ensures c.clear_coefficients.ensures
    ∙ put_first a.name fresh_slot a.self c.if-name-eq-A.true

pub returns-else-name-eq-A : goal.returns-else-name-eq-A
unfolding fresh_slot byte_of no_key
returns-else-name-eq-A c =
    let a = c.args in
    ap₂ (λ (x y : List ℕ). record { a = a.self.a; b = record { state = 0; key = parts 0 0 0 x y } }) c.clear_places-else-name-eq-A.ensures c.clear_coefficients-else-name-eq-A.ensures
    ∙ put_second a.name fresh_slot a.self c.if-name-eq-A.false
