-- Under the bytes that publish wrote, the calls lock and open undo each other. Assumes nothing.
use Prim.Native.Nat.{ℕ}
use mathlib.Core.Path.{◌≡◌, sym, ap, ◌∙◌}
use mathlib.Core.Bool.{false}
use mathlib.Core.List.{List, flat_map}
use mathlib.Core.Option.{some}
use lib.ListN.{take}
use Rattle.bits.specs.Bits.{bytes_for, pack, over}
use Rattle.bits.proofs.Padded.{over_first}
use Rattle.bits.proofs.Pack.{row_unpack, take-over, well_formed-length}
use Rattle.key.specs.Keys.{Key, key_number, reducible}
use Rattle.code.specs.PublicKey.{Matrix, public_key}
use Rattle.code.specs.Publish.{capsule_bits}
use Rattle.code.proofs.LockLaws.{lock-written, output_written, pattern_formed}
use Rattle.ledger.specs.Slot.{published, Outcome}
use Rattle.ledger.specs.Calls.{publish}
use Rattle.ledger.specs.Systems.{System}
use Rattle.ledger.specs.Demands.{at, capsule_of, lock_answer, pattern_of, RoundTrips}
use Rattle.ledger.specs.OwnWords.{capsule_in, Undo, LocksAndOpens}
use Rattle.ledger.proofs.Demand2.{capsule_row}
use Rattle.ledger.proofs.Found.{Publishes, publish_found}
use Rattle.ledger.proofs.Simulation.{Simulates, same_number, demands}

-- what an accepted lock wrote is the capsule
wrote : (k : Key) (rows : Matrix) → key_number k ≡ 0 → public_key k ≡ some rows → (pattern buffer : List ℕ) → lock_answer k rows pattern buffer ≡ 0
    → capsule_in k (flat_map pack rows) pattern buffer ≡ capsule_of k rows pattern
wrote k rows good public pattern buffer e =
    let l = lock-written k rows good public pattern in
    ap (take (bytes_for (capsule_bits k))) (output_written k.m k.n k.t (flat_map pack rows) pattern buffer e ∙ ap (λ (b : List ℕ). over b buffer) l)
    ∙ take-over (capsule_row k rows good public (row_unpack k.n pattern)) buffer
    ∙ sym l

module _ (sys : System) (sim : Simulates sys) where
  undo : (k : Key) (rows : Matrix) → key_number k ≡ 0 → reducible k ≡ false → public_key k ≡ some rows → (s : sys.Stations) → sys.view s ≡ at published k
      → Undo sys k (flat_map pack rows) s
  undo k rows good irreducible public s v =
      let d : RoundTrips sys k rows = (demands sys sim).demand_2 k rows good irreducible public in
      record {
        lock_open = λ pattern buffer out bytes e long.
            let f = pattern_formed k.m k.n k.t (flat_map pack rows) pattern buffer e in
            let o = d.locked_opened s pattern out v bytes f.0 f.1 long in
            rw (wrote k rows good public pattern buffer e) (
              ap (λ (r : Outcome sys.Stations). r.number) o,
              ap (λ (r : Outcome sys.Stations). r.count) o,
              ap (λ (r : Outcome sys.Stations). take (bytes_for k.n) r.output) o
                  ∙ over_first pattern out (bytes_for k.n) (well_formed-length k.n pattern f.0),
            );
        open_lock = λ capsule out buffer bytes e room.
            let n = d.opened_locks s capsule out buffer v e room in
            (n, wrote k rows good public (pattern_of sys k s capsule out) buffer n ∙ d.opened_locked s capsule out v bytes e);
      }

  pub locks_and_opens : LocksAndOpens sys
  unfolding at
  locks_and_opens p form e =
      let f : Publishes (sys.view p) = publish_found (sys.view p) form (sym (same_number sys sim p (publish form)) ∙ e) in
      let k : Key = (sys.view p).key in
      let w = ((demands sys sim).demand_2 k f.rows f.good f.irreducible f.public).public p form f.held e in
      (ap sys.view (sim.marks p form e) ∙ sim.marked p, λ s v. rw w (undo k f.rows f.good f.irreducible f.public s v))
