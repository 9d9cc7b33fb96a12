-- What a call that names A hands back is what the definitions say of the slot of A. Assumes nothing.
use mathlib.Core.Path.{◌≡◌}
use Rattle.ledger.specs.Slot.{fresh}
use Rattle.ledger.specs.Calls.{Call, step}
use Rattle.ledger.proofs.Simulation.{Simulates}
use Rattle.ledger.proofs.Simulation as Simulation
use Rattle.slot.proofs.StepView.{code_simulates}
use Rattle.recipients.specs.Names.{A, naming}
use Rattle.recipients.specs.Recipients.{recipient}
use Rattle.recipients.proofs.Simulation.{recipient_simulates}
use Rattle.station.specs.Replies.{slot_of, fresh_station, handed, reply_of, code}
use Rattle.station.specs.declared.Station.{Station}
use Rattle.station.proofs.Demands.{code_slotted}
use Rattle.opener.specs.Prepared.{slot_a, reply_a}

shows : Simulates (recipient code A)
shows = recipient_simulates code code_slotted code_simulates A

pub fresh_shown : slot_a fresh_station ≡ fresh
unfolding slot_of
fresh_shown = shows.fresh

module _ (s : Station) (c : Call) where
  pub same_number : (reply_a s c).refused ≡ (step (slot_a s) c).number
  unfolding slot_of reply_of
  same_number = Simulation.same_number (recipient code A) shows s c

  pub same_slot : slot_a (reply_a s c).station ≡ (step (slot_a s) c).station
  unfolding slot_of reply_of
  same_slot = Simulation.same_station (recipient code A) shows s c

  pub same_output : (handed s (naming A c)).output ≡ (step (slot_a s) c).output
  unfolding slot_of
  same_output = Simulation.same_output (recipient code A) shows s c

  pub same_answer : (handed s (naming A c)).answer ≡ (step (slot_a s) c).answer
  unfolding slot_of
  same_answer = Simulation.same_answer (recipient code A) shows s c
