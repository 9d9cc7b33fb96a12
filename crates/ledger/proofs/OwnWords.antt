-- A system whose calls show what the definitions' calls hand back meets the demands in their own words. Assumes nothing.
use Rattle.ledger.specs.Systems.{System, definitions}
use Rattle.ledger.specs.OwnWords.{OwnWords}
use Rattle.ledger.proofs.Simulation.{Simulates, definitions_simulate}
use Rattle.ledger.proofs.LocksOpens.{locks_and_opens}
use Rattle.ledger.proofs.CodeWords.{reads_code_words}
use Rattle.ledger.proofs.Loads.{holds_the_load, holds_the_mark}

pub own_words : (sys : System) → Simulates sys → OwnWords sys
own_words sys sim =
    record {
      locks_and_opens = locks_and_opens sys sim;
      reads_code_words = reads_code_words sys sim;
      holds_the_load = holds_the_load sys sim;
      holds_the_mark = holds_the_mark sys sim;
    }

-- the definitions themselves
pub definitions_own_words : OwnWords definitions
definitions_own_words = own_words definitions definitions_simulate
