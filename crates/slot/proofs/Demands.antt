-- The three demands of the code's calls, and in their own words; the import report; the session keys; marked reading; the exchange
-- keys; publish with the small workspace. Assumes nothing.
use Rattle.ledger.specs.Demands.{Demands}
use Rattle.ledger.specs.OwnWords.{OwnWords}
use Rattle.ledger.specs.Reports.{ImportReport}
use Rattle.ledger.specs.Sessions.{SessionKeys}
use Rattle.ledger.specs.Marks.{MarkedReading}
use Rattle.ledger.specs.Exchange.{ExchangeKeys}
use Rattle.ledger.specs.SmallPublish.{SmallPublish}
use Rattle.ledger.proofs.Simulation as Simulation
use Rattle.ledger.proofs.OwnWords as Words
use Rattle.ledger.proofs.Reports as Reports
use Rattle.ledger.proofs.Sessions as Sessions
use Rattle.ledger.proofs.Marks as Marks
use Rattle.ledger.proofs.Exchange as Exchange
use Rattle.ledger.proofs.SmallPublish as Small
use Rattle.slot.specs.Replies.{code}
use Rattle.slot.proofs.StepView.{code_simulates}

pub demands : Demands code
demands = Simulation.demands code code_simulates

pub own_words : OwnWords code
own_words = Words.own_words code code_simulates

pub import_report : ImportReport code
import_report = Reports.import_report code code_simulates

pub session_keys : SessionKeys code
session_keys = Sessions.session_keys code code_simulates

pub marked_readings : MarkedReading code
marked_readings = Marks.marked_readings code code_simulates

pub exchange_keys : ExchangeKeys code
exchange_keys = Exchange.exchange_keys code code_simulates

pub small_publish : SmallPublish code
small_publish = Small.small_publish code code_simulates
