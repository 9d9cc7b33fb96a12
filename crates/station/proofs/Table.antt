-- Document 01's rows and the other tables hold of the station's calls that name a recipient, whatever the other slot holds, and the
-- list of calls over both has its answers. Assumes nothing.
use mathlib.Core.Path.{◌≡◌, sym, ap, ◌∙◌}
use mathlib.Core.List.{List, map}
use Rattle.ledger_tables.proofs.Table.{answers}
use Rattle.ledger_tables.proofs.TableOf.{Tables, tables_hold}
use Rattle.slot.proofs.StepView.{code_simulates}
use Rattle.slot.proofs.Table.{stored, view-stored}
use Rattle.recipients.specs.Names.{Name, NamedCall}
use Rattle.recipients.specs.Recipients.{recipient, definitions}
use Rattle.recipients.specs.Apart.{transcript}
use Rattle.recipients.proofs.Simulation.{recipient_simulates}
use Rattle.recipients.proofs.SameAnswers.{same_answers, rows_answers}
use Rattle.recipients.proofs.Table.{story, calls}
use Rattle.recipients.proofs.Table as Definitions
use Rattle.station.specs.Replies.{put, fresh_station, handed, code}
use Rattle.station.specs.declared.Station.{Station}
use Rattle.station.proofs.Demands.{code_slotted}

-- the tables, with the slot of x put into any station
pub station_tables : (x : Name) (t : Station) → Tables (recipient code x) (λ s. put x (stored s) t)
station_tables x t =
    tables_hold (recipient code x) (λ s. put x (stored s) t) (recipient_simulates code code_slotted code_simulates x)
    (λ s h. ap code.slots.view (code_slotted.got x (stored s) t) ∙ view-stored s h)

-- every list of calls is answered as by the definitions
pub same_transcripts : (cs : List NamedCall) → transcript handed fresh_station cs ≡ transcript definitions.call definitions.fresh cs
same_transcripts cs = same_answers code code_slotted code_simulates cs

pub story_holds : answers handed fresh_station calls ≡ map (λ r. r.1) story
story_holds =
    rows_answers handed fresh_station calls
    ∙ ap (map _) (same_transcripts calls)
    ∙ sym (rows_answers definitions.call definitions.fresh calls)
    ∙ (Definitions.story_holds).0
