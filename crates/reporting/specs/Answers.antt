-- What report answers. Assumes nothing.
use Rattle.std.specs.Prelude.{ℕ, Bool, List}
use Rattle.key.specs.Keys.{Key}
use Rattle.records.specs.Records.{report_number, report_counts}
use Rattle.reporting.specs.declared.Counted.{Counted}

-- the number, and the counts
unfoldable pub report_answer : Bool → Key → List ℕ → List ℕ → Counted
report_answer unpublished k capsules records =
    record { refused = report_number unpublished k capsules records; counts = report_counts unpublished k capsules records }
