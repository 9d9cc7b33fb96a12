-- What converting answers. Assumes nothing.
use Rattle.std.specs.Prelude.{ℕ, List}
use Rattle.network_key.specs.Converting.{Way, convert_number, convert_length}
use Rattle.converting.specs.declared.Converted.{Converted}

-- the number, and how many bytes are written to an output of so many
unfoldable pub converted_of : Way → List ℕ → ℕ → Converted
converted_of w file room = record { refused = convert_number w file room; length = convert_length w file room }
