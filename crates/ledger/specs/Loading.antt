-- The forms of load: the conditions of what is loaded, and its key. Assumes nothing.
use Rattle.std.specs.Prelude.{ℕ, Bool, List}
use Rattle.key.specs.Keys.{Key, parse, file_conditions}
use Rattle.network_key.specs.Files.{parse_network, network_conditions}

-- document 01's key file; request L7's, which stores the support as a switching network
pub data Loading : Type 0 where
  key_file : List ℕ → Loading
  network_file : List ℕ → Loading

-- 1 to 7; for a network file with 36 behind 2
unfoldable pub loading_conditions : Loading → List (Bool × ℕ)
loading_conditions (key_file file) = file_conditions file
loading_conditions (network_file file) = network_conditions file

-- the key that is kept
unfoldable pub loaded_key : Loading → Key
loaded_key (key_file file) = parse file
loaded_key (network_file file) = parse_network file
