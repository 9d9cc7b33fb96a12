-- The key that is kept: arrays whose first n and t numbers are the key's. Assumes nothing.
use Rattle.std.specs.Prelude.{ℕ, List, take, replicate}
use Rattle.bits.specs.Bits.{padded}
use Rattle.key.specs.Keys as Keys
use Rattle.key.specs.declared.shape.Sizes.{Sizes}
use Rattle.key.specs.declared.kept.Key.{Key}

-- a kept key by its parts
abbrev pub parts : ℕ → ℕ → ℕ → List ℕ → List ℕ → Key
parts m n t support g = record { m = m; n = n; t = t; support = support; g = g }

-- the key of a kept one
unfoldable pub kept : Key → Keys.Key
kept k = record { m = k.m; n = k.n; t = k.t; support = take k.n k.support; g = take k.t k.g }

-- the kept key of a key, with zeros past n and past t
unfoldable pub keep : Keys.Key → Key
keep k = record { m = k.m; n = k.n; t = k.t; support = padded 8192 k.support; g = padded 128 k.g }

-- zeros only
unfoldable pub no_key : Key
no_key = record { m = 0; n = 0; t = 0; support = replicate 8192 0; g = replicate 128 0 }

-- the shape of a key
unfoldable pub sizes_of : Keys.Key → Sizes
sizes_of k = record { m = k.m; n = k.n; t = k.t }
