-- Document 01, 'Bench keys', as key files. Assumes nothing.
use Rattle.std.specs.Prelude.{ℕ, List, [], ◌∷◌}
use Rattle.bits.specs.Bits.{from}
use Rattle.key.specs.Keys.{file_of}

-- n 6, t 1, g the unknown itself
unfoldable pub K1 : List ℕ
K1 = 0x04 ∷ 0x06 ∷ 0x00 ∷ 0x01 ∷ 0x00 ∷ 0x09 ∷ 0x00 ∷ 0x0D ∷ 0x00 ∷ 0x0F ∷ 0x00 ∷ 0x0E ∷ 0x00 ∷ 0x0B ∷ 0x00 ∷ 0x01 ∷ 0x00 ∷ 0x00 ∷ 0x00 ∷ []

-- m 4, n 16, t 2, support 0 to 15 in order, g_0 8, g_1 1
unfoldable pub K2 : List ℕ
K2 = file_of (record { m = 4; n = 16; t = 2; support = from 0 16; g = 8 ∷ 1 ∷ [] })

-- K1 with another support
unfoldable pub K1-with : List ℕ → List ℕ
K1-with support = file_of (record { m = 4; n = 6; t = 1; support = support; g = 0 ∷ [] })

unfoldable pub K3 : List ℕ
K3 = K1-with (1 ∷ 14 ∷ 9 ∷ 13 ∷ 15 ∷ 11 ∷ [])
