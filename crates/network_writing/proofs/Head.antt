-- A network file's parts in front of its row, one after another. Assumes nothing.
use mathlib.Core.Path.{◌≡◌, sym, ap, ◌∙◌}
use mathlib.Core.List.{List, ◌++◌, flat_map, append_assoc}
use Prim.Native.Nat.{ℕ, ◌+◌, ◌-◌, ◌*◌, ◌/◌, ◌%◌, ◌^◌, ◌≤◌, ◌<◌}
use native.Mathlib.Omega.{arith}
use lib.ListN.{length, take, drop}
use lib.Seq.{sets, sets-eq}
use borrow.Rule.Slice.PartMut.{put_mid, Post-is}
use Rattle.bits.specs.Bits.{bytes_for}
use Rattle.key.specs.Keys.{two_bytes}
use Rattle.key.proofs.Parse.{length_bytes}
use Rattle.key_write.proofs.Sets.{sets_append, two_long}
use Rattle.network.specs.Network.{switches}
use Rattle.network_key.specs.Files.{four_bytes}
use Rattle.network_file.proofs.Digits.{switches_small}

-- the second list behind the first
pub sets_behind : (o : List ℕ) (at : ℕ) (xs ys : List ℕ) (b : ℕ) → b ≡ at + length xs → sets (sets o at xs) b ys ≡ sets o at (xs ++ ys)
sets_behind o at xs ys b e = ap (λ (k : ℕ). sets (sets o at xs) k ys) e ∙ sets_append o at xs ys

-- the part from `at` to e is lent, and comes back as ys
pub sets_part : (l ys : List ℕ) (at e : ℕ) → at ≤ e → e ≤ length l → length ys ≡ e - at → put_mid at (e - at) l ys ≡ sets l at ys
sets_part l ys at e h b q =
    let d : e ≡ at + length ys = omega arith in
    ap (λ (z : List ℕ). take at l ++ (ys ++ z)) (Post-is at e l h ∙ ap (λ (i : ℕ). drop i l) d)
    ∙ sym (sets-eq ys l at (omega arith) ∙ append_assoc (take at l) ys (drop (at + length ys) l))

pub sets_four : (o : List ℕ) (at x : ℕ) → sets (sets o at (two_bytes (x % 65536))) (at + 2) (two_bytes (x / 65536)) ≡ sets o at (four_bytes x)
unfolding four_bytes
sets_four o at x = sets_behind o at (two_bytes (x % 65536)) (two_bytes (x / 65536)) (at + 2) (omega (arith, two_long (x % 65536)))

pub sets_head : (o : List ℕ) (n t c : ℕ) (g : List ℕ) → length g ≡ t
    → sets (sets (sets (sets o 1 (two_bytes n)) 3 (two_bytes t)) 5 (flat_map two_bytes g)) (5 + 2 * t) (four_bytes c)
    ≡ sets o 1 (two_bytes n ++ (two_bytes t ++ (flat_map two_bytes g ++ four_bytes c)))
sets_head o n t c g e =
    let b : List ℕ = flat_map two_bytes g in
    let o₂ : List ℕ = sets o 1 (two_bytes n) in
    sets_behind (sets o₂ 3 (two_bytes t)) 5 b (four_bytes c) (5 + 2 * t) (omega (arith, length_bytes g, e))
    ∙ sets_behind o₂ 3 (two_bytes t) (b ++ four_bytes c) 5 (omega (arith, two_long t))
    ∙ sets_behind o 1 (two_bytes n) (two_bytes t ++ (b ++ four_bytes c)) 3 (omega (arith, two_long n))

-- the bit count has four bytes
pub count_small : (m : ℕ) → m < 14 → switches m < 2 ^ 32
unfolding bytes_for
count_small m h = omega (arith, switches_small m h)
