-- Terms of the laws and of private contracts: lists as permutations and as tables. Assumes nothing.
use Rattle.std.specs.Prelude.{◌≡◌, List, ℕ, ◌<◌, length, get_or}
use Rattle.network.specs.Network.{val}

-- the list s has each number below n once
pub record Each (n : ℕ) (s : List ℕ) : Type 0 where
  pub size : length s ≡ n
  pub below : (x : ℕ) → x < n → val s x < n
  pub once : (x y : ℕ) → x < n → y < n → val s x ≡ val s y → x ≡ y

-- s holds the values of f below n
abbrev pub Tab : ℕ → List ℕ → (ℕ → ℕ) → Type 0
Tab n s f = (x : ℕ) → x < n → get_or s x 0 ≡ f x

abbrev pub at : List ℕ → ℕ → ℕ
at s x = get_or s x 0
