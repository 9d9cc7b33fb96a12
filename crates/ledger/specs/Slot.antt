-- Document 01, 'Station': what keeps one key, from request L6 on a slot of the station; what a call's numbers look at, and what a
-- call hands back. Assumes nothing.
use Rattle.std.specs.Prelude.{ℕ, Bool, true, false, List, []}
use Rattle.key.specs.Keys.{Key, unsound}

-- the three states of a slot
pub data State : Type 0 where
  empty loaded published : State

-- a state and the key that is kept; an empty slot keeps the key of no size
pub record Slot : Type 0 where
  pub state : State
  pub key : Key

-- the key of no size
unfoldable pub empty_key : Key
empty_key = record { m = 0; n = 0; t = 0; support = []; g = [] }

-- a fresh slot is empty
unfoldable pub fresh : Slot
fresh = record { state = empty; key = empty_key }

-- What the numbers look at besides a call's arguments: whether 21, 25 and 24 hold, and the key.
pub record Held : Type 0 where
  pub missing : Bool
  pub unsound : Bool
  pub unpublished : Bool
  pub key : Key

-- no key is loaded: 21
unfoldable pub is_empty : State → Bool
is_empty empty = true
is_empty loaded = false
is_empty published = false

-- the key is not published: 24
unfoldable pub is_unpublished : State → Bool
is_unpublished empty = true
is_unpublished loaded = true
is_unpublished published = false

-- of a slot: 25 holds where load would not accept the kept key
unfoldable pub held_by : Slot → Held
held_by s =
    let bad : Bool = unsound s.key in
    record { missing = is_empty s.state; unsound = bad; unpublished = is_unpublished s.state; key = s.key }

-- What a call hands back: the new station, its number (0: accepted), the output buffer, the number of ones written, of a marked reading
-- those at unmarked places, what the call's form answers besides, and how many of the first bytes of publish's workspace have free
-- contents; all behind them are unchanged.
pub record Outcome (S : Type 0) : Type 0 where
  pub station : S
  pub number : ℕ
  pub output : List ℕ
  pub count : ℕ
  pub answer : List ℕ
  pub free : ℕ

abbrev pub Result : Type 0
Result = Outcome Slot
