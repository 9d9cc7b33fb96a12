-- The forms of publish: the conditions once a key is held, what is written, and which bytes are free. Assumes nothing.
use Rattle.std.specs.Prelude.{ℕ, Bool, List}
use Rattle.bits.specs.Bits.{over}
use Rattle.key.specs.Keys.{Key}
use Rattle.code.specs.PublicKey.{public_key, written}
use Rattle.code.specs.Publish.{work_bytes, small_bytes, publish_conditions_within, free_bytes_within}
use Rattle.ledger.specs.Slot.{Held}

-- document 01's publish: output, workspace; request L9's with a small workspace
pub data Publishing : Type 0 where
  systematic : List ℕ → List ℕ → Publishing
  small : List ℕ → List ℕ → Publishing

-- the buffer that is written to
unfoldable pub public_buffer : Publishing → List ℕ
public_buffer (systematic out work) = out
public_buffer (small out work) = out

-- the workspace that is lent
unfoldable pub work_buffer : Publishing → List ℕ
work_buffer (systematic out work) = work
work_buffer (small out work) = work

-- the bytes of workspace that the form needs
unfoldable pub needed_bytes : Key → Publishing → ℕ
needed_bytes k (systematic out work) = work_bytes k
needed_bytes k (small out work) = small_bytes k

-- 25, 34, 10, 11, 23
unfoldable pub publishing_conditions : Held → Publishing → List (Bool × ℕ)
publishing_conditions h p = publish_conditions_within (needed_bytes h.key p) h.unsound h.key (public_buffer p) (work_buffer p)

-- T from the output's start
unfoldable pub publication : Key → Publishing → List ℕ
publication k p = over (written (public_key k)) (public_buffer p)

-- the free bytes of the workspace, once 25, 34, 10 and 11 have passed
unfoldable pub freed_bytes : Key → Publishing → ℕ
freed_bytes k p = free_bytes_within (needed_bytes k p) k (public_buffer p) (work_buffer p)
