-- The questions: calls that leave the station. For each form its buffer, its conditions once a key is held, and its answer.
-- Assumes nothing.
use Rattle.std.specs.Prelude.{ℕ, Bool, List, [], length}
use Rattle.bits.specs.Bits.{unpack, pack, ones, over}
use Rattle.key.specs.Keys.{Key}
use Rattle.code.specs.Publish.{capsule_bits}
use Rattle.decoder.specs.Reading.{reading, opening}
use Rattle.decoder.specs.Calls.{found, open_conditions, read_conditions}
use Rattle.marks.specs.Marked.{differences, marked_reading, marked_conditions}
use Rattle.records.specs.Records.{records_of, counts_of, report_conditions}
use Rattle.session.specs.Session.{session_key, session_conditions}
use Rattle.ledger.specs.Slot.{Held}

-- open: capsule, output; read: word, output; marked reading: word, marks, output; report: capsules back to back, record buffer;
-- session key: capsule, secret
pub data Question : Type 0 where
  open_capsule : List ℕ → List ℕ → Question
  read_word : List ℕ → List ℕ → Question
  read_marked : List ℕ → List ℕ → List ℕ → Question
  report : List ℕ → List ℕ → Question
  derive_session_key : List ℕ → List ℕ → Question

-- the buffer that is written to; a session key has none
unfoldable pub answer_buffer : Question → List ℕ
answer_buffer (open_capsule capsule out) = out
answer_buffer (read_word word out) = out
answer_buffer (read_marked word marks out) = out
answer_buffer (report capsules records) = records
answer_buffer (derive_session_key capsule secret) = []

-- open 25, 34, 24, 8, 9, 10, 13; read 25, 8, 9, 10, 14; marked reading 25, 8, 9, 37, 10, 14; report 25, 34, 24, 31; session key
-- 25, 34, 24, 8, 9, 33
unfoldable pub question_conditions : Held → Question → List (Bool × ℕ)
question_conditions h (open_capsule capsule out) = open_conditions h.unsound h.unpublished h.key capsule out
question_conditions h (read_word word out) = read_conditions h.unsound h.key word out
question_conditions h (read_marked word marks out) = marked_conditions h.unsound h.key word marks out
question_conditions h (report capsules records) = report_conditions h.unsound h.unpublished h.key capsules (length records)
question_conditions h (derive_session_key capsule secret) = session_conditions h.unsound h.unpublished h.key capsule secret

-- What is answered: the output buffer, the number of ones counted, and what the form answers besides.
pub record Given : Type 0 where
  pub output : List ℕ
  pub count : ℕ
  pub answer : List ℕ

-- the pattern e written, and its ones that count
unfoldable pub gives : (List ℕ → ℕ) → List ℕ → List ℕ → Given
gives counted e out = record { output = over (pack e) out; count = counted e; answer = [] }

-- the pattern for a capsule; the pattern for a word; that for a marked word, whose ones count at unmarked places; the records of the
-- capsules, and how often each byte value is among them; the 32 bytes of the session key
unfoldable pub given : Key → Question → Given
given k (open_capsule capsule out) = gives ones (found (opening k (unpack (capsule_bits k) capsule))) out
given k (read_word word out) = gives ones (found (reading k (unpack k.n word))) out
given k (read_marked word marks out) =
    gives (differences (unpack k.n marks)) (found (marked_reading k (unpack k.n word) (unpack k.n marks))) out
given k (report capsules records) =
    record { output = over (records_of k capsules) records; count = 0; answer = counts_of (records_of k capsules) }
given k (derive_session_key capsule secret) = record { output = []; count = 0; answer = session_key k capsule secret }

-- how many numbers a form answers besides: zeros where it is refused
unfoldable pub answer_size : Question → ℕ
answer_size (open_capsule capsule out) = 0
answer_size (read_word word out) = 0
answer_size (read_marked word marks out) = 0
answer_size (report capsules records) = 256
answer_size (derive_session_key capsule secret) = 32
