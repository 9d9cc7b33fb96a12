-- What the program's calls answer: a key file that is loaded and published, and the text in its parts. Assumes nothing.
use Rattle.std.specs.Prelude.{Bool, cond, ◌&&◌, List, [], ◌++◌, ℕ, zero, suc, eqb, take}
use Rattle.key.specs.Shapes.{in_limits}
use Rattle.key.specs.Keys.{Key}
use Rattle.ledger.specs.Slot.{Slot}
use Rattle.ledger.specs.Loading.{key_file}
use Rattle.ledger.specs.Publishing.{systematic}
use Rattle.ledger.specs.Calls.{Call, load, publish}
use Rattle.slot.specs.Replies.{view}
use Rattle.recipients.specs.Names.{A, naming}
use Rattle.station.specs.Replies.{fresh_station, handed, reply_of}
use Rattle.station.specs.declared.Station.{Station}
use Rattle.station.specs.declared.Reply.{Reply}
use Rattle.opener.specs.Report.{too_large, key_refused, newline, decimal, room, opened, large}
use Rattle.opener.specs.declared.KeyAnswer.{KeyAnswer}
use Rattle.opener.specs.declared.KeyAnswer.TheVariants.{Accepted, Refused, TooLarge}
use Rattle.opener.specs.declared.Ready.{Ready}

-- the slot of A, and the reply to a call that names A, as all calls of the program do
abbrev pub slot_a : Station → Slot
slot_a s = view s.a

abbrev pub reply_a : Station → Call → Reply
reply_a s c = reply_of (handed s (naming A c))

-- accepted where the number is 0, else refused with it
unfoldable pub key_answer : ℕ → KeyAnswer
key_answer zero = Accepted
key_answer (suc n) = Refused (suc n)

-- the station that a call hands back, and its number as an answer
unfoldable pub ready_of : Reply → Ready
ready_of r = record { station = r.station; answer = key_answer r.refused }

-- after loading: a key that load accepts is published, with room for T and its workspace
unfoldable pub published_after : Reply → Ready
published_after r = cond (eqb r.refused 0) (ready_of (reply_a r.station (publish (systematic room room)))) (ready_of r)

-- of a whole key file
unfoldable pub prepared_whole : List ℕ → Ready
prepared_whole file = cond (large file) (record { station = fresh_station; answer = TooLarge }) (published_after (reply_a fresh_station (load (key_file file))))

-- of the file its first 4,096 bytes
unfoldable pub prepared : List ℕ → Ready
prepared file = prepared_whole (take 4096 file)

-- `key refused` and the number, `key too large`, or the text that follows an accepted key
unfoldable pub key_text : KeyAnswer → List ℕ → List ℕ
key_text Accepted text = text
key_text (Refused n) text = (key_refused ++ decimal n) ++ newline
key_text TooLarge text = too_large

-- m is 4, and the shape is within its limits
unfoldable pub is_four : Key → Bool
is_four k = eqb k.m 4 && in_limits 4 k.n k.t

-- the lines of the capsules in the input's first 65,536 bytes, and the total; nothing under a key of another shape
unfoldable pub capsule_lines : Slot → List ℕ → List ℕ
capsule_lines s input = cond (is_four s.key) (opened s (take 65536 input)) []
