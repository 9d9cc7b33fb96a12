-- Request L6: the two recipients' names, calls that name one, and lists of such calls. Assumes nothing.
use Rattle.std.specs.Prelude.{ℕ, zero, suc, Bool, not, cond, List, [], ◌∷◌, map, eqb}
use Rattle.std.proofs.Math.Option.{Option, none, some}
use Rattle.ledger.specs.Calls.{Call}

pub data Name : Type 0 where
  A B : Name

-- the byte of a name
unfoldable pub byte_of : Name → ℕ
byte_of A = 1
byte_of B = 2

-- the name of a byte: 1 is A, 2 is B, and no other is a name
unfoldable pub name_of : ℕ → Option Name
name_of zero = none
name_of (suc zero) = some A
name_of (suc (suc zero)) = some B
name_of (suc (suc (suc b))) = none

-- a call, and the byte by which it names a recipient
pub record NamedCall : Type 0 where
  pub name : ℕ
  pub call : Call

abbrev pub named : ℕ → Call → NamedCall
named b c = record { name = b; call = c }

-- the call c that names x
abbrev pub naming : Name → Call → NamedCall
naming x c = named (byte_of x) c

-- whether a call names x
unfoldable pub names : Name → NamedCall → Bool
names x c = eqb c.name (byte_of x)

-- the elements of a list of which p holds
unfoldable pub keep : {X : Type 0} → (X → Bool) → List X → List X
keep p [] = []
keep p (x ∷ xs) = let rest : List _ = keep p xs in cond (p x) (x ∷ rest) rest

-- a list of calls without those that name x
abbrev pub leave_out : Name → List NamedCall → List NamedCall
leave_out x calls = keep (λ c. not (names x c)) calls

-- the calls that name x, as calls of its slot
abbrev pub calls_of : Name → List NamedCall → List Call
calls_of x calls = map (λ c. c.call) (keep (names x) calls)
