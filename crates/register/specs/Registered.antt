-- What the public call answers for a list, a register or a refusal, and the code's state as Figure 1's. Assumes nothing.
use Rattle.std.specs.Prelude.{ℕ, zero, suc, ◌+◌, List, replicate}
use Rattle.poly.specs.Register.{Register, longest, register, register_number}
use Rattle.register.specs.declared.Registered.{Registered}
use Rattle.register.specs.declared.Step.{Step}

-- the code's state as Figure 1's
abbrev pub figure : List ℕ → List ℕ → Step → Register
figure c b k = record { c = c; l = k.l; b = b; d = k.d; y = k.y }

-- the register where the number is 0, else the refusal with that number
unfoldable pub registered : ℕ → Register → Registered
registered zero r = record { refused = 0; length = r.l; c = r.c }
registered (suc n) r = record { refused = suc n; length = 0; c = replicate (longest + 1) 0 }

-- what the call answers
unfoldable pub registered_of : ℕ → List ℕ → Registered
registered_of m s = registered (register_number m s) (register m s)
