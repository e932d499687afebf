-- What a device means. A reader must believe: a device is a state, what its open command has still to
-- move, and four fixed functions of the state.
use Rattle.std.specs.Prelude.{ℕ, ◌-◌, List, [], drop}
use Rattle.device.specs.declared.interface.Begun.{Begun}

-- what the open command has still to move
pub data Pending : Type 0 where
  -- no command is open
  shut : Pending
  -- a reading command: the bytes still to be handed out
  giving : List ℕ → Pending
  -- a writing command: how many bytes are still accepted
  taking : ℕ → Pending

pub record Machine : Type 1 where
  pub State : Type 0
  pub pending : State → Pending
  pub begun : ℕ → State → Begun × State
  pub given : ℕ → State → State
  pub taken : List ℕ → State → State
  pub ended : State → ℕ × State

-- the bytes still to be handed out
abbrev pub due : Pending → List ℕ
due shut = []
due (giving bytes) = bytes
due (taking n) = []

-- how many bytes are still accepted
abbrev pub room : Pending → ℕ
room shut = 0
room (giving bytes) = 0
room (taking n) = n

-- what is pending after n bytes were asked for
abbrev pub less_given : ℕ → Pending → Pending
less_given n shut = shut
less_given n (giving bytes) = giving (drop n bytes)
less_given n (taking m) = taking m

-- what is pending after n bytes were offered
abbrev pub less_taken : ℕ → Pending → Pending
less_taken n shut = shut
less_taken n (giving bytes) = giving bytes
less_taken n (taking m) = taking (m - n)
