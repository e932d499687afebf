-- A device: a model and what every device shares. A reader must believe: the sense byte, the answers to the
-- codes 03 and 04, to a model's faults and to calls out of turn are as here, and all else is the model's.
use Rattle.std.specs.Prelude.{ℕ, zero, suc, Bool, true, false, cond, List, [], ◌∷◌, Ok, Err, Result, ◌==◌}
use Rattle.device.specs.declared.interface.Begun.{Begun}
use Rattle.device.specs.declared.interface.Begun.TheVariants.{Immediate, Open}
use Rattle.device.specs.Machine.{Machine, Pending, shut, giving}
use Rattle.unit.specs.Core.{Core, is_open}
use Rattle.unit.specs.declared.model.Fault.{Fault}
use Rattle.unit.specs.declared.state.Sensing.{Sensing}
use Rattle.unit.specs.declared.state.Sensing.TheVariants.{Closed, Unread, Read}

pub record UnitState (c : Core) : Type 0 where
  pub sense : ℕ
  -- the sense command: closed, or open with the sense byte still unread, or read
  pub sensing : Sensing
  pub core : c.State

-- at first: sense 00, and no sense command open
abbrev pub unit_at_first : (c : Core) → c.State → UnitState c
unit_at_first c own = record { sense = 0x00; sensing = Closed; core = own }

abbrev pub with_sensing : (c : Core) → Sensing → UnitState c → UnitState c
with_sensing c now_sensing u = record { sense = u.sense; sensing = now_sensing; core = u.core }

abbrev pub with_core : (c : Core) → c.State → UnitState c → UnitState c
with_core c own u = record { sense = u.sense; sensing = u.sensing; core = own }

-- whether the model has a command open
abbrev pub core_open : (c : Core) → UnitState c → Bool
core_open c u = is_open (c.pending u.core)

-- an open sense command has the sense byte to hand out, once
abbrev pub sense_pending : Sensing → ℕ → Pending
sense_pending Closed byte = shut
sense_pending Unread byte = giving (byte ∷ [])
sense_pending Read byte = giving []

abbrev pub sense_given : ℕ → Sensing → Sensing
sense_given n Closed = Closed
sense_given zero Unread = Unread
sense_given (suc n) Unread = Read
sense_given n Read = Read

-- what a program hears of the start of a model's command; of a fault, its status
abbrev pub answer_to : Result Begun Fault → Begun
answer_to (Ok begun) = begun
answer_to (Err fault) = Immediate fault.status

-- the status at the end of a model's command
abbrev pub status_of : Result ℕ Fault → ℕ
status_of (Ok status) = status
status_of (Err fault) = fault.status

-- the sense byte after the start or the end of a model's command: only a fault sets it
abbrev pub sense_after : {A : Type 0} → Result A Fault → ℕ → ℕ
sense_after (Ok answer) before = before
sense_after (Err fault) before = fault.sense

-- any other code than 03 and 04 is the model's
abbrev pub begin_core : (c : Core) → ℕ → UnitState c → Begun × UnitState c
begin_core c code u = (
  answer_to (c.started code u.core).0,
  record { sense = sense_after (c.started code u.core).0 u.sense; sensing = u.sensing; core = (c.started code u.core).1 },
)

-- 03: status 0C; 04: opens with the sense byte
abbrev pub begin_idle : (c : Core) → ℕ → UnitState c → Begun × UnitState c
begin_idle c code u =
    cond (code == 0x03) (Immediate 0x0C, u) (
    cond (code == 0x04) (Open 1 1, with_sensing c Unread u) (begin_core c code u))

-- with a sense command open: status 10, and nothing changes
abbrev pub begin_sensing : (c : Core) → Sensing → ℕ → UnitState c → Begun × UnitState c
begin_sensing c Closed code u = begin_idle c code u
begin_sensing c Unread code u = (Immediate 0x10, u)
begin_sensing c Read code u = (Immediate 0x10, u)

-- with no sense command open: status 00, and the state stays; the end of a sense command clears the sense byte
abbrev pub end_sensing : (c : Core) → Sensing → UnitState c → ℕ × UnitState c
end_sensing c Closed u = (0x00, u)
end_sensing c Unread u = (0x0C, record { sense = 0x00; sensing = Closed; core = u.core })
end_sensing c Read u = (0x0C, record { sense = 0x00; sensing = Closed; core = u.core })

-- each of the next five begins with whether the model has a command open

-- the open command is the model's, or else the sense command
abbrev pub pending_by : (c : Core) → Bool → UnitState c → Pending
pending_by c true u = c.pending u.core
pending_by c false u = sense_pending u.sensing u.sense

-- with the model's command open: status 10, and nothing changes
abbrev pub begun_by : (c : Core) → Bool → ℕ → UnitState c → Begun × UnitState c
begun_by c true code u = (Immediate 0x10, u)
begun_by c false code u = begin_sensing c u.sensing code u

abbrev pub given_by : (c : Core) → Bool → ℕ → UnitState c → UnitState c
given_by c true n u = with_core c (c.given n u.core) u
given_by c false n u = with_sensing c (sense_given n u.sensing) u

abbrev pub taken_by : (c : Core) → Bool → List ℕ → UnitState c → UnitState c
taken_by c true bytes u = with_core c (c.taken bytes u.core) u
taken_by c false bytes u = u

-- the end of the model's command leaves no command open
abbrev pub ended_by : (c : Core) → Bool → UnitState c → ℕ × UnitState c
ended_by c true u = (
  status_of (c.ended u.core).0,
  record { sense = sense_after (c.ended u.core).0 u.sense; sensing = Closed; core = (c.ended u.core).1 },
)
ended_by c false u = end_sensing c u.sensing u

abbrev pub unit_machine : Core → Machine
unit_machine c = record {
  State = UnitState c;
  pending = λ u. pending_by c (core_open c u) u;
  begun = λ code u. begun_by c (core_open c u) code u;
  given = λ n u. given_by c (core_open c u) n u;
  taken = λ bytes u. taken_by c (core_open c u) bytes u;
  ended = λ u. ended_by c (core_open c u) u;
}
