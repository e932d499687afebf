-- The laws of a model. A reader must believe that these are what a device's laws ask of its own commands.
use Rattle.std.specs.Prelude.{◌≡◌, ℕ, ◌+◌, ◌≤◌, Bool, List, [], ◌++◌, length, take, Ok, Err, Result}
use Rattle.format.specs.Classes.{class_of, reads_storage}
use Rattle.device.specs.declared.interface.Begun.{Begun}
use Rattle.device.specs.Machine.{Pending, shut, due, room, less_given, less_taken}
use Rattle.device.specs.Laws.{Opened}
use Rattle.unit.specs.declared.model.Fault.{Fault}
use Rattle.unit.specs.Core.{Core}

-- what is pending after an answer: nothing after a fault, and else what the laws of a device ask
abbrev pub OpenedOwn : Bool → Result Begun Fault → Pending → Type 0
OpenedOwn reads (Ok begun) p = Opened reads begun p
OpenedOwn reads (Err fault) p = p ≡ shut

pub record CoreLaws (c : Core) : Type 0 where
  pub opens : (code : ℕ) (s : c.State) → c.pending s ≡ shut → OpenedOwn (reads_storage (class_of code)) (c.started code s).0 (c.pending (c.started code s).1)
  -- give drops what it hands out, and nothing else that is pending
  pub give_drops : (n : ℕ) (s : c.State) → c.pending (c.given n s) ≡ less_given n (c.pending s)
  pub give_none : (s : c.State) → c.given 0 s ≡ s
  -- a bytes in full and then b is a + b
  pub give_parts : (a b : ℕ) (s : c.State) → a ≤ length (due (c.pending s)) → c.given b (c.given a s) ≡ c.given (a + b) s
  -- more than is left is what is left
  pub give_past : (n : ℕ) (s : c.State) → length (due (c.pending s)) ≤ n → c.given n s ≡ c.given (length (due (c.pending s))) s
  -- take fills the room, and changes nothing else that is pending
  pub take_fills : (bytes : List ℕ) (s : c.State) → c.pending (c.taken bytes s) ≡ less_taken (length bytes) (c.pending s)
  pub take_none : (s : c.State) → c.taken [] s ≡ s
  pub take_parts : (a b : List ℕ) (s : c.State) → length a ≤ room (c.pending s) → c.taken b (c.taken a s) ≡ c.taken (a ++ b) s
  pub take_past : (bytes : List ℕ) (s : c.State) → c.taken bytes s ≡ c.taken (take (room (c.pending s)) bytes) s
  pub end_closes : (s : c.State) → c.pending (c.ended s).1 ≡ shut
