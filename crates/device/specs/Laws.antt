-- The laws of a device. A reader must believe that these are the points asked of every device.
use Rattle.std.specs.Prelude.{◌≡◌, ℕ, ◌+◌, ◌≤◌, Bool, true, false, List, [], ◌++◌, length, take, ◌≢◌}
use Rattle.format.specs.Classes.{class_of, reads_storage}
use Rattle.device.specs.declared.interface.Begun.{Begun}
use Rattle.device.specs.declared.interface.Begun.TheVariants.{Immediate, Open}
use Rattle.device.specs.Machine.{Machine, Pending, shut, giving, taking, due, room, less_given, less_taken}

-- what is pending after an answer: nothing after an immediate one; for a reading code exactly `most` bytes,
-- which is the least too; for a writing code room for `most`
abbrev pub Opened : Bool → Begun → Pending → Type 0
Opened reads (Immediate status) p = p ≡ shut
Opened true (Open least most) p = (least ≡ most) × ((bytes : List ℕ) × (p ≡ giving bytes) × (length bytes ≡ most))
Opened false (Open least most) p = p ≡ taking most

pub record Laws (m : Machine) : Type 0 where
  -- with a command open, begin answers status 10 and changes nothing
  pub busy : (code : ℕ) (s : m.State) → (m.pending s ≢ shut) → m.begun code s ≡ (Immediate 0x10, s)
  pub opens : (code : ℕ) (s : m.State) → m.pending s ≡ shut → Opened (reads_storage (class_of code)) (m.begun code s).0 (m.pending (m.begun code s).1)
  -- give drops what it hands out, and nothing else that is pending
  pub give_drops : (n : ℕ) (s : m.State) → m.pending (m.given n s) ≡ less_given n (m.pending s)
  pub give_none : (s : m.State) → m.given 0 s ≡ s
  -- a bytes in full and then b is a + b
  pub give_parts : (a b : ℕ) (s : m.State) → a ≤ length (due (m.pending s)) → m.given b (m.given a s) ≡ m.given (a + b) s
  -- more than is left is what is left
  pub give_past : (n : ℕ) (s : m.State) → length (due (m.pending s)) ≤ n → m.given n s ≡ m.given (length (due (m.pending s))) s
  -- take fills the room, and changes nothing else that is pending
  pub take_fills : (bytes : List ℕ) (s : m.State) → m.pending (m.taken bytes s) ≡ less_taken (length bytes) (m.pending s)
  pub take_none : (s : m.State) → m.taken [] s ≡ s
  pub take_parts : (a b : List ℕ) (s : m.State) → length a ≤ room (m.pending s) → m.taken b (m.taken a s) ≡ m.taken (a ++ b) s
  pub take_past : (bytes : List ℕ) (s : m.State) → m.taken bytes s ≡ m.taken (take (room (m.pending s)) bytes) s
  -- end closes the command; with none open it answers 00 and the state stays
  pub end_idle : (s : m.State) → m.pending s ≡ shut → m.ended s ≡ (0, s)
  pub end_closes : (s : m.State) → m.pending (m.ended s).1 ≡ shut
