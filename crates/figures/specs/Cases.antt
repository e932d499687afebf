-- Worked cases. A reader must believe: these are the answers that the rules give.
use Rattle.std.specs.Prelude.{◌≡◌, ℕ, ◌/◌, ◌%◌, true, List, [], ◌∷◌, ◌++◌, replicate, Some, None, Err, Option, slice_set}
use Rattle.format.specs.declared.ccw.Format.TheVariants.{Zero}
use Rattle.format.specs.declared.refusal.Refusal.TheVariants.{TransferMisplaced, CodeInvalid}
use Rattle.format.specs.declared.status.StatusWord.{StatusWord}
use Rattle.format.specs.StatusWords.{status_bytes}
use Rattle.rules.specs.TakingUp.{taken_up}
use Rattle.channel.specs.Steps.{World, status_of, started, advanced, word_of}
use Rattle.console.specs.ConsoleMachine.{at_first, console_machine}

-- five bytes wait on the console
abbrev pub five : List ℕ
five = 0x48 ∷ 0x45 ∷ 0x4C ∷ 0x4C ∷ 0x4F ∷ []

-- a CCW at 000100: read (0A) into 000200
abbrev pub read_program : ℕ → List ℕ
read_program count = slice_set (slice_set (slice_set (slice_set (replicate 1024 0) 0x100 0x0A) 0x102 0x02) 0x106 (count / 256)) 0x107 (count % 256)

abbrev pub on_console : List ℕ → World console_machine
on_console storage = record { storage = storage; state = at_first five; run = started 0x100 }

-- the status word after one CCW
abbrev pub read_answer : ℕ → Option StatusWord
read_answer count = word_of (advanced console_machine Zero 1 (on_console (read_program count))).1.run

-- the CCW 0A with CD and a count of 2, and behind it a CCW with code 00 and a count of 3
abbrev pub chained : List ℕ
chained = replicate 256 0 ++ ((0x0A ∷ 0 ∷ 0x02 ∷ 0 ∷ 0x80 ∷ 0 ∷ 0 ∷ 2 ∷ []) ++ ((0 ∷ 0 ∷ 0x02 ∷ 2 ∷ 0 ∷ 0 ∷ 0 ∷ 3 ∷ []) ++ replicate 752 0))

-- a TIC, and a CCW with code 00, as the first CCW
abbrev pub transfer_first : List ℕ
transfer_first = slice_set (slice_set (replicate 1024 0) 0x100 0x08) 0x107 1

abbrev pub zero_first : List ℕ
zero_first = slice_set (replicate 1024 0) 0x107 1

pub record WorkedCases : Type 0 where
  -- a count of 8 on a line of 5: incorrect length, residual 3
  pub too_long : read_answer 8 ≡ Some (status_of 0x108 0x0C 0x40 3)
  pub too_long_bytes : status_bytes (status_of 0x108 0x0C 0x40 3) ≡ 0x00 ∷ 0x00 ∷ 0x01 ∷ 0x08 ∷ 0x0C ∷ 0x40 ∷ 0x00 ∷ 0x03 ∷ []
  -- a count of 5
  pub exact : read_answer 5 ≡ Some (status_of 0x108 0x0C 0x00 0)
  pub exact_bytes : status_bytes (status_of 0x108 0x0C 0x00 0) ≡ 0x00 ∷ 0x00 ∷ 0x01 ∷ 0x08 ∷ 0x0C ∷ 0x00 ∷ 0x00 ∷ 0x00 ∷ []
  -- the first CCW a TIC breaks rule 3
  pub transfer : taken_up Zero transfer_first (record { address = 0x100; first = true; command = None }) ≡ Err (record { refusal = TransferMisplaced 0x100; ccw = 0x100 })
  -- code 00 after CD is accepted, and both CCWs run to the end
  pub after_chain : word_of (advanced console_machine Zero 5 (on_console chained)).1.run ≡ Some (status_of 0x110 0x0C 0x00 0)
  pub two_ran : (advanced console_machine Zero 5 (on_console chained)).0 ≡ 2
  -- as the first CCW it breaks rule 4
  pub zero : taken_up Zero zero_first (record { address = 0x100; first = true; command = None }) ≡ Err (record { refusal = CodeInvalid 0x100; ccw = 0x100 })
