-- The channel as a machine over storage, device and run. A reader must believe: what one step is, how a
-- broken rule and a halt end a program, and what up to k steps are.
use Rattle.std.specs.Prelude.{◌≡◌, ℕ, zero, suc, ◌+◌, ◌%◌, ◌^◌, ◌<◌, ◌≤◌, Bool, true, false, cond, List, [], ◌∷◌, Some, None, Ok, Err, Option, Result, ◌≢◌, slice_index}
use Rattle.format.specs.declared.ccw.Format.{Format}
use Rattle.format.specs.declared.status.StatusWord.{StatusWord}
use Rattle.device.specs.Machine.{Machine}
use Rattle.rules.specs.declared.place.Broken.{Broken}
use Rattle.rules.specs.TakingUp.{Cell, taken_up}
use Rattle.channel.specs.declared.run.Next.{Next}
use Rattle.channel.specs.declared.run.Next.TheVariants.{Data, Command, End}
use Rattle.channel.specs.declared.run.Run.{Run}
use Rattle.channel.specs.declared.run.Run.TheVariants.{Running, Ended}
use Rattle.channel.specs.Moves.{lay, addresses_of, gathered, done}

pub record World (m : Machine) : Type 0 where
  pub storage : List ℕ
  pub state : m.State
  pub run : Run

abbrev pub status_of : ℕ → ℕ → ℕ → ℕ → StatusWord
status_of address device subchannel residual = record { ccw_address = address; device_status = device; subchannel_status = subchannel; residual = residual }

-- a program at its start address, with none in force
abbrev pub started : ℕ → Run
started address = Running (record { address = address; first = true; command = None }) 0

-- the run after the CCW at a, with this code in force
abbrev pub onwards : ℕ → ℕ → Next → Run
onwards a code (Data owed) = Running (record { address = a + 8; first = false; command = Some code }) owed
onwards a code Command = Running (record { address = a + 8; first = false; command = None }) 0
onwards a code (End device subchannel residual) = Ended (status_of (a + 8) device subchannel residual)

-- a CCW that was taken up
abbrev pub ran : (m : Machine) → Cell → ℕ → List ℕ → m.State → World m
ran m t owed storage s =
    let o = done m t owed (gathered t storage) s in
    record { storage = lay (addresses_of t) o.stored storage; state = o.state; run = onwards t.ccw.address t.code o.next }

-- the end of a command that this program began: only such a one counts as open
abbrev pub closed : (m : Machine) → Option ℕ → m.State → ℕ × m.State
closed m None s = (0, s)
closed m (Some command) s = m.ended s

-- a broken rule: a program check, 8 above the CCW or TIC taken up; addresses have 32 bits
abbrev pub checked : (m : Machine) → Option ℕ → ℕ → List ℕ → m.State → World m
checked m command ccw storage s = record { storage = storage; state = (closed m command s).1; run = Ended (status_of ((ccw + 8) % 2 ^ 32) (closed m command s).0 0x20 0) }

abbrev pub stepped_as : (m : Machine) → Option ℕ → ℕ → List ℕ → m.State → Result Cell Broken → World m
stepped_as m command owed storage s (Ok t) = ran m t owed storage s
stepped_as m command owed storage s (Err e) = checked m command e.ccw storage s

abbrev pub stepped_from : (m : Machine) → Format → List ℕ → m.State → Run → World m
stepped_from m F storage s (Running place owed) = stepped_as m place.command owed storage s (taken_up F storage place)
stepped_from m F storage s (Ended status) = record { storage = storage; state = s; run = Ended status }

-- one step; an ended program stays as it is
abbrev pub stepped : (m : Machine) → Format → World m → World m
stepped m F w = stepped_from m F w.storage w.state w.run

abbrev pub is_ended : Run → Bool
is_ended (Running place owed) = false
is_ended (Ended status) = true

-- an address that is none of these
abbrev pub Apart : ℕ → List ℕ → Type 0
Apart a [] = Unit {0}
Apart a (x ∷ xs) = (x ≢ a) × Apart a xs

-- what a step may change of storage: with a broken rule nothing, else bytes of the area of the CCW taken up
abbrev pub ChangedFor : Result Cell Broken → List ℕ → List ℕ → Type 0
ChangedFor (Err e) before after = after ≡ before
ChangedFor (Ok t) before after = (a : ℕ) → Apart a (addresses_of t) → slice_index after a ≡ slice_index before a

abbrev pub ChangesOnlyArea : Format → Run → List ℕ → List ℕ → Type 0
ChangesOnlyArea F (Running place owed) before after = ChangedFor (taken_up F before place) before after
ChangesOnlyArea F (Ended status) before after = after ≡ before

-- n steps
unfoldable pub steps : (m : Machine) → Format → ℕ → World m → World m
steps m F zero w = w
steps m F (suc n) w = steps m F n (stepped m F w)

-- up to k steps: how many were taken, and what they leave
unfoldable pub advanced : (m : Machine) → Format → ℕ → World m → ℕ × World m
advanced m F zero w = (0, w)
advanced m F (suc k) w =
    let rest = advanced m F k (stepped m F w) in
    cond (is_ended w.run) (0, w) (suc rest.0, rest.1)

-- what the count says: it is at most k, what is left is that many steps, each was taken by a running program, and
-- fewer than k only where the program ended
pub record Counted (m : Machine) (F : Format) (k : ℕ) (before : World m) (count : ℕ) (after : World m) : Type 0 where
  pub bounded : count ≤ k
  pub taken : after ≡ steps m F count before
  pub running : (j : ℕ) → j < count → is_ended (steps m F j before).run ≡ false
  pub early : count < k → is_ended after.run ≡ true

-- a halt: subchannel status 00, no residual, 8 above the last CCW run, or 0 if none was; a place that is not the
-- first stands 8 above the last CCW run
abbrev pub halted_from : (m : Machine) → List ℕ → m.State → Run → World m
halted_from m storage s (Running place owed) = record {
  storage = storage;
  state = (closed m place.command s).1;
  run = Ended (status_of (cond place.first 0 place.address) (closed m place.command s).0 0 0);
}
halted_from m storage s (Ended status) = record { storage = storage; state = s; run = Ended status }

abbrev pub halted : (m : Machine) → World m → World m
halted m w = halted_from m w.storage w.state w.run

abbrev pub word_of : Run → Option StatusWord
word_of (Running place owed) = None
word_of (Ended status) = Some status
