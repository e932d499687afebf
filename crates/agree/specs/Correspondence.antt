-- Two runs of one program: the host's channel on the program frame, in format 1 and with host addresses, and a channel
-- on the guest's own bytes, in format 0. A reader must believe: what it means that the two stand at the same place, and
-- that this is all that a guest could tell apart.
use Rattle.std.specs.Prelude.{◌≡◌, ℕ, ◌+◌, ◌*◌, ◌<◌, ◌≤◌, Bool, true, false, ◌⊎◌, List, length, take, None, Ok, slice_index}
use Rattle.format.specs.declared.status.StatusWord.{StatusWord}
use Rattle.device.specs.Machine.{Machine}
use Rattle.rules.specs.declared.place.Place.{Place}
use Rattle.walk.specs.SoundTrails.{cell}
use Rattle.walk.specs.Walks.{Trail, goes_on, carried}
use Rattle.channel.specs.declared.run.Run.{Run}
use Rattle.channel.specs.declared.run.Run.TheVariants.{Running, Ended}
use Rattle.channel.specs.Steps.{World, status_of}
use Rattle.map.specs.Places.{page_size, place_of}
use Rattle.map.specs.Views.{guest_bytes}
use Rattle.translate.specs.Frames.{frame_of}
use Rattle.translate.specs.Translations.{accepted, ccw_addresses, guest_ccw}

-- a host of whole frames, at most 256, in which every frame of a map lies
pub record Holds (fs : List ℕ) (free : ℕ → Bool) (host : List ℕ) : Type 0 where
  pub count : ℕ
  pub most : count ≤ 256
  pub whole : length host ≡ count * page_size
  pub listed : (page : ℕ) → page < length fs → slice_index fs page < count
  pub spare : (frame : ℕ) → free frame ≡ true → frame < count

-- a translated program: its frame stands in frame 0, and the guest's bytes still hold it
pub record Loaded (fs : List ℕ) (free : ℕ → Bool) (start : ℕ) (w : Trail) (host : List ℕ) : Type 0 where
  pub holds : Holds fs free host
  pub frame : take page_size host ≡ frame_of (place_of fs) w
  pub program : accepted (guest_bytes fs host) start ≡ Ok w

-- both at the start: the host's channel at cell 0, the other at the start address
pub record AtStart (start : ℕ) (host direct : Place) : Type 0 where
  pub host_is : host ≡ record { address = 0; first = true; command = None }
  pub direct_is : direct ≡ record { address = start; first = true; command = None }

-- both behind cell i, which goes on, with the command that it leaves in force
pub record Behind (w : Trail) (host direct : Place) : Type 0 where
  pub index : ℕ
  pub within : index < length w.cells
  pub goes : goes_on (cell w.cells index) ≡ true
  pub host_is : host ≡ record { address = 8 * index + 8; first = false; command = carried (cell w.cells index) }
  pub direct_is : direct ≡ record { address = (cell w.cells index).ccw.address + 8; first = false; command = carried (cell w.cells index) }

-- a status word of the host's channel as the guest gets it: its CCW address by the back table, all else as it is
abbrev pub guest_status : List ℕ → StatusWord → StatusWord
guest_status back s = status_of (guest_ccw back s.ccw_address) s.device_status s.subchannel_status s.residual

-- no program check
abbrev pub Unchecked : Run → Type 0
Unchecked (Running place owed) = Unit {0}
Unchecked (Ended status) = status.subchannel_status ≡ 0x20 → ⊥

-- both go on, from corresponding places with the same command in force and as many bytes owed; or both have ended, with
-- the same status word but for the CCW address, which the back table turns into the guest's
abbrev pub Meeting : ℕ → Trail → Run → Run → Type 0
Meeting start w (Running host owed) (Running direct owed') = (owed ≡ owed') × (AtStart start host direct ⊎ Behind w host direct)
Meeting start w (Running host owed) (Ended direct) = ⊥
Meeting start w (Ended host) (Running direct owed') = ⊥
Meeting start w (Ended host) (Ended direct) = (guest_status (ccw_addresses w.cells) host ≡ direct) × Unchecked (Ended direct)

pub record Corresponding (m : Machine) (fs : List ℕ) (free : ℕ → Bool) (start : ℕ) (w : Trail) (host direct : World m) : Type 0 where
  pub loaded : Loaded fs free start w host.storage
  -- the guest sees its own bytes
  pub bytes : guest_bytes fs host.storage ≡ direct.storage
  pub device : host.state ≡ direct.state
  pub runs : Meeting start w host.run direct.run

-- storage, device and run as one
abbrev pub world : (m : Machine) → List ℕ → m.State → Run → World m
world m storage s run = record { storage = storage; state = s; run = run }
