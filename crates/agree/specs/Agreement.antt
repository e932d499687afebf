-- The host's channel and the guest's agree. A reader must believe: these statements, each for every map and device that
-- the function they stand on may be called with, say that a translated program does what the guest wrote.
use Rattle.std.specs.Prelude.{◌≡◌, ℕ, ◌+◌, ◌*◌, ◌/◌, ◌%◌, ◌<◌, ◌≤◌, Bool, false, List, ◌++◌, map, length, drop, Ok, ◌≢◌, slice_index}
use Rattle.format.specs.declared.ccw.Format.TheVariants.{Zero, One}
use Rattle.device.specs.Machine.{Machine}
use Rattle.rules.specs.Areas.{run}
use Rattle.rules.specs.TakingUp.{Cell, taken_up}
use Rattle.walk.specs.declared.own_bytes.Extent.{Extent}
use Rattle.walk.specs.OwnBytes.{extents_of, Own}
use Rattle.walk.specs.SoundTrails.{cell}
use Rattle.walk.specs.Walks.{Trail}
use Rattle.channel.specs.Moves.{lay, addresses_of}
use Rattle.channel.specs.Steps.{World, started, stepped, steps, advanced, is_ended, halted}
use Rattle.map.specs.Law.{PutDone}
use Rattle.map.specs.Places.{page_size, place_of, end_of}
use Rattle.map.specs.Views.{guest_bytes}
use Rattle.translate.specs.Frames.{frame_of}
use Rattle.translate.specs.Translations.{accepted, data_in}
use Rattle.agree.specs.Correspondence.{Holds, Loaded, Unchecked, Corresponding}

-- 1. One cell.

-- what the host's channel finds at a cell, against what the guest's CCW says: the same code in force, count and flags,
-- and the guest's area through place, byte by byte in the same order
pub record SameCell (fs : List ℕ) (guest host : Cell) : Type 0 where
  pub code : host.code ≡ guest.code
  pub count : host.ccw.value.count ≡ guest.ccw.value.count
  pub cd : host.ccw.value.flags.cd ≡ guest.ccw.value.flags.cd
  pub cc : host.ccw.value.flags.cc ≡ guest.ccw.value.flags.cc
  pub sli : host.ccw.value.flags.sli ≡ guest.ccw.value.flags.sli
  pub skip : host.ccw.value.flags.skip ≡ guest.ccw.value.flags.skip
  pub area : addresses_of host ≡ map (place_of fs) (addresses_of guest)

-- no rule is broken at cell i
pub record TakesCell (fs host : List ℕ) (w : Trail) (i : ℕ) (first : Bool) : Type 0 where
  pub taken : Cell
  pub up : taken_up One host (record { address = 8 * i; first = first; command = (cell w.cells i).before }) ≡ Ok taken
  pub same : SameCell fs (cell w.cells i) taken

unfoldable pub CellsAgree : List ℕ → (ℕ → Bool) → Type 0
CellsAgree fs free = (host : List ℕ) (start : ℕ) (w : Trail) → Loaded fs free start w host → (i : ℕ) (first : Bool) → i < length w.cells → TakesCell fs host w i first

-- 2. The start, one step, any number of steps, the halt.

-- the host after a translation, its channel at cell 0
abbrev pub host_start : (m : Machine) → List ℕ → Trail → List ℕ → m.State → World m
host_start m fs w host s = record { storage = frame_of (place_of fs) w ++ drop page_size host; state = s; run = started 0 }

-- the guest's own bytes, with a channel at the start address
abbrev pub direct_start : (m : Machine) → List ℕ → ℕ → List ℕ → m.State → World m
direct_start m fs start host s = record { storage = guest_bytes fs host; state = s; run = started start }

unfoldable pub StartsAgree : Machine → List ℕ → (ℕ → Bool) → Type 0
StartsAgree m fs free =
    (host : List ℕ) (start : ℕ) (w : Trail) (s : m.State) → Holds fs free host → accepted (guest_bytes fs host) start ≡ Ok w
    → Corresponding m fs free start w (host_start m fs w host s) (direct_start m fs start host s)

unfoldable pub StepsAgree : Machine → List ℕ → (ℕ → Bool) → Type 0
StepsAgree m fs free =
    (start : ℕ) (w : Trail) (host direct : World m) → Corresponding m fs free start w host direct
    → Corresponding m fs free start w (stepped m One host) (stepped m Zero direct)

-- up to k steps: the same count, the same end
pub record AdvancedAlike (m : Machine) (fs : List ℕ) (free : ℕ → Bool) (start : ℕ) (w : Trail) (host direct : ℕ × World m) : Type 0 where
  pub counts : host.0 ≡ direct.0
  pub ends : is_ended host.1.run ≡ is_ended direct.1.run
  pub after : Corresponding m fs free start w host.1 direct.1

unfoldable pub AdvancesAgree : Machine → List ℕ → (ℕ → Bool) → Type 0
AdvancesAgree m fs free =
    (start : ℕ) (w : Trail) (host direct : World m) (k : ℕ) → Corresponding m fs free start w host direct
    → AdvancedAlike m fs free start w (advanced m One k host) (advanced m Zero k direct)

unfoldable pub HaltsAgree : Machine → List ℕ → (ℕ → Bool) → Type 0
HaltsAgree m fs free =
    (start : ℕ) (w : Trail) (host direct : World m) → Corresponding m fs free start w host direct
    → Corresponding m fs free start w (halted m host) (halted m direct)

-- 3. No program check on either side, however many steps are taken.

unfoldable pub NeverChecked : Machine → List ℕ → (ℕ → Bool) → Type 0
NeverChecked m fs free =
    (start : ℕ) (w : Trail) (host direct : World m) (k : ℕ) → Corresponding m fs free start w host direct
    → Unchecked (steps m One k host).run × Unchecked (steps m Zero k direct).run

-- 4. What stays: every host byte outside the guest's frames, the program frame among them, and the program's own bytes.

-- a host address in none of these frames
abbrev pub Elsewhere : List ℕ → ℕ → Type 0
Elsewhere fs a = (page : ℕ) → page < length fs → slice_index fs page ≢ a / page_size

pub record Kept (m : Machine) (fs : List ℕ) (w : Trail) (host host' direct direct' : World m) : Type 0 where
  pub long : length host'.storage ≡ length host.storage
  pub elsewhere : (a : ℕ) → Elsewhere fs a → slice_index host'.storage a ≡ slice_index host.storage a
  pub own : (a : ℕ) → Own a (extents_of w.cells) → slice_index direct'.storage a ≡ slice_index direct.storage a

unfoldable pub StepsKeep : Machine → List ℕ → (ℕ → Bool) → Type 0
StepsKeep m fs free =
    (start : ℕ) (w : Trail) (host direct : World m) (k : ℕ) → Corresponding m fs free start w host direct
    → Kept m fs w host (steps m One k host) direct (steps m Zero k direct)

-- 5. What a guest may do meanwhile: store outside the program's own bytes, and have a page moved in which the program
-- has no data.

-- the bytes at a run of guest addresses, in the host's storage and in the guest's own
abbrev pub stored_through : List ℕ → ℕ → List ℕ → List ℕ → List ℕ
stored_through fs address bytes host = lay (map (place_of fs) (run false address (length bytes))) bytes host

abbrev pub stored_at : ℕ → List ℕ → List ℕ → List ℕ
stored_at address bytes storage = lay (run false address (length bytes)) bytes storage

abbrev pub with_storage : {m : Machine} → World m → List ℕ → World m
with_storage w bytes = record { storage = bytes; state = w.state; run = w.run }

unfoldable pub StoresAgree : Machine → List ℕ → (ℕ → Bool) → Type 0
StoresAgree m fs free =
    (start : ℕ) (w : Trail) (host direct : World m) (address : ℕ) (bytes : List ℕ) → Corresponding m fs free start w host direct
    → address + length bytes ≤ end_of fs → ((a : ℕ) → address ≤ a → a < address + length bytes → Own a (extents_of w.cells) → ⊥)
    → Corresponding m fs free start w (with_storage host (stored_through fs address bytes host.storage)) (with_storage direct (stored_at address bytes direct.storage))

-- what a yes to a store of so many bytes at an address means, for a program with these own bytes: made on both sides inside
-- the guest's storage, it leaves the two runs corresponding
unfoldable pub StoreKeeps : Machine → List ℕ → (ℕ → Bool) → List Extent → ℕ → ℕ → Type 0
StoreKeeps m fs free own address size =
    (start : ℕ) (w : Trail) (host direct : World m) (bytes : List ℕ) → Corresponding m fs free start w host direct
    → own ≡ extents_of w.cells → length bytes ≡ size → address + size ≤ end_of fs
    → Corresponding m fs free start w (with_storage host (stored_through fs address bytes host.storage)) (with_storage direct (stored_at address bytes direct.storage))

-- a page copied from its old frame to another, and the old frame filled with 0
pub record PageMoved (old frame : ℕ) (before after : List ℕ) : Type 0 where
  pub long : length after ≡ length before
  pub copied : (a : ℕ) → a / page_size ≡ frame → slice_index after a ≡ slice_index before (old * page_size + a % page_size)
  pub cleared : (a : ℕ) → a / page_size ≡ old → slice_index after a ≡ 0
  pub kept : (a : ℕ) → (a / page_size ≢ frame) → (a / page_size ≢ old) → slice_index after a ≡ slice_index before a

unfoldable pub MovesAgree : Machine → List ℕ → (ℕ → Bool) → Type 0
MovesAgree m fs free =
    (start : ℕ) (w : Trail) (host direct : World m) (page frame : ℕ) (fs' : List ℕ) (free' : ℕ → Bool) (after : List ℕ) → Corresponding m fs free start w host direct
    → PutDone fs free page frame fs' free' → data_in w.cells page ≡ false → PageMoved (slice_index fs page) frame host.storage after
    → Corresponding m fs' free' start w (with_storage host after) direct

-- what a yes to the move of a page to a frame means, if it was truly said whether the program has data there: put by the map and
-- copied, the page leaves the two runs corresponding
unfoldable pub MoveKeeps : Machine → List ℕ → (ℕ → Bool) → ℕ → ℕ → Bool → Type 0
MoveKeeps m fs free page frame has_data =
    (start : ℕ) (w : Trail) (host direct : World m) (fs' : List ℕ) (free' : ℕ → Bool) (after : List ℕ) → Corresponding m fs free start w host direct
    → data_in w.cells page ≡ has_data → PutDone fs free page frame fs' free' → PageMoved (slice_index fs page) frame host.storage after
    → Corresponding m fs' free' start w (with_storage host after) direct

-- 6. Two runs that correspond before correspond after.

unfoldable pub Together : (m : Machine) → List ℕ → (ℕ → Bool) → World m → World m → World m → World m → Type 0
Together m fs free host direct host' direct' =
    (start : ℕ) (w : Trail) → Corresponding m fs free start w host direct → Corresponding m fs free start w host' direct'
