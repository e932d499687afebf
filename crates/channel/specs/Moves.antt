-- What one CCW does, as one move of its whole count. A reader must believe: the order in which a device
-- begins, moves and ends, when a length is incorrect, and when a program goes on.
use Rattle.std.specs.Prelude.{ℕ, ◌-◌, min, Bool, false, cond, not, ◌&&◌, ◌||◌, List, [], ◌∷◌, map, length, take, Some, None, Option, ◌==◌, slice_set}
use Rattle.format.specs.declared.ccw.Ccw.{Ccw}
use Rattle.format.specs.Bytes.{reader}
use Rattle.device.specs.declared.interface.Begun.{Begun}
use Rattle.device.specs.declared.interface.Begun.TheVariants.{Immediate, Open}
use Rattle.device.specs.Machine.{Machine, due, room}
use Rattle.rules.specs.Areas.{area}
use Rattle.rules.specs.TakingUp.{Cell, backward, reading}
use Rattle.channel.specs.declared.run.Next.{Next}
use Rattle.channel.specs.declared.run.Next.TheVariants.{Data, Command, End}

-- the bytes laid at the addresses, as far as both go
abbrev pub lay : List ℕ → List ℕ → List ℕ → List ℕ
lay addresses [] storage = storage
lay [] (x ∷ bytes) storage = storage
lay (a ∷ addresses) (x ∷ bytes) storage = lay addresses bytes (slice_set storage a x)

-- the addresses of a CCW's area, in the order of the transfer, and what stands there
abbrev pub addresses_of : Cell → List ℕ
addresses_of t = area (backward t.code) t.pieces

abbrev pub gathered : Cell → List ℕ → List ℕ
gathered t storage = map (reader storage) (addresses_of t)

-- what a CCW leaves of the device, what it stores, and how the program goes on: no address stands in it
pub record Outcome (m : Machine) : Type 0 where
  pub state : m.State
  pub stored : List ℕ
  pub next : Next

-- the program goes on by CC exactly if CC is on, CD off, the device status 0C and no incorrect length raised
abbrev pub finished : Ccw → ℕ → ℕ → Bool → Next
finished w status residual incorrect =
    cond (w.flags.cc && not w.flags.cd && status == 0x0C && not incorrect)
    Command
    (End status (cond incorrect 0x40 0) residual)

-- after `moved` bytes, with `owed` bytes owed before them
abbrev pub settled : (m : Machine) → Ccw → ℕ → ℕ → List ℕ → m.State → Outcome m
settled m w owed moved bytes s =
    let still = owed - moved in
    let residual = w.count - moved in
    let end = m.ended s in
    let incorrect = (not (residual == 0) || not (still == 0)) && not (w.flags.sli && not w.flags.cd) in
    let stops : Outcome m = record { state = end.1; stored = bytes; next = finished w end.0 residual incorrect } in
    let chains : Outcome m = record { state = s; stored = bytes; next = Data still } in
    cond (moved == w.count && w.flags.cd) chains stops

-- the move of the whole count; `bytes` are those that the area holds
abbrev pub moved_count : (m : Machine) → Cell → List ℕ → m.State → ℕ
moved_count m t bytes s = cond (reading t.code) (length (take t.ccw.value.count (due (m.pending s)))) (min (length bytes) (room (m.pending s)))

-- reading stores what the device gives, unless SKIP is on; writing stores nothing
abbrev pub moved_bytes : (m : Machine) → Cell → m.State → List ℕ
moved_bytes m t s = cond (reading t.code) (cond t.ccw.value.flags.skip [] (take t.ccw.value.count (due (m.pending s)))) []

abbrev pub moved_state : (m : Machine) → Cell → List ℕ → m.State → m.State
moved_state m t bytes s = cond (reading t.code) (m.given t.ccw.value.count s) (m.taken bytes s)

abbrev pub moved : (m : Machine) → Cell → ℕ → List ℕ → m.State → Outcome m
moved m t owed bytes s = settled m t.ccw.value owed (moved_count m t bytes s) (moved_bytes m t s) (moved_state m t bytes s)

-- an immediate command moves nothing, its residual is the count, and it raises no incorrect length
abbrev pub begun_as : (m : Machine) → Cell → List ℕ → Begun → m.State → Outcome m
begun_as m t bytes (Immediate status) s = record { state = s; stored = []; next = finished t.ccw.value status t.ccw.value.count false }
begun_as m t bytes (Open least most) s = moved m t least bytes s

-- with no command in force the device begins the code
abbrev pub done_with : (m : Machine) → Cell → ℕ → List ℕ → m.State → Option ℕ → Outcome m
done_with m t owed bytes s None = begun_as m t bytes (m.begun t.code s).0 (m.begun t.code s).1
done_with m t owed bytes s (Some command) = moved m t owed bytes s

abbrev pub done : (m : Machine) → Cell → ℕ → List ℕ → m.State → Outcome m
done m t owed bytes s = done_with m t owed bytes s t.before
