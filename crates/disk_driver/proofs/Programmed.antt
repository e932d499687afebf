-- What a program's calls do to a disk that has nothing open, and the two theorems.
use Rattle.std.proofs.Common.{◌≡◌, ℕ, ◌+◌, ◌≤◌, min, Bool, true, false, cond, eqb, leb, List, [], ◌∷◌, ◌++◌, length, take, drop, Some, None, Option, sym, refl, ap, ◌∙◌, inl, inr, arith, length-take, leb-true}
use Rattle.std.proofs.lemmas.List.{append-nil, drop_all, take_all}
use Rattle.format.specs.Bytes.{reader, half_word_at, half_word_bytes}
use Rattle.format.specs.Laying.{put_at}
use Rattle.device.specs.Parts.{total, joined, PartsAreOneMove}
use Rattle.device.proofs.Moving.{parts_are_one_move}
use Rattle.unit.specs.UnitLaws.{unit_laws}
use Rattle.unit.specs.UnitMachine.{sense_after}
use Rattle.unit.specs.declared.state.Sensing.{Sensing}
use Rattle.unit.specs.declared.state.Sensing.TheVariants.{Closed, Unread, Read}
use Rattle.disk.specs.declared.blocks.Location.{Location}
use Rattle.disk.specs.Naming.{named_by, naming}
use Rattle.disk.specs.Blocks.{size_of, address_of, range_exists, blocks_at, block_at}
use Rattle.disk.specs.DiskState.{DiskState, location_end, Command, none, locating, writing, reading}
use Rattle.disk.specs.DiskMachine.{disk_core, disk_machine, location_of, end_locate}
use Rattle.disk.specs.DiskLaws.{disk_laws, length-bytes_at}
use Rattle.disk_driver.specs.Programs.{State, Idle, place_of, located, while_written, written, to_read, read_out, after_read}
use Rattle.disk_driver.specs.Theorems.{ReadReturnsWhatWasWritten, NotLocated, WriteChangesNoOtherBlock}
use Rattle.disk.proofs.Stored.{put_is_found, put_stays_before, put_stays_behind}

-- a disk with nothing open
abbrev idle : ℕ → Option Location → List ℕ → State
idle byte place store = record { sense = byte; sensing = Closed; core = record { bytes = store; location = place; command = none } }

-- and it is all that a disk with nothing open can be
resting : (byte : ℕ) (sensing : Sensing) (place : Option Location) (store : List ℕ) (c : Command) → Idle (record { sense = byte; sensing = sensing; core = record { bytes = store; location = place; command = c } }) → ◌≡◌ {A = State} (record { sense = byte; sensing = sensing; core = record { bytes = store; location = place; command = c } }) (idle byte place store)
resting byte Closed place store none h = refl
resting byte Unread place store none h = cc
resting byte Read place store none h = cc
resting byte sensing place store (locating taken) h = cc
resting byte sensing place store (writing address n) h = cc
resting byte sensing place store (reading rest) h = cc

is_idle : (s : State) → Idle s → s ≡ idle s.sense s.core.location s.core.bytes
is_idle s h = resting s.sense s.sensing s.core.location s.core.bytes s.core.command h

two_bytes : (n : ℕ) → half_word_at (reader (half_word_bytes n)) 0 ≡ n
two_bytes n = omega arith

named_back : (place : Location) → named_by (naming place) ≡ place
named_back place =
    ap (λ n. record { first = n; count = half_word_at (reader (half_word_bytes place.count)) 0 }) (two_bytes place.first)
    ∙ ap (λ n. record { first = place.first; count = n }) (two_bytes place.count)

located_there : (byte start blocks : ℕ) (place : Option Location) (store : List ℕ) → range_exists start blocks ≡ true → located start blocks (idle byte place store) ≡ idle byte (Some (place_of start blocks)) store
located_there byte start blocks place store exists =
    let there = place_of start blocks in
    let open_state : DiskState = record { bytes = store; location = place; command = locating (naming there) } in
    let named : location_of 4 (named_by (naming there)) ≡ Some there =
    ap (location_of 4) (named_back there) ∙ ap (λ b. cond b (Some there) None) exists in
    ap (λ p. record { sense = sense_after (end_locate p open_state).0 byte; sensing = Closed; core = (end_locate p open_state).1 }) named

one_move : PartsAreOneMove disk_machine
one_move = parts_are_one_move (unit_laws disk_core disk_laws)

-- the store after the parts of a write
abbrev stored : List (List ℕ) → Option Location → List ℕ → List ℕ
stored parts None store = store
stored parts (Some place) store = put_at (address_of place.first) (take (size_of place.count) (joined parts)) store

stored_while : (byte : ℕ) (parts : List (List ℕ)) (place : Option Location) (store : List ℕ) → (while_written parts (idle byte place store)).core.bytes ≡ stored parts place store
stored_while byte parts None store = ap (λ s. s.core.bytes) (one_move.1 parts (disk_machine.begun 0x41 (idle byte None store)).1)
stored_while byte parts (Some place) store = ap (λ s. s.core.bytes) (one_move.1 parts (disk_machine.begun 0x41 (idle byte (Some place) store)).1)

written_there : (byte : ℕ) (parts : List (List ℕ)) (place : Location) (store : List ℕ) → written parts (idle byte (Some place) store) ≡ idle byte None (stored parts (Some place) store)
written_there byte parts place store =
    ap (λ s. (disk_machine.ended s).1) (one_move.1 parts (disk_machine.begun 0x41 (idle byte (Some place) store)).1)

stored_at_end : (byte : ℕ) (parts : List (List ℕ)) (place : Option Location) (store : List ℕ) → (written parts (idle byte place store)).core.bytes ≡ stored parts place store
stored_at_end byte parts None store = ap (λ s. (disk_machine.ended s).1.core.bytes) (one_move.1 parts (disk_machine.begun 0x41 (idle byte None store)).1)
stored_at_end byte parts (Some place) store = ap (λ s. s.core.bytes) (written_there byte parts place store)

read_there : (byte : ℕ) (sizes : List ℕ) (place : Location) (store : List ℕ) → read_out sizes (idle byte (Some place) store) ≡ take (total sizes) (blocks_at place.first place.count store)
read_there byte sizes place store = (one_move.0 sizes (disk_machine.begun 0x42 (idle byte (Some place) store)).1).1

in_range : (b : Bool) (start blocks : ℕ) → cond b false (leb (start + blocks) 64) ≡ true → start + blocks ≤ 64
in_range true start blocks h = let z : ◌≡◌ {A = ℕ} 0 1 = cc in omega arith
in_range false start blocks h = leb-true (start + blocks) 64 h

-- bytes that fill some blocks, written and read
written_and_read : (start blocks n : ℕ) (bytes store : List ℕ) → start + blocks ≤ 64 → length store ≡ 32768 → length bytes ≡ size_of blocks → n ≡ size_of blocks → take n (blocks_at start blocks (put_at (address_of start) (take (size_of blocks) bytes) store)) ≡ bytes
written_and_read start blocks n bytes store fits whole size asked =
    let inside : address_of start ≤ length store = omega arith in
    ap (λ x. take n (blocks_at start blocks (put_at (address_of start) x store))) (take_all (size_of blocks) bytes (omega arith))
    ∙ ap (take n) (put_is_found (address_of start) (size_of blocks) bytes store size inside)
    ∙ take_all n bytes (omega arith)

pub read_returns_what_was_written : ReadReturnsWhatWasWritten
read_returns_what_was_written start blocks parts sizes s at_rest whole exists size asked =
    let byte = s.sense in
    let store = s.core.bytes in
    let there = place_of start blocks in
    let after = stored parts (Some there) store in
    ap (λ x. read_out sizes (located start blocks (written parts (located start blocks x)))) (is_idle s at_rest)
    ∙ ap (λ x. read_out sizes (located start blocks (written parts x))) (located_there byte start blocks s.core.location store exists)
    ∙ ap (λ x. read_out sizes (located start blocks x)) (written_there byte parts there store)
    ∙ ap (read_out sizes) (located_there byte start blocks None after exists)
    ∙ read_there byte sizes there after
    ∙ written_and_read start blocks (total sizes) (joined parts) store (in_range (eqb blocks 0) start blocks exists) whole.0 size asked

-- a block that is not located is as before
kept_block : (block : ℕ) (parts : List (List ℕ)) (place : Option Location) (store : List ℕ) → length store ≡ 32768 → location_end place ≤ 64 → NotLocated block place → block_at block (stored parts place store) ≡ block_at block store
kept_block block parts None store whole fits apart = refl
kept_block block parts (Some place) store whole fits apart =
    let accepted = take (size_of place.count) (joined parts) in
    let at_most : length accepted ≤ size_of place.count = omega (arith, length-take (size_of place.count) (joined parts)) in
    elim apart [
      | inl before ↦ put_stays_before (address_of place.first) (address_of block) 512 accepted store (omega arith) (omega arith)
      | inr behind ↦ put_stays_behind (address_of place.first) (address_of block) 512 accepted store (omega arith) (omega arith)
    ]

pub write_changes_no_other_block : WriteChangesNoOtherBlock
write_changes_no_other_block parts s block at_rest whole apart =
    let rest = is_idle s at_rest in
    let kept = kept_block block parts s.core.location s.core.bytes whole.0 whole.1 apart in (
      ap (λ x. block_at block (while_written parts x).core.bytes) rest ∙ ap (block_at block) (stored_while s.sense parts s.core.location s.core.bytes) ∙ kept,
      ap (λ x. block_at block (written parts x).core.bytes) rest ∙ ap (block_at block) (stored_at_end s.sense parts s.core.location s.core.bytes) ∙ kept,
    )

-- located blocks are written, and the others stay
pub write_keeps : (start blocks : ℕ) (parts : List (List ℕ)) (s : State) (block : ℕ) → Idle s → length s.core.bytes ≡ 32768 → range_exists start blocks ≡ true → NotLocated block (Some (place_of start blocks)) → block_at block (written parts (located start blocks s)).core.bytes ≡ block_at block s.core.bytes
write_keeps start blocks parts s block at_rest whole exists apart =
    let there = Some (place_of start blocks) in
    ap (λ x. block_at block (written parts (located start blocks x)).core.bytes) (is_idle s at_rest)
    ∙ ap (λ x. block_at block (written parts x).core.bytes) (located_there s.sense start blocks s.core.location s.core.bytes exists)
    ∙ ap (block_at block) (stored_at_end s.sense parts there s.core.bytes)
    ∙ kept_block block parts there s.core.bytes whole (in_range (eqb blocks 0) start blocks exists) apart

-- what a buffer of their size holds after located blocks are read
pub read_fills : (start blocks r : ℕ) (buffer filled : List ℕ) (s : State) → Idle s → range_exists start blocks ≡ true → length buffer ≡ size_of blocks → r ≡ min (length buffer) (length (to_read (located start blocks s))) → filled ≡ take (length buffer) (to_read (located start blocks s)) ++ drop r buffer → filled ≡ blocks_at start blocks s.core.bytes
read_fills start blocks r buffer filled s at_rest exists size moved fills =
    let here = blocks_at start blocks s.core.bytes in
    let due_now : to_read (located start blocks s) ≡ here =
    ap (λ x. to_read (located start blocks x)) (is_idle s at_rest)
    ∙ ap to_read (located_there s.sense start blocks s.core.location s.core.bytes exists) in
    let as_many : length here ≡ size_of blocks = length-bytes_at (address_of start) (size_of blocks) s.core.bytes in
    let all_read : length buffer ≤ r = omega (arith, ap length due_now) in
    fills
    ∙ ap (λ x. take (length buffer) x ++ drop r buffer) due_now
    ∙ ap (λ x. x ++ drop r buffer) (take_all (length buffer) here (omega arith))
    ∙ ap (λ x. here ++ x) (drop_all r buffer all_read)
    ∙ append-nil here

-- after a write of located blocks nothing is open, and they hold what was written

at_rest_after : (start blocks : ℕ) (parts : List (List ℕ)) (s : State) → Idle s → range_exists start blocks ≡ true → written parts (located start blocks s) ≡ idle s.sense None (stored parts (Some (place_of start blocks)) s.core.bytes)
at_rest_after start blocks parts s at_rest exists =
    ap (λ x. written parts (located start blocks x)) (is_idle s at_rest)
    ∙ ap (written parts) (located_there s.sense start blocks s.core.location s.core.bytes exists)
    ∙ written_there s.sense parts (place_of start blocks) s.core.bytes

pub idle_after : (start blocks : ℕ) (parts : List (List ℕ)) (s : State) → Idle s → range_exists start blocks ≡ true → Idle (written parts (located start blocks s))
idle_after start blocks parts s at_rest exists = ap disk_machine.pending (at_rest_after start blocks parts s at_rest exists)

pub held_after : (start blocks : ℕ) (bytes : List ℕ) (s : State) → Idle s → length s.core.bytes ≡ 32768 → range_exists start blocks ≡ true → length bytes ≡ size_of blocks → blocks_at start blocks (written (bytes ∷ []) (located start blocks s)).core.bytes ≡ bytes
held_after start blocks bytes s at_rest whole exists size =
    let all_bytes : bytes ++ [] ≡ bytes = append-nil bytes in
    let n = size_of blocks in
    let here : List ℕ = blocks_at start blocks (put_at (address_of start) (take n bytes) s.core.bytes) in
    ap (λ x. blocks_at start blocks x.core.bytes) (at_rest_after start blocks (bytes ∷ []) s at_rest exists)
    ∙ ap (λ x. blocks_at start blocks (put_at (address_of start) (take n x) s.core.bytes)) all_bytes
    ∙ sym (take_all n here (omega (arith, length-bytes_at (address_of start) n (put_at (address_of start) (take n bytes) s.core.bytes))))
    ∙ written_and_read start blocks n bytes s.core.bytes (in_range (eqb blocks 0) start blocks exists) whole size refl

-- a read of located blocks leaves the bytes
pub read_keeps : (start blocks : ℕ) (sizes : List ℕ) (s : State) → Idle s → range_exists start blocks ≡ true → (after_read sizes (located start blocks s)).core.bytes ≡ s.core.bytes
read_keeps start blocks sizes s at_rest exists =
    let there : State = idle s.sense (Some (place_of start blocks)) s.core.bytes in
    ap (λ x. (after_read sizes (located start blocks x)).core.bytes) (is_idle s at_rest)
    ∙ ap (λ x. (after_read sizes x).core.bytes) (located_there s.sense start blocks s.core.location s.core.bytes exists)
    ∙ ap (λ x. (disk_machine.ended x).1.core.bytes) (one_move.0 sizes (disk_machine.begun 0x42 there).1).0

-- located blocks after a write of these bytes, read into a buffer
module _ (start blocks : ℕ) (bytes : List ℕ) (before after : State) (at_rest : Idle before) (whole : length before.core.bytes ≡ 32768) (exists : range_exists start blocks ≡ true) (became : after ≡ written (bytes ∷ []) (located start blocks before)) where
  rests : Idle after
  rests = ap disk_machine.pending became ∙ idle_after start blocks (bytes ∷ []) before at_rest exists

  pub bytes_come_back : (r : ℕ) (buffer filled : List ℕ) → length bytes ≡ size_of blocks → length buffer ≡ size_of blocks → r ≡ min (length buffer) (length (to_read (located start blocks after))) → filled ≡ take (length buffer) (to_read (located start blocks after)) ++ drop r buffer → filled ≡ bytes
  bytes_come_back r buffer filled size asked moved fills =
      read_fills start blocks r buffer filled after rests exists asked moved fills
      ∙ ap (λ x. blocks_at start blocks x.core.bytes) became
      ∙ held_after start blocks bytes before at_rest whole exists size

  pub others_stay : (sizes : List ℕ) (block : ℕ) → NotLocated block (Some (place_of start blocks)) → block_at block (after_read sizes (located start blocks after)).core.bytes ≡ block_at block before.core.bytes
  others_stay sizes block apart =
      ap (block_at block) (read_keeps start blocks sizes after rests exists)
      ∙ ap (λ x. block_at block x.core.bytes) became
      ∙ write_keeps start blocks (bytes ∷ []) before block at_rest whole exists apart
