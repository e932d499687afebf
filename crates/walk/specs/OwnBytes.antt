-- A program's own bytes. A reader must believe: these are the bytes of every CCW, TIC and indirect word that
-- the walk met. Behind a CCW that goes on stands the next CCW or a TIC, so sixteen bytes from its address on are
-- own; behind any other, eight.
use Rattle.std.specs.Prelude.{ℕ, ◌+◌, ◌-◌, ◌*◌, ◌<◌, ◌≤◌, max, Bool, true, false, cond, not, ◌&&◌, ◌||◌, ◌⊎◌, List, [], ◌∷◌, length, is_some, Some, None, Option, nat_lt}
use Rattle.rules.specs.declared.pieces.Piece.{Piece}
use Rattle.rules.specs.TakingUp.{Cell, backward, reading}
use Rattle.short_list.specs.Lists.{items}
use Rattle.walk.specs.declared.own_bytes.Extent.{Extent}
use Rattle.walk.specs.declared.own_bytes.OwnBytes.{OwnBytes}
use Rattle.walk.specs.Walks.{goes_on}

abbrev pub extents_in : OwnBytes → List Extent
extents_in own = items own.extents

abbrev pub ccw_extent : Cell → Extent
ccw_extent t = record { start = t.ccw.address; size = cond (goes_on t) 16 8 }

abbrev pub list_extent : Cell → Extent
list_extent t = record { start = t.ccw.value.address; size = cond t.ccw.value.flags.ida (4 * length t.pieces) 0 }

unfoldable pub extents_of : List Cell → List Extent
extents_of [] = []
extents_of (t ∷ ts) = ccw_extent t ∷ list_extent t ∷ extents_of ts

-- whether an extent and the n bytes from low on have a byte in common
abbrev pub overlaps : Extent → ℕ → ℕ → Bool
overlaps e low n = nat_lt (max low e.start) (low + n) && nat_lt (max low e.start) (e.start + e.size)

-- an own byte among the n bytes from low on
unfoldable pub touched : List Extent → ℕ → ℕ → Option ℕ
touched [] low n = None
touched (e ∷ es) low n =
    let later = touched es low n in
    cond (overlaps e low n) (Some (max low e.start)) later

-- one of the program's own bytes
abbrev pub Own : ℕ → List Extent → Type 0
Own a [] = ⊥
Own a (e ∷ es) = ((e.start ≤ a) × (a < e.start + e.size)) ⊎ Own a es

-- what the answer says: an own byte of the range, or that there is none
abbrev pub Tells : List Extent → ℕ → ℕ → Option ℕ → Type 0
Tells es low n None = (a : ℕ) → low ≤ a → a < low + n → Own a es → ⊥
Tells es low n (Some a) = (low ≤ a) × (a < low + n) × Own a es

-- the lowest byte of a piece
abbrev pub lowest : Bool → Piece → ℕ
lowest false p = p.first
lowest true p = p.first - (p.size - 1)

unfoldable pub any_touched : List Extent → Bool → List Piece → Bool
any_touched es back [] = false
any_touched es back (p ∷ ps) =
    let later = any_touched es back ps in
    is_some (touched es (lowest back p) p.size) || later

-- a reading CCW without SKIP whose area touches own bytes
abbrev pub overwrites : List Extent → Cell → Bool
overwrites es t = (reading t.code && not t.ccw.value.flags.skip) && any_touched es (backward t.code) t.pieces

-- the address of the first such CCW
unfoldable pub first_overwriting : List Extent → List Cell → Option ℕ
first_overwriting es [] = None
first_overwriting es (t ∷ ts) =
    let later = first_overwriting es ts in
    cond (overwrites es t) (Some t.ccw.address) later
