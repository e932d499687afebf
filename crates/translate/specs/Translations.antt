-- Translating a program. A reader must believe: a program that the walk accepts is refused only where it reads over
-- itself; its frame, its back table, its own bytes and the pages that it has data in are then these; and a refusal
-- leaves everything as it was.
use Rattle.std.specs.Prelude.{ℕ, ◌+◌, ◌-◌, ◌/◌, ◌%◌, Bool, true, false, cond, ◌&&◌, ◌||◌, List, [], ◌∷◌, map, length, Some, None, Ok, Err, Option, Result, ◌==◌, nat_lt, slice_index}
use Rattle.std.specs.List.{range_with_len}
use Rattle.format.specs.declared.refusal.Refusal.{Refusal}
use Rattle.format.specs.declared.refusal.Refusal.TheVariants.{ReadsOverProgram}
use Rattle.format.specs.Bytes.{reader}
use Rattle.rules.specs.declared.pieces.Piece.{Piece}
use Rattle.rules.specs.declared.place.Broken.{Broken}
use Rattle.rules.specs.Rules.{bind}
use Rattle.rules.specs.TakingUp.{Cell, reach}
use Rattle.walk.specs.declared.own_bytes.Extent.{Extent}
use Rattle.walk.specs.OwnBytes.{extents_of, first_overwriting}
use Rattle.walk.specs.Walks.{Trail, walk}
use Rattle.map.specs.Places.{page_size, place_of}
use Rattle.map.specs.Views.{guest_bytes}
use Rattle.translate.specs.Frames.{frame_of, words_of}

-- the walk from the start address, with none in force
abbrev pub walked : List ℕ → ℕ → Result Trail Broken
walked bytes start = walk 65 (reach bytes) (reader bytes) [] 0 start true None

-- refusal 13: the first CCW, in the order of the cells, that reads over the program
abbrev pub unless_overwriting : Option ℕ → Trail → Result Trail Broken
unless_overwriting None w = Ok w
unless_overwriting (Some a) w = Err (record { refusal = ReadsOverProgram a; ccw = a })

-- the program that starts at an address of these guest bytes, or why it is refused
abbrev pub accepted : List ℕ → ℕ → Result Trail Broken
accepted bytes start = bind (walked bytes start) (λ w. unless_overwriting (first_overwriting (extents_of w.cells) w.cells) w)

-- whether a page holds bytes of an area; a piece lies in one page
unfoldable pub piece_in : ℕ → List Piece → Bool
piece_in page [] = false
piece_in page (p ∷ ps) = p.first / page_size == page || piece_in page ps

unfoldable pub data_in : List Cell → ℕ → Bool
data_in [] page = false
data_in (t ∷ ts) page = piece_in page t.pieces || data_in ts page

-- for each page from 0, whether the program has data in it; 128 is the most that a map has
abbrev pub data_pages : List Cell → List Bool
data_pages ts = map (data_in ts) (range_with_len 0 128)

-- for each cell the guest address of its CCW
unfoldable pub ccw_addresses : List Cell → List ℕ
ccw_addresses [] = []
ccw_addresses (t ∷ ts) = t.ccw.address ∷ ccw_addresses ts

-- the guest's CCW address for the host's in a status word: 8 above the CCW of the cell that the host's follows, 0 if it
-- follows no cell
abbrev pub follows_cell : List ℕ → ℕ → Bool
follows_cell back host = nat_lt 0 host && host % 8 == 0 && nat_lt ((host - 8) / 8) (length back)

abbrev pub guest_ccw : List ℕ → ℕ → ℕ
guest_ccw back host = cond (follows_cell back host) (slice_index back ((host - 8) / 8) + 8) 0

-- what is kept of a program besides its frame
pub record Keeping : Type 0 where
  -- for each cell the guest address of its CCW
  pub back : List ℕ
  -- its own bytes
  pub own : List Extent
  -- for each page whether it has data there
  pub pages : List Bool

abbrev pub keeping_of : Trail → Keeping
keeping_of w = record { back = ccw_addresses w.cells; own = extents_of w.cells; pages = data_pages w.cells }

-- what a translation answers and leaves: the number of cells and of words, or the refusal; the frame; what is kept
pub record Outcome : Type 0 where
  pub answer : Result (ℕ × ℕ) Refusal
  pub frame : List ℕ
  pub kept : Keeping

abbrev pub outcome_of : (ℕ → ℕ) → Result Trail Broken → List ℕ → Keeping → Outcome
outcome_of place (Ok w) frame kept = record { answer = Ok (length w.cells, length (words_of w.cells)); frame = frame_of place w; kept = keeping_of w }
outcome_of place (Err e) frame kept = record { answer = Err e.refusal; frame = frame; kept = kept }

-- the translation of the program at a guest address, for a guest whose pages have these frames; `frame` and `kept` are
-- what stood there before
abbrev pub translated : List ℕ → List ℕ → ℕ → List ℕ → Keeping → Outcome
translated fs host start frame kept = outcome_of (place_of fs) (accepted (guest_bytes fs host) start) frame kept
