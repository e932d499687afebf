-- The program frame. A reader must believe: the first 1,024 bytes hold the cells, eight bytes each, and the TIC that
-- closes the program; the other 3,072 hold the lists, packed in the order of the cells; all else is 0.
use Rattle.std.specs.Prelude.{ℕ, ◌+◌, ◌-◌, ◌*◌, true, false, List, [], ◌∷◌, ◌++◌, map, length, replicate, Some, None, Option}
use Rattle.format.specs.declared.ccw.Ccw.{Ccw}
use Rattle.format.specs.declared.flags.Flags.{Flags}
use Rattle.format.specs.Bytes.{word_bytes}
use Rattle.format.specs.Layouts.{ccw_bytes}
use Rattle.rules.specs.declared.pieces.Piece.{Piece}
use Rattle.rules.specs.Areas.{word_size}
use Rattle.rules.specs.TakingUp.{Cell}
use Rattle.walk.specs.Walks.{Trail}

-- where the lists begin, and the bytes of a frame
abbrev pub lists_start : ℕ
lists_start = 1024

abbrev pub frame_size : ℕ
frame_size = 4096

-- the flags of a cell: CD, CC, SLI and SKIP as found, and IDA on
abbrev pub cell_flags : Flags → Flags
cell_flags f = record { cd = f.cd; cc = f.cc; sli = f.sli; skip = f.skip; pci = false; ida = true; suspend = false; mida = false }

-- a cell is a CCW of format 1: the code in force, the count as found, its list at `list`
abbrev pub cell_ccw : Cell → ℕ → Ccw
cell_ccw t list = record { code = t.code; flags = cell_flags t.ccw.value.flags; count = t.ccw.value.count; address = list }

-- where the next list begins
abbrev pub behind_list : Cell → ℕ → ℕ
behind_list t list = list + word_size * length t.pieces

-- the cells one after the other; `list` is where the list of the first of them stands
unfoldable pub cells_bytes : List Cell → ℕ → List ℕ
cells_bytes [] list = []
cells_bytes (t ∷ ts) list = ccw_bytes (cell_ccw t list) ++ cells_bytes ts (behind_list t list)

-- a TIC to cell j
abbrev pub transfer_to : ℕ → Ccw
transfer_to j = record {
  code = 8;
  flags = record { cd = false; cc = false; sli = false; skip = false; pci = false; ida = false; suspend = false; mida = false };
  count = 0;
  address = 8 * j;
}

abbrev pub closing_bytes : Option ℕ → List ℕ
closing_bytes None = []
closing_bytes (Some j) = ccw_bytes (transfer_to j)

-- the guest address that each word stands for: the first byte moved in each block of the areas, cell by cell
abbrev pub first_of : Piece → ℕ
first_of p = p.first

unfoldable pub words_of : List Cell → List ℕ
words_of [] = []
words_of (t ∷ ts) = map first_of t.pieces ++ words_of ts

unfoldable pub words_bytes : List ℕ → List ℕ
words_bytes [] = []
words_bytes (w ∷ ws) = word_bytes w ++ words_bytes ws

-- with zeros up to a length
abbrev pub filled : ℕ → List ℕ → List ℕ
filled n bytes = bytes ++ replicate (n - length bytes) 0

abbrev pub cells_part : Trail → List ℕ
cells_part w = cells_bytes w.cells lists_start ++ closing_bytes w.closes

-- all bytes of the frame; `place` gives the host address of a guest address
abbrev pub frame_of : (ℕ → ℕ) → Trail → List ℕ
frame_of place w = filled lists_start (cells_part w) ++ filled (frame_size - lists_start) (words_bytes (map place (words_of w.cells)))
