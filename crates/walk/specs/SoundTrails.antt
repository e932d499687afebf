-- What a walk that came to its end says. A reader must believe: these points make its CCWs safe to run in their order,
-- each place leads to one of them, and nothing but the program's own bytes was read.
use Rattle.std.specs.Prelude.{◌≡◌, ℕ, ◌+◌, ◌<◌, ◌≤◌, true, false, ◌&&◌, ◌⊎◌, List, [], ◌∷◌, length, Some, None, Ok, slice_index, slice_index_or}
use Rattle.format.specs.declared.ccw.Format.TheVariants.{Zero}
use Rattle.format.specs.Bytes.{Reader, reader}
use Rattle.format.specs.Classes.{class_of}
use Rattle.rules.specs.TakingUp.{Cell, reach, is_transfer, is_invalid, in_force, none_in_force, found, read_up}
use Rattle.rules.specs.Soundness.{Sound}
use Rattle.walk.specs.Walks.{Trail, goes_on, carried, walk}
use Rattle.walk.specs.OwnBytes.{extents_of, Own}

-- the cell with an index; past the last one, a cell of zeros
abbrev pub no_cell : Cell
no_cell = record {
  ccw = record {
    value = record {
      code = 0;
      flags = record { cd = false; cc = false; sli = false; skip = false; pci = false; ida = false; suspend = false; mida = false };
      count = 0;
      address = 0;
    };
    address = 0;
  };
  before = None;
  code = 0;
  pieces = [];
}

abbrev pub cell : List Cell → ℕ → Cell
cell ts i = slice_index_or ts i no_cell

-- all indirect words of a translation: one for each piece
unfoldable pub pieces_in : List Cell → ℕ
pieces_in [] = 0
pieces_in (t ∷ ts) = length t.pieces + pieces_in ts

-- the code in force with a CCW: a byte, no TIC, and valid where it begins a command
pub record Proper (t : Cell) : Type 0 where
  pub byte : t.code < 256
  pub short : t.ccw.value.count < 65536
  pub no_transfer : is_transfer (class_of t.code) ≡ false
  pub valid : (none_in_force t.before && is_invalid (class_of t.code)) ≡ false
  pub forced : in_force t.before t.code ≡ t.code

-- which cell follows cell i: the next one, or after the last the one at which the walk closed
abbrev pub Leads : Trail → ℕ → ℕ → Type 0
Leads w i j = (j ≡ i + 1) ⊎ ((i + 1 ≡ length w.cells) × (w.closes ≡ Some j))

-- the place behind cell i
pub record Following (L : ℕ) (b : Reader) (w : Trail) (i : ℕ) : Type 0 where
  pub index : ℕ
  pub within : index < length w.cells
  pub finds : found Zero L b ((cell w.cells i).ccw.address + 8) false ≡ Ok (cell w.cells index).ccw.address
  pub carries : (cell w.cells index).before ≡ carried (cell w.cells i)
  pub leads : Leads w i index

pub record SoundTrail (L : ℕ) (b : Reader) (start : ℕ) (w : Trail) : Type 0 where
  -- the first cell is found at the start address, with none in force
  pub some : 0 < length w.cells
  pub first : found Zero L b start true ≡ Ok (cell w.cells 0).ccw.address
  pub opening : (cell w.cells 0).before ≡ None
  -- each cell is what is read at its address
  pub here : (i : ℕ) → i < length w.cells → read_up Zero L b (cell w.cells i).ccw.address (cell w.cells i).before ≡ Ok (cell w.cells i)
  pub sound : (i : ℕ) → i < length w.cells → Sound L (cell w.cells i)
  pub proper : (i : ℕ) → i < length w.cells → Proper (cell w.cells i)
  -- a cell that goes on leads to a cell
  pub next : (i : ℕ) → i < length w.cells → goes_on (cell w.cells i) ≡ true → Following L b w i
  -- 64 cells and 768 words are enough
  pub cells_bound : length w.cells ≤ 64
  pub words_bound : pieces_in w.cells ≤ 768

-- on any storage as long that has the same own bytes the walk answers the same
pub record OwnBytesAlone (bytes : List ℕ) (start : ℕ) (w : Trail) : Type 0 where
  pub same : (other : List ℕ) → length other ≡ length bytes → ((a : ℕ) → Own a (extents_of w.cells) → slice_index other a ≡ slice_index bytes a)
      → walk 65 (reach other) (reader other) [] 0 start true None ≡ Ok w
