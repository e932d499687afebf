-- The walk over a program. A reader must believe: which place follows a CCW, when the walk closes, and the
-- order in which a place is refused: rules 1 to 3, a place met before, the 65th place, rules 4 to 10, the
-- 769th word.
use Rattle.std.specs.Prelude.{ℕ, zero, suc, ◌+◌, ◌^◌, ◌<◌, ◌≤◌, Bool, true, false, cond, ◌&&◌, ◌||◌, List, [], ◌∷◌, ◌++◌, map, length, Some, None, Ok, Err, Option, Result, ◌==◌, nat_lt}
use Rattle.format.specs.declared.ccw.Format.TheVariants.{Zero}
use Rattle.format.specs.declared.refusal.Refusal.TheVariants.{TooManyPlaces, TooManyWords}
use Rattle.format.specs.Bytes.{Reader}
use Rattle.rules.specs.declared.place.Broken.{Broken}
use Rattle.rules.specs.declared.place.Place.{Place}
use Rattle.rules.specs.declared.place.Taken.{Taken}
use Rattle.rules.specs.Rules.{unless, bind}
use Rattle.rules.specs.Areas.{listed}
use Rattle.rules.specs.TakingUp.{Cell, cell_of, found, read_up}
use Rattle.short_list.specs.declared.list.ShortList.{ShortList}
use Rattle.short_list.specs.Lists.{items}
use Rattle.walk.specs.declared.cells.Visit.{Visit}
use Rattle.walk.specs.declared.cells.Visit.TheVariants.{Met, Fresh}
use Rattle.walk.specs.declared.cells.Walked.{Walked}

-- what a table of cells means
abbrev pub cells_of : {N : ℕ} → ShortList Taken N → List Cell
cells_of cells = map cell_of (items cells)

-- a walk that came to its end
pub record Trail : Type 0 where
  pub cells : List Cell
  pub closes : Option ℕ

abbrev pub trail_of : Walked → Trail
trail_of w = record { cells = cells_of w.cells; closes = w.closes }

abbrev pub same_command : Option ℕ → Option ℕ → Bool
same_command None None = true
same_command None (Some y) = false
same_command (Some x) None = false
same_command (Some x) (Some y) = x == y

-- the same place: the same CCW address and the same command in force
abbrev pub same_place : Cell → ℕ → Option ℕ → Bool
same_place t a command = t.ccw.address == a && same_command t.before command

-- the index, counted from i, of the first place met before
unfoldable pub met : ℕ → Option ℕ → List Cell → ℕ → Option ℕ
met a command [] i = None
met a command (t ∷ ts) i =
    let later = met a command ts (suc i) in
    cond (same_place t a command) (Some i) later

-- a place follows a CCW that chains data or a command
abbrev pub goes_on : Cell → Bool
goes_on t = t.ccw.value.flags.cd || t.ccw.value.flags.cc

-- the command in force there: kept by CD, none after CC alone
abbrev pub carried : Cell → Option ℕ
carried t = cond t.ccw.value.flags.cd (Some t.code) None

-- the place behind a CCW, if it goes on
abbrev pub behind : Cell → Option Place
behind t = cond (goes_on t) (Some (record { address = t.ccw.address + 8; first = false; command = carried t })) None

-- there is room for a new CCW, and for its words
abbrev pub Fits : ℕ → ℕ → Visit → Type 0
Fits cells n (Met j) = Unit {0}
Fits cells n (Fresh t) = (n + length (listed t.pieces) ≤ 768) × (cells < 64)

-- a new CCW lies inside storage
abbrev pub Inside : Visit → Type 0
Inside (Met j) = Unit {0}
Inside (Fresh t) = t.ccw.address + 8 ≤ 2 ^ 31

-- what a walk finds at a place
pub data Seen : Type 0 where
  again : ℕ → Seen
  fresh : Cell → Seen

abbrev pub seen_of : Visit → Seen
seen_of (Met j) = again j
seen_of (Fresh t) = fresh (cell_of t)

abbrev pub or_met : Option ℕ → Result Seen Broken → Result Seen Broken
or_met None rest = rest
or_met (Some j) rest = Ok (again j)

-- one place; `seen` are the cells before it and n their words
abbrev pub read_new : ℕ → Reader → ℕ → ℕ → Option ℕ → Result Seen Broken
read_new L b n a command =
    bind (read_up Zero L b a command) (λ t. unless (nat_lt 768 (n + length t.pieces)) (TooManyWords a) a (Ok (fresh t)))

abbrev pub look_at : ℕ → Reader → List Cell → ℕ → ℕ → Option ℕ → Result Seen Broken
look_at L b seen n a command =
    or_met (met a command seen 0) (unless (length seen == 64) (TooManyPlaces a) a (read_new L b n a command))

abbrev pub one_place : ℕ → Reader → List Cell → ℕ → ℕ → Bool → Option ℕ → Result Seen Broken
one_place L b seen n a first command = bind (found Zero L b a first) (λ x. look_at L b seen n x command)

abbrev pub with_cell : Cell → Result Trail Broken → Result Trail Broken
with_cell t r = bind r (λ w. Ok (record { cells = t ∷ w.cells; closes = w.closes }))

-- how a walk goes on from what it finds; `more` is the walk from the place behind
abbrev pub onward : (Cell → Result Trail Broken) → Seen → Result Trail Broken
onward more (again j) = Ok (record { cells = []; closes = Some j })
onward more (fresh t) = cond (goes_on t) (with_cell t (more t)) (Ok (record { cells = t ∷ []; closes = None }))

-- the walk; as many places as `rounds` allows, which is never fewer than are needed
unfoldable pub walk : ℕ → ℕ → Reader → List Cell → ℕ → ℕ → Bool → Option ℕ → Result Trail Broken
walk zero L b seen n a first command = Err (record { refusal = TooManyPlaces a; ccw = a })
walk (suc rounds) L b seen n a first command =
    bind (one_place L b seen n a first command) (onward (λ t. walk rounds L b (seen ++ t ∷ []) (n + length t.pieces) (t.ccw.address + 8) false (carried t)))
