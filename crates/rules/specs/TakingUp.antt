-- Taking up a place. A reader must believe rules 1 to 10 in their order, as they are written here:
-- 1 the address is a multiple of 8; 2 the eight bytes lie inside storage; 3 a TIC is neither the first
-- CCW nor reached by a TIC; 4 the code is valid, unless a command is in force; 5 no flag 08, 02 or 01;
-- 6 the count is not 0; 7 a list address is a multiple of 4; 8 each word lies inside storage; 9 a later
-- word enters its block; 10 the bytes lie inside storage.
use Rattle.std.specs.Prelude.{ℕ, ◌+◌, ◌%◌, ◌^◌, min, Bool, true, false, cond, not, ◌&&◌, ◌||◌, List, length, Some, None, Ok, Err, Option, Result, ◌==◌, nat_lt}
use Rattle.format.specs.declared.ccw.Ccw.{Ccw}
use Rattle.format.specs.declared.ccw.Format.{Format}
use Rattle.format.specs.declared.ccw.Format.TheVariants.{Zero, One}
use Rattle.format.specs.declared.class.Class.{Class}
use Rattle.format.specs.declared.class.Class.TheVariants.{Invalid, Write, Read, Control, Sense, TransferInChannel, ReadBackward}
use Rattle.format.specs.declared.flags.Flags.{Flags}
use Rattle.format.specs.declared.placed.Placed.{Placed}
use Rattle.format.specs.declared.refusal.Refusal.TheVariants.{Misaligned, CcwOutside, TransferMisplaced, CodeInvalid, FlagRefused, CountZero, ListMisaligned, AreaOutside}
use Rattle.format.specs.Bytes.{Reader, reader}
use Rattle.format.specs.Classes.{class_of, class_in, reads_storage, backwards}
use Rattle.format.specs.FlagBits.{any_flag}
use Rattle.format.specs.Layouts.{ccw_at}
use Rattle.rules.specs.declared.pieces.Piece.{Piece}
use Rattle.rules.specs.declared.place.Broken.{Broken}
use Rattle.rules.specs.declared.place.Place.{Place}
use Rattle.rules.specs.declared.place.Taken.{Taken}
use Rattle.rules.specs.Rules.{unless, bind}
use Rattle.rules.specs.Areas.{listed, outside, first_outside, cut, by_words}

-- what is taken up: the CCW as found, with its address; the command in force before it and with it; its area
pub record Cell : Type 0 where
  pub ccw : Placed Ccw
  pub before : Option ℕ
  pub code : ℕ
  pub pieces : List Piece

abbrev pub cell_of : Taken → Cell
cell_of t = record { ccw = t.ccw; before = t.before; code = t.code; pieces = listed t.pieces }

-- an answer of the code as one of the definitions
abbrev pub answered : {A B : Type 0} → (A → B) → Result A Broken → Result B Broken
answered f (Ok a) = Ok (f a)
answered f (Err e) = Err e

-- storage is addressed with 31 bits
abbrev pub reach : List ℕ → ℕ
reach bytes = min (length bytes) (2 ^ 31)

abbrev pub is_transfer : Class → Bool
is_transfer Invalid = false
is_transfer Write = false
is_transfer Read = false
is_transfer Control = false
is_transfer Sense = false
is_transfer TransferInChannel = true
is_transfer ReadBackward = false

abbrev pub is_invalid : Class → Bool
is_invalid Invalid = true
is_invalid Write = false
is_invalid Read = false
is_invalid Control = false
is_invalid Sense = false
is_invalid TransferInChannel = false
is_invalid ReadBackward = false

-- the direction of a command, by its code
abbrev pub reading : ℕ → Bool
reading code = reads_storage (class_of code)

abbrev pub backward : ℕ → Bool
backward code = backwards (class_of code)

-- rules 1 and 2 at a
abbrev pub aligned : ℕ → ℕ → Result ℕ Broken → Result ℕ Broken
aligned L a rest =
    let r2 = unless (nat_lt L (a + 8)) (CcwOutside a) a rest in
    unless (not (a % 8 == 0)) (Misaligned a) a r2

-- whether a code with the low half of a TIC stands at a
abbrev pub transfer_at : Format → Reader → ℕ → Bool
transfer_at F b a = is_transfer (class_of (ccw_at F b a).code)

-- what is asked of such a code where `barred` says that no TIC may stand: rule 3, and in format 1 that it
-- is 08 (rule 4) and has neither a flag nor a count (rule 5)
abbrev pub transfer_rules : Format → Reader → ℕ → Bool → Result ℕ Broken → Result ℕ Broken
transfer_rules Zero b a barred rest = unless barred (TransferMisplaced a) a rest
transfer_rules One b a barred rest =
    let w = ccw_at One b a in
    let r5 = unless (any_flag w.flags || not (w.count == 0)) (FlagRefused a) a rest in
    let r3 = unless barred (TransferMisplaced a) a r5 in
    unless (not (w.code == 8)) (CodeInvalid a) a r3

-- rules 1 to 3 at the target of a TIC
abbrev pub target : Format → ℕ → Reader → ℕ → Result ℕ Broken
target F L b a = aligned L a (cond (transfer_at F b a) (transfer_rules F b a true (Ok a)) (Ok a))

-- rules 1 to 3: the address of the CCW, through at most one TIC
abbrev pub found : Format → ℕ → Reader → ℕ → Bool → Result ℕ Broken
found F L b a first =
    let through = target F L b (ccw_at F b a).address in
    aligned L a (cond (transfer_at F b a) (transfer_rules F b a first through) (Ok a))

-- the code in force with a CCW
abbrev pub in_force : Option ℕ → ℕ → ℕ
in_force None code = code
in_force (Some command) code = command

abbrev pub none_in_force : Option ℕ → Bool
none_in_force None = true
none_in_force (Some command) = false

abbrev pub refused_flag : Flags → Bool
refused_flag f = f.pci || f.suspend || f.mida

-- rules 7 to 10: the pieces of the area
abbrev pub pieces_of : ℕ → Reader → ℕ → Ccw → Bool → Bool → Result (List Piece) Broken
pieces_of L b a w back true =
    unless (not (w.address % 4 == 0)) (ListMisaligned a) a (by_words back L b a w.count false w.address w.count)
pieces_of L b a w back false =
    unless (outside back L w.address w.count) (AreaOutside (first_outside back L w.address)) a (Ok (cut back w.count w.address w.count))

abbrev pub cell_at : Option ℕ → ℕ → Ccw → List Piece → Cell
cell_at command a w ps = record { ccw = record { value = w; address = a }; before = command; code = in_force command w.code; pieces = ps }

-- rules 4 to 10 for the CCW at a
abbrev pub read_up : Format → ℕ → Reader → ℕ → Option ℕ → Result Cell Broken
read_up F L b a command =
    let w = ccw_at F b a in
    let ps = pieces_of L b a w (backward (in_force command w.code)) w.flags.ida in
    let r7 = bind ps (λ l. Ok (cell_at command a w l)) in
    let r6 = unless (w.count == 0) (CountZero a) a r7 in
    let r5 = unless (refused_flag w.flags) (FlagRefused a) a r6 in
    unless (none_in_force command && is_invalid (class_in F w.code)) (CodeInvalid a) a r5

-- all ten
abbrev pub taken_up : Format → List ℕ → Place → Result Cell Broken
taken_up F bytes place =
    bind (found F (reach bytes) (reader bytes) place.address place.first)
    (λ a. read_up F (reach bytes) (reader bytes) a place.command)
