-- The class of each command code. A reader must believe: the low half of a code decides where it is
-- 0, 4, 8 or C, and the low two bits decide otherwise.
use Rattle.std.specs.Prelude.{ℕ, zero, suc, ◌%◌, Bool, true, false, cond, List, [], ◌∷◌, ◌++◌, ◌==◌}
use Rattle.format.specs.declared.ccw.Format.{Format}
use Rattle.format.specs.declared.ccw.Format.TheVariants.{Zero, One}
use Rattle.format.specs.declared.class.Class.{Class}
use Rattle.format.specs.declared.class.Class.TheVariants.{Invalid, Write, Read, Control, Sense, TransferInChannel, ReadBackward}

-- 01 write, 10 read, 11 control
abbrev pub by_low_two_bits : ℕ → Class
by_low_two_bits bits = cond (bits == 1) Write (cond (bits == 2) Read Control)

-- the class of a code, whatever the format
abbrev pub class_of : ℕ → Class
class_of code =
    cond (code % 16 == 0) Invalid (
    cond (code % 16 == 4) Sense (
    cond (code % 16 == 8) TransferInChannel (
    cond (code % 16 == 12) ReadBackward (by_low_two_bits (code % 4)))))

-- a TIC of format 1 is exactly 08
abbrev pub only_eight : ℕ → Class → Class
only_eight code TransferInChannel = cond (code == 8) TransferInChannel Invalid
only_eight code Invalid = Invalid
only_eight code Write = Write
only_eight code Read = Read
only_eight code Control = Control
only_eight code Sense = Sense
only_eight code ReadBackward = ReadBackward

abbrev pub class_in : Format → ℕ → Class
class_in Zero code = class_of code
class_in One code = only_eight code (class_of code)

-- sense, read and read backward are the reading classes
abbrev pub reads_storage : Class → Bool
reads_storage Invalid = false
reads_storage Write = false
reads_storage Read = true
reads_storage Control = false
reads_storage Sense = true
reads_storage TransferInChannel = false
reads_storage ReadBackward = true

abbrev pub backwards : Class → Bool
backwards Invalid = false
backwards Write = false
backwards Read = false
backwards Control = false
backwards Sense = false
backwards TransferInChannel = false
backwards ReadBackward = true

-- the classes of the sixteen codes with one high half, the code with low half 8 given
abbrev pub row : Class → List Class
row eighth =
    Invalid ∷ Write ∷ Read ∷ Control ∷ Sense ∷ Write ∷ Read ∷ Control
    ∷ eighth ∷ Write ∷ Read ∷ Control ∷ ReadBackward ∷ Write ∷ Read ∷ Control ∷ []

abbrev pub rows : ℕ → Class → List Class
rows zero eighth = []
rows (suc n) eighth = row eighth ++ rows n eighth

-- all 256 codes
abbrev pub class_table : Format → List Class
class_table Zero = rows 16 TransferInChannel
class_table One = row TransferInChannel ++ rows 15 Invalid
