-- What formats and command classes are called where they are printed.
use Rattle.std.specs.Prelude.{ℕ, List, codes}
use Rattle.format.specs.declared.ccw.Format.{Format}
use Rattle.format.specs.declared.ccw.Format.TheVariants.{Zero, One}
use Rattle.format.specs.declared.class.Class.{Class}
use Rattle.format.specs.declared.class.Class.TheVariants.{Invalid, Write, Read, Control, Sense, TransferInChannel, ReadBackward}

abbrev pub digit_of : Format → List ℕ
digit_of Zero = codes "0"
digit_of One = codes "1"

abbrev pub name_of : Class → List ℕ
name_of Invalid = codes "invalid"
name_of Write = codes "write"
name_of Read = codes "read"
name_of Control = codes "control"
name_of Sense = codes "sense"
name_of TransferInChannel = codes "transfer in channel"
name_of ReadBackward = codes "read backward"
