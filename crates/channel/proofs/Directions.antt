-- Writing goes upward.
use Rattle.std.proofs.Common.{◌≡◌, ℕ, false, refl}
use Rattle.format.specs.declared.class.Class.{Class}
use Rattle.format.specs.declared.class.Class.TheVariants.{Invalid, Write, Read, Control, Sense, TransferInChannel, ReadBackward}
use Rattle.format.specs.Classes.{class_of, reads_storage, backwards}
use Rattle.rules.specs.TakingUp.{reading, backward}

upward_class : (c : Class) → reads_storage c ≡ false → backwards c ≡ false
upward_class Invalid e = refl
upward_class Write e = refl
upward_class Read e = refl
upward_class Control e = refl
upward_class Sense e = refl
upward_class TransferInChannel e = refl
upward_class ReadBackward e = e

pub writes_upward : (code : ℕ) → reading code ≡ false → backward code ≡ false
writes_upward code e = upward_class (class_of code) e
