-- The number and the address of each refusal. A reader must believe this table.
use Rattle.std.specs.Prelude.{ℕ}
use Rattle.format.specs.declared.refusal.Refusal.{Refusal}
use Rattle.format.specs.declared.refusal.Refusal.TheVariants.{Misaligned, CcwOutside, TransferMisplaced, CodeInvalid, FlagRefused, CountZero, ListMisaligned, WordOutside, WordOffBoundary, AreaOutside, TooManyPlaces, TooManyWords, ReadsOverProgram, ProgramUncollected, StoreOverProgram, PastGuestEnd, TokenStale, HostSize, FrameTaken, PagePinned, HostLength, MapUnlawful}

abbrev pub number_of : Refusal → ℕ
number_of (Misaligned a) = 1
number_of (CcwOutside a) = 2
number_of (TransferMisplaced a) = 3
number_of (CodeInvalid a) = 4
number_of (FlagRefused a) = 5
number_of (CountZero a) = 6
number_of (ListMisaligned a) = 7
number_of (WordOutside a) = 8
number_of (WordOffBoundary a) = 9
number_of (AreaOutside a) = 10
number_of (TooManyPlaces a) = 11
number_of (TooManyWords a) = 12
number_of (ReadsOverProgram a) = 13
number_of ProgramUncollected = 14
number_of (StoreOverProgram a) = 15
number_of (PastGuestEnd a) = 16
number_of TokenStale = 17
number_of HostSize = 18
number_of FrameTaken = 19
number_of PagePinned = 20
number_of HostLength = 21
number_of MapUnlawful = 22

abbrev pub address_of : Refusal → ℕ
address_of (Misaligned a) = a
address_of (CcwOutside a) = a
address_of (TransferMisplaced a) = a
address_of (CodeInvalid a) = a
address_of (FlagRefused a) = a
address_of (CountZero a) = a
address_of (ListMisaligned a) = a
address_of (WordOutside a) = a
address_of (WordOffBoundary a) = a
address_of (AreaOutside a) = a
address_of (TooManyPlaces a) = a
address_of (TooManyWords a) = a
address_of (ReadsOverProgram a) = a
address_of ProgramUncollected = 0
address_of (StoreOverProgram a) = a
address_of (PastGuestEnd a) = a
address_of TokenStale = 0
address_of HostSize = 0
address_of FrameTaken = 0
address_of PagePinned = 0
address_of HostLength = 0
address_of MapUnlawful = 0
