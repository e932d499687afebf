-- What the code keeps of a program, as the definitions have it. A reader must believe: a table means its entries up to
-- its length.
use Rattle.std.specs.Prelude.{ℕ, cond, List, length, take, Some, None, Option, nat_lt, slice_index}
use Rattle.walk.specs.OwnBytes.{extents_in}
use Rattle.map.specs.declared.address.GuestAddress.{GuestAddress}
use Rattle.translate.specs.declared.back_table.BackTable.{BackTable}
use Rattle.translate.specs.declared.kept.Kept.{Kept}
use Rattle.translate.specs.Translations.{Keeping}

abbrev pub addresses_in : BackTable → List ℕ
addresses_in table = take table.len table.addresses

-- the address of the CCW of cell i, if there is such a cell
abbrev pub entry_at : List ℕ → ℕ → Option GuestAddress
entry_at addresses i = cond (nat_lt i (length addresses)) (Some (record { 0 = slice_index addresses i })) None

abbrev pub keeping_in : Kept → Keeping
keeping_in k = record { back = addresses_in k.back; own = extents_in k.own; pages = k.pages.flags }
