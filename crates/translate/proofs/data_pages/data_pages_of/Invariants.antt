use Rattle.std.proofs.Common.{◌≡◌, ℕ, ◌<◌, false, ◌||◌, map, length, get_or}
use Rattle.rules.specs.TakingUp.{cell_of}
use Rattle.walk.specs.Walks.{cells_of}
use Rattle.translate.specs.Translations.{data_in}
use Rattle.translate.proofs.data_pages.data_pages_of.Given as goal

-- what is marked, with the cells still to come, is all
abbrev pub invariant-loop-taken : goal.invariant-loop-taken
invariant-loop-taken l =
    let rest = l.taken-iterator.rest.now in
    ((page : ℕ) → page < 128 → get_or l.pages.flags page false || data_in (map cell_of rest) page ≡ data_in (cells_of l.cells) page)
    × (length l.pages.flags ≡ 128)
