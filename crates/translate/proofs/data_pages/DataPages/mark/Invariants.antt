use Rattle.std.proofs.Common.{◌≡◌, ℕ, ◌<◌, false, ◌||◌, length, get_or}
use Rattle.rules.specs.Areas.{listed}
use Rattle.translate.specs.Translations.{piece_in}
use Rattle.translate.proofs.data_pages.DataPages.mark.Given as goal

-- what is marked, with the pieces still to come, is all
abbrev pub invariant-loop-piece : goal.invariant-loop-piece
invariant-loop-piece l =
    let rest = l.piece-iterator.rest.now in
    ((page : ℕ) → page < 128 → get_or l.self.flags page false || piece_in page rest ≡ get_or l.initial.self.flags page false || piece_in page (listed l.pieces))
    × (length l.self.flags ≡ 128)
