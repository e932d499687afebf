use Rattle.std.proofs.Common.{◌/◌, true, false, ◌||◌, List, length, get_or, sym, ap, ◌∙◌, arith, length-set}
use Rattle.std.proofs.lemmas.List.{nil_from_length}
use Rattle.rules.specs.declared.pieces.Piece.{Piece}
use Rattle.translate.specs.Translations.{piece_in}
use Rattle.translate.proofs.Marks.{piece_marked, no_piece_in}
use Rattle.translate.proofs.data_pages.DataPages.mark.Goals as goal

pub loop-piece-preserved : goal.loop-piece-preserved
loop-piece-preserved c =
    let piece = c.in-Some.piece.now in
    let rest = c.next.new.self.rest.now in
    let flags = c.loop-piece.self.flags in
    let inv = c.loop-piece.invariant in (
      (λ page k.
          ap (λ x. get_or x page false || piece_in page rest) c.mark_page.ensures
          ∙ piece_marked flags piece rest page (λ same. omega (arith, inv.1))
          ∙ ap (λ (l : List Piece). get_or flags page false || piece_in page l) (sym c.in-Some.ensures.steps)
          ∙ inv.0 page k),
      ap length c.mark_page.ensures ∙ length-set flags (piece.first / 4096) true ∙ inv.1,
    )

pub returns-clause-pages : goal.returns-clause-pages
returns-clause-pages c =
    λ page k.
    let flag = get_or c.loop-piece.self.flags page false in
    let none = nil_from_length _ c.in-None.ensures.steps.0 in
    sym (no_piece_in page flag) ∙ ap (λ (l : List Piece). flag || piece_in page l) (sym none) ∙ c.loop-piece.invariant.0 page k
