use Rattle.std.proofs.Common.{false, ◌||◌, List, map, length, get_or, sym, ap, ◌∙◌}
use Rattle.std.proofs.lemmas.List.FromFn.{fill_by_all}
use Rattle.std.proofs.lemmas.List.{nil_from_length, get_or-replicate, length-replicate}
use Rattle.rules.specs.declared.place.Taken.{Taken}
use Rattle.rules.specs.TakingUp.{cell_of}
use Rattle.walk.specs.Walks.{cells_of}
use Rattle.translate.specs.Translations.{data_in}
use Rattle.translate.proofs.Marks.{cell_marked, no_data_in}
use Rattle.short_list.specs.Lists.{items}
use Rattle.translate.proofs.data_pages.data_pages_of.Goals as goal

pub loop-taken-init : goal.loop-taken-init
loop-taken-init c =
    let none = c.none-pages.ensures in
    let all = c.into_iter-taken-iterator.ensures.into_iter_gives.0 in (
      (λ page k.
          ap (λ (l : List Taken). get_or c.none-pages.result.flags page false || data_in (map cell_of l) page) all
          ∙ ap (λ x. get_or x page false || data_in (cells_of c.args.cells.now) page) none ∙ ap (λ x. x || data_in (cells_of c.args.cells.now) page) (get_or-replicate 128 page false false k)),
      ap length none ∙ length-replicate 128 false,
    )

pub loop-taken-preserved : goal.loop-taken-preserved
loop-taken-preserved c =
    let t = c.in-Some.taken.now in
    let rest = map cell_of c.next.new.self.rest.now in (
      (λ page k.
          let before = get_or c.loop-taken.pages.flags page false in
          cell_marked (cell_of t) rest page before (get_or c.mark.new.self.flags page false) (c.mark.ensures.pages page k)
          ∙ ap (λ (l : List Taken). before || data_in (map cell_of l) page) (sym c.in-Some.ensures.steps)
          ∙ c.loop-taken.invariant.0 page k),
      c.mark.ensures.size,
    )

pub returns : goal.returns
returns c =
    let xs = (items c.args.cells.now) in
    let flags = c.loop-taken.pages.flags in
    let none = nil_from_length _ c.in-None.ensures.steps.0 in
    fill_by_all (data_in (map cell_of xs)) flags 128 false c.loop-taken.invariant.1
    (λ page k.
    let flag = get_or flags page false in
    sym (no_data_in page flag) ∙ ap (λ (l : List Taken). flag || data_in (map cell_of l) page) (sym none) ∙ c.loop-taken.invariant.0 page k)
