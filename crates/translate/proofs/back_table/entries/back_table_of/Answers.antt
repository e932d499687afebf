use Rattle.std.proofs.Common.{◌+◌, ◌^◌, [], ◌∷◌, ◌++◌, List, map, drop, sym, ap, ◌∙◌, subst, append_assoc, arith}
use Rattle.std.proofs.lemmas.List.{append-nil}
use Rattle.rules.specs.declared.place.Taken.{Taken}
use Rattle.rules.specs.TakingUp.{cell_of}
use Rattle.walk.proofs.Trails.{entry_at, entry_none}
use Rattle.translate.specs.Fitting.{Below}
use Rattle.translate.specs.Kept.{addresses_in}
use Rattle.translate.specs.Translations.{ccw_addresses}
use Rattle.translate.proofs.Tables.{addresses_more, addresses_none}
use Rattle.short_list.specs.Lists.{items}
use Rattle.translate.proofs.back_table.entries.back_table_of.Goals as goal

pub push-requires : goal.push-requires
push-requires c =
    let xs = (items c.args.cells.now) in
    let i = c.loop-taken.taken-index in
    let t = c.taken-item.result in
    let inv = c.loop-taken.invariant in
    let more = entry_at (λ (l : List Taken). ccw_addresses (map cell_of l)) xs c.deref-taken-items.result.now i t c.deref-taken-items.ensures.0 c.loop-taken-test.true c.taken-item.is ∙ addresses_more (cell_of t) (map cell_of (drop (i + 1) xs)) in
    (omega (arith, inv.1, c.deref-taken-items.ensures.1), (subst (Below (2 ^ 31)) more inv.2).0)

pub loop-taken-preserved : goal.loop-taken-preserved
loop-taken-preserved c =
    let xs = (items c.args.cells.now) in
    let i = c.loop-taken.taken-index in
    let t = c.taken-item.result in
    let inv = c.loop-taken.invariant in
    let back = addresses_in c.loop-taken.back in
    let rest = ccw_addresses (map cell_of (drop (i + 1) xs)) in
    let more = entry_at (λ (l : List Taken). ccw_addresses (map cell_of l)) xs c.deref-taken-items.result.now i t c.deref-taken-items.ensures.0 c.loop-taken-test.true c.taken-item.is ∙ addresses_more (cell_of t) (map cell_of (drop (i + 1) xs)) in (
      ap (λ x. x ++ rest) c.push.ensures.list
          ∙ append_assoc back (t.ccw.address ∷ []) rest
          ∙ ap (λ x. back ++ x) (sym more)
          ∙ inv.0,
      omega (arith, c.push.ensures.len, inv.1),
      (subst (Below (2 ^ 31)) more inv.2).1,
    )

pub returns : goal.returns
returns c =
    let back = addresses_in c.loop-taken.back in
    let none = entry_none (λ (l : List Taken). ccw_addresses (map cell_of l)) (items c.args.cells.now) c.deref-taken-items.result.now c.loop-taken.taken-index c.deref-taken-items.ensures.0 c.loop-taken-test.false ∙ addresses_none in
    sym (append-nil back) ∙ ap (λ x. back ++ x) (sym none) ∙ c.loop-taken.invariant.0
