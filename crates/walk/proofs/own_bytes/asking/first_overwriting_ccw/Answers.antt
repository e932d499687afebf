use Rattle.std.proofs.Common.{◌≡◌, sym, ◌∙◌, rules, tests}
use Rattle.std.specs.List.{find}
use Rattle.std.specs.Option.{option_map}
use Rattle.std.proofs.lemmas.Iterator.{YieldsList-from_slice}
use Rattle.std.proofs.lemmas.Iterator.Search.{find_from_yields_List}
use Rattle.rules.specs.declared.place.Taken.{Taken}
use Rattle.rules.specs.TakingUp.{cell_of}
use Rattle.walk.specs.OwnBytes.{extents_in, overwrites}
use Rattle.walk.proofs.Touching.{first_is}
use Rattle.short_list.specs.Lists.{items}
use Rattle.walk.proofs.own_bytes.asking.first_overwriting_ccw.Goals as goal

pub returns : goal.returns
returns c =
    let es = extents_in c.args.own.now in
    let taken = (items c.args.cells.now) in
    let found = find_from_yields_List (λ (t : Taken). overwrites es (cell_of t)) _ _ c.find.result c.find.ensures.ran (YieldsList-from_slice taken cc) (λ x b q k. search (rules, tests)) in
    let by_chain : c.map.result ≡ option_map (λ (t : Taken). t.ccw.address) (find (λ t. overwrites es (cell_of t)) taken) = search rules in
    by_chain ∙ sym (first_is es taken)
