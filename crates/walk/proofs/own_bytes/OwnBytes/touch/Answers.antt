use Rattle.std.proofs.Common.{◌≡◌, max, sym, ◌∙◌, subst, rules, tests}
use Rattle.std.specs.List.{find}
use Rattle.std.specs.Option.{option_map}
use Rattle.std.proofs.lemmas.Iterator.{YieldsList-from_slice}
use Rattle.std.proofs.lemmas.Iterator.Search.{find_from_yields_List}
use Rattle.walk.specs.declared.own_bytes.Extent.{Extent}
use Rattle.walk.specs.OwnBytes.{extents_in, overlaps, touched, Tells}
use Rattle.walk.proofs.Touching.{touched_is, tells}
use Rattle.walk.proofs.own_bytes.OwnBytes.touch.Goals as goal

pub returns : goal.returns
returns c =
    let es = extents_in c.args.self.now in
    let low = c.args.low in
    let size = c.args.size in
    let found = find_from_yields_List (λ e. overlaps e low size) _ _ c.find.result c.find.ensures.ran (YieldsList-from_slice es cc) (λ x b q k. search (rules, tests)) in
    let by_chain : c.map.result ≡ option_map (λ (e : Extent). max low e.start) (find (λ e. overlaps e low size) es) = search rules in
    let is : c.map.result ≡ touched es low size = by_chain ∙ sym (touched_is es low size) in
    record { is = is; tells = subst (Tells es low size) (sym is) (tells es low size) }
