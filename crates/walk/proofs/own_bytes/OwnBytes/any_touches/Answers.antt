use Rattle.std.proofs.Common.{is_some, sym, ◌∙◌, rules, tests}
use Rattle.std.proofs.lemmas.Iterator.{YieldsList-from_slice}
use Rattle.std.proofs.lemmas.Iterator.Search.{any_from_yields_List}
use Rattle.rules.specs.declared.pieces.Piece.{Piece}
use Rattle.rules.specs.Areas.{listed}
use Rattle.walk.specs.OwnBytes.{extents_in, touched, lowest}
use Rattle.walk.proofs.Touching.{any_is}
use Rattle.walk.proofs.own_bytes.OwnBytes.any_touches.Goals as goal

pub returns : goal.returns
returns c =
    let es = extents_in c.args.self.now in
    let back = c.args.backward in
    let ps = listed c.args.pieces.now in
    any_from_yields_List (λ (p : Piece). is_some (touched es (lowest back p) p.size)) _ _ c.any.result c.any.ensures.ran (YieldsList-from_slice ps cc) (λ x b q k. search (rules, tests))
    ∙ sym (any_is es back ps)
