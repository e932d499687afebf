use Rattle.std.proofs.Common.{◌≡◌, not, is_some, sym, ◌∙◌, rules}
use Rattle.walk.specs.OwnBytes.{extents_in, touched}
use Rattle.agree.proofs.Staying.{store_keeps}
use Rattle.agree.proofs.meanwhile.may_store.Goals as goal

pub returns-clause-keeps : goal.returns-clause-keeps
returns-clause-keeps g c =
    let es = extents_in c.args.own.now in
    let is : c.is_none.result ≡ not (is_some (touched es c.args.address c.args.size)) = search rules in
    λ allowed. store_keeps _ _ (g.met.M.Map.lawful _) _ es c.args.address c.args.size (sym is ∙ allowed)
