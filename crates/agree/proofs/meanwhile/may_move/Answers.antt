use Rattle.std.proofs.Common.{◌≡◌, not, ◌&&◌, length, nat_lt, sym, ◌∙◌, rules}
use Rattle.agree.proofs.Staying.{move_keeps}
use Rattle.agree.proofs.meanwhile.may_move.Goals as goal

pub returns-then-page-page_count-clause-keeps : goal.returns-then-page-page_count-clause-keeps
returns-then-page-page_count-clause-keeps g c =
    let fs = g.M.Map.frames c.args.map.now in
    let free = g.M.Map.free c.args.map.now in
    let is : c.is_free.result ≡ ((not c.args.has_data && nat_lt c.args.page (length fs)) && free c.args.frame) = search rules in
    λ allowed. move_keeps fs free (g.met.M.Map.lawful _) _ c.args.page c.args.frame c.args.has_data _ _ (sym is ∙ allowed)
