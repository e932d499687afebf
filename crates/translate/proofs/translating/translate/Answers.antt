use Rattle.std.proofs.Common.{◌≡◌, None, sym, rules}
use Rattle.walk.specs.OwnBytes.{extents_of, first_overwriting}
use Rattle.walk.specs.Walks.{trail_of}
use Rattle.translate.proofs.Accepted.{fitting}
use Rattle.translate.proofs.Leading.{frame_leads_home}
use Rattle.translate.proofs.translating.translate.Goals as goal

pub write_frame-words-requires : goal.write_frame-words-requires
write_frame-words-requires g c = (fitting (g.M.Map.frames c.args.map.now) c.args.host.now c.args.start.0 (trail_of c.in_ok-walked.walked) (sym c.in_ok-walked.ensures.is)).frame

pub of-requires : goal.of-requires
of-requires g c = (fitting (g.M.Map.frames c.args.map.now) c.args.host.now c.args.start.0 (trail_of c.in_ok-walked.walked) (sym c.in_ok-walked.ensures.is)).back

pub returns-clause-home : goal.returns-clause-home
returns-clause-home g c =
    let map = c.args.map.now in
    let w = trail_of c.in_ok-walked.walked in
    let none : first_overwriting (extents_of w.cells) w.cells ≡ None = search rules in
    frame_leads_home (g.M.Map.frames map) (g.M.Map.free map) (g.met.M.Map.lawful map) c.args.host.now c.args.start.0 w _ (sym c.in_ok-walked.ensures.is) none c.write_frame-words.ensures.frame
