use Rattle.std.proofs.Common.{◌+◌, refl, ap, arith}
use Rattle.std.proofs.lemmas.Result.{MatchResult-weaker}
use Rattle.window.specs.declared.Window.{Window}
use Rattle.window.specs.Showing.{put_below, made_from_cases, shown_put, shown_lawful}
use Rattle.window.proofs.Window.put_through.Goals as goal

pub returns-then-page-self : goal.returns-then-page-self
returns-then-page-self g c =
    let w = c.args.self.now in
    let m = g.M.Map in
    let new = c.put.new.self in
    let make : g.row.M.Denot → Window g.row.M.Denot = λ x. record { below = x; span = w.span } in
    let through = put_below w.span.first w.span.count (m.frames w.below) (m.free w.below) (m.free new) (m.frames new) c.args.page c.args.frame
    c.put.result make new w.below _ (ap (λ start. start + c.args.page) c.start-start.ensures.is) (omega arith) c.put.ensures.answer in
    record {
      answer = MatchResult-weaker c.put.result through
          (λ _ p. shown_put w.span.first w.span.count (m.frames w.below) (m.free w.below) (m.free new) (m.frames new) c.args.page c.args.frame p) (λ _ k. k);
      below = made_from_cases c.put.result _ _ through;
      shows = refl;
      lawful = shown_lawful w.span.first w.span.count (m.frames new) (m.free new) w.span.sized.0 (g.met.M.Map.lawful new);
    }
