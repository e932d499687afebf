use Rattle.std.proofs.Common.{◌≡◌, ◌+◌, cond, ltb, get_or, sym, ap, ◌∙◌, rules}
use Rattle.window.specs.Windows.{start_of}
use Rattle.window.specs.Showing.{length-shown, get_or-shown_at, shown_lawful}
use Rattle.window.proofs.Window.start.Goals as goal

pub returns : goal.returns
returns g c =
    let w = c.args.self.now in
    let first = w.span.first in
    let count = w.span.count in
    let fs = g.M.Map.frames w.below in
    let is : c.min.result ≡ start_of first fs = search rules in
    record {
      is = is;
      pages = rw is (length-shown first count fs);
      each = λ i. get_or-shown_at first count fs i ∙ ap (λ s. cond (ltb i count) (get_or fs (s + i) 0) 0) (sym is);
      lawful = shown_lawful first count fs (g.M.Map.free w.below) w.span.sized.0 (g.met.M.Map.lawful w.below);
    }
