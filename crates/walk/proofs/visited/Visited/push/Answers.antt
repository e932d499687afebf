use Rattle.std.proofs.Common.{◌≡◌, [], ◌∷◌, ◌<◌, ◌++◌, map, length, ap, ◌∙◌, arith}
use Rattle.std.proofs.Math.ListN.{length-map}
use Rattle.std.proofs.lemmas.List.{map-append, length_push}
use Rattle.rules.specs.TakingUp.{cell_of}
use Rattle.walk.specs.Walks.{cells_of}
use Rattle.walk.specs.SoundTrails.{pieces_in}
use Rattle.walk.proofs.SoundTrails.{pieces_push}
use Rattle.short_list.specs.Lists.{items}
use Rattle.walk.proofs.visited.Visited.push.Goals as goal

pub invariant_of-self : goal.invariant_of-self
invariant_of-self c =
    let before = c.args.self.now in
    let t = cell_of c.args.taken in
    let fits : length (items before.cells) < 64 = omega (arith, length-map (items before.cells) cell_of, c.requires.room) in
    let more : cells_of c.push.new.self ≡ cells_of before.cells ++ t ∷ [] = ap (map cell_of) (c.push.ensures.room fits) ∙ map-append cell_of (items before.cells) (c.args.taken ∷ []) in
    let words = pieces_push (cells_of before.cells) t in
    record {
      few = omega (arith, ap length more, length_push (cells_of before.cells) t, c.requires.room);
      counted = omega (arith, ap pieces_in more, words, before.counted, c.len.ensures.value);
      short = omega (arith, c.requires.short, c.len.ensures.value);
    }
