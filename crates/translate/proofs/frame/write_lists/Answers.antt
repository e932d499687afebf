use Rattle.std.proofs.Common.{◌*◌, List, map, length, ap, ◌∙◌, subst, arith}
use Rattle.std.proofs.lemmas.List.{nil_from_length}
use Rattle.format.specs.Laying.{put_at}
use Rattle.rules.specs.declared.place.Taken.{Taken}
use Rattle.rules.specs.TakingUp.{cell_of}
use Rattle.map.specs.Places.{end_of, place_of}
use Rattle.translate.specs.Frames.{words_of}
use Rattle.translate.specs.Fitting.{Below}
use Rattle.translate.proofs.Puts.{host_words, list_turn, words_end, words_more, words_none, list_below}
use Rattle.short_list.specs.Lists.{items}
use Rattle.translate.proofs.frame.write_lists.Goals as goal

pub write_list-requires : goal.write_list-requires
write_list-requires g c =
    let t = cell_of c.in-Some.taken.now in
    let rest = map cell_of c.next.new.self.rest.now in
    let inv = c.loop-taken.invariant in
    let limit = end_of (g.M.Map.frames c.args.map.now) in
    let next = ap (λ (l : List Taken). words_of (map cell_of l)) c.in-Some.ensures.steps in
    let many = ap length next ∙ words_more t rest in
    (omega (arith, many, inv.1, c.requires.0, c.loop-taken.auto.part), (list_below limit t rest (subst (Below limit) next inv.2)).0)

pub loop-taken-preserved : goal.loop-taken-preserved
loop-taken-preserved g c =
    let words = c.loop-taken.words in
    let part = c.loop-taken.part in
    let t = cell_of c.in-Some.taken.now in
    let rest = map cell_of c.next.new.self.rest.now in
    let inv = c.loop-taken.invariant in
    let fs = g.M.Map.frames c.args.map.now in
    let limit = end_of fs in
    let next = ap (λ (l : List Taken). map cell_of l) c.in-Some.ensures.steps in
    let whole = put_at 0 (host_words (place_of fs) (words_of (map cell_of (items c.args.cells.now)))) c.args.part.now in
    let left = ap words_of next in
    let many = ap length left ∙ words_more t rest in (
      list_turn (place_of fs) words c.len-words.result t _ rest part c.write_list.new.part whole (omega (arith, inv.1, c.requires.0, c.loop-taken.auto.part)) c.write_list.ensures c.len-words.ensures.value next inv.0,
      omega (arith, many, inv.1, c.len-words.ensures.value),
      (list_below limit t rest (subst (Below limit) left inv.2)).1,
    )

pub returns : goal.returns
returns g c =
    let place = place_of (g.M.Map.frames c.args.map.now) in
    let none = ap (λ (l : List Taken). words_of (map cell_of l)) (nil_from_length _ c.in-None.ensures.steps.0) ∙ words_none in
    let inv = c.loop-taken.invariant in
    let whole = put_at 0 (host_words place (words_of (map cell_of (items c.args.cells.now)))) c.args.part.now in
    record {
      count = omega (arith, inv.1, ap length none);
      lists = words_end (4 * c.loop-taken.words) _ c.loop-taken.part whole (ap (map place) none) inv.0;
    }
