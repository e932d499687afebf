use Rattle.std.proofs.Common.{◌≡◌, false, [], map, length, sym, ap, ◌∙◌, subst, arith, ltb-false}
use Rattle.std.proofs.lemmas.List.{nil_from_length}
use Rattle.format.specs.Bytes.{reader}
use Rattle.rules.specs.Areas.{area, sizes, listed}
use Rattle.channel.proofs.Laying.{taken_on, room_on, read_nil}
use Rattle.channel.proofs.Tables.{Rest, rest_next, shaped_sizes}
use Rattle.channel.proofs.moving.write_pieces.Goals as goal

pub write_piece-moved-requires : goal.write_piece-moved-requires
write_piece-moved-requires g c =
    let rest = subst (Rest false (length c.args.storage.now)) c.in-Some.ensures.steps c.loop-piece.invariant.2 in
    ltb-false _ _ (rest_next false (length c.args.storage.now) c.in-Some.piece.now c.next.new.self.rest.now rest).0

pub overflow_add-moved : goal.overflow_add-moved
overflow_add-moved g c =
    let total = shaped_sizes false (length c.args.storage.now) false c.args.count (listed c.args.pieces.now) c.requires in
    omega (arith, c.loop-piece.invariant.0, ap sizes c.in-Some.ensures.steps, total, c.write_piece-moved.ensures.moved)

pub loop-piece-preserved : goal.loop-piece-preserved
loop-piece-preserved g c =
    let d = g.D.Device in
    let m = d.machine in
    let b = reader c.args.storage.now in
    let p = c.in-Some.piece.now in
    let rest = c.next.new.self.rest.now in
    let e = c.in-Some.ensures.steps in
    let inv = c.loop-piece.invariant in
    let s = d.state c.loop-piece.device in
    let u = d.state c.write_piece-moved.new.device in
    let done = c.write_piece-moved.ensures in (
      omega (arith, room_on d.laws false b p rest s u c.write_piece-moved.result done.became done.moved, inv.0, ap sizes e),
      taken_on d.laws false b p rest s u done.became ∙ ap (λ x. m.taken (map b (area false x)) s) (sym e) ∙ inv.1,
      (rest_next false (length c.args.storage.now) p rest (subst (Rest false (length c.args.storage.now)) e inv.2)).2,
    )

pub returns-clause-became : goal.returns-clause-became
returns-clause-became g c =
    let d = g.D.Device in
    let m = d.machine in
    let b = reader c.args.storage.now in
    let e : c.loop-piece.piece-iterator.rest.now ≡ [] = nil_from_length _ c.in-None.ensures.steps.0 in
    let s = d.state c.loop-piece.device in
    sym (ap (λ x. m.taken (map b (area false x)) s) e ∙ ap (λ x. m.taken x s) (read_nil false b) ∙ d.laws.take_none s) ∙ c.loop-piece.invariant.1
