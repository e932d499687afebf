use Rattle.std.proofs.Common.{◌≡◌, false, [], length, sym, ap, ◌∙◌, subst, arith}
use Rattle.std.proofs.lemmas.List.{nil_from_length}
use Rattle.device.specs.Machine.{due}
use Rattle.channel.specs.Moves.{lay}
use Rattle.rules.specs.Areas.{area, sizes, listed}
use Rattle.channel.proofs.Laying.{bytes_on, state_on, count_on, lay_nil}
use Rattle.channel.proofs.Tables.{Rest, rest_next, shaped_sizes}
use Rattle.channel.proofs.moving.read_pieces.Goals as goal

pub read_piece-moved-requires : goal.read_piece-moved-requires
read_piece-moved-requires g c =
    let rest = subst (Rest c.args.backward (length c.args.storage.now)) c.in-Some.ensures.steps c.loop-piece.invariant.3 in
    let at = rest_next c.args.backward (length c.args.storage.now) c.in-Some.piece.now c.next.new.self.rest.now rest in
    let st : length c.loop-piece.storage ≡ length c.args.storage.now = c.loop-piece.auto.storage in
    (rw st at.0, at.1)

pub overflow_add-moved : goal.overflow_add-moved
overflow_add-moved g c =
    let total = shaped_sizes c.args.backward (length c.args.storage.now) false c.args.count (listed c.args.pieces.now) c.requires in
    omega (arith, c.loop-piece.invariant.0, ap sizes c.in-Some.ensures.steps, total, c.read_piece-moved.ensures.moved)

pub loop-piece-preserved : goal.loop-piece-preserved
loop-piece-preserved g c =
    let d = g.D.Device in
    let m = d.machine in
    let k = c.args.backward in
    let p = c.in-Some.piece.now in
    let rest = c.next.new.self.rest.now in
    let e = c.in-Some.ensures.steps in
    let inv = c.loop-piece.invariant in
    let s = d.state c.loop-piece.device in
    let u = d.state c.read_piece-moved.new.device in
    let done = c.read_piece-moved.ensures in (
      omega (arith, count_on d.laws k p rest s u c.read_piece-moved.result done.became done.moved, inv.0, ap sizes e),
      bytes_on d.laws k p rest c.loop-piece.storage c.read_piece-moved.new.storage s u done.bytes done.became
          ∙ ap (λ x. lay (area k x) (due (m.pending s)) c.loop-piece.storage) (sym e) ∙ inv.1,
      state_on d.laws k p rest s u done.became ∙ ap (λ x. m.given (sizes x) s) (sym e) ∙ inv.2,
      (rest_next k (length c.args.storage.now) p rest (subst (Rest k (length c.args.storage.now)) e inv.3)).2,
    )

pub returns : goal.returns
returns g c =
    let d = g.D.Device in
    let m = d.machine in
    let k = c.args.backward in
    let e : c.loop-piece.piece-iterator.rest.now ≡ [] = nil_from_length _ c.in-None.ensures.steps.0 in
    let inv = c.loop-piece.invariant in
    let s = d.state c.loop-piece.device in
    record {
      moved = omega (arith, ap sizes e, inv.0);
      bytes = sym (ap (λ x. lay (area k x) (due (m.pending s)) c.loop-piece.storage) e ∙ lay_nil k (due (m.pending s)) c.loop-piece.storage) ∙ inv.1;
      became = sym (ap (λ x. m.given (sizes x) s) e ∙ d.laws.give_none s) ∙ inv.2;
    }
