use Rattle.std.proofs.Common.{◌≡◌, ℕ, ◌+◌, ◌-◌, ◌<◌, true, Ok, length, sym, ap, ◌∙◌, arith, rules}
use Rattle.std.proofs.lemmas.List.{append-nil}
use Rattle.std.proofs.lemmas.Result.{err_from_is_err_and}
use Rattle.format.specs.Bytes.{reader}
use Rattle.rules.specs.Areas.{listed, by_words}
use Rattle.rules.specs.TakingUp.{reach}
use Rattle.rules.proofs.AreaSteps.{onto, words_none, word_on, word_off, worded}
use Rattle.short_list.specs.Lists.{items}
use Rattle.rules.proofs.area.Area.by_words.Goals as goal

pub returns-in_err-piece : goal.returns-in_err-piece
returns-in_err-piece g c =
    let st = g.S.Storage.bytes c.args.self.now.storage.now in
    let e = c.in_err-piece.field-0.0 in
    let p = err_from_is_err_and c.from_residual.result c.from_residual.ensures.1 in
    let some : 0 < c.loop-left.left = omega arith in
    rw (p.1, p.2) (sym (word_off c.args.self.now.backward (reach st) (reader st) c.args.self.now.ccw.address (listed c.loop-left.pieces) c.loop-left.later c.loop-left.at c.loop-left.left e some c.in_err-piece.ensures.is) ∙ c.loop-left.invariant.0)

pub loop-left-preserved : goal.loop-left-preserved
loop-left-preserved g c =
    let st = g.S.Storage.bytes c.args.self.now.storage.now in
    let p = c.in_ok-piece.piece in
    let inv = c.loop-left.invariant in
    let left = c.loop-left.left in
    let some : 0 < left = omega arith in
    let fits : length (items c.loop-left.pieces) < 33 = search rules in
    let size = c.in_ok-piece.ensures.size in (
      ap (λ x. onto x (by_words c.args.self.now.backward (reach st) (reader st) c.args.self.now.ccw.address (left - p.size) true (c.loop-left.at + 4) (left - p.size))) (c.push.ensures.room fits)
          ∙ sym (word_on c.args.self.now.backward (reach st) (reader st) c.args.self.now.ccw.address (listed c.loop-left.pieces) c.loop-left.later c.loop-left.at left p some c.in_ok-piece.ensures.is)
          ∙ inv.0,
      omega arith,
      λ e. let z : ◌≡◌ {A = ℕ} 0 1 = cc in absurd (omega arith),
      λ e more. rw (c.push.ensures.longer fits) (worded c.loop-left.later left p.size (length (items c.loop-left.pieces)) c.args.self.now.ccw.value.count inv.2 inv.3 inv.1 size.0 size.1 size.2 more),
    )

pub returns : goal.returns
returns g c =
    let st = g.S.Storage.bytes c.args.self.now.storage.now in
    let z : c.loop-left.left ≡ 0 = omega arith in
    ap Ok (sym (append-nil (listed c.loop-left.pieces)))
    ∙ ap (onto (listed c.loop-left.pieces)) (sym (ap (λ j. by_words c.args.self.now.backward (reach st) (reader st) c.args.self.now.ccw.address j c.loop-left.later c.loop-left.at j) z ∙ words_none c.args.self.now.backward (reach st) (reader st) c.args.self.now.ccw.address 0 c.loop-left.later c.loop-left.at))
    ∙ c.loop-left.invariant.0
