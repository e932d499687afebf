use Rattle.std.proofs.Common.{◌+◌, ◌*◌, ◌≤◌, List, map, length, get_or, ap, ◌∙◌, subst, arith}
use Rattle.format.specs.Bytes.{word_bytes}
use Rattle.format.specs.Laying.{put_at}
use Rattle.rules.specs.declared.pieces.Piece.{Piece}
use Rattle.map.specs.Places.{end_of, place_of}
use Rattle.walk.proofs.Trails.{entry_or, entry_none}
use Rattle.translate.specs.Fitting.{Below}
use Rattle.translate.specs.Frames.{first_of}
use Rattle.translate.proofs.Puts.{no_piece, host_words, word_turn, words_end}
use Rattle.short_list.specs.Lists.{items}
use Rattle.translate.proofs.frame.write_list.Goals as goal

pub loop-index-preserved : goal.loop-index-preserved
loop-index-preserved g c =
    let fs = g.M.Map.frames c.args.map.now in
    let at = c.args.address + 4 * c.loop-index.index in
    let i = c.loop-index.index in
    let ys = c.deref-piece-items.result.now in
    let part = c.loop-index.part in
    let inv = c.loop-index.invariant in
    let bytes = c.word_to_bytes.ensures ∙ ap word_bytes c.host_word-word.ensures in
    let here = ap length c.deref-piece-items.ensures.0 in
    let room : at + length c.word_to_bytes.result ≤ length part = omega (arith, ap length bytes, here, c.requires.0, c.loop-index.auto.part) in
    let next = entry_or (λ (l : List Piece). map first_of l) (items c.args.pieces.now) ys i no_piece c.deref-piece-items.ensures.0 c.loop-index-test.true in (
      word_turn (place_of fs) c.args.address i (get_or ys i no_piece).first _ _ part c.put_at.new.storage _ (omega arith) (c.put_at.ensures.whole room ∙ ap (λ x. put_at at x part) bytes) next inv.0,
      (subst (Below (end_of fs)) next inv.1).1,
    )

pub returns : goal.returns
returns g c =
    let place = place_of (g.M.Map.frames c.args.map.now) in
    let pieces = (items c.args.pieces.now) in
    let whole = put_at c.args.address (host_words place (map first_of pieces)) c.args.part.now in
    let none = entry_none (λ (l : List Piece). map place (map first_of l)) pieces c.deref-piece-items.result.now c.loop-index.index c.deref-piece-items.ensures.0 c.loop-index-test.false in
    words_end (c.args.address + 4 * c.loop-index.index) _ c.loop-index.part whole none c.loop-index.invariant.0
