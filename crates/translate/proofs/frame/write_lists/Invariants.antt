use Rattle.std.proofs.Common.{◌≡◌, ◌+◌, ◌*◌, map, length}
use Rattle.format.specs.Laying.{put_at}
use Rattle.rules.specs.TakingUp.{cell_of}
use Rattle.walk.specs.Walks.{cells_of}
use Rattle.map.specs.Places.{end_of, place_of}
use Rattle.translate.specs.Frames.{words_of}
use Rattle.translate.specs.Fitting.{Below}
use Rattle.translate.proofs.Puts.{host_words}
use Rattle.translate.proofs.frame.write_lists.Given as goal

-- the lists there are, with those still to come, are the whole
abbrev pub invariant-loop-taken : goal.invariant-loop-taken
invariant-loop-taken g l =
    let fs = g.M.Map.frames l.map in
    let words = words_of (cells_of l.cells) in
    let left = words_of (map cell_of l.taken-iterator.rest.now) in
    (put_at (4 * l.words) (host_words (place_of fs) left) l.part ≡ put_at 0 (host_words (place_of fs) words) l.initial.part)
    × (l.words + length left ≡ length words)
    × Below (end_of fs) left
