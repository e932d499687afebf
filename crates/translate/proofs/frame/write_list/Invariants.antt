use Rattle.std.proofs.Common.{◌≡◌, ◌+◌, ◌*◌, map, drop}
use Rattle.format.specs.Laying.{put_at}
use Rattle.rules.specs.Areas.{listed}
use Rattle.map.specs.Places.{end_of, place_of}
use Rattle.translate.specs.Fitting.{Below}
use Rattle.translate.specs.Frames.{first_of}
use Rattle.translate.proofs.Puts.{host_words}
use Rattle.translate.proofs.frame.write_list.Given as goal

-- the words there are, with those still to come, are the whole
abbrev pub invariant-loop-index : goal.invariant-loop-index
invariant-loop-index g l =
    let fs = g.M.Map.frames l.map in
    let words = host_words (place_of fs) in
    let left = map first_of (drop l.index (listed l.pieces)) in
    (put_at (l.address + 4 * l.index) (words left) l.part ≡ put_at l.address (words (map first_of (listed l.pieces))) l.initial.part)
    × Below (end_of fs) left
