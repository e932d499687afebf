use Rattle.std.proofs.Common.{◌++◌, ap, ◌∙◌, map}
use Rattle.std.proofs.lemmas.List.{drop-replicate}
use Rattle.format.specs.Laying.{put_at}
use Rattle.map.specs.Places.{place_of}
use Rattle.walk.specs.Walks.{trail_of}
use Rattle.translate.specs.Frames.{cells_part, filled, words_of, words_bytes}
use Rattle.translate.proofs.Puts.{put_zeros}
use Rattle.translate.proofs.frame.write_frame.Goals as goal

pub returns-clause-frame : goal.returns-clause-frame
returns-clause-frame g c =
    let w = trail_of c.args.walked.now in
    let words = words_bytes (map (place_of (g.M.Map.frames c.args.map.now)) (words_of w.cells)) in
    let cleared = c.split_at_mut-program.ensures.back ∙ drop-replicate 1024 4096 0 in
    ap (λ x. x ++ c.write_lists.new.part) c.write_program.ensures
    ∙ ap (λ x. filled 1024 (cells_part w) ++ x) (c.write_lists.ensures.lists ∙ ap (put_at 0 words) cleared ∙ put_zeros 3072 words)
