use Rattle.std.proofs.Common.{◌≡◌, true, [], None, Ok, sym, ap, ◌∙◌}
use Rattle.std.proofs.lemmas.Result.{err_from_is_err_and}
use Rattle.format.specs.Bytes.{reader}
use Rattle.rules.specs.TakingUp.{reach, cell_of}
use Rattle.walk.specs.Walks.{Trail, cells_of, seen_of, walk}
use Rattle.walk.proofs.Trails.{turn_on, turn_last, turn_met, turn_off, behind_some, behind_none}
use Rattle.walk.proofs.OwnAlone.{own_bytes_alone}
use Rattle.walk.proofs.SoundTrails.{sound_trail}
use Rattle.walk.proofs.walking.walk_program.Goals as goal
use Rattle.walk.proofs.walking.walk_program.Goals.{in-Met, in-Fresh+in-None}

pub returns-in_err-index-clause-is : goal.returns-in_err-index-clause-is
returns-in_err-index-clause-is g c =
    let st = g.S.Storage.bytes c.args.storage.now in
    let visited = c.walk.visited in
    let p = c.walk.place in
    let r = err_from_is_err_and c.from_residual.result c.from_residual.ensures.1 in
    rw (r.1, r.2) (
    sym (turn_off (reach st) (reader st) (cells_of visited.cells) visited.words p.address p.first p.command visited.few c.in_err-index.field-0.0 c.in_err-index.ensures.is)
    ∙ c.walk.invariant)

pub walk-preserved : goal.walk-preserved
walk-preserved g c =
    let st = g.S.Storage.bytes c.args.storage.now in
    let visited = c.walk.visited in
    let p = c.walk.place in
    let t = cell_of c.in-Fresh.taken in
    let next = behind_some t c.in-Some.behind (sym c.in-Some.is ∙ c.place_behind-next.ensures) in
    rw (next.1, c.push.ensures.cells, c.push.ensures.words) (
    sym (turn_on (reach st) (reader st) (cells_of visited.cells) visited.words p.address p.first p.command visited.few t (ap (λ v. Ok (seen_of v)) (sym c.in-Fresh.is) ∙ c.in_ok-index.ensures.is) next.0)
    ∙ c.walk.invariant)

pub returns : goal.returns
returns g c =
    let bytes = g.S.Storage.bytes c.args.storage.now in
    let start = c.args.start in
    let visited = c.walk.visited in
    let p = c.walk.place in
    let w : Trail = record { cells = cells_of c.match-branch-2.visited.cells; closes = c.match-branch-2.closes } in
    let is : Ok w ≡ walk 65 (reach bytes) (reader bytes) [] 0 start true None =
    elim c.match-branch-2.branch [
      | in-Met w ↦ rw (w.visited-is, w.closes-is) (
          sym (turn_met (reach bytes) (reader bytes) (cells_of visited.cells) visited.words p.address p.first p.command visited.few w.in-Met.index (ap (λ v. Ok (seen_of v)) (sym w.in-Met.is) ∙ c.in_ok-index.ensures.is))
          ∙ c.walk.invariant)
      | in-Fresh+in-None w ↦
          let t = cell_of w.in-Fresh.taken in
          rw (w.visited-is, w.closes-is, w.push.ensures.cells) (
          sym (turn_last (reach bytes) (reader bytes) (cells_of visited.cells) visited.words p.address p.first p.command visited.few t (ap (λ v. Ok (seen_of v)) (sym w.in-Fresh.is) ∙ c.in_ok-index.ensures.is) (behind_none t (sym w.in-None.is ∙ w.place_behind-next.ensures)))
          ∙ c.walk.invariant)
    ] in
    record { is = is; sound = sound_trail (reach bytes) (reader bytes) w start (sym is); alone = own_bytes_alone bytes start w (sym is) }
