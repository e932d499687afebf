use Rattle.std.proofs.Common.{◌≡◌, ◌≤◌, length, take, drop, Some, None, Option, Ok, ap, arith, rules}
use Rattle.disk.specs.declared.blocks.Location.{Location}
use Rattle.disk.specs.declared.extent.Extent.{Extent}
use Rattle.disk.specs.DiskState.{DiskState, reading}
use Rattle.disk.specs.DiskMachine.{with_open, begin_read}
use Rattle.disk.specs.Meaning.{Located, model_meaning}
use Rattle.disk.proofs.Stored.{blocks_between}
use Rattle.disk.proofs.state.commands.DiskModelDeviceModel.begin.Goals as goal
use Rattle.disk.proofs.state.commands.DiskModelDeviceModel.begin.Goals.{in-Locate, in-Write+in_ok-extent-in-Write, in-Read+in_ok-extent-in-Read}

read_opens : (place : Option Location) (extent : Extent) (s : DiskState) → Located place (Ok extent) → extent.limit ≤ length s.bytes → with_open (reading (drop extent.next (take extent.limit s.bytes))) s ≡ (begin_read place s).1
read_opens None extent s h lies = cc
read_opens (Some place) extent s h lies =
    ap (λ x. with_open (reading x) s) (blocks_between place.first place.count extent.next extent.limit s.bytes h.0 h.1 lies)

pub returns-clause-became : goal.returns-clause-became
returns-clause-became c =
    let before = c.args.self.now in
    elim c.match-branch-2.branch [
      | in-Locate w ↦ search rules
      | in-Write+in_ok-extent-in-Write w ↦ search rules
      | in-Read+in_ok-extent-in-Read w ↦
          let extent = w.in_ok-extent-in-Read.extent in
          let opens = read_opens before.location extent (model_meaning before) w.in_ok-extent-in-Read.ensures (omega (arith, extent.inside, before.full)) in
          search rules
    ]
