use Rattle.disk_driver.proofs.Programmed.{read_returns_what_was_written, write_changes_no_other_block}
use Rattle.disk_driver.proofs.locate.Goals as goal

pub returns-clause-returned : goal.returns-clause-returned
returns-clause-returned c = read_returns_what_was_written

pub returns-clause-others : goal.returns-clause-others
returns-clause-others c = write_changes_no_other_block
