-- How far the open command has come. A reader must believe nothing: this only bounds what the code keeps.
use Rattle.std.specs.Prelude.{ℕ}
use Rattle.console.specs.declared.state.Phase.{Phase}
use Rattle.console.specs.declared.state.Phase.TheVariants.{Idle, Printing, ReadingLine}

-- how many bytes of the line have been handed out
abbrev pub handed : Phase → ℕ
handed Idle = 0
handed Printing = 0
handed (ReadingLine gone) = gone
