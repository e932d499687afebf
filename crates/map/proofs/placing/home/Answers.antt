use Rattle.std.proofs.Common.{rules}
use Rattle.map.proofs.placing.home.Goals as goal

pub returns-clause-other : goal.returns-clause-other
returns-clause-other g c = λ nothing. absurd (nothing c.in_page.result (search rules))
