-- A step changes bytes of the area alone.
use Rattle.std.proofs.Common.{◌≡◌, ℕ, List, [], ◌∷◌, get_or, set, Ok, Err, Option, Result, sym, refl, ◌∙◌}
use Rattle.std.proofs.lemmas.List.{get_or-set_other}
use Rattle.format.specs.declared.ccw.Format.{Format}
use Rattle.device.specs.Machine.{Machine}
use Rattle.rules.specs.declared.place.Broken.{Broken}
use Rattle.rules.specs.TakingUp.{Cell, taken_up}
use Rattle.channel.specs.declared.run.Run.{Run}
use Rattle.channel.specs.declared.run.Run.TheVariants.{Running, Ended}
use Rattle.channel.specs.Moves.{lay, addresses_of}
use Rattle.channel.specs.Steps.{stepped_as, stepped_from, Apart, ChangedFor, ChangesOnlyArea}

pub lay_apart : (xs bs st : List ℕ) (a : ℕ) → Apart a xs → get_or (lay xs bs st) a 0 ≡ get_or st a 0
lay_apart xs [] st a h = refl
lay_apart [] (b ∷ bs) st a h = refl
lay_apart (x ∷ xs) (b ∷ bs) st a h = lay_apart xs bs (set st x b) a h.1 ∙ get_or-set_other st x a b 0 (λ e. h.0 (sym e))

changed_as : (m : Machine) (command : Option ℕ) (owed : ℕ) (st : List ℕ) (s : m.State) (r : Result Cell Broken) → ChangedFor r st (stepped_as m command owed st s r).storage
changed_as m command owed st s (Ok t) = λ a h. lay_apart (addresses_of t) _ st a h
changed_as m command owed st s (Err e) = refl

pub changes_only_area : (m : Machine) (F : Format) (st : List ℕ) (s : m.State) (r : Run) → ChangesOnlyArea F r st (stepped_from m F st s r).storage
changes_only_area m F st s (Running place owed) = changed_as m place.command owed st s (taken_up F st place)
changes_only_area m F st s (Ended status) = refl
