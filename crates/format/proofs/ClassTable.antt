-- All 256 codes at once: the classes by the rule are the table.
use Rattle.std.proofs.Common.{◌≡◌, ℕ, ◌<◌, map, get_or, sym, refl, ap, ◌∙◌, arith}
use Rattle.std.specs.List.{range_with_len}
use Rattle.std.proofs.lemmas.List.FromFn.{get_or-map-range_with_len}
use Rattle.format.specs.declared.ccw.Format.{Format}
use Rattle.format.specs.declared.ccw.Format.TheVariants.{Zero, One}
use Rattle.format.specs.declared.class.Class.TheVariants.{Invalid}
use Rattle.format.specs.declared.class.Class.{Class}
use Rattle.format.specs.Classes.{class_in, class_table}

whole : (F : Format) → map (class_in F) (range_with_len 0 256) ≡ class_table F
whole Zero = refl
whole One = refl

pub class_tabled : (F : Format) (code : ℕ) (class : Class) → code < 256 → class ≡ class_in F code → class ≡ get_or (class_table F) code Invalid
class_tabled F code class h is =
    is ∙ sym (get_or-map-range_with_len (class_in F) 0 256 code code Invalid h (omega arith)) ∙ ap (λ t. get_or t code Invalid) (whole F)
