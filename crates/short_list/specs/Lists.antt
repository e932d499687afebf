-- What a short list holds. A reader must believe: its elements are those of its first places, in order, as many as it counts.
use Rattle.std.specs.Prelude.{ℕ, List, take}
use Rattle.short_list.specs.declared.list.ShortList.{ShortList}

abbrev pub items : {T : Type 0} {N : ℕ} → ShortList T N → List T
items list = take list.count list.places
