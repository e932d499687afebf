-- Rules checked one after the other. A reader must believe: the first rule broken is the answer, with
-- the CCW or TIC that was being taken up.
use Rattle.std.specs.Prelude.{ℕ, Bool, true, false, Ok, Err, Result}
use Rattle.format.specs.declared.refusal.Refusal.{Refusal}
use Rattle.rules.specs.declared.place.Broken.{Broken}

-- broken if the test holds, else what follows
abbrev pub unless : {A : Type 0} → Bool → Refusal → ℕ → Result A Broken → Result A Broken
unless true refusal taken rest = Err (record { refusal = refusal; ccw = taken })
unless false refusal taken rest = rest

abbrev pub bind : {A B : Type 0} → Result A Broken → (A → Result B Broken) → Result B Broken
bind (Ok a) f = f a
bind (Err e) f = Err e

-- what a check that answers nothing lets through
abbrev pub past : {A B : Type 0} → Result A Broken → Result B Broken → Result B Broken
past (Ok a) rest = rest
past (Err e) rest = Err e
