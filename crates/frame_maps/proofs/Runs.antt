-- The law of a run of frames.
use Rattle.std.proofs.Common.{◌≡◌, ℕ, ◌+◌, ◌-◌, ◌<◌, ◌≤◌, cond, ltb, length, get_or, refl, ◌∙◌, inl, inr, arith}
use Rattle.std.specs.List.{range_with_len}
use Rattle.std.proofs.lemmas.List.FromFn.{length-range_with_len, get_or-range_with_len}
use Rattle.std.proofs.lemmas.List.{get_or_past}
use Rattle.std.proofs.lemmas.Bool.{false≢true, cases_lt, cond_below, cond_above}
use Rattle.map.specs.Law.{Lawful}
use Rattle.frame_maps.specs.FrameSets.{none}

module _ (first count : ℕ) where
  pub run_long : length (range_with_len first count) ≡ count
  run_long = length-range_with_len first count

  pub run_each : (i : ℕ) → get_or (range_with_len first count) i 0 ≡ cond (ltb i count) (first + i) 0
  run_each i =
      elim (cases_lt i count) [
        | inl h ↦ get_or-range_with_len first count i 0 h ∙ cond_below i count (first + i) 0 h
        | inr past ↦ let len = run_long in get_or_past (range_with_len first count) i 0 (omega arith) ∙ cond_above i count (first + i) 0 0 past refl
      ]

  at : (i : ℕ) → i < length (range_with_len first count) → get_or (range_with_len first count) i 0 ≡ first + i
  at i h = let len = run_long in get_or-range_with_len first count i 0 (omega arith)

  pub run_lawful : 1 ≤ first → 1 ≤ count → count ≤ 128 → first + count ≤ 256 → Lawful (range_with_len first count) none
  run_lawful from some most last =
      let len = run_long in (
        omega arith,
        omega arith,
        (λ i h. (omega (arith, at i h), omega (arith, at i h))),
        (λ i j l h e. let hi : i < length (range_with_len first count) = omega arith in omega (arith, at i hi, at j h)),
        (λ i h. refl),
        (λ f e. absurd (false≢true e)),
      )

  -- what the law asks of a run
  pub run_bounds : Lawful (range_with_len first count) none → (1 ≤ first) × (1 ≤ count) × (count ≤ 128) × (first + count ≤ 256)
  run_bounds l =
      let len = run_long in
      let some = l.0 in
      let most = l.1 in
      let from = (l.2 0 (omega arith)).0 in
      let last = (l.2 (count - 1) (omega arith)).1 in
      (omega (arith, at 0 (omega arith)), omega arith, omega arith, omega (arith, at (count - 1) (omega arith)))
