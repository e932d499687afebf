-- Entries of a table that is filled up to a length.
use Rattle.std.proofs.Common.{◌≡◌, ℕ, ◌<◌, ◌≤◌, List, [], ◌∷◌, length, get_or, set, replicate, sym, refl, ap, ◌∙◌, subst, inl, inr}
use Rattle.std.proofs.lemmas.List.{get_or-set_same, get_or-set_other, get_or_past, get_or-replicate, length-replicate, set_past}
use Rattle.std.proofs.lemmas.Bool.{cases_eq, cases_lt}
use Rattle.rules.specs.TakingUp.{Cell}
use Rattle.translate.specs.Translations.{ccw_addresses}

-- numbers below a limit stay so where one of them is replaced
pub set_below : (limit : ℕ) (xs : List ℕ) (k a : ℕ) → ((i : ℕ) → get_or xs i 0 < limit) → a < limit → (i : ℕ) → get_or (set xs k a) i 0 < limit
set_below limit xs k a all h i =
    let P : ℕ → Type 0 = λ n. n < limit in
    elim (cases_lt k (length xs)) [
      | inl there ↦
          elim (cases_eq i k) [
            | inl same ↦ subst P (sym (ap (λ j. get_or (set xs k a) j 0) same ∙ get_or-set_same xs k a 0 there)) h
            | inr other ↦ subst P (sym (get_or-set_other xs k i a 0 other)) (all i)
          ]
      | inr past ↦ subst P (sym (ap (λ l. get_or l i 0) (set_past xs k a past))) (all i)
    ]

pub zeros_below : (limit n : ℕ) → 0 < limit → (i : ℕ) → get_or (replicate n 0) i 0 < limit
zeros_below limit n h i =
    let P : ℕ → Type 0 = λ x. x < limit in
    elim (cases_lt i n) [
      | inl there ↦ subst P (sym (get_or-replicate n i 0 0 there)) h
      | inr past ↦ subst P (sym (get_or_past (replicate n 0) i 0 (long past))) h
    ]
  where
    long : n ≤ i → length (replicate {A = ℕ} n 0) ≤ i
    long past = simp length-replicate past

pub addresses_more : (t : Cell) (rest : List Cell) → ccw_addresses (t ∷ rest) ≡ t.ccw.address ∷ ccw_addresses rest
unfolding ccw_addresses
addresses_more t rest = refl

pub addresses_none : ccw_addresses [] ≡ []
unfolding ccw_addresses
addresses_none = refl
