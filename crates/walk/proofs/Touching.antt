-- Own bytes: what the question answers, extent by extent.
use Rattle.std.proofs.Common.{◌≡◌, ℕ, ◌+◌, ◌<◌, ◌≤◌, max, Bool, true, false, cond, ◌||◌, ltb, List, [], ◌∷◌, ◌++◌, map, is_some, Some, None, Option, sym, refl, ap, ◌∙◌, subst, inl, inr, append_assoc, arith}
use Rattle.std.proofs.lemmas.Bool.{ltb-true, ltb-false, and_parts, and_cases, cases_Bool}
use Rattle.std.specs.List.{find, list_any}
use Rattle.std.specs.Option.{option_map}
use Rattle.walk.specs.declared.own_bytes.Extent.{Extent}
use Rattle.rules.specs.TakingUp.{Cell, cell_of}
use Rattle.rules.specs.declared.place.Taken.{Taken}
use Rattle.rules.specs.declared.pieces.Piece.{Piece}
use Rattle.walk.specs.OwnBytes.{ccw_extent, list_extent, extents_of, overlaps, touched, Own, Tells, lowest, any_touched, overwrites, first_overwriting}

-- a look-up that stops at the first element with a property
looked_up : {X Y : Type 0} (F : List X → Option Y) (p : X → Bool) (g : X → Y) → F [] ≡ None → ((x : X) (xs : List X) → F (x ∷ xs) ≡ cond (p x) (Some (g x)) (F xs)) → (xs : List X) → F xs ≡ option_map g (find p xs)
looked_up F p g none step [] = none
looked_up F p g none step (x ∷ xs) = step x xs ∙ go (looked_up F p g none step xs) (p x)
  where
    go : F xs ≡ option_map g (find p xs) → (b : Bool) → cond b (Some (g x)) (F xs) ≡ option_map g (cond b (Some x) (find p xs))
    go later true = refl
    go later false = later

pub touched_here : (e : Extent) (es : List Extent) (low n : ℕ) → overlaps e low n ≡ true → touched (e ∷ es) low n ≡ Some (max low e.start)
unfolding touched
touched_here e es low n h = ap (λ x. cond x (Some (max low e.start)) (touched es low n)) h

pub touched_later : (e : Extent) (es : List Extent) (low n : ℕ) → overlaps e low n ≡ false → touched (e ∷ es) low n ≡ touched es low n
unfolding touched
touched_later e es low n h = ap (λ x. cond x (Some (max low e.start)) (touched es low n)) h

pub touched_is : (es : List Extent) (low n : ℕ) → touched es low n ≡ option_map (λ (e : Extent). max low e.start) (find (λ e. overlaps e low n) es)
unfolding touched
touched_is es low n = looked_up (λ xs. touched xs low n) (λ e. overlaps e low n) (λ e. max low e.start) refl (λ _ _. refl) es

apart : (e : Extent) (low n a : ℕ) → overlaps e low n ≡ false → low ≤ a → a < low + n → e.start ≤ a → a < e.start + e.size → ⊥
apart e low n a h p q r s =
    elim (and_cases (ltb (max low e.start) (low + n)) (ltb (max low e.start) (e.start + e.size)) h) [
      | inl f ↦ let g = ltb-false (max low e.start) (low + n) f in omega arith
      | inr f ↦ let g = ltb-false (max low e.start) (e.start + e.size) f in omega arith
    ]

not_own : (e : Extent) (es : List Extent) (low n : ℕ) → overlaps e low n ≡ false → ((a : ℕ) → low ≤ a → a < low + n → Own a es → ⊥) → (a : ℕ) → low ≤ a → a < low + n → Own a (e ∷ es) → ⊥
not_own e es low n h rest a p q (inl w) = apart e low n a h p q w.0 w.1
not_own e es low n h rest a p q (inr o) = rest a p q o

later_tells : (e : Extent) (es : List Extent) (low n : ℕ) (r : Option ℕ) → overlaps e low n ≡ false → Tells es low n r → Tells (e ∷ es) low n r
later_tells e es low n None h t = not_own e es low n h t
later_tells e es low n (Some a) h t = (t.0, t.1, inr t.2)

pub tells : (es : List Extent) (low n : ℕ) → Tells es low n (touched es low n)
unfolding touched
tells [] low n = λ a p q o. o
tells (e ∷ es) low n =
    elim (cases_Bool (overlaps e low n)) [
      | inl h ↦
          let p = and_parts (ltb (max low e.start) (low + n)) (ltb (max low e.start) (e.start + e.size)) h in
          let x = ltb-true (max low e.start) (low + n) p.0 in
          let y = ltb-true (max low e.start) (e.start + e.size) p.1 in
          subst (Tells (e ∷ es) low n) (sym (touched_here e es low n h)) (omega arith, x, inl (omega arith, y))
      | inr h ↦ subst (Tells (e ∷ es) low n) (sym (touched_later e es low n h)) (later_tells e es low n (touched es low n) h (tells es low n))
    ]

pub extents_none : extents_of [] ≡ []
unfolding extents_of
extents_none = refl

-- one cell more behind the extents there are
pub extents_more : (xs : List Extent) (t : Cell) (ts : List Cell) → (xs ++ (ccw_extent t ∷ list_extent t ∷ [])) ++ extents_of ts ≡ xs ++ extents_of (t ∷ ts)
unfolding extents_of
extents_more xs t ts = append_assoc xs (ccw_extent t ∷ list_extent t ∷ []) (extents_of ts)

module _ (es : List Extent) where
  pub any_is : (back : Bool) (ps : List Piece) → any_touched es back ps ≡ list_any (λ (p : Piece). is_some (touched es (lowest back p) p.size)) ps
  unfolding any_touched
  any_is back [] = refl
  any_is back (p ∷ ps) = ap (λ x. is_some (touched es (lowest back p) p.size) || x) (any_is back ps)

  pub first_here : (t : Cell) (ts : List Cell) → overwrites es t ≡ true → first_overwriting es (t ∷ ts) ≡ Some t.ccw.address
  unfolding first_overwriting
  first_here t ts h = ap (λ x. cond x (Some t.ccw.address) (first_overwriting es ts)) h

  pub first_later : (t : Cell) (ts : List Cell) → overwrites es t ≡ false → first_overwriting es (t ∷ ts) ≡ first_overwriting es ts
  unfolding first_overwriting
  first_later t ts h = ap (λ x. cond x (Some t.ccw.address) (first_overwriting es ts)) h

  pub first_is : (taken : List Taken) → first_overwriting es (map cell_of taken) ≡ option_map (λ (t : Taken). t.ccw.address) (find (λ t. overwrites es (cell_of t)) taken)
  unfolding first_overwriting
  first_is taken = looked_up (λ ts. first_overwriting es (map cell_of ts)) (λ t. overwrites es (cell_of t)) (λ t. t.ccw.address) refl (λ _ _. refl) taken
