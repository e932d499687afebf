-- Places met, and the walk place by place.
use Rattle.std.proofs.Common.{◌≡◌, ℕ, suc, ◌+◌, ◌-◌, ◌<◌, ◌≤◌, Bool, true, false, cond, eqb, ltb, List, [], ◌∷◌, ◌++◌, length, get_or, drop, IfOk, Some, None, Ok, Err, Option, Result, sym, refl, ap, ◌∙◌, subst, append_assoc, add-one, arith}
use Rattle.std.proofs.lemmas.List.{at_drop_more, at_drop_all, append-nil, length_push}
use Rattle.format.specs.declared.ccw.Format.TheVariants.{Zero}
use Rattle.format.specs.declared.refusal.Refusal.TheVariants.{TooManyPlaces}
use Rattle.format.specs.Bytes.{Reader, reader}
use Rattle.rules.specs.declared.place.Broken.{Broken}
use Rattle.rules.specs.declared.place.Place.{Place}
use Rattle.rules.specs.Rules.{unless, bind}
use Rattle.rules.specs.TakingUp.{Cell, cell_of, answered, reach, found, read_up}
use Rattle.rules.proofs.AreaSteps.{unless_ok, bind_ok}
use Rattle.rules.proofs.Shapes.{found_inside, read_sound}
use Rattle.walk.specs.declared.cells.Visit.{Visit}
use Rattle.walk.specs.declared.cells.Visit.TheVariants.{Met, Fresh}
use Rattle.walk.specs.Walks.{Trail, same_place, met, goes_on, carried, behind, Inside, Seen, again, fresh, seen_of, or_met, read_new, look_at, one_place, with_cell, onward, walk}

-- the turn of a loop over a table: its entry is the next of the list, and at the end none is left
pub entry_or : {X Y : Type 0} (F : List X → Y) (xs ys : List X) (i : ℕ) (d : X) → ys ≡ xs → i < length ys → F (drop i xs) ≡ F (get_or ys i d ∷ drop (i + 1) xs)
entry_or F xs ys i d e h = ap (λ l. F (drop i l)) (sym e) ∙ at_drop_more F ys i d h ∙ ap (λ l. F (get_or ys i d ∷ drop (i + 1) l)) e

pub entry_at : {X Y : Type 0} (F : List X → Y) (xs ys : List X) (i : ℕ) (x : X) → ys ≡ xs → i < length ys → x ≡ get_or ys i x → F (drop i xs) ≡ F (x ∷ drop (i + 1) xs)
entry_at F xs ys i x e h is = entry_or F xs ys i x e h ∙ ap (λ y. F (y ∷ drop (i + 1) xs)) (sym is)

pub entry_none : {X Y : Type 0} (F : List X → Y) (xs ys : List X) (i : ℕ) → ys ≡ xs → length ys ≤ i → F (drop i xs) ≡ F []
entry_none F xs ys i e h = ap (λ l. F (drop i l)) (sym e) ∙ at_drop_all F ys i h

pub met_here : (a : ℕ) (command : Option ℕ) (t : Cell) (ts : List Cell) (i : ℕ) → same_place t a command ≡ true → met a command (t ∷ ts) i ≡ Some i
unfolding met
met_here a command t ts i e = ap (λ x. cond x (Some i) (met a command ts (suc i))) e

pub met_on : (a : ℕ) (command : Option ℕ) (t : Cell) (ts : List Cell) (i : ℕ) → same_place t a command ≡ false → met a command (t ∷ ts) i ≡ met a command ts (i + 1)
unfolding met
met_on a command t ts i e = ap (λ x. cond x (Some i) (met a command ts (suc i))) e ∙ ap (met a command ts) (sym (add-one i))

pub met_none : (a : ℕ) (command : Option ℕ) (i : ℕ) → met a command [] i ≡ None
unfolding met
met_none a command i = refl

-- what stands at a CCW address that the walk may go over
abbrev pub Looked : ℕ → Reader → List Cell → ℕ → ℕ → Option ℕ → Seen → Type 0
Looked L b seen n a command (again j) = met a command seen 0 ≡ Some j
Looked L b seen n a command (fresh t) =
    (met a command seen 0 ≡ None) × (eqb (length seen) 64 ≡ false) × (read_up Zero L b a command ≡ Ok t) × (ltb 768 (n + length t.pieces) ≡ false)

module _ (L : ℕ) (b : Reader) (seen : List Cell) (n a : ℕ) (command : Option ℕ) where
  new_ok : (s : Seen) → met a command seen 0 ≡ None → unless (eqb (length seen) 64) (TooManyPlaces a) a (read_new L b n a command) ≡ Ok s → Looked L b seen n a command s
  new_ok s q e =
      let u11 = unless_ok (eqb (length seen) 64) _ a _ s e in
      let r = bind_ok (read_up Zero L b a command) _ s u11.1 in
      let u12 = unless_ok (ltb 768 (n + length r.0.pieces)) _ a _ s r.2 in
      let same : fresh r.0 ≡ s = let y = u12.1 in cc in
      subst (Looked L b seen n a command) same (q, u11.0, r.1, u12.0)

  pub look_ok : (s : Seen) → look_at L b seen n a command ≡ Ok s → Looked L b seen n a command s
  look_ok s e = go (met a command seen 0) refl e
    where
      go : (o : Option ℕ) → met a command seen 0 ≡ o → or_met o (unless (eqb (length seen) 64) (TooManyPlaces a) a (read_new L b n a command)) ≡ Ok s → Looked L b seen n a command s
      go None q f = new_ok s q f
      go (Some j) q f =
          let same : again j ≡ s = cc in
          subst (Looked L b seen n a command) same q

  pub look_again : (s : Seen) → Looked L b seen n a command s → look_at L b seen n a command ≡ Ok s
  look_again (again j) h = ap (λ o. or_met o (unless (eqb (length seen) 64) (TooManyPlaces a) a (read_new L b n a command))) h
  look_again (fresh t) h = rw (h.0, h.1, h.2, h.3) refl

-- a CCW that is new
new_inside : (L : ℕ) (b : Reader) (seen : List Cell) (n a x : ℕ) (first : Bool) (command : Option ℕ) (t : Cell) → found Zero L b a first ≡ Ok x → look_at L b seen n x command ≡ Ok (fresh t) → t.ccw.address + 8 ≤ L
new_inside L b seen n a x first command t f e = (read_sound Zero L b x command t (found_inside Zero L b a x first f) (look_ok L b seen n x command (fresh t) e).2).inside

pub look_inside : (bytes : List ℕ) (seen : List Cell) (n a x : ℕ) (first : Bool) (command : Option ℕ) → found Zero (reach bytes) (reader bytes) a first ≡ Ok x → (r : Result Visit Broken)
    → answered seen_of r ≡ look_at (reach bytes) (reader bytes) seen n x command → IfOk r Inside
look_inside bytes seen n a x first command f (Err e) h = tt
look_inside bytes seen n a x first command f (Ok (Met j)) h = tt
look_inside bytes seen n a x first command f (Ok (Fresh t)) h =
    let i = new_inside (reach bytes) (reader bytes) seen n a x first command (cell_of t) f (sym h) in omega arith

-- cells put before those of a trail
abbrev pub with_cells : List Cell → Result Trail Broken → Result Trail Broken
with_cells xs r = bind r (λ w. Ok (record { cells = xs ++ w.cells; closes = w.closes }))

cells_more : (xs : List Cell) (t : Cell) (r : Result Trail Broken) → with_cells xs (with_cell t r) ≡ with_cells (xs ++ t ∷ []) r
cells_more xs t (Ok w) = ap (λ x. Ok (record { cells = x; closes = w.closes })) (sym (append_assoc xs (t ∷ []) w.cells))
cells_more xs t (Err e) = refl

pub cells_none : (r : Result Trail Broken) → with_cells [] r ≡ r
cells_none (Ok w) = refl
cells_none (Err e) = refl

module _ (rounds L : ℕ) (b : Reader) (xs seen : List Cell) (n a : ℕ) (first : Bool) (command : Option ℕ) where
  abbrev on_from : Cell → Result Trail Broken
  on_from t = walk rounds L b (seen ++ t ∷ []) (n + length t.pieces) (t.ccw.address + 8) false (carried t)

  at_place : (s : Result Seen Broken) → s ≡ one_place L b seen n a first command → with_cells xs (walk (suc rounds) L b seen n a first command) ≡ with_cells xs (bind s (onward on_from))
  unfolding walk
  at_place s e = ap (λ (r : Result Seen Broken). with_cells xs (bind r (onward on_from))) (sym e)

  pub place_on : (t : Cell) → Ok (fresh t) ≡ one_place L b seen n a first command → goes_on t ≡ true
      → with_cells xs (walk (suc rounds) L b seen n a first command) ≡ with_cells (xs ++ t ∷ []) (walk rounds L b (seen ++ t ∷ []) (n + length t.pieces) (t.ccw.address + 8) false (carried t))
  place_on t e g =
      at_place (Ok (fresh t)) e
      ∙ ap (λ w. with_cells xs (cond w (with_cell t (on_from t)) (Ok (record { cells = t ∷ []; closes = None })))) g
      ∙ cells_more xs t (on_from t)

  pub place_last : (t : Cell) → Ok (fresh t) ≡ one_place L b seen n a first command → goes_on t ≡ false
      → with_cells xs (walk (suc rounds) L b seen n a first command) ≡ Ok (record { cells = xs ++ t ∷ []; closes = None })
  place_last t e g =
      at_place (Ok (fresh t)) e
      ∙ ap (λ w. with_cells xs (cond w (with_cell t (on_from t)) (Ok (record { cells = t ∷ []; closes = None })))) g

  pub place_met : (j : ℕ) → Ok (again j) ≡ one_place L b seen n a first command → with_cells xs (walk (suc rounds) L b seen n a first command) ≡ Ok (record { cells = xs; closes = Some j })
  place_met j e = at_place (Ok (again j)) e ∙ ap (λ x. Ok (record { cells = x; closes = Some j })) (append-nil xs)

  pub place_off : (x : Broken) → Err x ≡ one_place L b seen n a first command → with_cells xs (walk (suc rounds) L b seen n a first command) ≡ Err x
  place_off x e = at_place (Err x) e

-- the cells there are, with those still to come from a place on
abbrev pub whole : ℕ → Reader → List Cell → ℕ → ℕ → Bool → Option ℕ → Result Trail Broken
whole L b xs n a first command = with_cells xs (walk (65 - length xs) L b xs n a first command)

-- one turn of the walk over them
module _ (L : ℕ) (b : Reader) (xs : List Cell) (n a : ℕ) (first : Bool) (command : Option ℕ) (few : length xs ≤ 64) where
  one_round : whole L b xs n a first command ≡ with_cells xs (walk (suc (64 - length xs)) L b xs n a first command)
  one_round =
      let rounds : 65 - length xs ≡ suc (64 - length xs) = omega arith in
      ap (λ k. with_cells xs (walk k L b xs n a first command)) rounds

  pub turn_on : (t : Cell) → Ok (fresh t) ≡ one_place L b xs n a first command → goes_on t ≡ true
      → whole L b xs n a first command ≡ whole L b (xs ++ t ∷ []) (n + length t.pieces) (t.ccw.address + 8) false (carried t)
  turn_on t e g =
      let rounds : 64 - length xs ≡ 65 - length (xs ++ t ∷ []) = omega (arith, length_push xs t) in
      one_round
      ∙ place_on (64 - length xs) L b xs xs n a first command t e g
      ∙ ap (λ k. with_cells (xs ++ t ∷ []) (walk k L b (xs ++ t ∷ []) (n + length t.pieces) (t.ccw.address + 8) false (carried t))) rounds

  pub turn_last : (t : Cell) → Ok (fresh t) ≡ one_place L b xs n a first command → goes_on t ≡ false
      → whole L b xs n a first command ≡ Ok (record { cells = xs ++ t ∷ []; closes = None })
  turn_last t e g = one_round ∙ place_last (64 - length xs) L b xs xs n a first command t e g

  pub turn_met : (j : ℕ) → Ok (again j) ≡ one_place L b xs n a first command → whole L b xs n a first command ≡ Ok (record { cells = xs; closes = Some j })
  turn_met j e = one_round ∙ place_met (64 - length xs) L b xs xs n a first command j e

  pub turn_off : (x : Broken) → Err x ≡ one_place L b xs n a first command → whole L b xs n a first command ≡ Err x
  turn_off x e = one_round ∙ place_off (64 - length xs) L b xs xs n a first command x e

-- the place behind a cell, or that it does not go on
pub behind_some : (t : Cell) (next : Place) → Some next ≡ behind t → (goes_on t ≡ true) × (next ≡ record { address = t.ccw.address + 8; first = false; command = carried t })
behind_some t next e = go (goes_on t) e
  where
    go : (g : Bool) → Some next ≡ cond g (Some (record { address = t.ccw.address + 8; first = false; command = carried t })) None → (g ≡ true) × (next ≡ record { address = t.ccw.address + 8; first = false; command = carried t })
    go true e = (refl, cc)
    go false e = cc

pub behind_none : (t : Cell) → None ≡ behind t → goes_on t ≡ false
behind_none t e = go (goes_on t) e
  where
    go : (g : Bool) → ◌≡◌ {A = Option Place} None (cond g (Some (record { address = t.ccw.address + 8; first = false; command = carried t })) None) → g ≡ false
    go true e = cc
    go false e = refl
