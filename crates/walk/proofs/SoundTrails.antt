-- What a walk that came to its end says of its CCWs.
use Rattle.std.proofs.Common.{◌≡◌, ℕ, zero, suc, ◌+◌, ◌-◌, ◌<◌, ◌≤◌, Bool, true, false, cond, ◌&&◌, eqb, ◌⊎◌, List, [], ◌∷◌, ◌++◌, length, Some, None, Ok, Option, Result, sym, refl, ap, ◌∙◌, subst, inl, inr, append_assoc, arith, length-append}
use Rattle.std.proofs.lemmas.Bool.{cases_Bool, and_parts, eqb-true, eqb-false, ltb-false, both_ways}
use Rattle.std.proofs.lemmas.List.{get_or_at, length_push}
use Rattle.format.specs.declared.ccw.Ccw.{Ccw}
use Rattle.format.specs.declared.ccw.Format.TheVariants.{Zero}
use Rattle.format.specs.Bytes.{Reader}
use Rattle.format.specs.Classes.{class_of}
use Rattle.format.specs.Layouts.{ccw_at}
use Rattle.rules.specs.declared.place.Broken.{Broken}
use Rattle.rules.specs.Soundness.{Sound}
use Rattle.rules.specs.TakingUp.{Cell, is_transfer, is_invalid, in_force, none_in_force, transfer_at, found, cell_at, read_up}
use Rattle.rules.proofs.AreaSteps.{bind_ok}
use Rattle.rules.proofs.Passing.{found_no_transfer}
use Rattle.rules.proofs.Shapes.{read_up_ok, read_sound, found_inside}
use Rattle.walk.specs.Walks.{Trail, same_command, same_place, met, goes_on, carried, Seen, again, fresh, one_place, with_cell, onward, walk}
use Rattle.walk.specs.SoundTrails.{no_cell, cell, pieces_in, Proper, Following, SoundTrail}
use Rattle.walk.proofs.Trails.{Looked, look_ok}

same_command_true : (p q : Option ℕ) → same_command p q ≡ true → p ≡ q
same_command_true None None e = refl
same_command_true None (Some y) e = absurd (both_ways false refl e)
same_command_true (Some x) None e = absurd (both_ways false refl e)
same_command_true (Some x) (Some y) e = ap Some (eqb-true x y e)

-- a place met before, by its index counted from i
record Met (a : ℕ) (command : Option ℕ) (ts : List Cell) (i j : ℕ) : Type 0 where
  at_or_past : i ≤ j
  within : j - i < length ts
  address : (cell ts (j - i)).ccw.address ≡ a
  before : (cell ts (j - i)).before ≡ command

met_is : (a : ℕ) (command : Option ℕ) (ts : List Cell) (i j : ℕ) → met a command ts i ≡ Some j → Met a command ts i j
unfolding met
met_is a command [] i j e = let z : ◌≡◌ {A = ℕ} 0 1 = cc in let u : ⊥ = omega arith in absurd u
met_is a command (t ∷ ts) i j e = go (met_is a command ts (suc i) j) (same_place t a command) refl e
  where
    go : (met a command ts (suc i) ≡ Some j → Met a command ts (suc i) j) → (v : Bool) → same_place t a command ≡ v → cond v (Some i) (met a command ts (suc i)) ≡ Some j → Met a command (t ∷ ts) i j
    go ih true q f =
        let ij : i ≡ j = cc in
        let k : j - i ≡ 0 = omega arith in
        let u = and_parts (eqb t.ccw.address a) (same_command t.before command) q in
        record { at_or_past = omega arith; within = omega arith; address = rw k (eqb-true t.ccw.address a u.0); before = rw k (same_command_true t.before command u.1) }
    go ih false q f =
        let r = ih f in
        let k : j - i ≡ suc (j - suc i) = omega (arith, r.at_or_past) in
        record { at_or_past = omega (arith, r.at_or_past); within = omega (arith, r.within); address = rw k r.address; before = rw k r.before }

pub met_at : (a : ℕ) (command : Option ℕ) (seen : List Cell) (j : ℕ) → met a command seen 0 ≡ Some j → (j < length seen) × ((cell seen j).ccw.address ≡ a) × ((cell seen j).before ≡ command)
met_at a command seen j e =
    let m = met_is a command seen 0 j e in
    let j0 : j - 0 ≡ j = omega arith in
    (omega (arith, m.within), rw j0 at m.address, rw j0 at m.before)

pub read_at : (L : ℕ) (b : Reader) (a : ℕ) (command : Option ℕ) (t : Cell) → read_up Zero L b a command ≡ Ok t → (t.ccw.address ≡ a) × (t.before ≡ command)
read_at L b a command t e =
    let r = read_up_ok Zero L b a command t e in
    (ap (λ (x : Cell). x.ccw.address) (sym r.is), ap (λ (x : Cell). x.before) (sym r.is))

-- one cell more
pub pieces_push : (ts : List Cell) (t : Cell) → pieces_in (ts ++ t ∷ []) ≡ pieces_in ts + length t.pieces
unfolding pieces_in
pieces_push [] t = omega arith
pieces_push (u ∷ us) t = ap (λ n. length u.pieces + n) (pieces_push us t) ∙ omega arith

-- the way from a place on: `rest` are the cells met from it on, `seen` those before
unfoldable pub Way : ℕ → Reader → List Cell → List Cell → Option ℕ → ℕ → Bool → Option ℕ → Type 0
Way L b seen [] closes a first command =
    (j : ℕ) × (closes ≡ Some j) × (j < length seen) × (found Zero L b a first ≡ Ok (cell seen j).ccw.address) × ((cell seen j).before ≡ command)
Way L b seen (t ∷ ts) closes a first command =
    (found Zero L b a first ≡ Ok t.ccw.address) × (t.before ≡ command) × (read_up Zero L b t.ccw.address command ≡ Ok t)
    × (goes_on t ≡ true → Way L b (seen ++ t ∷ []) ts closes (t.ccw.address + 8) false (carried t)) × (goes_on t ≡ false → (ts ≡ []) × (closes ≡ None))

pub record Walks (L : ℕ) (b : Reader) (seen : List Cell) (n a : ℕ) (first : Bool) (command : Option ℕ) (w : Trail) : Type 0 where
  pub way : Way L b seen w.cells w.closes a first command
  pub cells_bound : length seen + length w.cells ≤ 64
  pub words_bound : n + pieces_in w.cells ≤ 768

pub cond_cases : {A : Type 0} (t : Bool) (x y z : A) → cond t x y ≡ z → ((t ≡ true) × (x ≡ z)) ⊎ ((t ≡ false) × (y ≡ z))
cond_cases true x y z e = inl (refl, e)
cond_cases false x y z e = inr (refl, e)

ok_same : (v w : Trail) → ◌≡◌ {A = Result Trail Broken} (Ok v) (Ok w) → v ≡ w
ok_same v w e = cc

module _ (L : ℕ) (b : Reader) (seen : List Cell) (n a : ℕ) (first : Bool) (command : Option ℕ) (w : Trail) (few : length seen ≤ 64) (short : n ≤ 768) where
  met_walks : (x j : ℕ) → found Zero L b a first ≡ Ok x → met x command seen 0 ≡ Some j → record { cells = []; closes = Some j } ≡ w → Walks L b seen n a first command w
  unfolding Way pieces_in
  met_walks x j f m e =
      let k = met_at x command seen j m in
      let base : Walks L b seen n a first command (record { cells = []; closes = Some j }) = record {
        way = (j, refl, k.0, f ∙ ap Ok (sym k.1), k.2);
        cells_bound = omega arith;
        words_bound = omega arith;
      } in
      subst (Walks L b seen n a first command) e base

  new_walks : (x : ℕ) (t : Cell) (more : Result Trail Broken) → found Zero L b a first ≡ Ok x → Looked L b seen n x command (fresh t)
      → ((v : Trail) → length (seen ++ t ∷ []) ≤ 64 → n + length t.pieces ≤ 768 → more ≡ Ok v → Walks L b (seen ++ t ∷ []) (n + length t.pieces) (t.ccw.address + 8) false (carried t) v)
      → cond (goes_on t) (with_cell t more) (Ok (record { cells = t ∷ []; closes = None })) ≡ Ok w → Walks L b seen n a first command w
  unfolding Way pieces_in
  new_walks x t more f k ih e =
      let ne = eqb-false (length seen) 64 k.1 in
      let le = ltb-false 768 (n + length t.pieces) k.3 in
      let ta = read_at L b x command t k.2 in
      let fd : found Zero L b a first ≡ Ok t.ccw.address = f ∙ ap Ok (sym ta.0) in
      let rt : read_up Zero L b t.ccw.address command ≡ Ok t = ap (λ y. read_up Zero L b y command) ta.0 ∙ k.2 in
      elim (cond_cases (goes_on t) _ _ (Ok w) e) [
        | inl g ↦
            let m = bind_ok more _ w g.1 in
            let lp = length_push seen t in
            let r = ih m.0 (omega arith) le m.1 in
            let base : Walks L b seen n a first command (record { cells = t ∷ m.0.cells; closes = m.0.closes }) = record {
              way = (fd, ta.1, rt, λ _. r.way, λ z. absurd (both_ways (goes_on t) z g.0));
              cells_bound = omega (arith, r.cells_bound);
              words_bound = omega (arith, r.words_bound);
            } in
            subst (Walks L b seen n a first command) (ok_same _ w m.2) base
        | inr g ↦
            let base : Walks L b seen n a first command (record { cells = t ∷ []; closes = None }) = record {
              way = (fd, ta.1, rt, λ z. absurd (both_ways (goes_on t) g.0 z), λ _. (refl, refl));
              cells_bound = omega arith;
              words_bound = omega arith;
            } in
            subst (Walks L b seen n a first command) (ok_same _ w g.1) base
      ]

pub walks : (rounds L : ℕ) (b : Reader) (seen : List Cell) (n a : ℕ) (first : Bool) (command : Option ℕ) (w : Trail) → length seen ≤ 64 → n ≤ 768 → walk rounds L b seen n a first command ≡ Ok w → Walks L b seen n a first command w
unfolding walk
walks zero L b seen n a first command w few short e = let z : ◌≡◌ {A = ℕ} 0 1 = cc in let u : ⊥ = omega arith in absurd u
walks (suc rounds) L b seen n a first command w few short e =
    let r = bind_ok (one_place L b seen n a first command) _ w e in
    let f = bind_ok (found Zero L b a first) _ r.0 r.1 in
    go (λ t v p q. walks rounds L b (seen ++ t ∷ []) (n + length t.pieces) (t.ccw.address + 8) false (carried t) v p q) f.0 f.1 r.0 (look_ok L b seen n f.0 command r.0 f.2) r.2
  where
    more : Cell → Result Trail Broken
    more t = walk rounds L b (seen ++ t ∷ []) (n + length t.pieces) (t.ccw.address + 8) false (carried t)

    go : ((t : Cell) (v : Trail) → length (seen ++ t ∷ []) ≤ 64 → n + length t.pieces ≤ 768 → more t ≡ Ok v → Walks L b (seen ++ t ∷ []) (n + length t.pieces) (t.ccw.address + 8) false (carried t) v)
        → (x : ℕ) → found Zero L b a first ≡ Ok x → (s : Seen) → Looked L b seen n x command s → onward more s ≡ Ok w → Walks L b seen n a first command w
    go ih x f (again j) k q = met_walks L b seen n a first command w few short x j f k (ok_same _ w q)
    go ih x f (fresh t) k q = new_walks L b seen n a first command w few short x t (more t) f k (ih t) q

-- the same by index
module _ (L : ℕ) (b : Reader) (c : Option ℕ) where
  nothing_after : {A : Type 0} (t : Cell) (ts : List Cell) (k : ℕ) → k < length ts → (goes_on t ≡ false → (ts ≡ []) × (c ≡ None)) → goes_on t ≡ false → A
  nothing_after t ts k h n g = let e : length ts ≡ 0 = ap length (n g).0 in let z : ⊥ = omega arith in absurd z

  way_here : (seen rest : List Cell) (a : ℕ) (first : Bool) (command : Option ℕ) (k : ℕ) → Way L b seen rest c a first command → k < length rest → read_up Zero L b (cell rest k).ccw.address (cell rest k).before ≡ Ok (cell rest k)
  unfolding Way
  way_here seen [] a first command k r h = let z : ⊥ = omega arith in absurd z
  way_here seen (t ∷ ts) a first command zero r h = ap (read_up Zero L b t.ccw.address) r.1 ∙ r.2
  way_here seen (t ∷ ts) a first command (suc k) r h =
      let hk : k < length ts = omega arith in
      elim (cases_Bool (goes_on t)) [
        | inl g ↦ way_here (seen ++ t ∷ []) ts (t.ccw.address + 8) false (carried t) k (r.3 g) hk
        | inr g ↦ nothing_after t ts k hk r.4 g
      ]

  -- a command in force is that of a CCW that was taken up
  abbrev Usable : Option ℕ → Type 0
  Usable None = Unit {0}
  Usable (Some x) = (x < 256) × (is_transfer (class_of x) ≡ false)

  code_proper : (p : Option ℕ) (x : ℕ) → Usable p → x < 256 → is_transfer (class_of x) ≡ false → (none_in_force p && is_invalid (class_of x)) ≡ false
      → (in_force p x < 256) × (is_transfer (class_of (in_force p x)) ≡ false) × ((none_in_force p && is_invalid (class_of (in_force p x))) ≡ false) × (in_force p (in_force p x) ≡ in_force p x)
  code_proper None x u h n v = (h, n, v, refl)
  code_proper (Some y) x u h n v = (u.0, u.1, refl, refl)

  read_proper : (a : ℕ) (command : Option ℕ) (t : Cell) → Usable command → transfer_at Zero b a ≡ false → read_up Zero L b a command ≡ Ok t → Proper t
  read_proper a command t u n e =
      let r = read_up_ok Zero L b a command t e in
      let w : Ccw = ccw_at Zero b a in
      let k = code_proper command w.code u (omega arith) n r.valid in
      let base : Proper (cell_at command a w r.pieces) = record { byte = k.0; short = omega arith; no_transfer = k.1; valid = k.2; forced = k.3 } in
      subst Proper r.is base

  carried_usable : (t : Cell) → Proper t → Usable (carried t)
  carried_usable t h = go t.ccw.value.flags.cd
    where
      go : (v : Bool) → Usable (cond v (Some t.code) None)
      go true = (h.byte, h.no_transfer)
      go false = tt

  first_proper : (t : Cell) (a : ℕ) (first : Bool) (command : Option ℕ) → Usable command → found Zero L b a first ≡ Ok t.ccw.address → read_up Zero L b t.ccw.address command ≡ Ok t → Sound L t × Proper t
  first_proper t a first command u f e =
      (read_sound Zero L b t.ccw.address command t (found_inside Zero L b a t.ccw.address first f) e, read_proper t.ccw.address command t u (found_no_transfer L b a t.ccw.address first f) e)

  way_proper : (seen rest : List Cell) (a : ℕ) (first : Bool) (command : Option ℕ) (k : ℕ) → Usable command → Way L b seen rest c a first command → k < length rest → Sound L (cell rest k) × Proper (cell rest k)
  unfolding Way
  way_proper seen [] a first command k u r h = let z : ⊥ = omega arith in absurd z
  way_proper seen (t ∷ ts) a first command zero u r h = first_proper t a first command u r.0 r.2
  way_proper seen (t ∷ ts) a first command (suc k) u r h =
      let hk : k < length ts = omega arith in
      let pt = first_proper t a first command u r.0 r.2 in
      elim (cases_Bool (goes_on t)) [
        | inl g ↦ way_proper (seen ++ t ∷ []) ts (t.ccw.address + 8) false (carried t) k (carried_usable t pt.1) (r.3 g) hk
        | inr g ↦ nothing_after t ts k hk r.4 g
      ]

module _ (L : ℕ) (b : Reader) (w : Trail) where
  abbrev all : List Cell
  all = w.cells

  cell_past : (seen ts : List Cell) (t : Cell) → all ≡ seen ++ t ∷ ts → cell all (length seen) ≡ t
  cell_past seen ts t e = ap (λ l. cell l (length seen)) e ∙ get_or_at seen t ts no_cell (length seen) refl

  shifted : (seen ts : List Cell) (t : Cell) → all ≡ seen ++ t ∷ ts → all ≡ (seen ++ t ∷ []) ++ ts
  shifted seen ts t e = e ∙ sym (append_assoc seen (t ∷ []) ts)

  follow : (seen ts : List Cell) (t : Cell) → all ≡ seen ++ t ∷ ts → Way L b (seen ++ t ∷ []) ts w.closes (t.ccw.address + 8) false (carried t) → Following L b w (length seen)
  unfolding Way
  follow seen [] t e r =
      let j : ℕ = r.0 in
      let lp = length_push seen t in
      let ce : cell all (length seen) ≡ t = cell_past seen [] t e in
      let cj : cell all j ≡ cell (seen ++ t ∷ []) j = ap (λ l. cell l j) e in
      let le : length all ≡ length (seen ++ t ∷ []) = ap length e in
      record {
        index = j;
        within = omega (arith, r.2);
        finds = ap (λ (y : Cell). found Zero L b (y.ccw.address + 8) false) ce ∙ r.3 ∙ ap (λ (y : Cell). Ok y.ccw.address) (sym cj);
        carries = ap (λ (y : Cell). y.before) cj ∙ r.4 ∙ ap carried (sym ce);
        leads = inr (omega arith, r.1);
      }
  follow seen (u ∷ us) t e r =
      let lp = length_push seen t in
      let ce : cell all (length seen) ≡ t = cell_past seen (u ∷ us) t e in
      let cu : cell all (length (seen ++ t ∷ [])) ≡ u = cell_past (seen ++ t ∷ []) us u (shifted seen (u ∷ us) t e) in
      let cn : cell all (length seen + 1) ≡ u = ap (cell all) (sym lp) ∙ cu in
      let le : length all ≡ length seen + suc (suc (length us)) = ap length e ∙ length-append seen (t ∷ u ∷ us) in
      record {
        index = length seen + 1;
        within = omega arith;
        finds = ap (λ (y : Cell). found Zero L b (y.ccw.address + 8) false) ce ∙ r.0 ∙ ap (λ (y : Cell). Ok y.ccw.address) (sym cn);
        carries = ap (λ (y : Cell). y.before) cn ∙ r.1 ∙ ap carried (sym ce);
        leads = inl refl;
      }

  way_next : (seen rest : List Cell) (a : ℕ) (first : Bool) (command : Option ℕ) (k i : ℕ) → all ≡ seen ++ rest → Way L b seen rest w.closes a first command → k < length rest → i ≡ length seen + k → goes_on (cell rest k) ≡ true → Following L b w i
  unfolding Way
  way_next seen [] a first command k i e r h q g = let z : ⊥ = omega arith in absurd z
  way_next seen (t ∷ ts) a first command zero i e r h q g = let i0 : i ≡ length seen = omega arith in subst (Following L b w) (sym i0) (follow seen ts t e (r.3 g))
  way_next seen (t ∷ ts) a first command (suc k) i e r h q g =
      let hk : k < length ts = omega arith in
      let lp = length_push seen t in
      elim (cases_Bool (goes_on t)) [
        | inl gt ↦ way_next (seen ++ t ∷ []) ts (t.ccw.address + 8) false (carried t) k i (shifted seen ts t e) (r.3 gt) hk (omega arith) g
        | inr gt ↦ nothing_after L b w.closes t ts k hk r.4 gt
      ]

  begins : (ts : List Cell) (c : Option ℕ) (a : ℕ) (first : Bool) (command : Option ℕ) → Way L b [] ts c a first command → (0 < length ts) × (found Zero L b a first ≡ Ok (cell ts 0).ccw.address) × ((cell ts 0).before ≡ command)
  unfolding Way
  begins [] c a first command r = let z : ⊥ = omega (arith, r.2) in absurd z
  begins (t ∷ ts) c a first command r = (omega arith, r.0, r.1)

  pub sound_trail : (start : ℕ) → walk 65 L b [] 0 start true None ≡ Ok w → SoundTrail L b start w
  sound_trail start e =
      let k = walks 65 L b [] 0 start true None w (omega arith) (omega arith) e in
      let s = begins all w.closes start true None k.way in
      record {
        some = s.0;
        first = s.1;
        opening = s.2;
        here = λ i h. way_here L b w.closes [] all start true None i k.way h;
        sound = λ i h. (way_proper L b w.closes [] all start true None i tt k.way h).0;
        proper = λ i h. (way_proper L b w.closes [] all start true None i tt k.way h).1;
        next = λ i h g. way_next [] all start true None i i refl k.way h (omega arith) g;
        cells_bound = omega (arith, k.cells_bound);
        words_bound = omega (arith, k.words_bound);
      }
