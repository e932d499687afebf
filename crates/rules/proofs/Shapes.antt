-- The area of a CCW that is taken up has its shape.
use Rattle.std.proofs.Common.{◌≡◌, ℕ, zero, suc, ◌+◌, ◌-◌, ◌%◌, ◌<◌, ◌≤◌, min, Bool, true, false, cond, not, ◌&&◌, eqb, ltb, List, [], ◌∷◌, IfOk, Ok, Err, Option, Result, sym, refl, ap, ◌∙◌, subst, arith}
use Rattle.std.proofs.lemmas.Bool.{lt-ltb, le-ltb, ltb-false, ltb-true, eq-eqb, eqb-false, not-false, or_parts, or_from, both_ways}
use Rattle.format.specs.declared.ccw.Ccw.{Ccw}
use Rattle.format.specs.declared.ccw.Format.{Format}
use Rattle.format.specs.declared.ccw.Format.TheVariants.{Zero, One}
use Rattle.format.specs.Bytes.{Reader, reader, word_at}
use Rattle.format.specs.Classes.{class_in}
use Rattle.format.specs.Layouts.{ccw_at}
use Rattle.rules.specs.declared.pieces.Piece.{Piece}
use Rattle.rules.specs.declared.place.Broken.{Broken}
use Rattle.rules.specs.declared.place.Place.{Place}
use Rattle.rules.specs.declared.place.Taken.{Taken}
use Rattle.rules.specs.Areas.{serves, enters, onward, outside, cut, one_word, by_words, Shaped}
use Rattle.rules.specs.TakingUp.{Cell, cell_of, answered, reach, backward, aligned, transfer_at, transfer_rules, target, found, in_force, none_in_force, is_invalid, refused_flag, pieces_of, cell_at, read_up, taken_up}
use Rattle.rules.specs.Soundness.{Sound}
use Rattle.rules.proofs.AreaSteps.{serves_some, unless_ok, bind_ok, word_ok, later_enters}
use Rattle.rules.proofs.Passing.{aligned_parts}

words_shaped : (back : Bool) (L : ℕ) (b : Reader) (ccw rounds : ℕ) (later : Bool) (at left : ℕ) (ps : List Piece) → left ≤ rounds → by_words back L b ccw rounds later at left ≡ Ok ps → Shaped back L later left ps
unfolding by_words Shaped
words_shaped back L b ccw rounds later at zero ps h e = let z : ps ≡ [] = cc in rw z refl
words_shaped back L b ccw zero later at (suc left) ps h e = let z : ⊥ = omega arith in absurd z
words_shaped back L b ccw (suc rounds) later at (suc left) ps h e =
    let v : ℕ = word_at b at in
    let one = bind_ok (one_word back L b ccw later at (suc left)) _ ps e in
    let p : Piece = one.0 in
    let w = word_ok back L b ccw later at (suc left) p one.1 in
    let rest = bind_ok (by_words back L b ccw rounds true (at + 4) (suc left - p.size)) _ ps one.2 in
    let q : p ∷ rest.0 ≡ ps = let y = rest.2 in cc in
    let some = serves_some back v in
    let first : p.first ≡ v = ap (λ (x : Piece). x.first) w.3 in
    let size : p.size ≡ min (suc left) (serves back v) = ap (λ (x : Piece). x.size) w.3 in
    let sh : Shaped back L true (suc left - p.size) rest.0 = words_shaped back L b ccw rounds true (at + 4) (suc left - p.size) rest.0 (omega arith) rest.1 in
    let all : Shaped back L later (suc left) (p ∷ rest.0) = (
      omega arith,
      size ∙ ap (λ x. min (suc left) (serves back x)) (sym first),
      λ l. ap (enters back) first ∙ later_enters later (enters back v) w.1 l,
      ap (λ x. outside back L x p.size) first ∙ ap (outside back L v) size ∙ w.2,
      sh,
    ) in
    subst (Shaped back L later (suc left)) q all

step_inside : (back : Bool) (L v n left : ℕ) → n ≡ min left (serves back v) → outside back L v left ≡ false → outside back L v n ≡ false
step_inside false L v n left e h = le-ltb L (v + n) (omega (arith, ltb-false L (v + left) h))
step_inside true L v n left e h =
    let p = or_parts (not (ltb v L)) (ltb (v + 1) left) h in
    or_from (not (ltb v L)) (ltb (v + 1) n) p.0 (le-ltb (v + 1) n (omega (arith, ltb-false (v + 1) left p.1)))

step_onward : (back : Bool) (L v n left : ℕ) → n ≡ min left (serves back v) → outside back L v left ≡ false → 0 < left - n → (outside back L (onward back v n) (left - n) ≡ false) × (enters back (onward back v n) ≡ true)
step_onward false L v n left e h z =
    let g = ltb-false L (v + left) h in
    (le-ltb L (v + n + (left - n)) (omega arith), eq-eqb ((v + n) % 2048) 0 (omega arith))
step_onward true L v n left e h z =
    let p = or_parts (not (ltb v L)) (ltb (v + 1) left) h in
    let g = ltb-true v L (not-false (ltb v L) p.0) in
    let g2 = ltb-false (v + 1) left p.1 in
    (or_from (not (ltb (v - n) L)) (ltb (v - n + 1) (left - n)) (ap not (lt-ltb (v - n) L (omega arith))) (le-ltb (v - n + 1) (left - n) (omega arith)), eq-eqb ((v - n) % 2048) 2047 (omega arith))

cut_shaped : (back : Bool) (L rounds : ℕ) (later : Bool) (v left : ℕ) → left ≤ rounds → (0 < left → outside back L v left ≡ false) → (0 < left → later ≡ true → enters back v ≡ true) → Shaped back L later left (cut back rounds v left)
unfolding cut Shaped
cut_shaped back L rounds later v zero h o s = refl
cut_shaped back L zero later v (suc left) h o s = let z : ⊥ = omega arith in absurd z
cut_shaped back L (suc rounds) later v (suc left) h o s =
    let n : ℕ = min (suc left) (serves back v) in
    let pos = serves_some back v in
    let out = o (omega arith) in (
      omega arith,
      refl,
      s (omega arith),
      step_inside back L v n (suc left) refl out,
      cut_shaped back L rounds true (onward back v n) (suc left - n) (omega arith) (λ z. (step_onward back L v n (suc left) refl out z).0) (λ z _. (step_onward back L v n (suc left) refl out z).1),
    )

pub pieces_shaped : (L : ℕ) (b : Reader) (a : ℕ) (w : Ccw) (back indirect : Bool) (ps : List Piece) → pieces_of L b a w back indirect ≡ Ok ps → Shaped back L false w.count ps
pieces_shaped L b a w back true ps e =
    let u = unless_ok (not (eqb (w.address % 4) 0)) _ a _ ps e in
    words_shaped back L b a w.count false w.address w.count ps (omega arith) u.1
pieces_shaped L b a w back false ps e =
    let u = unless_ok (outside back L w.address w.count) _ a _ ps e in
    let q : cut back w.count w.address w.count ≡ ps = let y = u.1 in cc in
    subst (Shaped back L false w.count) q (cut_shaped back L w.count false w.address w.count (omega arith) (λ _. u.0) (λ _ f. absurd (both_ways false refl f)))

-- what reading a CCW that passes gives
pub record ReadUp (F : Format) (L : ℕ) (b : Reader) (a : ℕ) (command : Option ℕ) (t : Cell) : Type 0 where
  pub valid : (none_in_force command && is_invalid (class_in F (ccw_at F b a).code)) ≡ false
  pub flags : refused_flag (ccw_at F b a).flags ≡ false
  pub count : eqb (ccw_at F b a).count 0 ≡ false
  pub pieces : List Piece
  pub from : pieces_of L b a (ccw_at F b a) (backward (in_force command (ccw_at F b a).code)) (ccw_at F b a).flags.ida ≡ Ok pieces
  pub is : cell_at command a (ccw_at F b a) pieces ≡ t

pub read_up_ok : (F : Format) (L : ℕ) (b : Reader) (a : ℕ) (command : Option ℕ) (t : Cell) → read_up F L b a command ≡ Ok t → ReadUp F L b a command t
read_up_ok F L b a command t e =
    let w : Ccw = ccw_at F b a in
    let u4 = unless_ok (none_in_force command && is_invalid (class_in F w.code)) _ a _ t e in
    let u5 = unless_ok (refused_flag w.flags) _ a _ t u4.1 in
    let u6 = unless_ok (eqb w.count 0) _ a _ t u5.1 in
    let r = bind_ok (pieces_of L b a w (backward (in_force command w.code)) w.flags.ida) _ t u6.1 in
    record { valid = u4.0; flags = u5.0; count = u6.0; pieces = r.0; from = r.1; is = let g = r.2 in cc }

aligned_ok : (L a x : ℕ) (rest : Result ℕ Broken) → aligned L a rest ≡ Ok x → (a + 8 ≤ L) × (rest ≡ Ok x)
aligned_ok L a x rest e =
    let u = aligned_parts L a x rest e in
    (ltb-false L (a + 8) u.0.1, u.1)

transfer_ok : (F : Format) (b : Reader) (a x : ℕ) (barred : Bool) (rest : Result ℕ Broken) → transfer_rules F b a barred rest ≡ Ok x → rest ≡ Ok x
transfer_ok Zero b a x barred rest e = (unless_ok barred _ a rest x e).1
transfer_ok One b a x barred rest e =
    let w : Ccw = ccw_at One b a in
    let u4 = unless_ok (not (eqb w.code 8)) _ a _ x e in
    let u3 = unless_ok barred _ a _ x u4.1 in
    (unless_ok _ _ a rest x u3.1).1

-- the CCW found lies inside storage
target_inside : (F : Format) (L : ℕ) (b : Reader) (a x : ℕ) → target F L b a ≡ Ok x → x + 8 ≤ L
target_inside F L b a x e =
    let u = aligned_ok L a x _ e in
    go (transfer_at F b a) u.0 u.1
  where
    go : (t : Bool) → a + 8 ≤ L → cond t (transfer_rules F b a true (Ok a)) (Ok a) ≡ Ok x → x + 8 ≤ L
    go true h f = let z : a ≡ x = let y = transfer_ok F b a x true (Ok a) f in cc in omega arith
    go false h f = let z : a ≡ x = cc in omega arith

pub found_inside : (F : Format) (L : ℕ) (b : Reader) (a x : ℕ) (first : Bool) → found F L b a first ≡ Ok x → x + 8 ≤ L
found_inside F L b a x first e =
    let u = aligned_ok L a x _ e in
    go (transfer_at F b a) u.0 u.1
  where
    go : (t : Bool) → a + 8 ≤ L → cond t (transfer_rules F b a first (target F L b (ccw_at F b a).address)) (Ok a) ≡ Ok x → x + 8 ≤ L
    go true h f = target_inside F L b (ccw_at F b a).address x (transfer_ok F b a x first (target F L b (ccw_at F b a).address) f)
    go false h f = let z : a ≡ x = cc in omega arith

pub read_sound : (F : Format) (L : ℕ) (b : Reader) (a : ℕ) (command : Option ℕ) (t : Cell) → a + 8 ≤ L → read_up F L b a command ≡ Ok t → Sound L t
read_sound F L b a command t h e =
    let r = read_up_ok F L b a command t e in
    let w : Ccw = ccw_at F b a in
    let base : Sound L (cell_at command a w r.pieces) = record {
      inside = h;
      some = omega (arith, eqb-false w.count 0 r.count);
      shaped = pieces_shaped L b a w (backward (in_force command w.code)) w.flags.ida r.pieces r.from;
    } in
    subst (Sound L) r.is base

pub taken_sound : (F : Format) (bytes : List ℕ) (place : Place) (t : Cell) → taken_up F bytes place ≡ Ok t → Sound (reach bytes) t
taken_sound F bytes place t e =
    let f = bind_ok (found F (reach bytes) (reader bytes) place.address place.first) _ t e in
    let h = found_inside F (reach bytes) (reader bytes) place.address f.0 place.first f.1 in
    read_sound F (reach bytes) (reader bytes) f.0 place.command t h f.2

-- the same of what the code answers
pub answer_sound : (F : Format) (bytes : List ℕ) (place : Place) (r : Result Taken Broken) → answered cell_of r ≡ taken_up F bytes place → IfOk r (λ t. Sound (reach bytes) (cell_of t))
answer_sound F bytes place (Ok t) e = taken_sound F bytes place (cell_of t) (sym e)
answer_sound F bytes place (Err x) e = tt
