-- Areas through place.
use Rattle.std.proofs.Common.{◌≡◌, ℕ, zero, suc, ◌+◌, ◌-◌, ◌*◌, ◌/◌, ◌%◌, ◌<◌, ◌≤◌, min, Bool, true, false, not, ◌&&◌, eqb, ltb, List, [], ◌∷◌, ◌++◌, map, length, get_or, Ok, Result, sym, refl, ap, ◌∙◌, inl, inr, arith}
use Rattle.std.proofs.lemmas.List.{map-append}
use Rattle.std.proofs.lemmas.Bool.{cases_lt, lt-ltb, le-ltb, ltb-false, ltb-true, not-false, or_parts, or_from}
use Rattle.format.specs.Bytes.{Reader, word_at}
use Rattle.rules.specs.declared.pieces.Piece.{Piece}
use Rattle.rules.specs.declared.place.Broken.{Broken}
use Rattle.rules.specs.Rules.{bind}
use Rattle.rules.specs.Areas.{serves, enters, onward, outside, one_word, by_words, run, area, Shaped}
use Rattle.rules.proofs.AreaSteps.{serves_some}
use Rattle.map.specs.Law.{Lawful}
use Rattle.map.specs.Places.{place_of, end_of}
use Rattle.agree.specs.Correspondence.{Holds}
use Rattle.translate.proofs.Puts.{no_piece}

-- a piece of an area through place
abbrev pub placed : List ℕ → Piece → Piece
placed fs p = record { first = place_of fs p.first; size = p.size }

pub place_mod : (fs : List ℕ) (a : ℕ) → place_of fs a % 2048 ≡ a % 2048
place_mod fs a = let f : ℕ = get_or fs (a / 4096) 0 in let e : (f * 4096 + a % 4096) % 2048 ≡ a % 2048 = omega arith in e

place_serves : (fs : List ℕ) (back : Bool) (a : ℕ) → serves back (place_of fs a) ≡ serves back a
place_serves fs true a = ap (λ x. x + 1) (place_mod fs a)
place_serves fs false a = ap (λ x. 2048 - x) (place_mod fs a)

place_enters : (fs : List ℕ) (back : Bool) (a : ℕ) → enters back (place_of fs a) ≡ enters back a
place_enters fs true a = ap (λ x. eqb x 2047) (place_mod fs a)
place_enters fs false a = ap (λ x. eqb x 0) (place_mod fs a)

-- the next byte of the same block
place_onward : (fs : List ℕ) (back : Bool) (a : ℕ) → 1 < serves back a → onward back (place_of fs a) 1 ≡ place_of fs (onward back a 1)
place_onward fs false a h =
    let e : (a + 1) / 4096 ≡ a / 4096 = omega arith in
    let m : (a + 1) % 4096 ≡ a % 4096 + 1 = omega arith in
    let f : get_or fs (a / 4096) 0 * 4096 + a % 4096 + 1 ≡ get_or fs (a / 4096) 0 * 4096 + (a % 4096 + 1) = omega arith in
    f ∙ (λ i. get_or fs (sym e i) 0 * 4096 + sym m i)
place_onward fs true a h =
    let e : (a - 1) / 4096 ≡ a / 4096 = omega arith in
    let m : (a - 1) % 4096 ≡ a % 4096 - 1 = omega arith in
    let f : get_or fs (a / 4096) 0 * 4096 + a % 4096 - 1 ≡ get_or fs (a / 4096) 0 * 4096 + (a % 4096 - 1) = omega arith in
    f ∙ (λ i. get_or fs (sym e i) 0 * 4096 + sym m i)

serves_onward : (back : Bool) (a : ℕ) → 1 < serves back a → serves back a ≡ serves back (onward back a 1) + 1
serves_onward false a h = omega arith
serves_onward true a h = omega arith

run_placed : (fs : List ℕ) (back : Bool) (v n : ℕ) → n ≤ serves back v → run back (place_of fs v) n ≡ map (place_of fs) (run back v n)
unfolding run
run_placed fs back v zero h = refl
run_placed fs back v (suc zero) h = refl
run_placed fs back v (suc (suc n)) h =
    let g = serves_onward back v (omega arith) in
    ap (λ l. place_of fs v ∷ l) (ap (λ x. run back x (suc n)) (place_onward fs back v (omega arith)) ∙ run_placed fs back (onward back v 1) (suc n) (omega arith))

pub area_placed : (fs : List ℕ) (back : Bool) (L : ℕ) (later : Bool) (left : ℕ) (ps : List Piece) → Shaped back L later left ps → area back (map (placed fs) ps) ≡ map (place_of fs) (area back ps)
unfolding area Shaped
area_placed fs back L later left [] s = refl
area_placed fs back L later left (p ∷ ps) s =
    let e = run_placed fs back p.first p.size (omega (arith, s.1)) in
    let f = area_placed fs back L true (left - p.size) ps s.4 in
    (λ i. e i ++ f i) ∙ sym (map-append (place_of fs) (run back p.first p.size) (area back ps))

-- pages at frames of a storage of LH bytes, none of them frame 0 and no two the same
pub record Framed (fs : List ℕ) (LH : ℕ) : Type 0 where
  pub inside : (p : ℕ) → p < length fs → (1 ≤ get_or fs p 0) × (get_or fs p 0 * 4096 + 4096 ≤ LH)
  pub apart : (p q : ℕ) → p < length fs → q < length fs → get_or fs p 0 ≡ get_or fs q 0 → p ≡ q
  pub small : LH ≤ 1048576
  pub long : 4096 ≤ LH
  pub few : length fs ≤ 128

pub framed : (fs : List ℕ) (free : ℕ → Bool) (host : List ℕ) → Lawful fs free → Holds fs free host → Framed fs (length host)
framed fs free host l h = record {
  inside = λ p u. let r = l.2 p u in let q = h.listed p u in let w = h.whole in (r.0, omega arith);
  apart = same;
  small = let w = h.whole in let k = h.most in omega arith;
  long = let w = h.whole in let q = h.listed 0 l.0 in omega arith;
  few = l.1;
}
  where
    same : (p q : ℕ) → p < length fs → q < length fs → get_or fs p 0 ≡ get_or fs q 0 → p ≡ q
    same p q u v e =
        elim (cases_lt p q) [
          | inl x ↦ absurd (l.3 p q x v e)
          | inr x ↦ elim (cases_lt q p) [
            | inl y ↦ absurd (l.3 q p y u (sym e))
            | inr y ↦ omega arith
          ]
        ]

module _ (fs : List ℕ) (LH : ℕ) (m : Framed fs LH) where
  pub place_inside : (a : ℕ) → a < end_of fs → (4096 ≤ place_of fs a) × (place_of fs a < LH)
  place_inside a h = let i = m.inside (a / 4096) (omega arith) in (omega arith, omega arith)

  pub place_apart : (a b : ℕ) → a < end_of fs → b < end_of fs → place_of fs a ≡ place_of fs b → a ≡ b
  place_apart a b h g e =
      let p : get_or fs (a / 4096) 0 ≡ get_or fs (b / 4096) 0 = omega arith in
      let q = m.apart (a / 4096) (b / 4096) (omega arith) (omega arith) p in
      omega arith

  place_outside : (back : Bool) (v n left : ℕ) → n ≡ min left (serves back v) → 0 < n → outside back (end_of fs) v n ≡ false → outside back LH (place_of fs v) n ≡ false
  place_outside false v n left e z h =
      let g = ltb-false (end_of fs) (v + n) h in
      let i = m.inside (v / 4096) (omega arith) in
      le-ltb LH (get_or fs (v / 4096) 0 * 4096 + v % 4096 + n) (omega arith)
  place_outside true v n left e z h =
      let p = or_parts (not (ltb v (end_of fs))) (ltb (v + 1) n) h in
      let g = ltb-true v (end_of fs) (not-false (ltb v (end_of fs)) p.0) in
      let i = m.inside (v / 4096) (omega arith) in
      let x : ℕ = get_or fs (v / 4096) 0 * 4096 + v % 4096 in
      or_from (not (ltb x LH)) (ltb (x + 1) n) (ap not (lt-ltb x LH (omega arith))) (le-ltb (x + 1) n (omega arith))

  later_not : (later s : Bool) → (later ≡ true → s ≡ true) → (later && not s) ≡ false
  later_not true true h = refl
  later_not true false h = sym (h refl)
  later_not false s h = refl

  -- the words of a cell lead to its pieces through place
  pub words_placed : (back : Bool) (b : Reader) (ccw rounds : ℕ) (later : Bool) (at left : ℕ) (ps : List Piece) → left ≤ rounds → Shaped back (end_of fs) later left ps → at + 4 * length ps ≤ LH
      → ((j : ℕ) → j < length ps → word_at b (at + 4 * j) ≡ place_of fs (get_or ps j no_piece).first) → by_words back LH b ccw rounds later at left ≡ Ok (map (placed fs) ps)
  unfolding by_words Shaped
  words_placed back b ccw rounds later at left [] h s i r = rw s refl
  words_placed back b ccw zero later at left (p ∷ ps) h s i r = let z : ⊥ = omega (arith, s.0) in absurd z
  words_placed back b ccw (suc rounds) later at zero (p ∷ ps) h s i r = let z : ⊥ = omega (arith, s.0) in absurd z
  words_placed back b ccw (suc rounds) later at (suc left) (p ∷ ps) h s i r =
      let v : ℕ = place_of fs p.first in
      let n : ℕ = p.size in
      let some = serves_some back p.first in
      let zero_on : at ≡ at + 4 * 0 = omega arith in
      let e : word_at b at ≡ v = ap (word_at b) zero_on ∙ r 0 (omega arith) in
      let en : min (suc left) (serves back v) ≡ n = ap (min (suc left)) (place_serves fs back p.first) ∙ sym s.1 in
      let t9 : (later && not (enters back v)) ≡ false = later_not later (enters back v) (λ u. place_enters fs back p.first ∙ s.2 u) in
      let np : 0 < n = omega (arith, s.1) in
      let t10 : outside back LH v n ≡ false = place_outside back p.first n (suc left) s.1 np s.3 in
      let rest = words_placed back b ccw rounds true (at + 4) (suc left - n) ps (omega arith) s.4 (omega arith) (λ j u. ap (word_at b) (let q : at + 4 + 4 * j ≡ at + 4 * suc j = omega arith in q) ∙ r (suc j) (omega arith)) in
      let one : one_word back LH b ccw later at (suc left) ≡ Ok (record { first = v; size = n }) =
      rw (le-ltb LH (at + 4) (omega arith), e) (
      rw en (rw (t9, t10) refl)) in
      ap (λ (z : Result Piece Broken). bind z (λ p. bind (by_words back LH b ccw rounds true (at + 4) (suc left - p.size)) (λ ps. Ok (p ∷ ps)))) one
      ∙ ap (λ (z : Result (List Piece) Broken). bind z (λ ps. Ok (record { first = v; size = n } ∷ ps))) rest
