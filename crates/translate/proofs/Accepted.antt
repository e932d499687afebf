-- What the walk says of an accepted program, as the frame needs it.
use Rattle.std.proofs.Common.{◌≡◌, ℕ, suc, ◌+◌, ◌-◌, ◌^◌, ◌<◌, ◌≤◌, Bool, true, false, not, ◌||◌, ltb, List, [], ◌∷◌, ◌++◌, map, length, Some, None, Ok, Option, refl, ap, ◌∙◌, inl, inr, arith, length-append}
use Rattle.std.proofs.Math.ListN.{length-map}
use Rattle.std.proofs.lemmas.List.{length_push}
use Rattle.std.proofs.lemmas.Bool.{cases_Bool, ltb-true, ltb-false, both_ways}
use Rattle.format.specs.Bytes.{Reader, reader}
use Rattle.rules.specs.declared.pieces.Piece.{Piece}
use Rattle.rules.specs.Areas.{outside, Shaped}
use Rattle.rules.specs.Soundness.{Sound}
use Rattle.rules.specs.TakingUp.{Cell, reach, backward}
use Rattle.rules.proofs.AreaSteps.{serves_some}
use Rattle.walk.specs.SoundTrails.{cell, pieces_in}
use Rattle.walk.specs.Walks.{Trail, goes_on, carried}
use Rattle.walk.proofs.SoundTrails.{Way, walks, sound_trail}
use Rattle.map.specs.Places.{end_of}
use Rattle.map.specs.Views.{guest_bytes}
use Rattle.map.proofs.Seen.{length-guest_bytes}
use Rattle.translate.specs.Fitting.{Below, ClosesBelow, FitsFrame}
use Rattle.translate.specs.Frames.{first_of, words_of}
use Rattle.translate.specs.Translations.{ccw_addresses, walked}

-- a walk closes at a cell
closes_within : (L : ℕ) (b : Reader) (seen rest : List Cell) (closes : Option ℕ) (a : ℕ) (first : Bool) (command : Option ℕ) (j : ℕ) → Way L b seen rest closes a first command → closes ≡ Some j → j < length seen + length rest
unfolding Way
closes_within L b seen [] closes a first command j way e = let same : way.0 ≡ j = let x = way.1 in cc in omega (arith, way.2)
closes_within L b seen (t ∷ ts) closes a first command j way e =
    elim (cases_Bool (goes_on t)) [
      | inl on ↦ let size = length_push seen t in let later = closes_within L b (seen ++ t ∷ []) ts closes (t.ccw.address + 8) false (carried t) j (way.3 on) e in omega arith
      | inr off ↦ let none = (way.4 off).1 in let z : ◌≡◌ {A = ℕ} 0 1 = cc in let no : ⊥ = omega arith in absurd no
    ]

closes_below : (limit : ℕ) (closes : Option ℕ) → ((j : ℕ) → closes ≡ Some j → j < limit) → ClosesBelow limit closes
closes_below limit None h = tt
closes_below limit (Some j) h = h j refl

-- a piece that lies inside storage begins there
first_below : (back : Bool) (L v n : ℕ) → 0 < n → outside back L v n ≡ false → v < L
first_below false L v n some h = let le = ltb-false L (v + n) h in omega arith
first_below true L v n some h =
    elim (cases_Bool (ltb v L)) [
      | inl low ↦ ltb-true v L low
      | inr high ↦ absurd (both_ways (outside true L v n) h (ap (λ x. not x || ltb (v + 1) n) high))
    ]

pieces_below : (back : Bool) (L : ℕ) (later : Bool) (left : ℕ) (ps : List Piece) → Shaped back L later left ps → Below L (map first_of ps)
unfolding Shaped
pieces_below back L later left [] h = tt
pieces_below back L later left (p ∷ ps) h =
    let some = serves_some back p.first in
    let size : 0 < p.size = omega (arith, h.0, h.1) in
    (first_below back L p.first p.size size h.3, pieces_below back L true (left - p.size) ps h.4)

below_both : (limit : ℕ) (a b : List ℕ) → Below limit a → Below limit b → Below limit (a ++ b)
below_both limit [] b p q = q
below_both limit (x ∷ a) b p q = (p.0, below_both limit a b p.1 q)

words_below : (L : ℕ) (cells : List Cell) → ((i : ℕ) → i < length cells → Sound L (cell cells i)) → Below L (words_of cells)
unfolding words_of
words_below L [] sound = tt
words_below L (t ∷ ts) sound =
    let here = sound 0 (omega arith) in
    below_both L (map first_of t.pieces) (words_of ts) (pieces_below (backward t.code) L false t.ccw.value.count t.pieces here.shaped)
    (words_below L ts (λ i h. sound (suc i) (omega arith)))

addresses_below : (L : ℕ) (cells : List Cell) → L ≤ 2 ^ 31 → ((i : ℕ) → i < length cells → Sound L (cell cells i)) → Below (2 ^ 31) (ccw_addresses cells)
unfolding ccw_addresses
addresses_below L [] le sound = tt
addresses_below L (t ∷ ts) le sound = let here = (sound 0 (omega arith)).inside in (omega arith, addresses_below L ts le (λ i h. sound (suc i) (omega arith)))

weaker : (small large : ℕ) (xs : List ℕ) → small ≤ large → Below small xs → Below large xs
weaker small large [] le b = tt
weaker small large (x ∷ xs) le b = let h = b.0 in (omega arith, weaker small large xs le b.1)

pub length-words_of : (cells : List Cell) → length (words_of cells) ≡ pieces_in cells
unfolding words_of pieces_in
length-words_of [] = refl
length-words_of (t ∷ ts) =
    length-append (map first_of t.pieces) (words_of ts) ∙ ap (λ n. n + length (words_of ts)) (length-map t.pieces first_of) ∙ ap (λ n. length t.pieces + n) (length-words_of ts)

pub record Fitting (limit : ℕ) (w : Trail) : Type 0 where
  pub few : length w.cells ≤ 64
  pub frame : FitsFrame limit w
  pub back : Below (2 ^ 31) (ccw_addresses w.cells)

-- an accepted program fits its frame
pub fitting : (fs host : List ℕ) (start : ℕ) (w : Trail) → walked (guest_bytes fs host) start ≡ Ok w → Fitting (end_of fs) w
fitting fs host start w e =
    let bytes = guest_bytes fs host in
    let L = reach bytes in
    let size = length-guest_bytes fs host in
    let s = sound_trail L (reader bytes) w start e in
    let k = walks 65 L (reader bytes) [] 0 start true None w (omega arith) (omega arith) e in
    let few = s.cells_bound in
    record {
      few = few;
      frame = record {
        words = omega (arith, length-words_of w.cells, s.words_bound);
        inside = weaker L (end_of fs) (words_of w.cells) (omega arith) (words_below L w.cells s.sound);
        closes = closes_below 64 w.closes (λ j c. let within = closes_within L (reader bytes) [] w.cells w.closes start true None j k.way c in omega arith);
      };
      back = addresses_below L w.cells (omega arith) s.sound;
    }
