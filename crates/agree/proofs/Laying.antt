-- Bytes laid along an area, in the guest's storage and through place in the host's.
use Rattle.std.proofs.Common.{◌≡◌, ℕ, zero, suc, ◌+◌, ◌-◌, ◌/◌, ◌<◌, ◌≤◌, min, Bool, true, false, not, ltb, List, [], ◌∷◌, ◌++◌, map, length, get_or, set, sym, refl, ap, ◌∙◌, subst, inl, inr, arith, length-set}
use Rattle.std.proofs.lemmas.List.{get_or-set_same, get_or-set_other}
use Rattle.std.proofs.lemmas.Bool.{ltb-false, ltb-true, not-false, or_parts, cases_eq}
use Rattle.format.specs.Bytes.{reader}
use Rattle.rules.specs.declared.pieces.Piece.{Piece}
use Rattle.rules.specs.Areas.{serves, outside, run, area, Shaped}
use Rattle.rules.proofs.AreaSteps.{serves_some}
use Rattle.walk.specs.OwnBytes.{lowest}
use Rattle.channel.specs.Moves.{lay}
use Rattle.channel.specs.Steps.{Apart}
use Rattle.program.proofs.Changing.{lay_apart}
use Rattle.map.specs.Places.{place_of, end_of}
use Rattle.map.specs.Views.{ByPlace}
use Rattle.agree.proofs.Places.{Framed, place_inside, place_apart}

unfoldable pub Every : (ℕ → Type 0) → List ℕ → Type 0
Every P [] = Unit {0}
Every P (x ∷ xs) = P x × Every P xs

pub every_append : (P : ℕ → Type 0) (xs ys : List ℕ) → Every P xs → Every P ys → Every P (xs ++ ys)
unfolding Every
every_append P [] ys e f = f
every_append P (x ∷ xs) ys e f = (e.0, every_append P xs ys e.1 f)

-- an address that differs from each of these, and from each of their places
pub apart_from : (P : ℕ → Type 0) (xs : List ℕ) (a : ℕ) → Every P xs → ((x : ℕ) → P x → x ≡ a → ⊥) → Apart a xs
unfolding Every
apart_from P [] a e h = tt
apart_from P (x ∷ xs) a e h = (h x e.0, apart_from P xs a e.1 h)

apart_placed : (fs : List ℕ) (P : ℕ → Type 0) (xs : List ℕ) (a : ℕ) → Every P xs → ((x : ℕ) → P x → place_of fs x ≡ a → ⊥) → Apart a (map (place_of fs) xs)
unfolding Every
apart_placed fs P [] a e h = tt
apart_placed fs P (x ∷ xs) a e h = (h x e.0, apart_placed fs P xs a e.1 h)

-- the bytes of a piece
pub run_up : (P : ℕ → Type 0) (v n : ℕ) → ((a : ℕ) → v ≤ a → a < v + n → P a) → Every P (run false v n)
unfolding run Every
run_up P v zero h = tt
run_up P v (suc n) h = (h v (omega arith) (omega arith), run_up P (v + 1) n (λ a p q. h a (omega arith) (omega arith)))

run_down : (P : ℕ → Type 0) (v n low : ℕ) → low + n ≤ v + 1 → ((a : ℕ) → low ≤ a → a ≤ v → P a) → Every P (run true v n)
unfolding run Every
run_down P v zero low h f = tt
run_down P v (suc n) low h f = (f v (omega arith) (omega arith), run_down P (v - 1) n low (omega arith) (λ a p q. f a p (omega arith)))

pub run_bytes : (P : ℕ → Type 0) (back : Bool) (L : ℕ) (p : Piece) → 0 < p.size → outside back L p.first p.size ≡ false → ((a : ℕ) → lowest back p ≤ a → a < lowest back p + p.size → a < L → P a) → Every P (run back p.first p.size)
run_bytes P false L p s h f = run_up P p.first p.size (λ a q r. f a q r (let g = ltb-false L (p.first + p.size) h in omega arith))
run_bytes P true L p s h f =
    let o = or_parts (not (ltb p.first L)) (ltb (p.first + 1) p.size) h in
    let inside = ltb-true p.first L (not-false (ltb p.first L) o.0) in
    let enough = ltb-false (p.first + 1) p.size o.1 in
    run_down P p.first p.size (p.first - (p.size - 1)) (omega arith) (λ a q r. f a q (omega arith) (omega arith))

-- a byte range that grows upward lies inside
pub run_inside : (L v n : ℕ) → v + n ≤ L → Every (λ a. a < L) (run false v n)
run_inside L v n h = run_up (λ a. a < L) v n (λ a p q. omega arith)

module _ (P : ℕ → Type 0) (back : Bool) (L : ℕ) where
  -- what holds of the bytes of each piece holds of the area
  abbrev pub PiecesAll : List Piece → Type 0
  PiecesAll [] = Unit {0}
  PiecesAll (p ∷ ps) = ((a : ℕ) → lowest back p ≤ a → a < lowest back p + p.size → a < L → P a) × PiecesAll ps

  pub area_bytes : (later : Bool) (left : ℕ) (ps : List Piece) → Shaped back L later left ps → PiecesAll ps → Every P (area back ps)
  unfolding area Shaped Every
  area_bytes later left [] s h = tt
  area_bytes later left (p ∷ ps) s h =
      let some : 0 < p.size = size_some p.first p.size left s.0 s.1 in
      every_append P (run back p.first p.size) (area back ps) (run_bytes P back L p some s.3 h.0) (area_bytes true (left - p.size) ps s.4 h.1)
    where
      size_some : (v n left : ℕ) → 0 < left → n ≡ min left (serves back v) → 0 < n
      size_some v n left z e = let q = serves_some back v in omega arith

inside_all : (back : Bool) (L : ℕ) (ps : List Piece) → PiecesAll (λ a. a < L) back L ps
inside_all back L [] = tt
inside_all back L (p ∷ ps) = (λ a q r i. i, inside_all back L ps)

pub area_inside : (back : Bool) (L : ℕ) (later : Bool) (left : ℕ) (ps : List Piece) → Shaped back L later left ps → Every (λ a. a < L) (area back ps)
area_inside back L later left ps s = area_bytes (λ a. a < L) back L later left ps s (inside_all back L ps)

pub lay_length : (xs bs st : List ℕ) → length (lay xs bs st) ≡ length st
lay_length xs [] st = refl
lay_length [] (x ∷ bs) st = refl
lay_length (a ∷ xs) (x ∷ bs) st = lay_length xs bs (set st a x) ∙ length-set st a x

module _ (fs : List ℕ) where
  set_seen : (H G : List ℕ) (a x : ℕ) → Framed fs (length H) → a < end_of fs → ByPlace fs H G → ByPlace fs (set H (place_of fs a) x) (set G a x)
  set_seen H G a x m h s = (
    length-set G a x ∙ s.0,
    λ y hy.
        let i = place_inside fs (length H) m a h in
        let n = s.0 in
        elim (cases_eq y a) [
          | inl q ↦
              ap (λ z. get_or (set G a x) z 0) q ∙ get_or-set_same G a x 0 (omega arith)
              ∙ sym (ap (λ z. get_or (set H (place_of fs a) x) (place_of fs z) 0) q ∙ get_or-set_same H (place_of fs a) x 0 i.1)
          | inr q ↦ get_or-set_other G a y x 0 q ∙ s.1 y hy ∙ sym (get_or-set_other H (place_of fs a) (place_of fs y) x 0 (λ u. q (place_apart fs (length H) m y a hy h u)))
        ],
  )

  -- laid through place and laid directly, the guest sees the same
  pub lay_seen : (xs bs H G : List ℕ) → Framed fs (length H) → Every (λ a. a < end_of fs) xs → ByPlace fs H G → ByPlace fs (lay (map (place_of fs) xs) bs H) (lay xs bs G)
  unfolding Every
  lay_seen xs [] H G m h s = s
  lay_seen [] (x ∷ bs) H G m h s = s
  lay_seen (a ∷ xs) (x ∷ bs) H G m h s =
      lay_seen xs bs (set H (place_of fs a) x) (set G a x) (subst (Framed fs) (sym (length-set H (place_of fs a) x)) m) h.1 (set_seen H G a x m h.0 s)

  -- a host byte that is no guest byte's stays
  pub lay_elsewhere : (xs bs H : List ℕ) (y : ℕ) → Every (λ a. a < end_of fs) xs → ((a : ℕ) → a < end_of fs → place_of fs a ≡ y → ⊥) → get_or (lay (map (place_of fs) xs) bs H) y 0 ≡ get_or H y 0
  lay_elsewhere xs bs H y h out = lay_apart (map (place_of fs) xs) bs H y (apart_placed fs (λ a. a < end_of fs) xs y h out)

  pub gathered_same : (xs H G : List ℕ) → Every (λ a. a < end_of fs) xs → ByPlace fs H G → map (reader H) (map (place_of fs) xs) ≡ map (reader G) xs
  unfolding Every
  gathered_same [] H G h s = refl
  gathered_same (a ∷ xs) H G h s = λ i. sym (s.1 a h.0) i ∷ gathered_same xs H G h.1 s i

  -- a frame that no page has
  pub other_frame : (y : ℕ) → ((p : ℕ) → p < length fs → get_or fs p 0 ≡ y / 4096 → ⊥) → (a : ℕ) → a < end_of fs → place_of fs a ≡ y → ⊥
  other_frame y out a h e =
      let d : place_of fs a / 4096 ≡ get_or fs (a / 4096) 0 = omega arith in
      out (a / 4096) (omega arith) (sym d ∙ ap (λ z. z / 4096) e)
