-- What the shape of an area gives the moves.
use Rattle.std.proofs.Common.{◌≡◌, ℕ, zero, suc, ◌+◌, ◌-◌, ◌<◌, ◌≤◌, min, Bool, true, false, cond, not, ltb, List, [], ◌∷◌, length, get_or, take, set, sym, refl, ap, ◌∙◌, subst, arith, length-append, length-take}
use Rattle.std.proofs.Math.ListN.{length-map}
use Rattle.std.proofs.lemmas.List.{get_or-take}
use Rattle.std.proofs.lemmas.Bool.{lt-ltb, le-ltb, ltb-false, ltb-true, not-false, or_parts, or_from}
use Rattle.rules.specs.declared.pieces.Piece.{Piece}
use Rattle.rules.specs.Areas.{outside, area, sizes, Shaped}
use Rattle.rules.specs.Areas.{run as addresses}
use Rattle.rules.proofs.AreaSteps.{serves_most}
use Rattle.format.specs.Bytes.{reader}
use Rattle.device.specs.Machine.{Machine, due, room}
use Rattle.rules.specs.Soundness.{Sound}
use Rattle.rules.specs.TakingUp.{Cell, backward, reading}
use Rattle.channel.specs.Moves.{lay, addresses_of, gathered, moved_count}
use Rattle.channel.proofs.Laying.{length_run, no_piece}

outside_wider : (k : Bool) (L M v n : ℕ) → L ≤ M → outside k L v n ≡ false → outside k M v n ≡ false
outside_wider false L M v n h e = le-ltb M (v + n) (omega (arith, ltb-false L (v + n) e))
outside_wider true L M v n h e =
    let p = or_parts (not (ltb v L)) (ltb (v + 1) n) e in
    let g = ltb-true v L (not-false (ltb v L) p.0) in
    or_from (not (ltb v M)) (ltb (v + 1) n) (ap not (lt-ltb v M (omega arith))) p.1

-- a longer storage holds the area too
pub shaped_wider : (k : Bool) (L M : ℕ) (later : Bool) (left : ℕ) (ps : List Piece) → L ≤ M → Shaped k L later left ps → Shaped k M later left ps
unfolding Shaped
shaped_wider k L M later left [] h s = s
shaped_wider k L M later left (p ∷ ps) h s = (s.0, s.1, s.2, outside_wider k L M p.first p.size h s.3, shaped_wider k L M true (left - p.size) ps h s.4)

pub shaped_sizes : (k : Bool) (L : ℕ) (later : Bool) (left : ℕ) (ps : List Piece) → Shaped k L later left ps → sizes ps ≡ left
unfolding Shaped
shaped_sizes k L later left [] s = sym s
shaped_sizes k L later left (p ∷ ps) s = let ih = shaped_sizes k L true (left - p.size) ps s.4 in omega (arith, s.1)

-- pieces that are left of an area
pub record Rest (k : Bool) (L : ℕ) (ps : List Piece) : Type 0 where
  pub later : Bool
  pub left : ℕ
  pub shaped : Shaped k L later left ps

-- the next of them, and those behind it
pub rest_next : (k : Bool) (L : ℕ) (p : Piece) (ps : List Piece) → Rest k L (p ∷ ps) → (outside k L p.first p.size ≡ false) × (p.size ≤ 2048) × Rest k L ps
unfolding Shaped
rest_next k L p ps r =
    let s = r.shaped in
    (s.3, let m = serves_most k p.first in omega (arith, s.1), record { later = true; left = r.left - p.size; shaped = s.4 })

-- each piece of a shaped area
shaped_at : (k : Bool) (L : ℕ) (later : Bool) (left : ℕ) (ps : List Piece) → Shaped k L later left ps → (i : ℕ) → i < length ps
    → (outside k L (get_or ps i no_piece).first (get_or ps i no_piece).size ≡ false) × ((get_or ps i no_piece).size ≤ 2048)
unfolding Shaped
shaped_at k L later left [] s i h = absurd (omega arith)
shaped_at k L later left (p ∷ ps) s zero h = (s.3, let r = serves_most k p.first in omega (arith, s.1))
shaped_at k L later left (p ∷ ps) s (suc i) h = shaped_at k L true (left - p.size) ps s.4 i (omega arith)

-- the same of a table
pub table_at : (k : Bool) (L left : ℕ) (items : List Piece) (len : ℕ) → Shaped k L false left (take len items) → len ≤ length items → (i : ℕ) → i < len
    → (outside k L (get_or items i no_piece).first (get_or items i no_piece).size ≡ false) × ((get_or items i no_piece).size ≤ 2048)
table_at k L left items len s l i h =
    let b : i < length (take len items) = simp length-take (omega arith) in
    let P : Piece → Type 0 = λ p. (outside k L p.first p.size ≡ false) × (p.size ≤ 2048) in
    subst P (get_or-take len items i no_piece h) (shaped_at k L false left (take len items) s i b)

pub length-area : (k : Bool) (ps : List Piece) → length (area k ps) ≡ sizes ps
unfolding area
length-area k [] = refl
length-area k (p ∷ ps) = length-append (addresses k p.first p.size) (area k ps) ∙ omega (arith, length_run k p.first p.size, length-area k ps)

-- bytes past the addresses are laid nowhere
pub lay_cut : (xs bs st : List ℕ) → lay xs (take (length xs) bs) st ≡ lay xs bs st
lay_cut [] [] st = refl
lay_cut [] (x ∷ bs) st = refl
lay_cut (a ∷ xs) [] st = refl
lay_cut (a ∷ xs) (x ∷ bs) st = lay_cut xs bs (set st a x)

pub lay_area : (k : Bool) (ps : List Piece) (n : ℕ) (bs st : List ℕ) → sizes ps ≡ n → lay (area k ps) bs st ≡ lay (area k ps) (take n bs) st
lay_area k ps n bs st e = sym (ap (λ j. lay (area k ps) (take j bs) st) (sym (length-area k ps ∙ e)) ∙ lay_cut (area k ps) bs st)

-- no more is moved than the count
pub moved_within : (m : Machine) (L : ℕ) (t : Cell) (st : List ℕ) (s : m.State) → Sound L t → moved_count m t (gathered t st) s ≤ t.ccw.value.count
moved_within m L t st s h = go (reading t.code)
  where
    held : length (gathered t st) ≡ t.ccw.value.count
    held = length-map (addresses_of t) (reader st) ∙ length-area (backward t.code) t.pieces ∙ shaped_sizes (backward t.code) L false t.ccw.value.count t.pieces h.shaped

    go : (r : Bool) → cond r (length (take t.ccw.value.count (due (m.pending s)))) (min (length (gathered t st)) (room (m.pending s))) ≤ t.ccw.value.count
    go true = omega (arith, length-take t.ccw.value.count (due (m.pending s)))
    go false = omega (arith, held)
