-- A program that is accepted reads over none of its own bytes.
use Rattle.std.proofs.Common.{◌≡◌, ℕ, zero, suc, ◌+◌, ◌<◌, ◌≤◌, Bool, true, false, not, ◌&&◌, List, [], ◌∷◌, length, is_some, Some, None, Ok, Option, sym, refl, ap, ◌∙◌, subst, inl, inr, arith}
use Rattle.std.proofs.lemmas.Bool.{cases_Bool, both_ways, or_parts, and_cases}
use Rattle.rules.specs.declared.pieces.Piece.{Piece}
use Rattle.rules.specs.Soundness.{Sound}
use Rattle.rules.specs.TakingUp.{Cell, reading, backward}
use Rattle.rules.proofs.AreaSteps.{bind_ok}
use Rattle.walk.specs.declared.own_bytes.Extent.{Extent}
use Rattle.walk.specs.OwnBytes.{extents_of, touched, Own, Tells, lowest, any_touched, overwrites, first_overwriting}
use Rattle.walk.specs.SoundTrails.{cell}
use Rattle.walk.specs.Walks.{Trail}
use Rattle.walk.proofs.Touching.{tells, first_here, first_later}
use Rattle.channel.specs.Moves.{addresses_of}
use Rattle.translate.specs.Translations.{walked, unless_overwriting, accepted}
use Rattle.agree.proofs.Laying.{Every, PiecesAll, area_bytes}

pub none_told : (es : List Extent) (low n : ℕ) (o : Option ℕ) → is_some o ≡ false → Tells es low n o → (a : ℕ) → low ≤ a → a < low + n → Own a es → ⊥
none_told es low n None e t = t
none_told es low n (Some x) e t = absurd (both_ways true e refl)

pieces_clear : (es : List Extent) (back : Bool) (L : ℕ) (ps : List Piece) → any_touched es back ps ≡ false → PiecesAll (λ a. Own a es → ⊥) back L ps
unfolding any_touched
pieces_clear es back L [] e = tt
pieces_clear es back L (p ∷ ps) e =
    let u = or_parts (is_some (touched es (lowest back p) p.size)) (any_touched es back ps) e in
    (λ a q r i. none_told es (lowest back p) p.size (touched es (lowest back p) p.size) u.0 (tells es (lowest back p) p.size) a q r, pieces_clear es back L ps u.1)

-- a reading CCW without SKIP
abbrev pub stores : Cell → Bool
stores t = reading t.code && not t.ccw.value.flags.skip

not_overwriting : (es : List Extent) (ts : List Cell) (i : ℕ) → first_overwriting es ts ≡ None → i < length ts → overwrites es (cell ts i) ≡ false
not_overwriting es [] i e h = let z : ⊥ = omega arith in absurd z
not_overwriting es (t ∷ ts) i e h =
    elim (cases_Bool (overwrites es t)) [
      | inl o ↦ (let f : Some t.ccw.address ≡ None = sym (first_here es t ts o) ∙ e in let z : ◌≡◌ {A = ℕ} 0 1 = cc in let q : ⊥ = omega arith in absurd q)
      | inr o ↦ later o (λ j l. not_overwriting es ts j (sym (first_later es t ts o) ∙ e) l) i h
    ]
  where
    later : overwrites es t ≡ false → ((j : ℕ) → j < length ts → overwrites es (cell ts j) ≡ false) → (j : ℕ) → j < length (t ∷ ts) → overwrites es (cell (t ∷ ts) j) ≡ false
    later o ih zero l = o
    later o ih (suc j) l = ih j (omega arith)

accepted_as : (w v : Trail) (o : Option ℕ) → unless_overwriting o w ≡ Ok v → (o ≡ None) × (w ≡ v)
accepted_as w v None e = (refl, cc)
accepted_as w v (Some a) e = let z : ◌≡◌ {A = ℕ} 0 1 = cc in let q : ⊥ = omega arith in absurd q

-- what it is to be accepted: walked, and no CCW reads over the program
pub accepted_parts : (bytes : List ℕ) (start : ℕ) (w : Trail) → accepted bytes start ≡ Ok w → (walked bytes start ≡ Ok w) × (first_overwriting (extents_of w.cells) w.cells ≡ None)
accepted_parts bytes start w e =
    let r = bind_ok (walked bytes start) _ w e in
    let a = accepted_as r.0 w (first_overwriting (extents_of r.0.cells) r.0.cells) r.2 in
    (r.1 ∙ ap Ok a.1, subst (λ (v : Trail). first_overwriting (extents_of v.cells) v.cells ≡ None) a.1 a.0)

pub accepted_from : (bytes : List ℕ) (start : ℕ) (w : Trail) → walked bytes start ≡ Ok w → first_overwriting (extents_of w.cells) w.cells ≡ None → accepted bytes start ≡ Ok w
accepted_from bytes start w e n = rw (e, n) refl

pub area_clear : (L : ℕ) (ts : List Cell) (i : ℕ) → first_overwriting (extents_of ts) ts ≡ None → i < length ts → Sound L (cell ts i) → stores (cell ts i) ≡ true → Every (λ a. Own a (extents_of ts) → ⊥) (addresses_of (cell ts i))
area_clear L ts i e h s g =
    let t : Cell = cell ts i in
    let es : List Extent = extents_of ts in
    let none : any_touched es (backward t.code) t.pieces ≡ false = elim (and_cases (stores t) (any_touched es (backward t.code) t.pieces) (not_overwriting es ts i e h)) [ inl f ↦ absurd (both_ways (stores t) f g) | inr f ↦ f ] in
    area_bytes (λ a. Own a es → ⊥) (backward t.code) L false t.ccw.value.count t.pieces s.shaped (pieces_clear es (backward t.code) L t.pieces none)
