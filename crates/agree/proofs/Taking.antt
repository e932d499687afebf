-- The host's channel takes up the cells of a program frame.
use Rattle.std.proofs.Common.{◌≡◌, ℕ, ◌+◌, ◌*◌, ◌%◌, ◌<◌, ◌≤◌, Bool, true, false, not, ◌&&◌, ◌||◌, eqb, List, map, length, get_or, Ok, Result, refl, ap, ◌∙◌, inl, inr, arith}
use Rattle.std.proofs.lemmas.Bool.{le-ltb, eq-eqb, ne_eqb}
use Rattle.format.specs.declared.ccw.Ccw.{Ccw}
use Rattle.format.specs.declared.ccw.Format.TheVariants.{One}
use Rattle.format.specs.declared.class.Class.{Class}
use Rattle.format.specs.declared.class.Class.TheVariants.{Invalid, Write, Read, Control, Sense, TransferInChannel, ReadBackward}
use Rattle.format.specs.declared.refusal.Refusal.TheVariants.{TransferMisplaced, CodeInvalid, FlagRefused, ListMisaligned}
use Rattle.format.specs.Bytes.{Reader}
use Rattle.format.specs.Classes.{class_of, only_eight, class_in}
use Rattle.format.specs.FlagBits.{any_flag}
use Rattle.format.specs.Layouts.{ccw_at}
use Rattle.rules.specs.declared.pieces.Piece.{Piece}
use Rattle.rules.specs.declared.place.Broken.{Broken}
use Rattle.rules.specs.Rules.{unless}
use Rattle.rules.specs.Areas.{by_words}
use Rattle.rules.specs.Soundness.{Sound}
use Rattle.rules.specs.TakingUp.{Cell, is_transfer, is_invalid, backward, transfer_at, found, in_force, none_in_force, pieces_of, cell_at, read_up}
use Rattle.rules.proofs.Passing.{Aligned, found_here, found_through, read_up_from}
use Rattle.walk.specs.SoundTrails.{cell, pieces_in, Proper, Leads}
use Rattle.walk.specs.Walks.{Trail}
use Rattle.map.specs.Places.{place_of, end_of}
use Rattle.translate.specs.Frames.{cell_ccw, frame_of}
use Rattle.agree.proofs.Frames.{words_before, list_end, cell_read, transfer_read, word_read}
use Rattle.agree.proofs.Places.{placed, Framed, words_placed}

-- a program frame at the front of a storage of LH bytes, and cells that may be run
pub record Ready (fs : List ℕ) (LH : ℕ) (b : Reader) (w : Trail) : Type 0 where
  pub framed : Framed fs LH
  pub same : (a : ℕ) → a < 4096 → b a ≡ get_or (frame_of (place_of fs) w) a 0
  pub few : length w.cells ≤ 64
  pub short : pieces_in w.cells ≤ 768
  pub sound : (i : ℕ) → i < length w.cells → Sound (end_of fs) (cell w.cells i)
  pub proper : (i : ℕ) → i < length w.cells → Proper (cell w.cells i)

-- where the list of a cell stands, and what the host's channel takes up there
abbrev pub list_of : Trail → ℕ → ℕ
list_of w i = 1024 + 4 * words_before w.cells i

abbrev pub hosted : List ℕ → ℕ → ℕ → Cell → Cell
hosted fs i list t = record { ccw = record { value = cell_ccw t list; address = 8 * i }; before = t.before; code = t.code; pieces = map (placed fs) t.pieces }

no_eighth : (code : ℕ) (c : Class) → is_transfer c ≡ false → is_invalid (only_eight code c) ≡ is_invalid c
no_eighth code Invalid h = refl
no_eighth code Write h = refl
no_eighth code Read h = refl
no_eighth code Control h = refl
no_eighth code Sense h = refl
no_eighth code TransferInChannel h = let z : ◌≡◌ {A = ℕ} 0 1 = cc in let q : ⊥ = omega arith in absurd q
no_eighth code ReadBackward h = refl

-- the rules for a TIC of format 1 that may stand where it does
passing : ℕ → Ccw → Result ℕ Broken → Result ℕ Broken
passing a c rest = unless (not (eqb c.code 8)) (CodeInvalid a) a (unless false (TransferMisplaced a) a (unless (any_flag c.flags || not (eqb c.count 0)) (FlagRefused a) a rest))

module _ (fs : List ℕ) (LH : ℕ) (b : Reader) (w : Trail) (r : Ready fs LH b w) where
  cell_is : (i : ℕ) → i < length w.cells → ccw_at One b (8 * i) ≡ cell_ccw (cell w.cells i) (list_of w i)
  cell_is i h = let p = r.proper i h in cell_read (place_of fs) w r.few r.short b r.same i h p.byte p.short

  no_transfer_at : (i : ℕ) → i < length w.cells → transfer_at One b (8 * i) ≡ false
  no_transfer_at i h = ap (λ (c : Ccw). is_transfer (class_of c.code)) (cell_is i h) ∙ (r.proper i h).no_transfer

  fits : (i : ℕ) → i ≤ length w.cells → Aligned LH (8 * i)
  fits i h =
      let n = r.few in
      let g = r.framed.long in
      (eq-eqb (8 * i % 8) 0 (omega arith), le-ltb LH (8 * i + 8) (omega arith))

  pub host_found : (i : ℕ) (first : Bool) → i < length w.cells → found One LH b (8 * i) first ≡ Ok (8 * i)
  host_found i first h = found_here One LH b (8 * i) first (fits i (omega arith)) (no_transfer_at i h)

  -- the place behind a cell leads to the cell that follows it
  pub host_next : (i j : ℕ) → i < length w.cells → j < length w.cells → Leads w i j → found One LH b (8 * i + 8) false ≡ Ok (8 * j)
  unfolding passing
  host_next i j h l (inl e) =
      let f : 8 * i + 8 ≡ 8 * j = omega arith in
      ap (λ x. found One LH b x false) f ∙ host_found j false l
  host_next i j h l (inr e) =
      let n : ℕ = length w.cells in
      let f : 8 * i + 8 ≡ 8 * n = omega (arith, e.0) in
      let d = transfer_read (place_of fs) w r.few r.short b r.same j e.1 in
      ap (λ x. found One LH b x false) f
      ∙ found_through One LH b (8 * n) (8 * j) false (fits n (omega arith)) (ap (λ (c : Ccw). is_transfer (class_of c.code)) d) (λ rest. ap (λ (c : Ccw). passing (8 * n) c rest) d) (ap (λ (c : Ccw). c.address) d) (fits j (omega arith)) (no_transfer_at j l)

  pub host_read : (i : ℕ) → i < length w.cells → read_up One LH b (8 * i) (cell w.cells i).before ≡ Ok (hosted fs i (list_of w i) (cell w.cells i))
  host_read i h =
      let t : Cell = cell w.cells i in
      let p = r.proper i h in
      let s = r.sound i h in
      let la : ℕ = list_of w i in
      let c : Ccw = cell_ccw t la in
      let ps : List Piece = map (placed fs) t.pieces in
      let le = list_end w.cells i h in
      let lw = r.short in
      let ll = r.framed.long in
      let count : ℕ = t.ccw.value.count in
      let words : by_words (backward t.code) LH b (8 * i) count false la count ≡ Ok ps =
      words_placed fs LH r.framed (backward t.code) b (8 * i) count false la count t.pieces (omega arith) s.shaped (omega arith)
      (λ k l. word_read (place_of fs) w r.few r.short b r.same i k h l) in
      let multiple : eqb (la % 4) 0 ≡ true = eq-eqb (la % 4) 0 (omega arith) in
      let from : pieces_of LH b (8 * i) c (backward (in_force t.before t.code)) true ≡ Ok ps =
      ap (λ x. pieces_of LH b (8 * i) c (backward x) true) p.forced
      ∙ ap (λ x. unless (not x) (ListMisaligned (8 * i)) (8 * i) (by_words (backward t.code) LH b (8 * i) count false la count)) multiple
      ∙ words in
      let valid : (none_in_force t.before && is_invalid (class_in One t.code)) ≡ false = ap (λ x. none_in_force t.before && x) (no_eighth t.code (class_of t.code) p.no_transfer) ∙ p.valid in
      let same : cell_at t.before (8 * i) c ps ≡ hosted fs i la t = λ d. record { ccw = record { value = c; address = 8 * i }; before = t.before; code = p.forced d; pieces = ps } in
      read_up_from One LH b (8 * i) t.before c ps (cell_is i h) valid refl (ne_eqb count 0 (let k = s.some in λ e. omega arith)) from ∙ ap Ok same
