-- A walk reads the program's own bytes alone.
use Rattle.std.proofs.Common.{◌≡◌, ℕ, zero, suc, ◌+◌, ◌-◌, ◌*◌, ◌%◌, ◌^◌, ◌<◌, ◌≤◌, min, Bool, true, false, cond, not, eqb, ltb, ◌⊎◌, List, [], ◌∷◌, ◌++◌, length, Some, None, Ok, Option, Result, sym, refl, ap, ◌∙◌, subst, inl, inr, append_assoc, arith, length-append}
use Rattle.std.proofs.lemmas.List.{get_or_at, get_or_append_left}
use Rattle.std.proofs.lemmas.Bool.{both_ways}
use Rattle.format.specs.declared.ccw.Ccw.{Ccw}
use Rattle.format.specs.declared.ccw.Format.TheVariants.{Zero}
use Rattle.format.specs.declared.refusal.Refusal.TheVariants.{WordOutside, ListMisaligned}
use Rattle.format.specs.Bytes.{Reader, reader, word_at}
use Rattle.format.specs.FlagBits.{flags_of}
use Rattle.format.specs.Layouts.{ccw_at}
use Rattle.rules.specs.declared.pieces.Piece.{Piece}
use Rattle.rules.specs.declared.place.Broken.{Broken}
use Rattle.rules.specs.Rules.{unless, bind}
use Rattle.rules.specs.Areas.{word_serves, one_word, by_words}
use Rattle.rules.specs.TakingUp.{Cell, reach, is_transfer, backward, in_force, transfer_at, found, pieces_of, read_up}
use Rattle.format.specs.Classes.{class_of}
use Rattle.rules.proofs.AreaSteps.{unless_ok, bind_ok}
use Rattle.rules.proofs.Passing.{Aligned, Finds, found_ok, found_again, read_up_from}
use Rattle.rules.proofs.Shapes.{read_up_ok}
use Rattle.walk.specs.OwnBytes.{ccw_extent, list_extent, extents_of, Own}
use Rattle.walk.specs.SoundTrails.{no_cell, cell, OwnBytesAlone}
use Rattle.walk.specs.Walks.{Trail, met, goes_on, carried, Seen, again, fresh, look_at, one_place, with_cell, onward, walk}
use Rattle.walk.proofs.SoundTrails.{met_at, read_at, cond_cases}
use Rattle.walk.proofs.Trails.{Looked, look_ok, look_again}

-- the n bytes from a on are the same
abbrev pub Alike : Reader → Reader → ℕ → ℕ → Type 0
Alike b d a n = (x : ℕ) → a ≤ x → x < a + n → b x ≡ d x

module _ (L : ℕ) (b d : Reader) where
  ccw_same : (a : ℕ) → Alike b d a 8 → ccw_at Zero b a ≡ ccw_at Zero d a
  ccw_same a h = λ i. record {
    code = h a (omega arith) (omega arith) i % 256;
    flags = flags_of (h (a + 4) (omega arith) (omega arith) i);
    count = (h (a + 6) (omega arith) (omega arith) i * 256 + h (a + 6 + 1) (omega arith) (omega arith) i) % 65536;
    address = h (a + 1) (omega arith) (omega arith) i * 65536 + h (a + 1 + 1) (omega arith) (omega arith) i * 256 + h (a + 1 + 2) (omega arith) (omega arith) i;
  }

  word_same : (a : ℕ) → Alike b d a 4 → word_at d a ≡ word_at b a
  word_same a h = λ i.
      sym (h a (omega arith) (omega arith)) i * 16777216 + sym (h (a + 1) (omega arith) (omega arith)) i * 65536
      + sym (h (a + 2) (omega arith) (omega arith)) i * 256 + sym (h (a + 3) (omega arith) (omega arith)) i

  words_same : (back : Bool) (ccw rounds : ℕ) (later : Bool) (at left : ℕ) (ps : List Piece) → Alike b d at (4 * length ps)
      → by_words back L b ccw rounds later at left ≡ Ok ps → by_words back L d ccw rounds later at left ≡ Ok ps
  unfolding by_words
  words_same back ccw rounds later at zero ps h e = e
  words_same back ccw zero later at (suc left) ps h e = e
  words_same back ccw (suc rounds) later at (suc left) ps h e =
      let one = bind_ok (one_word back L b ccw later at (suc left)) _ ps e in
      let p : Piece = one.0 in
      let rest = bind_ok (by_words back L b ccw rounds true (at + 4) (suc left - p.size)) _ ps one.2 in
      let q : p ∷ rest.0 ≡ ps = let y = rest.2 in cc in
      let len : suc (length rest.0) ≡ length ps = ap length q in
      let v : word_at d at ≡ word_at b at = word_same at (λ x u w. h x u (omega arith)) in
      let first : one_word back L d ccw later at (suc left) ≡ Ok p = ap (λ x. unless (ltb L (at + 4)) (WordOutside at) ccw (word_serves back L ccw later at x (suc left))) v ∙ one.1 in
      let others = words_same back ccw rounds true (at + 4) (suc left - p.size) rest.0 (λ x u w. h x (omega arith) (omega arith)) rest.1 in
      ap (λ (r : Result Piece Broken). bind r (λ p. bind (by_words back L d ccw rounds true (at + 4) (suc left - p.size)) (λ ps. Ok (p ∷ ps)))) first
      ∙ ap (λ (r : Result (List Piece) Broken). bind r (λ ps. Ok (p ∷ ps))) others
      ∙ ap Ok q

  pieces_same : (a : ℕ) (w : Ccw) (back indirect : Bool) (ps : List Piece) → Alike b d w.address (cond indirect (4 * length ps) 0)
      → pieces_of L b a w back indirect ≡ Ok ps → pieces_of L d a w back indirect ≡ Ok ps
  pieces_same a w back true ps h e =
      let u = unless_ok (not (eqb (w.address % 4) 0)) _ a _ ps e in
      ap (λ t. unless t (ListMisaligned a) a (by_words back L d a w.count false w.address w.count)) u.0
      ∙ words_same back a w.count false w.address w.count ps h u.1
  pieces_same a w back false ps h e = e

  read_same : (a : ℕ) (command : Option ℕ) (t : Cell) → Alike b d a 8 → Alike b d (list_extent t).start (list_extent t).size → read_up Zero L b a command ≡ Ok t → read_up Zero L d a command ≡ Ok t
  read_same a command t h l e =
      let r = read_up_ok Zero L b a command t e in
      let w : Ccw = ccw_at Zero b a in
      let hw : Alike b d w.address (cond w.flags.ida (4 * length r.pieces) 0) = subst (λ (z : Cell). Alike b d (list_extent z).start (list_extent z).size) (sym r.is) l in
      read_up_from Zero L d a command w r.pieces (sym (ccw_same a h)) r.valid r.flags r.count (pieces_same a w (backward (in_force command w.code)) w.flags.ida r.pieces hw r.from) ∙ ap Ok r.is

  transfer_same : (a : ℕ) → b a ≡ d a → transfer_at Zero d a ≡ transfer_at Zero b a
  transfer_same a h = ap (λ x. is_transfer (class_of (x % 256))) (sym h)

  -- a place is found by the bytes where it stands, by those of a TIC there, and by the first byte of the CCW found
  found_same : (a x : ℕ) (first : Bool) → (first ≡ false → Alike b d a 8) → b x ≡ d x → found Zero L b a first ≡ Ok x → found Zero L d a first ≡ Ok x
  found_same a x first h hx e = found_again L d a x first (record { fits = f.fits; way = go f.way })
    where
      f : Finds L b a first x
      f = found_ok L b a x first e

      go : ((transfer_at Zero b a ≡ false) × (a ≡ x)) ⊎ ((transfer_at Zero b a ≡ true) × (first ≡ false) × ((ccw_at Zero b a).address ≡ x) × Aligned L x × (transfer_at Zero b x ≡ false))
          → ((transfer_at Zero d a ≡ false) × (a ≡ x)) ⊎ ((transfer_at Zero d a ≡ true) × (first ≡ false) × ((ccw_at Zero d a).address ≡ x) × Aligned L x × (transfer_at Zero d x ≡ false))
      go (inl k) = inl (transfer_same a (subst (λ z. b z ≡ d z) (sym k.1) hx) ∙ k.0, k.1)
      go (inr k) = inr (
        transfer_same a (h k.1 a (omega arith) (omega arith)) ∙ k.0,
        k.1,
        ap (λ (w : Ccw). w.address) (sym (ccw_same a (h k.1))) ∙ k.2,
        k.3,
        transfer_same x hx ∙ k.4,
      )

-- the extents of a cell of the program
own_in : (ts : List Cell) (i a : ℕ) → i < length ts
    → (((ccw_extent (cell ts i)).start ≤ a) × (a < (ccw_extent (cell ts i)).start + (ccw_extent (cell ts i)).size)) ⊎ (((list_extent (cell ts i)).start ≤ a) × (a < (list_extent (cell ts i)).start + (list_extent (cell ts i)).size))
    → Own a (extents_of ts)
unfolding extents_of
own_in [] i a h o = let z : ⊥ = omega arith in absurd z
own_in (t ∷ ts) zero a h (inl o) = inl o
own_in (t ∷ ts) zero a h (inr o) = inr (inl o)
own_in (t ∷ ts) (suc i) a h o = inr (inr (own_in ts i a (omega arith) o))

ccw_8 : (t : Cell) → 8 ≤ (ccw_extent t).size
ccw_8 t = go (goes_on t)
  where
    go : (g : Bool) → 8 ≤ cond g 16 8
    go true = omega arith
    go false = omega arith

module _ (L : ℕ) (b d : Reader) (all : List Cell) (own : (a : ℕ) → Own a (extents_of all) → b a ≡ d a) where
  at_ccw : (i : ℕ) → i < length all → Alike b d (cell all i).ccw.address 8
  at_ccw i h x u v = let r = ccw_8 (cell all i) in own x (own_in all i x h (inl (u, omega arith)))

  at_list : (i : ℕ) → i < length all → Alike b d (list_extent (cell all i)).start (list_extent (cell all i)).size
  at_list i h x u v = own x (own_in all i x h (inr (u, v)))

  behind : (i : ℕ) → i < length all → goes_on (cell all i) ≡ true → Alike b d ((cell all i).ccw.address + 8) 8
  behind i h g x u v =
      let r : (ccw_extent (cell all i)).size ≡ 16 = ap (λ y. cond y 16 8) g in
      own x (own_in all i x h (inl (omega arith, omega arith)))

  -- from a place on, with the cells before it
  abbrev SameFrom : ℕ → List Cell → ℕ → ℕ → Bool → Option ℕ → Trail → Type 0
  SameFrom rounds seen n a first command w = walk rounds L b seen n a first command ≡ Ok w → all ≡ seen ++ w.cells → (first ≡ false → Alike b d a 8) → walk rounds L d seen n a first command ≡ Ok w

  cell_here : (seen ts : List Cell) (t : Cell) → all ≡ seen ++ t ∷ ts → (cell all (length seen) ≡ t) × (length seen < length all)
  cell_here seen ts t e =
      let l : length all ≡ length seen + suc (length ts) = ap length e ∙ length-append seen (t ∷ ts) in
      (ap (λ l. cell l (length seen)) e ∙ get_or_at seen t ts no_cell (length seen) refl, omega arith)

  module _ (seen : List Cell) (n a : ℕ) (first : Bool) (command : Option ℕ) (w : Trail) (split : all ≡ seen ++ w.cells) (before : first ≡ false → Alike b d a 8) where
    met_same : (x j : ℕ) → found Zero L b a first ≡ Ok x → met x command seen 0 ≡ Some j → one_place L d seen n a first command ≡ Ok (again j)
    met_same x j f m =
        let k = met_at x command seen j m in
        let l : length all ≡ length seen + length w.cells = ap length split ∙ length-append seen w.cells in
        let c : cell all j ≡ cell seen j = ap (λ l. cell l j) split ∙ get_or_append_left seen w.cells no_cell j k.0 in
        let at : (cell all j).ccw.address ≡ x = ap (λ (y : Cell). y.ccw.address) c ∙ k.1 in
        let bx : b x ≡ d x = at_ccw j (omega (arith, k.0)) x (omega arith) (omega arith) in
        ap (λ (r : Result ℕ Broken). bind r (λ x. look_at L d seen n x command)) (found_same L b d a x first before bx f)
        ∙ look_again L d seen n x command (again j) m

    new_same : (x : ℕ) (t : Cell) (ts : List Cell) → w.cells ≡ t ∷ ts → found Zero L b a first ≡ Ok x → Looked L b seen n x command (fresh t) → one_place L d seen n a first command ≡ Ok (fresh t)
    new_same x t ts e f k =
        let h = cell_here seen ts t (split ∙ ap (λ l. seen ++ l) e) in
        let ta = read_at L b x command t k.2 in
        let at : (cell all (length seen)).ccw.address ≡ x = ap (λ (y : Cell). y.ccw.address) h.0 ∙ ta.0 in
        let eight : Alike b d x 8 = subst (λ y. Alike b d y 8) at (at_ccw (length seen) h.1) in
        let list : Alike b d (list_extent t).start (list_extent t).size = subst (λ (y : Cell). Alike b d (list_extent y).start (list_extent y).size) h.0 (at_list (length seen) h.1) in
        ap (λ (r : Result ℕ Broken). bind r (λ x. look_at L d seen n x command)) (found_same L b d a x first before (eight x (omega arith) (omega arith)) f)
        ∙ look_again L d seen n x command (fresh t) (k.0, k.1, read_same L b d x command t eight list k.2, k.3)

    behind_new : (t : Cell) (ts : List Cell) → w.cells ≡ t ∷ ts → goes_on t ≡ true → Alike b d (t.ccw.address + 8) 8
    behind_new t ts e g =
        let h = cell_here seen ts t (split ∙ ap (λ l. seen ++ l) e) in
        subst (λ (y : Cell). goes_on y ≡ true → Alike b d (y.ccw.address + 8) 8) h.0 (behind (length seen) h.1) g

  walk_same : (rounds : ℕ) (seen : List Cell) (n a : ℕ) (first : Bool) (command : Option ℕ) (w : Trail) → SameFrom rounds seen n a first command w
  unfolding walk
  walk_same zero seen n a first command w e split before = e
  walk_same (suc rounds) seen n a first command w e split before =
      let r = bind_ok (one_place L b seen n a first command) _ w e in
      let f = bind_ok (found Zero L b a first) _ r.0 r.1 in
      go (λ t v. walk_same rounds (seen ++ t ∷ []) (n + length t.pieces) (t.ccw.address + 8) false (carried t) v) f.0 f.1 r.0 (look_ok L b seen n f.0 command r.0 f.2) r.2
    where
      more : Reader → Cell → Result Trail Broken
      more z t = walk rounds L z (seen ++ t ∷ []) (n + length t.pieces) (t.ccw.address + 8) false (carried t)

      last : Cell → Trail
      last t = record { cells = t ∷ []; closes = None }

      new : (x : ℕ) (t : Cell) → ((v : Trail) → SameFrom rounds (seen ++ t ∷ []) (n + length t.pieces) (t.ccw.address + 8) false (carried t) v)
          → found Zero L b a first ≡ Ok x → Looked L b seen n x command (fresh t) → cond (goes_on t) (with_cell t (more b t)) (Ok (last t)) ≡ Ok w
          → bind (one_place L d seen n a first command) (onward (more d)) ≡ Ok w
      new x t ih f k q =
          elim (cond_cases (goes_on t) _ _ (Ok w) q) [
            | inl g ↦
                let m = bind_ok (more b t) _ w g.1 in
                let v : Trail = m.0 in
                let cs : w.cells ≡ t ∷ v.cells = let y = m.2 in cc in
                let rest = ih v m.1 (split ∙ ap (λ l. seen ++ l) cs ∙ sym (append_assoc seen (t ∷ []) v.cells)) (λ _. behind_new seen n a first command w split before t v.cells cs g.0) in
                ap (λ (y : Result Seen Broken). bind y (onward (more d))) (new_same seen n a first command w split before x t v.cells cs f k)
                ∙ ap (λ y. cond y (with_cell t (more d t)) (Ok (last t))) g.0
                ∙ ap (with_cell t) rest
                ∙ m.2
            | inr g ↦
                let cs : w.cells ≡ t ∷ [] = let y = g.1 in cc in
                ap (λ (y : Result Seen Broken). bind y (onward (more d))) (new_same seen n a first command w split before x t [] cs f k)
                ∙ ap (λ y. cond y (with_cell t (more d t)) (Ok (last t))) g.0
                ∙ g.1
          ]

      go : ((t : Cell) (v : Trail) → SameFrom rounds (seen ++ t ∷ []) (n + length t.pieces) (t.ccw.address + 8) false (carried t) v)
          → (x : ℕ) → found Zero L b a first ≡ Ok x → (s : Seen) → Looked L b seen n x command s → onward (more b) s ≡ Ok w → bind (one_place L d seen n a first command) (onward (more d)) ≡ Ok w
      go ih x f (again j) k q = ap (λ (y : Result Seen Broken). bind y (onward (more d))) (met_same seen n a first command w split before x j f k) ∙ q
      go ih x f (fresh t) k q = new x t (ih t) f k q

pub own_bytes_alone : (bytes : List ℕ) (start : ℕ) (w : Trail) → walk 65 (reach bytes) (reader bytes) [] 0 start true None ≡ Ok w → OwnBytesAlone bytes start w
own_bytes_alone bytes start w e = record {
  same = λ other len own.
      ap (λ n. walk 65 (min n (2 ^ 31)) (reader other) [] 0 start true None) len
      ∙ walk_same (reach bytes) (reader bytes) (reader other) w.cells (λ a o. sym (own a o)) 65 [] 0 start true None w e refl (λ z. absurd (both_ways true z refl));
}
