-- Areas, direct or by words: the number of rounds allowed does not matter, one step, and what stands before it.
use Rattle.std.proofs.Common.{◌≡◌, ℕ, zero, suc, ◌+◌, ◌-◌, ◌*◌, ◌%◌, ◌<◌, ◌≤◌, min, Bool, true, false, not, ◌&&◌, ltb, List, [], ◌∷◌, ◌++◌, IfOk, Ok, Err, Result, sym, refl, ap, ◌∙◌, append_assoc, arith, ltb-false, eqb-true}
use Rattle.format.specs.Bytes.{Reader, word_at}
use Rattle.rules.specs.declared.place.Broken.{Broken}
use Rattle.rules.specs.declared.pieces.Piece.{Piece}
use Rattle.rules.specs.Rules.{unless, bind}
use Rattle.rules.specs.Areas.{serves, onward, enters, outside, cut, one_word, by_words}

pub serves_some : (back : Bool) (v : ℕ) → 0 < serves back v
serves_some false v = omega arith
serves_some true v = omega arith

pub serves_most : (back : Bool) (v : ℕ) → serves back v ≤ 2048
serves_most false v = omega arith
serves_most true v = omega arith

cut_rounds : (back : Bool) (f g v left : ℕ) → left ≤ f → left ≤ g → cut back f v left ≡ cut back g v left
unfolding cut
cut_rounds back f g v zero p q = refl
cut_rounds back zero g v (suc left) p q = absurd (omega arith)
cut_rounds back (suc f) zero v (suc left) p q = absurd (omega arith)
cut_rounds back (suc f) (suc g) v (suc left) p q =
    let n : ℕ = min (suc left) (serves back v) in
    let s = serves_some back v in
    ap (λ (ps : List Piece). record { first = v; size = n } ∷ ps) (cut_rounds back f g (onward back v n) (suc left - n) (omega (arith, s)) (omega (arith, s)))

pub cut_step : (back : Bool) (v left n : ℕ) → 0 < left → n ≡ min left (serves back v) → cut back left v left ≡ record { first = v; size = n } ∷ cut back (left - n) (onward back v n) (left - n)
unfolding cut
cut_step back v zero n h e = absurd (omega arith)
cut_step back v (suc left) n h e =
    let s = serves_some back v in
    rw e (ap (λ (ps : List Piece). record { first = v; size = min (suc left) (serves back v) } ∷ ps) (cut_rounds back left _ _ (suc left - min (suc left) (serves back v)) (omega (arith, s)) (omega (arith, s))))

pub cut_none : (back : Bool) (f v : ℕ) → cut back f v 0 ≡ []
unfolding cut
cut_none back f v = refl

-- pieces put before those of an answer
abbrev pub onto : List Piece → Result (List Piece) Broken → Result (List Piece) Broken
onto xs r = bind r (λ ps. Ok (xs ++ ps))

pub onto_more : (xs : List Piece) (p : Piece) (r : Result (List Piece) Broken) → onto xs (bind r (λ ps. Ok (p ∷ ps))) ≡ onto (xs ++ p ∷ []) r
onto_more xs p (Ok ps) = ap Ok (sym (append_assoc xs (p ∷ []) ps))
onto_more xs p (Err e) = refl

pub unless_ok : {A : Type 0} (t : Bool) (r : _) (c : ℕ) (x : Result A Broken) (y : A) → unless t r c x ≡ Ok y → (t ≡ false) × (x ≡ Ok y)
unless_ok true r c x y e = let z : ◌≡◌ {A = ℕ} 0 1 = cc in let q : ⊥ = omega arith in absurd q
unless_ok false r c x y e = (refl, e)

pub bind_ok : {A B : Type 0} (x : Result A Broken) (f : A → Result B Broken) (y : B) → bind x f ≡ Ok y → (v : A) × (x ≡ Ok v) × (f v ≡ Ok y)
bind_ok (Ok v) f y e = (v, refl, e)
bind_ok (Err b) f y e = let z : ◌≡◌ {A = ℕ} 0 1 = cc in let q : ⊥ = omega arith in absurd q

pub later_enters : (later s : Bool) → (later && not s) ≡ false → later ≡ true → s ≡ true
later_enters true true e f = refl
later_enters true false e f = sym e
later_enters false true e f = refl
later_enters false false e f = f

enters_serves : (back : Bool) (v : ℕ) → enters back v ≡ true → serves back v ≡ 2048
enters_serves false v e = let h = eqb-true (v % 2048) 0 e in omega arith
enters_serves true v e = let h = eqb-true (v % 2048) 2047 e in omega arith

module _ (back : Bool) (L : ℕ) (b : Reader) (ccw : ℕ) where
  -- what a word that passes gives
  pub word_ok : (later : Bool) (at left : ℕ) (p : Piece) → one_word back L b ccw later at left ≡ Ok p
      → (at + 4 ≤ L) × ((later && not (enters back (word_at b at))) ≡ false) × (outside back L (word_at b at) (min left (serves back (word_at b at))) ≡ false)
      × (p ≡ record { first = word_at b at; size = min left (serves back (word_at b at)) })
  word_ok later at left p e =
      let v : ℕ = word_at b at in
      let n : ℕ = min left (serves back v) in
      let u8 = unless_ok (ltb L (at + 4)) _ ccw _ p e in
      let u9 = unless_ok (later && not (enters back v)) _ ccw _ p u8.1 in
      let u10 = unless_ok (outside back L v n) _ ccw _ p u9.1 in
      (ltb-false L (at + 4) u8.0, u9.0, u10.0, let z = u10.1 in cc)

  -- the size of the piece that it serves
  pub word_made : (later : Bool) (at left : ℕ) (r : Result Piece Broken) → r ≡ one_word back L b ccw later at left → 0 < left
      → IfOk r (λ p. (0 < p.size) × (p.size ≤ left) × (later ≡ true → p.size ≡ min left 2048) × (at + 4 ≤ L))
  word_made later at left (Err e) h some = tt
  word_made later at left (Ok p) h some =
      let w = word_ok later at left p (sym h) in
      let s = serves_some back (word_at b at) in
      let z = ap (λ (q : Piece). q.size) w.3 in
      (omega arith, omega arith, λ l. let f = enters_serves back (word_at b at) (later_enters later (enters back (word_at b at)) w.1 l) in omega arith, w.0)

  word_sized : (later : Bool) (at left : ℕ) (p : Piece) → 0 < left → one_word back L b ccw later at left ≡ Ok p → (0 < p.size) × (p.size ≤ left)
  word_sized later at left p h e =
      let s = serves_some back (word_at b at) in
      let z = ap (λ (q : Piece). q.size) (word_ok later at left p e).3 in
      (omega arith, omega arith)

  bind_same : (x : Result Piece Broken) (f g : Piece → Result (List Piece) Broken) → ((p : Piece) → x ≡ Ok p → f p ≡ g p) → bind x f ≡ bind x g
  bind_same (Ok p) f g h = h p refl
  bind_same (Err e) f g h = refl

  words_rounds : (f g : ℕ) (later : Bool) (at left : ℕ) → left ≤ f → left ≤ g → by_words back L b ccw f later at left ≡ by_words back L b ccw g later at left
  unfolding by_words
  words_rounds f g later at zero p q = refl
  words_rounds zero g later at (suc left) p q = absurd (omega arith)
  words_rounds (suc f) zero later at (suc left) p q = absurd (omega arith)
  words_rounds (suc f) (suc g) later at (suc left) p q =
      bind_same (one_word back L b ccw later at (suc left)) _ _ (λ w e.
      let s = word_sized later at (suc left) w (omega arith) e in
      ap (λ (r : Result (List Piece) Broken). bind r (λ ps. Ok (w ∷ ps))) (words_rounds f g true (at + 4) (suc left - w.size) (omega arith) (omega arith)))

  pub words_step : (later : Bool) (at left : ℕ) → 0 < left
      → by_words back L b ccw left later at left ≡ bind (one_word back L b ccw later at left) (λ p. bind (by_words back L b ccw (left - p.size) true (at + 4) (left - p.size)) (λ ps. Ok (p ∷ ps)))
  unfolding by_words
  words_step later at zero h = absurd (omega arith)
  words_step later at (suc left) h =
      bind_same (one_word back L b ccw later at (suc left)) _ _ (λ w e.
      let s = word_sized later at (suc left) w (omega arith) e in
      ap (λ (r : Result (List Piece) Broken). bind r (λ ps. Ok (w ∷ ps))) (words_rounds left (suc left - w.size) true (at + 4) (suc left - w.size) (omega arith) (omega arith)))

  pub words_none : (f : ℕ) (later : Bool) (at : ℕ) → by_words back L b ccw f later at 0 ≡ Ok []
  unfolding by_words
  words_none f later at = refl

  -- one word more behind the pieces found
  pub word_on : (xs : List Piece) (later : Bool) (at left : ℕ) (p : Piece) → 0 < left → Ok p ≡ one_word back L b ccw later at left
      → onto xs (by_words back L b ccw left later at left) ≡ onto (xs ++ p ∷ []) (by_words back L b ccw (left - p.size) true (at + 4) (left - p.size))
  word_on xs later at left p h e =
      ap (onto xs) (words_step later at left h ∙ ap (λ (r : Result Piece Broken). bind r (λ q. bind (by_words back L b ccw (left - q.size) true (at + 4) (left - q.size)) (λ ps. Ok (q ∷ ps)))) (sym e))
      ∙ onto_more xs p (by_words back L b ccw (left - p.size) true (at + 4) (left - p.size))

  -- a word that breaks a rule
  pub word_off : (xs : List Piece) (later : Bool) (at left : ℕ) (x : Broken) → 0 < left → Err x ≡ one_word back L b ccw later at left
      → onto xs (by_words back L b ccw left later at left) ≡ Err x
  word_off xs later at left x h e =
      ap (onto xs) (words_step later at left h ∙ ap (λ (r : Result Piece Broken). bind r (λ q. bind (by_words back L b ccw (left - q.size) true (at + 4) (left - q.size)) (λ ps. Ok (q ∷ ps)))) (sym e))

-- every piece but the first enters its block, so that 33 are enough
pub cutting : (back : Bool) (at left len count n : ℕ) → n ≡ min left (serves back at) → left ≤ count
    → (0 < len → 0 < left → (serves back at ≡ 2048) × (left + 2048 * len < count + 2048)) → (back ≡ true → left ≤ at + 1)
    → 0 < left - n → (serves back (onward back at n) ≡ 2048) × (left - n + 2048 * (len + 1) < count + 2048)
cutting false at left zero count n e h inv b more = (omega arith, omega arith)
cutting false at left (suc len) count n e h inv b more = let i = inv (omega arith) (omega arith) in (omega arith, omega arith)
cutting true at left zero count n e h inv b more = let j = b refl in (omega arith, omega arith)
cutting true at left (suc len) count n e h inv b more = let i = inv (omega arith) (omega arith) in let j = b refl in (omega arith, omega arith)

pub worded : (later : Bool) (left size len count : ℕ) → (later ≡ false → len ≡ 0) → (later ≡ true → 0 < left → left + 2048 * len < count + 2048) → left ≤ count
    → 0 < size → size ≤ left → (later ≡ true → size ≡ min left 2048) → 0 < left - size → left - size + 2048 * (len + 1) < count + 2048
worded false left size len count z i h s t u more = let e = z refl in omega arith
worded true left size len count z i h s t u more = let e = i refl (omega arith) in let f = u refl in omega arith
