-- Bytes put into a buffer, one after the other.
use Rattle.std.proofs.Common.{◌≡◌, ℕ, zero, suc, ◌+◌, ◌-◌, ◌*◌, ◌<◌, ◌≤◌, List, [], ◌∷◌, ◌++◌, map, length, get_or, take, drop, replicate, Some, None, Option, sym, refl, ap, ◌∙◌, arith, length-append}
use Rattle.std.proofs.Math.ListN.{length-map}
use Rattle.std.proofs.lemmas.List.{append_assoc, take-append-drop, take_at, drop_at, drop-drop, drop-replicate, length-replicate, length-take-le, map-append}
use Rattle.format.specs.Bytes.{word_bytes}
use Rattle.format.specs.Layouts.{ccw_bytes}
use Rattle.rules.specs.declared.pieces.Piece.{Piece}
use Rattle.rules.specs.TakingUp.{Cell}
use Rattle.walk.specs.Walks.{Trail}
use Rattle.translate.specs.Frames.{cell_ccw, behind_list, cells_bytes, first_of, words_of, words_bytes, filled, closing_bytes, cells_part}
use Rattle.translate.specs.Fitting.{Below}
use Rattle.format.specs.Laying.{put_at}

pub put_none : (address : ℕ) (buffer : List ℕ) → put_at address [] buffer ≡ buffer
put_none address buffer = take-append-drop address buffer

-- bytes put behind others are put with them
pub put_more : (address next : ℕ) (a b buffer : List ℕ) → address ≤ length buffer → next ≡ address + length a → put_at next b (put_at address a buffer) ≡ put_at address (a ++ b) buffer
put_more address next a b buffer h behind =
    let front = take address buffer in
    let rest = drop (length a) (drop address buffer) in
    let size : length front ≡ address = length-take-le address buffer h in
    let done : length (front ++ a) ≡ next = length-append front a ∙ omega arith in
    let split : put_at address a buffer ≡ (front ++ a) ++ rest = sym (append_assoc front a rest) in
    let left : drop (length b) rest ≡ drop (length (a ++ b)) (drop address buffer) =
    drop-drop (length b) (length a) (drop address buffer) ∙ ap (λ n. drop n (drop address buffer)) (sym (length-append a b)) in
    ap (put_at next b) split
    ∙ ap (λ x. x ++ (b ++ drop (length b) (drop next ((front ++ a) ++ rest)))) (take_at (front ++ a) rest next done)
    ∙ ap (λ x. (front ++ a) ++ (b ++ drop (length b) x)) (drop_at (front ++ a) rest next done)
    ∙ ap (λ x. (front ++ a) ++ (b ++ x)) left
    ∙ append_assoc front a _
    ∙ ap (λ x. front ++ x) (sym (append_assoc a b _))

-- at the end of such a loop nothing is left
pub cells_end : (address list : ℕ) (cells : List Cell) (part whole : List ℕ) → cells ≡ [] → put_at address (cells_bytes cells list) part ≡ whole → part ≡ whole
unfolding cells_bytes
cells_end address list cells part whole e left = sym (put_none address part) ∙ ap (λ x. put_at address (cells_bytes x list) part) (sym e) ∙ left

pub words_end : (address : ℕ) (words : List ℕ) (part whole : List ℕ) → words ≡ [] → put_at address (words_bytes words) part ≡ whole → part ≡ whole
unfolding words_bytes
words_end address words part whole e left = sym (put_none address part) ∙ ap (λ x. put_at address (words_bytes x) part) (sym e) ∙ left

-- into zeros
pub put_zeros : (n : ℕ) (bytes : List ℕ) → put_at 0 bytes (replicate n 0) ≡ filled n bytes
put_zeros n bytes = ap (λ x. bytes ++ x) (drop-replicate (length bytes) n 0)

pub length-cells : (cells : List Cell) (list : ℕ) → length (cells_bytes cells list) ≡ 8 * length cells
unfolding cells_bytes
length-cells [] list = refl
length-cells (t ∷ ts) list = let later = length-cells ts (behind_list t list) in omega (arith, length-append (ccw_bytes (cell_ccw t list)) (cells_bytes ts (behind_list t list)))

pub length-words : (words : List ℕ) → length (words_bytes words) ≡ 4 * length words
unfolding words_bytes
length-words [] = refl
length-words (w ∷ ws) = let later = length-words ws in omega (arith, length-append (word_bytes w) (words_bytes ws))

pub words_append : (a b : List ℕ) → words_bytes (a ++ b) ≡ words_bytes a ++ words_bytes b
unfolding words_bytes
words_append [] b = refl
words_append (w ∷ a) b = ap (λ x. word_bytes w ++ x) (words_append a b) ∙ sym (append_assoc (word_bytes w) (words_bytes a) (words_bytes b))

abbrev pub no_piece : Piece
no_piece = record { first = 0; size = 0 }

-- The turn of a loop that writes: the entry at hand is written, the rest is still to come.

pub cell_turn : (i list n : ℕ) (t : Cell) (cells rest : List Cell) (part next whole : List ℕ) → 8 * i ≤ length part → next ≡ put_at (8 * i) (ccw_bytes (cell_ccw t list)) part → n ≡ length t.pieces → cells ≡ t ∷ rest
    → put_at (8 * i) (cells_bytes cells list) part ≡ whole → put_at (8 * (i + 1)) (cells_bytes rest (list + 4 * n)) next ≡ whole
unfolding cells_bytes
cell_turn i list n t cells rest part next whole h written many e left =
    ap (λ x. put_at (8 * (i + 1)) (cells_bytes rest (list + 4 * x)) next) many
    ∙ ap (put_at (8 * (i + 1)) (cells_bytes rest (behind_list t list))) written
    ∙ put_more (8 * i) (8 * (i + 1)) (ccw_bytes (cell_ccw t list)) (cells_bytes rest (behind_list t list)) part h (omega arith)
    ∙ ap (λ x. put_at (8 * i) (cells_bytes x list) part) (sym e)
    ∙ left

module _ (place : ℕ → ℕ) where
  abbrev pub host_words : List ℕ → List ℕ
  host_words words = words_bytes (map place words)

  pub word_turn : (address i w : ℕ) (words rest part next whole : List ℕ) → address + 4 * i ≤ length part → next ≡ put_at (address + 4 * i) (word_bytes (place w)) part → words ≡ w ∷ rest
      → put_at (address + 4 * i) (host_words words) part ≡ whole → put_at (address + 4 * (i + 1)) (host_words rest) next ≡ whole
  unfolding words_bytes
  word_turn address i w words rest part next whole h written e left =
      ap (put_at (address + 4 * (i + 1)) (host_words rest)) written
      ∙ put_more (address + 4 * i) (address + 4 * (i + 1)) (word_bytes (place w)) (host_words rest) part h (omega arith)
      ∙ ap (λ x. put_at (address + 4 * i) (host_words x) part) (sym e)
      ∙ left

  pub list_turn : (words n : ℕ) (t : Cell) (cells rest : List Cell) (part next whole : List ℕ) → 4 * words ≤ length part → next ≡ put_at (4 * words) (host_words (map first_of t.pieces)) part → n ≡ length t.pieces → cells ≡ t ∷ rest
      → put_at (4 * words) (host_words (words_of cells)) part ≡ whole → put_at (4 * (words + n)) (host_words (words_of rest)) next ≡ whole
  unfolding words_of
  list_turn words n t cells rest part next whole h written many e left =
      let here = map first_of t.pieces in
      let size : length (host_words here) ≡ 4 * length t.pieces = length-words (map place here) ∙ ap (λ n. 4 * n) (length-map here place ∙ length-map t.pieces first_of) in
      ap (λ x. put_at (4 * (words + x)) (host_words (words_of rest)) next) many
      ∙ ap (put_at (4 * (words + length t.pieces)) (host_words (words_of rest))) written
      ∙ put_more (4 * words) (4 * (words + length t.pieces)) (host_words here) (host_words (words_of rest)) part h (omega arith)
      ∙ ap (λ x. put_at (4 * words) x part) (sym (words_append (map place here) (map place (words_of rest))) ∙ ap words_bytes (sym (map-append place here (words_of rest))))
      ∙ ap (λ x. put_at (4 * words) (host_words (words_of x)) part) (sym e)
      ∙ left

pub words_more : (t : Cell) (rest : List Cell) → length (words_of (t ∷ rest)) ≡ length t.pieces + length (words_of rest)
unfolding words_of
words_more t rest = length-append (map first_of t.pieces) (words_of rest) ∙ ap (λ n. n + length (words_of rest)) (length-map t.pieces first_of)

pub words_none : words_of [] ≡ []
unfolding words_of
words_none = refl

below_left : (limit : ℕ) (a b : List ℕ) → Below limit (a ++ b) → Below limit a
below_left limit [] b h = tt
below_left limit (x ∷ a) b h = (h.0, below_left limit a b h.1)

below_right : (limit : ℕ) (a b : List ℕ) → Below limit (a ++ b) → Below limit b
below_right limit [] b h = h
below_right limit (x ∷ a) b h = below_right limit a b h.1

pub list_below : (limit : ℕ) (t : Cell) (rest : List Cell) → Below limit (words_of (t ∷ rest)) → Below limit (map first_of t.pieces) × Below limit (words_of rest)
unfolding words_of
list_below limit t rest h = (below_left limit (map first_of t.pieces) (words_of rest) h, below_right limit (map first_of t.pieces) (words_of rest) h)

pub below_at : (limit : ℕ) (xs : List ℕ) (i : ℕ) → i < length xs → Below limit xs → get_or xs i 0 < limit
below_at limit [] i h b = absurd (omega arith)
below_at limit (x ∷ xs) zero h b = b.0
below_at limit (x ∷ xs) (suc i) h b = below_at limit xs i (omega arith) b.1

pub length-filled : (n : ℕ) (bytes : List ℕ) → length bytes ≤ n → length (filled n bytes) ≡ n
length-filled n bytes h = length-append bytes (replicate (n - length bytes) 0) ∙ ap (λ k. length bytes + k) (length-replicate (n - length bytes) 0) ∙ omega arith

closing_short : (closes : Option ℕ) → length (closing_bytes closes) ≤ 8
closing_short None = omega arith
closing_short (Some j) = omega arith

-- 64 cells and a TIC leave the lists their place
pub length-cells_part : (w : Trail) → length w.cells ≤ 64 → length (filled 1024 (cells_part w)) ≡ 1024
length-cells_part w few =
    let cells = length-cells w.cells 1024 in
    let both = length-append (cells_bytes w.cells 1024) (closing_bytes w.closes) in
    let closing = closing_short w.closes in
    let fits : length (cells_part w) ≤ 1024 = omega arith in
    length-filled 1024 (cells_part w) fits
