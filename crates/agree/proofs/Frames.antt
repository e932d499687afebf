-- Where cells, the closing TIC and the words of a program frame stand.
use Rattle.std.proofs.Common.{◌≡◌, ℕ, zero, suc, ◌+◌, ◌-◌, ◌*◌, ◌<◌, ◌≤◌, List, [], ◌∷◌, ◌++◌, map, length, get_or, replicate, Some, None, Option, sym, refl, ap, ◌∙◌, arith, length-append}
use Rattle.std.proofs.Math.ListN.{length-map}
use Rattle.std.proofs.lemmas.List.{get_or_append_left, get_or-append-add, get_or-append_right, get_or_at, get_or-map}
use Rattle.std.proofs.lemmas.List.Concat.{flat_map-append}
use Rattle.std.specs.List.{flat_map}
use Rattle.format.specs.declared.ccw.Ccw.{Ccw}
use Rattle.format.specs.declared.ccw.Format.TheVariants.{One}
use Rattle.format.specs.Bytes.{Reader, word_at, word_bytes}
use Rattle.format.specs.Layouts.{ccw_at, ccw_bytes}
use Rattle.rules.specs.TakingUp.{Cell}
use Rattle.walk.specs.SoundTrails.{cell, pieces_in}
use Rattle.walk.specs.Walks.{Trail}
use Rattle.translate.specs.Frames.{cell_ccw, behind_list, cells_bytes, transfer_to, closing_bytes, first_of, words_of, words_bytes, filled, cells_part, frame_of}
use Rattle.translate.proofs.Accepted.{length-words_of}
use Rattle.translate.proofs.Puts.{no_piece, length-words, length-filled, length-cells_part}
use Rattle.agree.proofs.Parts.{length-joined, part_at, ccw_stands, word_stands}

no_ccw : Ccw
no_ccw = transfer_to 0

-- the CCWs of the frame, and the words before the list of a cell
unfoldable pub ccws_of : List Cell → ℕ → List Ccw
ccws_of [] list = []
ccws_of (t ∷ ts) list = cell_ccw t list ∷ ccws_of ts (behind_list t list)

unfoldable pub words_before : List Cell → ℕ → ℕ
words_before [] i = 0
words_before (t ∷ ts) zero = 0
words_before (t ∷ ts) (suc i) = length t.pieces + words_before ts i

closing : Option ℕ → List Ccw
closing None = []
closing (Some j) = transfer_to j ∷ []

length-ccws : (ts : List Cell) (list : ℕ) → length (ccws_of ts list) ≡ length ts
unfolding ccws_of
length-ccws [] list = refl
length-ccws (t ∷ ts) list = ap suc (length-ccws ts (behind_list t list))

ccw_of : (ts : List Cell) (list i : ℕ) → i < length ts → get_or (ccws_of ts list) i no_ccw ≡ cell_ccw (cell ts i) (list + 4 * words_before ts i)
unfolding ccws_of words_before
ccw_of [] list i h = let z : ⊥ = omega arith in absurd z
ccw_of (t ∷ ts) list zero h = ap (cell_ccw t) (let e : list ≡ list + 4 * 0 = omega arith in e)
ccw_of (t ∷ ts) list (suc i) h =
    ccw_of ts (behind_list t list) i (omega arith)
    ∙ ap (cell_ccw (cell ts i)) (let e : list + 4 * length t.pieces + 4 * words_before ts i ≡ list + 4 * (length t.pieces + words_before ts i) = omega arith in e)

cells_joined : (ts : List Cell) (list : ℕ) → cells_bytes ts list ≡ flat_map ccw_bytes (ccws_of ts list)
unfolding cells_bytes ccws_of
cells_joined [] list = refl
cells_joined (t ∷ ts) list = ap (λ l. ccw_bytes (cell_ccw t list) ++ l) (cells_joined ts (behind_list t list))

closing_joined : (c : Option ℕ) → closing_bytes c ≡ flat_map ccw_bytes (closing c)
unfolding closing
closing_joined None = refl
closing_joined (Some j) = refl

closing_short : (c : Option ℕ) → length (closing c) ≤ 1
unfolding closing
closing_short None = omega arith
closing_short (Some j) = omega arith

words_joined : (ws : List ℕ) → words_bytes ws ≡ flat_map word_bytes ws
unfolding words_bytes
words_joined [] = refl
words_joined (w ∷ ws) = ap (λ l. word_bytes w ++ l) (words_joined ws)

-- all CCWs, the TIC among them
all_ccws : Trail → List Ccw
all_ccws w = ccws_of w.cells 1024 ++ closing w.closes

part_joined : (w : Trail) → cells_part w ≡ flat_map ccw_bytes (all_ccws w)
unfolding all_ccws
part_joined w = (λ i. cells_joined w.cells 1024 i ++ closing_joined w.closes i) ∙ sym (flat_map-append ccw_bytes (ccws_of w.cells 1024) (closing w.closes))

length-all : (w : Trail) → length (all_ccws w) ≤ length w.cells + 1
unfolding all_ccws
length-all w = omega (arith, length-append (ccws_of w.cells 1024) (closing w.closes), length-ccws w.cells 1024, closing_short w.closes)

pub list_end : (ts : List Cell) (i : ℕ) → i < length ts → words_before ts i + length (cell ts i).pieces ≤ pieces_in ts
unfolding words_before pieces_in
list_end [] i h = let z : ⊥ = omega arith in absurd z
list_end (t ∷ ts) zero h = omega arith
list_end (t ∷ ts) (suc i) h = let ih = list_end ts i (omega arith) in omega arith

word_of : (ts : List Cell) (i k : ℕ) → i < length ts → k < length (cell ts i).pieces → get_or (words_of ts) (words_before ts i + k) 0 ≡ (get_or (cell ts i).pieces k no_piece).first
unfolding words_of words_before
word_of [] i k h l = let z : ⊥ = omega arith in absurd z
word_of (t ∷ ts) zero k h l =
    let n = length-map t.pieces first_of in
    let e : 0 + k ≡ k = omega arith in
    ap (λ j. get_or (map first_of t.pieces ++ words_of ts) j 0) e
    ∙ get_or_append_left (map first_of t.pieces) (words_of ts) 0 k (omega arith)
    ∙ get_or-map first_of t.pieces k no_piece 0 l
word_of (t ∷ ts) (suc i) k h l =
    let n = length-map t.pieces first_of in
    let e : length t.pieces + words_before ts i + k ≡ length (map first_of t.pieces) + (words_before ts i + k) = omega arith in
    ap (λ j. get_or (map first_of t.pieces ++ words_of ts) j 0) e
    ∙ get_or-append-add (map first_of t.pieces) (words_of ts) (words_before ts i + k) 0
    ∙ word_of ts i k (omega arith) l

eight : (w : Ccw) → length (ccw_bytes w) ≡ 8
eight w = refl

four : (v : ℕ) → length (word_bytes v) ≡ 4
four v = refl

module _ (place : ℕ → ℕ) (w : Trail) (few : length w.cells ≤ 64) (short : pieces_in w.cells ≤ 768) where
  cells_length : length (cells_part w) ≡ 8 * length (all_ccws w)
  cells_length = ap length (part_joined w) ∙ length-joined 8 ccw_bytes eight (all_ccws w)

  abbrev all_words : List ℕ
  all_words = map place (words_of w.cells)

  words_length : (length (words_bytes all_words) ≡ 4 * length all_words) × (length all_words ≡ pieces_in w.cells)
  words_length = (length-words all_words, length-map (words_of w.cells) place ∙ length-words_of w.cells)

  pub frame_length : length (frame_of place w) ≡ 4096
  frame_length =
      length-append (filled 1024 (cells_part w)) (filled 3072 (words_bytes all_words))
      ∙ omega (arith, length-cells_part w few, length-filled 3072 (words_bytes all_words) (omega (arith, words_length)))

  -- a byte of a CCW, and of a word
  ccw_byte : (i k : ℕ) → i < length (all_ccws w) → k < 8 → get_or (frame_of place w) (8 * i + k) 0 ≡ get_or (ccw_bytes (get_or (all_ccws w) i no_ccw)) k 0
  ccw_byte i k h l =
      let n = cells_length in
      let m = length-all w in
      get_or_append_left (filled 1024 (cells_part w)) (filled 3072 (words_bytes all_words)) 0 (8 * i + k) (omega (arith, length-cells_part w few))
      ∙ get_or_append_left (cells_part w) (replicate (1024 - length (cells_part w)) 0) 0 (8 * i + k) (omega arith)
      ∙ ap (λ z. get_or z (8 * i + k) 0) (part_joined w)
      ∙ part_at 8 ccw_bytes eight (all_ccws w) i k no_ccw h l

  word_byte : (q k a : ℕ) → q < length all_words → k < 4 → a ≡ 1024 + 4 * q + k → get_or (frame_of place w) a 0 ≡ get_or (word_bytes (get_or all_words q 0)) k 0
  word_byte q k a h l e =
      let n = words_length in
      let s : a - 1024 ≡ 4 * q + k = omega arith in
      get_or-append_right (filled 1024 (cells_part w)) (filled 3072 (words_bytes all_words)) 1024 a 0 (length-cells_part w few) (omega arith)
      ∙ ap (λ z. get_or (filled 3072 (words_bytes all_words)) z 0) s
      ∙ get_or_append_left (words_bytes all_words) (replicate (3072 - length (words_bytes all_words)) 0) 0 (4 * q + k) (omega (arith, n.0))
      ∙ ap (λ z. get_or z (4 * q + k) 0) (words_joined all_words)
      ∙ part_at 4 word_bytes four all_words q k 0 h l

  module _ (b : Reader) (same : (a : ℕ) → a < 4096 → b a ≡ get_or (frame_of place w) a 0) where
    ccw_read : (i : ℕ) (c : Ccw) → i < length (all_ccws w) → get_or (all_ccws w) i no_ccw ≡ c → c.code < 256 → c.count < 65536 → ccw_at One b (8 * i) ≡ c
    ccw_read i c h e byte half =
        let m = length-all w in
        ccw_stands b (8 * i) c (λ k l. same (8 * i + k) (omega arith) ∙ ccw_byte i k h l ∙ ap (λ z. get_or (ccw_bytes z) k 0) e) byte half

    pub cell_read : (i : ℕ) → i < length w.cells → (cell w.cells i).code < 256 → (cell w.cells i).ccw.value.count < 65536 → ccw_at One b (8 * i) ≡ cell_ccw (cell w.cells i) (1024 + 4 * words_before w.cells i)
    unfolding all_ccws
    cell_read i h byte half =
        let l = length-ccws w.cells 1024 in
        let e : get_or (all_ccws w) i no_ccw ≡ cell_ccw (cell w.cells i) (1024 + 4 * words_before w.cells i) =
        get_or_append_left (ccws_of w.cells 1024) (closing w.closes) no_ccw i (omega arith) ∙ ccw_of w.cells 1024 i h in
        ccw_read i _ (omega (arith, length-append (ccws_of w.cells 1024) (closing w.closes))) e byte half

    pub transfer_read : (j : ℕ) → w.closes ≡ Some j → ccw_at One b (8 * length w.cells) ≡ transfer_to j
    unfolding all_ccws closing
    transfer_read j c =
        let l = length-ccws w.cells 1024 in
        let s : all_ccws w ≡ ccws_of w.cells 1024 ++ transfer_to j ∷ [] = ap (λ z. ccws_of w.cells 1024 ++ closing z) c in
        let e : get_or (all_ccws w) (length w.cells) no_ccw ≡ transfer_to j = ap (λ z. get_or z (length w.cells) no_ccw) s ∙ get_or_at (ccws_of w.cells 1024) (transfer_to j) [] no_ccw (length w.cells) l in
        let n : length (all_ccws w) ≡ length w.cells + 1 = ap length s ∙ length-append (ccws_of w.cells 1024) (transfer_to j ∷ []) ∙ omega arith in
        ccw_read (length w.cells) (transfer_to j) (omega arith) e (omega arith) (omega arith)

    pub word_read : (i k : ℕ) → i < length w.cells → k < length (cell w.cells i).pieces → word_at b (1024 + 4 * words_before w.cells i + 4 * k) ≡ place (get_or (cell w.cells i).pieces k no_piece).first
    word_read i k h l =
        let q : ℕ = words_before w.cells i + k in
        let le = list_end w.cells i h in
        let n = words_length in
        let inside : q < length all_words = omega (arith, n.1) in
        let v : get_or all_words q 0 ≡ place (get_or (cell w.cells i).pieces k no_piece).first =
        get_or-map place (words_of w.cells) q 0 0 (omega (arith, length-words_of w.cells)) ∙ ap place (word_of w.cells i k h l) in
        word_stands b (1024 + 4 * words_before w.cells i + 4 * k) _ (λ j u. same _ (omega arith) ∙ word_byte q j _ inside u (omega arith) ∙ ap (λ z. get_or (word_bytes z) j 0) v)
