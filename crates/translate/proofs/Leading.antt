-- The words of a frame lead home.
use Rattle.std.proofs.Common.{◌≡◌, ℕ, zero, suc, ◌+◌, ◌-◌, ◌*◌, ◌<◌, ◌≤◌, Bool, List, [], ◌∷◌, ◌++◌, map, length, get_or, replicate, IfOk, None, Ok, sym, refl, ap, ◌∙◌, append_assoc, arith, length-append}
use Rattle.std.proofs.Math.ListN.{length-map}
use Rattle.std.proofs.lemmas.List.{get_or-append_right, get_or-map}
use Rattle.format.specs.Bytes.{reader, word_at, word_bytes}
use Rattle.walk.specs.OwnBytes.{extents_of, first_overwriting}
use Rattle.walk.specs.Walks.{Trail}
use Rattle.map.specs.Law.{Lawful}
use Rattle.map.specs.Places.{end_of, place_of, LiesAt}
use Rattle.map.specs.Views.{guest_bytes}
use Rattle.map.proofs.Placed.{never_shared}
use Rattle.translate.specs.Frames.{cells_part, filled, words_of, words_bytes, frame_of}
use Rattle.translate.specs.Theorems.{LeadsHome, word_of, word_read}
use Rattle.translate.specs.Translations.{walked, accepted}
use Rattle.translate.proofs.Accepted.{Fitting, fitting}
use Rattle.translate.proofs.Puts.{length-words, length-filled, length-cells_part, below_at}

-- a word read behind other bytes
word_behind : (front back : List ℕ) (size at n : ℕ) → length front ≡ size → at ≡ size + n → word_at (reader (front ++ back)) at ≡ word_at (reader back) n
word_behind front back size at n e h =
    let same = ap (λ m. word_at (reader (front ++ back)) m) h in
    let byte : (j : ℕ) → get_or (front ++ back) (size + n + j) 0 ≡ get_or back (n + j) 0 = λ j.
    let i : size + n + j - size ≡ n + j = omega arith in
    get_or-append_right front back size (size + n + j) 0 e (omega arith) ∙ ap (λ k. get_or back k 0) i in
    let first : get_or (front ++ back) (size + n) 0 ≡ get_or back n 0 =
    let i : size + n - size ≡ n = omega arith in
    get_or-append_right front back size (size + n) 0 e (omega arith) ∙ ap (λ k. get_or back k 0) i in
    same
    ∙ ap (λ x. x * 16777216 + get_or (front ++ back) (size + n + 1) 0 * 65536 + get_or (front ++ back) (size + n + 2) 0 * 256 + get_or (front ++ back) (size + n + 3) 0) first
    ∙ ap (λ x. get_or back n 0 * 16777216 + x * 65536 + get_or (front ++ back) (size + n + 2) 0 * 256 + get_or (front ++ back) (size + n + 3) 0) (byte 1)
    ∙ ap (λ x. get_or back n 0 * 16777216 + get_or back (n + 1) 0 * 65536 + x * 256 + get_or (front ++ back) (size + n + 3) 0) (byte 2)
    ∙ ap (λ x. get_or back n 0 * 16777216 + get_or back (n + 1) 0 * 65536 + get_or back (n + 2) 0 * 256 + x) (byte 3)

word_back : (w : ℕ) (rest : List ℕ) → word_at (reader (word_bytes w ++ rest)) 0 ≡ w
word_back w rest = omega arith

-- word k of the lists
words_read : (ws rest : List ℕ) (k : ℕ) → k < length ws → word_at (reader (words_bytes ws ++ rest)) (4 * k) ≡ get_or ws k 0
unfolding words_bytes
words_read [] rest k h = absurd (omega arith)
words_read (w ∷ ws) rest zero h = ap (λ x. word_at (reader x) 0) (append_assoc (word_bytes w) (words_bytes ws) rest) ∙ word_back w (words_bytes ws ++ rest)
words_read (w ∷ ws) rest (suc k) h =
    ap (λ x. word_at (reader x) (4 * suc k)) (append_assoc (word_bytes w) (words_bytes ws) rest)
    ∙ word_behind (word_bytes w) (words_bytes ws ++ rest) 4 (4 * suc k) (4 * k) refl (omega arith)
    ∙ words_read ws rest k (omega arith)

module _ (fs : List ℕ) (free : ℕ → Bool) (law : Lawful fs free) where
  leads_home : (w : Trail) → Fitting (end_of fs) w → LeadsHome fs (frame_of (place_of fs) w) w
  leads_home w f =
      let words = words_of w.cells in
      let hosts = map (place_of fs) words in
      let many : length hosts ≡ length words = length-map words (place_of fs) in
      let front = filled 1024 (cells_part w) in
      let size : length front ≡ 1024 = length-cells_part w f.few in
      let few = f.frame.words in
      let room : length (words_bytes hosts) ≤ 3072 = omega (arith, length-words hosts) in
      let rest = length-filled 3072 (words_bytes hosts) room in
      let zeros : List ℕ = replicate (3072 - length (words_bytes hosts)) 0 in
      let lies : (k : ℕ) → k < length words → LiesAt fs (word_of w k) (word_read (frame_of (place_of fs) w) k) = λ k h.
      let there : k < length hosts = omega arith in (
        below_at (end_of fs) words k h f.frame.inside,
        sym (get_or-map (place_of fs) words k 0 0 h)
            ∙ sym (words_read hosts zeros k there)
            ∙ sym (word_behind front (filled 3072 (words_bytes hosts)) 1024 (1024 + 4 * k) (4 * k) size refl),
      ) in
      record {
        whole = length-append front (filled 3072 (words_bytes hosts)) ∙ omega arith;
        cells = f.few;
        words = few;
        place = lies;
        home = λ k h. never_shared fs free law (word_of w k) (word_read (frame_of (place_of fs) w) k) (lies k h);
      }

  -- the frame of a program that is accepted
  pub frame_leads_home : (host : List ℕ) (start : ℕ) (w : Trail) (frame : List ℕ) → walked (guest_bytes fs host) start ≡ Ok w → first_overwriting (extents_of w.cells) w.cells ≡ None → frame ≡ frame_of (place_of fs) w
      → IfOk (accepted (guest_bytes fs host) start) (LeadsHome fs frame)
  frame_leads_home host start w frame e n f = rw (e, n, f) (leads_home w (fitting fs host start w e))
