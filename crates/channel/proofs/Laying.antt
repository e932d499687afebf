-- Bytes laid and gathered piece by piece.
use Rattle.std.proofs.Common.{◌≡◌, ℕ, zero, suc, ◌+◌, ◌-◌, ◌<◌, ◌≤◌, min, Bool, true, false, List, [], ◌∷◌, ◌++◌, map, length, get_or, reverse, take, drop, set, sym, refl, ap, ◌∙◌, append_assoc, arith, length-drop, length-set, take-append-drop, length-take, drop-set-lt}
use Rattle.std.proofs.Math.ListN.{length-map}
use Rattle.std.proofs.Math.Seq.{drop-nil}
use Rattle.std.proofs.lemmas.List.{take_more_set, drop-drop, drop-append-le, drop_more, drop-set, take-set-le, length_push, length-reverse, reverse-append, map-append}
use borrow.Rule.Slice.PartMut.{put_mid}
use Rattle.device.specs.Machine.{Machine, due, room}
use Rattle.rules.specs.declared.pieces.Piece.{Piece}
use Rattle.rules.specs.Areas.{onward}
use Rattle.rules.specs.Areas.{run, area}
use Rattle.channel.specs.Moves.{lay}
use Rattle.format.specs.Bytes.{reader}
use Rattle.format.specs.Laying.{put_at}
use Rattle.device.specs.Laws.{Laws}
use Rattle.device.proofs.Moving.{given_due, given_more, taken_more, taken_room}
use Rattle.rules.specs.Areas.{sizes}

lay_nowhere : (bs st : List ℕ) → lay [] bs st ≡ st
lay_nowhere [] st = refl
lay_nowhere (x ∷ bs) st = refl

abbrev laid : ℕ → List ℕ → List ℕ → List ℕ
laid at xs st = take at st ++ (xs ++ drop (at + length xs) st)

laid_none : (at : ℕ) (st : List ℕ) → laid at [] st ≡ st
laid_none at st = ap (λ j. take at st ++ drop j st) (omega arith) ∙ take-append-drop at st

pub length_part : (at n : ℕ) (st : List ℕ) → at + n ≤ length st → length (take (at + n - at) (drop at st)) ≡ n
length_part at n st h = simp (length-take, length-drop) (omega arith)

-- what a give into a part of the storage leaves
laid_part : (at n k r : ℕ) (l st buf : List ℕ) → k ≡ n → at + n ≤ length st → r ≡ min n (length l) → buf ≡ take n l ++ drop r (take k (drop at st)) → put_mid at k st buf ≡ laid at (take n l) st
laid_part at n k r l st buf e h c b =
    let D : List ℕ = drop at st in
    let lt : r ≡ length (take n l) = simp length-take (omega arith) in
    let le : r ≤ length (take k D) = simp (length-take, length-drop) (omega arith) in
    let inner : drop r (take k D) ++ drop k D ≡ drop (at + length (take n l)) st =
    sym (drop-append-le r (take k D) (drop k D) le) ∙ ap (drop r) (take-append-drop k D) ∙ drop-drop r at st ∙ ap (λ j. drop (at + j) st) lt in
    ap (λ x. put_mid at k st x) b
    ∙ ap (λ x. take at st ++ x) (append_assoc (take n l) (drop r (take k D)) (drop k D) ∙ ap (λ x. take n l ++ x) inner)

laid_set : (v x : ℕ) (xs st : List ℕ) → v < length st → laid (v + 1) xs (set st v x) ≡ laid v (x ∷ xs) st
laid_set v x xs st h =
    let e : v + 1 + length xs ≡ v + length (x ∷ xs) = omega arith in
    ap (λ y. y ++ (xs ++ drop (v + 1 + length xs) (set st v x))) (take_more_set st v x h)
    ∙ ap (λ y. (take v st ++ x ∷ []) ++ (xs ++ y)) (drop-set-lt (v + 1 + length xs) st v x (omega arith) ∙ ap (λ j. drop j st) e)
    ∙ append_assoc (take v st) (x ∷ []) _

-- the bytes of one piece laid one by one are laid at once
run_lay : (v n : ℕ) (xs st : List ℕ) → v + n ≤ length st → lay (run false v n) xs st ≡ laid v (take n xs) st
unfolding run
run_lay v zero xs st h = lay_nowhere xs st ∙ sym (laid_none v st)
run_lay v (suc n) [] st h = sym (laid_none v st)
run_lay v (suc n) (x ∷ xs) st h =
    let l : v + 1 + n ≤ length (set st v x) = simp length-set (omega arith) in
    run_lay (v + 1) n xs (set st v x) l ∙ laid_set v x (take n xs) st (omega arith)

pub piece_laid : (at n k r : ℕ) (l st buf : List ℕ) → k ≡ n → at + n ≤ length st → r ≡ min n (length l) → buf ≡ take n l ++ drop r (take k (drop at st)) → put_mid at k st buf ≡ lay (run false at n) l st
piece_laid at n k r l st buf e h c b = laid_part at n k r l st buf e h c b ∙ sym (run_lay at n l st h)

pub length_run : (k : Bool) (v n : ℕ) → length (run k v n) ≡ n
unfolding run
length_run k v zero = refl
length_run k v (suc n) = ap suc (length_run k (onward k v 1) n)

lay_append : (xs ys bs st : List ℕ) → lay (xs ++ ys) bs st ≡ lay ys (drop (length xs) bs) (lay xs bs st)
lay_append [] ys bs st = ap (lay ys bs) (sym (lay_nowhere bs st))
lay_append (a ∷ xs) ys [] st = sym (ap (λ x. lay ys x st) (drop-nil (suc (length xs))))
lay_append (a ∷ xs) ys (x ∷ bs) st = lay_append xs ys bs (set st a x)

lay_piece : (k : Bool) (p : Piece) (ps : List Piece) (bs st : List ℕ) → lay (area k (p ∷ ps)) bs st ≡ lay (area k ps) (drop p.size bs) (lay (run k p.first p.size) bs st)
unfolding area
lay_piece k p ps bs st =
    lay_append (run k p.first p.size) (area k ps) bs st
    ∙ ap (λ j. lay (area k ps) (drop j bs) (lay (run k p.first p.size) bs st)) (length_run k p.first p.size)

pub lay_nil : (k : Bool) (bs st : List ℕ) → lay (area k []) bs st ≡ st
unfolding area
lay_nil k bs st = lay_nowhere bs st

module _ {m : Machine} (laws : Laws m) (k : Bool) where
  -- one piece moved: what is left to do comes to the same
  pub bytes_on : (p : Piece) (rest : List Piece) (st t : List ℕ) (s u : m.State) → t ≡ lay (run k p.first p.size) (due (m.pending s)) st → u ≡ m.given p.size s
      → lay (area k rest) (due (m.pending u)) t ≡ lay (area k (p ∷ rest)) (due (m.pending s)) st
  bytes_on p rest st t s u e f =
      ap (λ x. lay (area k rest) (due (m.pending x)) t) f
      ∙ ap (λ x. lay (area k rest) x t) (given_due laws p.size s)
      ∙ ap (lay (area k rest) (drop p.size (due (m.pending s)))) e
      ∙ sym (lay_piece k p rest (due (m.pending s)) st)

  pub state_on : (p : Piece) (rest : List Piece) (s u : m.State) → u ≡ m.given p.size s → m.given (sizes rest) u ≡ m.given (sizes (p ∷ rest)) s
  state_on p rest s u f = ap (m.given (sizes rest)) f ∙ given_more laws p.size (sizes rest) s

  pub count_on : (p : Piece) (rest : List Piece) (s u : m.State) (r : ℕ) → u ≡ m.given p.size s → r ≡ min p.size (length (due (m.pending s)))
      → r + min (sizes rest) (length (due (m.pending u))) ≡ min (sizes (p ∷ rest)) (length (due (m.pending s)))
  count_on p rest s u r f e =
      let l : length (due (m.pending u)) ≡ length (due (m.pending s)) - p.size =
      ap (λ x. length (due (m.pending x))) f ∙ ap length (given_due laws p.size s) ∙ length-drop p.size (due (m.pending s)) in
      omega (arith, l)

-- a piece of no bytes
abbrev pub no_piece : Piece
no_piece = record { first = 0; size = 0 }

run_read : (v n : ℕ) (st : List ℕ) → v + n ≤ length st → map (reader st) (run false v n) ≡ take n (drop v st)
unfolding run
run_read v zero st h = refl
run_read v (suc n) st h =
    ap (λ x. get_or st v 0 ∷ x) (run_read (v + 1) n st (omega arith))
    ∙ ap (take (suc n)) (sym (drop_more st v 0 (omega arith)))

pub piece_read : (v n : ℕ) (st : List ℕ) → v + n ≤ length st → take (v + n - v) (drop v st) ≡ map (reader st) (run false v n)
piece_read v n st h = let e : v + n - v ≡ n = omega arith in ap (λ j. take j (drop v st)) e ∙ sym (run_read v n st h)

read_piece : (k : Bool) (p : Piece) (ps : List Piece) (b : ℕ → ℕ) → map b (area k (p ∷ ps)) ≡ map b (run k p.first p.size) ++ map b (area k ps)
unfolding area
read_piece k p ps b = map-append b (run k p.first p.size) (area k ps)

pub read_nil : (k : Bool) (b : ℕ → ℕ) → map b (area k []) ≡ []
unfolding area
read_nil k b = refl

module _ {m : Machine} (laws : Laws m) (k : Bool) (b : ℕ → ℕ) where
  pub taken_on : (p : Piece) (rest : List Piece) (s u : m.State) → u ≡ m.taken (map b (run k p.first p.size)) s
      → m.taken (map b (area k rest)) u ≡ m.taken (map b (area k (p ∷ rest))) s
  taken_on p rest s u f =
      ap (m.taken (map b (area k rest))) f ∙ taken_more laws (map b (run k p.first p.size)) (map b (area k rest)) s
      ∙ ap (λ x. m.taken x s) (sym (read_piece k p rest b))

  pub room_on : (p : Piece) (rest : List Piece) (s u : m.State) (r : ℕ) → u ≡ m.taken (map b (run k p.first p.size)) s → r ≡ min p.size (room (m.pending s))
      → r + min (sizes rest) (room (m.pending u)) ≡ min (sizes (p ∷ rest)) (room (m.pending s))
  room_on p rest s u r f e =
      let l : room (m.pending u) ≡ room (m.pending s) - p.size =
      ap (λ x. room (m.pending x)) f ∙ taken_room laws (map b (run k p.first p.size)) s
      ∙ ap (λ j. room (m.pending s) - j) (length-map (run k p.first p.size) b ∙ length_run k p.first p.size) in
      omega (arith, l)

-- one byte more behind those laid
laid_push : (at x : ℕ) (xs st : List ℕ) → at + length xs < length st → laid at xs (set st (at + length xs) x) ≡ laid at (xs ++ x ∷ []) st
laid_push at x xs st h =
    let w : ℕ = at + length xs in
    let e : w + 1 ≡ at + length (xs ++ x ∷ []) = omega (arith, length_push xs x) in
    ap (λ y. y ++ (xs ++ drop w (set st w x))) (take-set-le at st w x (omega arith))
    ∙ ap (λ y. take at st ++ (xs ++ y)) (drop-set st w x h)
    ∙ ap (λ y. take at st ++ y) (sym (append_assoc xs (x ∷ []) (drop (w + 1) st)) ∙ ap (λ j. (xs ++ x ∷ []) ++ drop j st) e)

-- bytes laid downward one by one are laid at once, turned round
down_laid : (v n : ℕ) (bs st : List ℕ) → v < length st → n ≤ v + 1 → length bs ≤ n → lay (run true v n) bs st ≡ laid (v + 1 - length bs) (reverse bs) st
unfolding run
down_laid v n [] st h fits few = sym (laid_none (v + 1 - 0) st)
down_laid v zero (x ∷ bs) st h fits few = absurd (omega arith)
down_laid v (suc n) (x ∷ []) st h fits few =
    let e : v + 1 - 1 ≡ v = omega arith in
    sym (ap (λ j. laid j (x ∷ []) st) e ∙ sym (laid_set v x [] st h) ∙ laid_none (v + 1) (set st v x))
down_laid v (suc n) (x ∷ (y ∷ bs)) st h fits few =
    let ys : List ℕ = reverse (y ∷ bs) in
    let many : length ys ≡ length (y ∷ bs) = length-reverse (y ∷ bs) in
    let a : ℕ = v + 1 - length (x ∷ (y ∷ bs)) in
    let long : v - 1 < length (set st v x) = simp length-set (omega arith) in
    let start : v - 1 + 1 - length (y ∷ bs) ≡ a = omega arith in
    let end : v ≡ a + length ys = omega arith in
    down_laid (v - 1) n (y ∷ bs) (set st v x) long (omega arith) (omega arith)
    ∙ ap (λ j. laid j ys (set st v x)) start
    ∙ ap (λ j. laid a ys (set st j x)) end
    ∙ laid_push a x ys st (omega arith)
    ∙ ap (λ z. laid a z st) (sym (reverse-append (x ∷ []) (y ∷ bs)))

pub back_laid : (v n : ℕ) (bs st : List ℕ) → v < length st → n ≤ v + 1 → length bs ≤ n → put_at (v + 1 - length bs) (reverse bs) st ≡ lay (run true v n) bs st
back_laid v n bs st h fits few =
    let a : ℕ = v + 1 - length bs in
    ap (λ y. take a st ++ (reverse bs ++ y)) (drop-drop (length (reverse bs)) a st)
    ∙ sym (down_laid v n bs st h fits few)
