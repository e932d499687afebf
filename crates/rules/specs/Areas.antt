-- The area of a CCW. A reader must believe: it is a list of byte addresses in the order of the transfer,
-- upward or (for read backward) downward, direct or by a list of indirect words, and it is cut into
-- pieces, each inside one block.
use Rattle.std.specs.Prelude.{◌≡◌, ℕ, zero, suc, ◌+◌, ◌-◌, ◌%◌, ◌<◌, min, max, Bool, true, false, cond, not, ◌&&◌, ◌||◌, List, [], ◌∷◌, ◌++◌, Ok, Result, ◌==◌, nat_lt}
use Rattle.format.specs.declared.refusal.Refusal.TheVariants.{WordOutside, WordOffBoundary, AreaOutside}
use Rattle.format.specs.Bytes.{Reader, word_at}
use Rattle.rules.specs.declared.place.Broken.{Broken}
use Rattle.rules.specs.declared.pieces.Piece.{Piece}
use Rattle.rules.specs.Rules.{unless, bind}
use Rattle.short_list.specs.declared.list.ShortList.{ShortList}
use Rattle.short_list.specs.Lists.{items}

-- the bytes of a block, and of an indirect word
abbrev pub block : ℕ
block = 2048

abbrev pub word_size : ℕ
word_size = 4

abbrev pub listed : {N : ℕ} → ShortList Piece N → List Piece
listed pieces = items pieces

-- In what follows `back` says whether the area goes downward.

-- how many bytes the block holds from v on
abbrev pub serves : Bool → ℕ → ℕ
serves false v = block - v % block
serves true v = v % block + 1

-- whether v is the byte at which its block is entered
abbrev pub enters : Bool → ℕ → Bool
enters false v = v % block == 0
enters true v = v % block == block - 1

abbrev pub onward : Bool → ℕ → ℕ → ℕ
onward false v n = v + n
onward true v n = v - n

-- whether some of the n bytes from v on lie outside a storage of L bytes
abbrev pub outside : Bool → ℕ → ℕ → ℕ → Bool
outside false L v n = nat_lt L (v + n)
outside true L v n = not (nat_lt v L) || nat_lt (v + 1) n

-- the first of them that does; below 0 it is given as FFFFFFFF
abbrev pub first_outside : Bool → ℕ → ℕ → ℕ
first_outside false L v = max v L
first_outside true L v = cond (nat_lt v L) 0xFFFF_FFFF v

-- a direct area, cut where blocks end; as many rounds as `rounds` allows, which is never fewer than are needed
unfoldable pub cut : Bool → ℕ → ℕ → ℕ → List Piece
cut back rounds v zero = []
cut back zero v (suc left) = []
cut back (suc rounds) v (suc left) =
    let n = min (suc left) (serves back v) in
    record { first = v; size = n } ∷ cut back rounds (onward back v n) (suc left - n)

-- rules 9 and 10: the piece that a word of value v serves, read at `at`, with `left` bytes still to come;
-- `later` says that it is not the first word
abbrev pub word_serves : Bool → ℕ → ℕ → Bool → ℕ → ℕ → ℕ → Result Piece Broken
word_serves back L ccw later at v left =
    let n = min left (serves back v) in
    let r10 = unless (outside back L v n) (AreaOutside (first_outside back L v)) ccw (Ok (record { first = v; size = n })) in
    unless (later && not (enters back v)) (WordOffBoundary at) ccw r10

-- rules 8 to 10 for the word at `at`
abbrev pub one_word : Bool → ℕ → Reader → ℕ → Bool → ℕ → ℕ → Result Piece Broken
one_word back L b ccw later at left = unless (nat_lt L (at + word_size)) (WordOutside at) ccw (word_serves back L ccw later at (word_at b at) left)

-- the pieces of a list of words
unfoldable pub by_words : Bool → ℕ → Reader → ℕ → ℕ → Bool → ℕ → ℕ → Result (List Piece) Broken
by_words back L b ccw rounds later at zero = Ok []
by_words back L b ccw zero later at (suc left) = Ok []
by_words back L b ccw (suc rounds) later at (suc left) =
    bind (one_word back L b ccw later at (suc left)) (λ p.
    bind (by_words back L b ccw rounds true (at + word_size) (suc left - p.size)) (λ ps. Ok (p ∷ ps)))

-- the n addresses from v on
unfoldable pub run : Bool → ℕ → ℕ → List ℕ
run back v zero = []
run back v (suc n) = v ∷ run back (onward back v 1) n

-- all addresses of an area
unfoldable pub area : Bool → List Piece → List ℕ
area back [] = []
area back (p ∷ ps) = run back p.first p.size ++ area back ps

abbrev pub sizes : List Piece → ℕ
sizes [] = 0
sizes (p ∷ ps) = p.size + sizes ps

-- what the pieces of every accepted area are like: each lies inside storage and one block, each but the
-- first enters its block, and their sizes come to the count
unfoldable pub Shaped : Bool → ℕ → Bool → ℕ → List Piece → Type 0
Shaped back L later left [] = left ≡ 0
Shaped back L later left (p ∷ ps) =
    (0 < left) × (p.size ≡ min left (serves back p.first)) × (later ≡ true → enters back p.first ≡ true)
    × (outside back L p.first p.size ≡ false) × Shaped back L true (left - p.size) ps
