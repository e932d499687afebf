-- Bytes that are cut into blocks of given lengths.
use Rattle.std.proofs.Common.{◌≡◌, ℕ, zero, suc, ◌+◌, ◌-◌, ◌<◌, ◌≤◌, min, List, [], ◌∷◌, ◌++◌, length, get_or, take, drop, sum, sym, refl, ap, ◌∙◌, arith, length-take, length-drop}
use Rattle.std.proofs.lemmas.Grind.{common_steps}
use Rattle.std.proofs.lemmas.List.{drop-take}
use Rattle.std.proofs.lemmas.List.Sums.{sum_by-cons, sum_by_more, sum_by_push, sum_by-take-le}
use Rattle.tape.specs.Cutting.{cut}
use Rattle.tape.specs.TapeMachine.{bytes_in, room_after}
use Rattle.tape.specs.ReelState.{ReelState, ReelFits, stored}

sum_cons : (n : ℕ) (ns : List ℕ) → sum (n ∷ ns) ≡ n + sum ns
sum_cons n ns = sum_by-cons (λ x. x) n ns

-- how many blocks there are, those in front, and the one at an index

pub cut_count : (sizes all : List ℕ) → length (cut sizes all) ≡ length sizes
cut_count [] all = refl
cut_count (n ∷ ns) all = ap suc (cut_count ns (drop n all))

cut_take : (k : ℕ) (sizes all : List ℕ) → take k (cut sizes all) ≡ cut (take k sizes) all
cut_take zero sizes all = refl
cut_take (suc k) [] all = refl
cut_take (suc k) (n ∷ ns) all = ap (λ x. take n all ∷ x) (cut_take k ns (drop n all))

pub cut_at : (sizes all : List ℕ) (k : ℕ) → k < length sizes → get_or (cut sizes all) k [] ≡ take (get_or sizes k 0) (drop (sum (take k sizes)) all)
cut_at [] all k h = absurd (omega arith)
cut_at (n ∷ ns) all zero h = refl
cut_at (n ∷ ns) all (suc k) h =
    let later = cut_at ns (drop n all) k (omega arith) in
    let whole = sum_cons n (take k ns) in
    grind (arith, common_steps)

-- the blocks lie in the bytes in front that they are long in all

cut_front : (sizes all : List ℕ) (m : ℕ) → sum sizes ≤ m → cut sizes (take m all) ≡ cut sizes all
cut_front [] all m h = refl
cut_front (n ∷ ns) all m h =
    let whole = sum_cons n ns in
    let rest : n + (m - n) ≡ m = omega arith in
    let later = cut_front ns (drop n all) (m - n) (omega arith) in
    let part = drop-take n (m - n) all in
    grind (arith, common_steps)

cut_longer : (sizes all more : List ℕ) → sum sizes ≤ length all → cut sizes (all ++ more) ≡ cut sizes all
cut_longer sizes all more h =
    let front = cut_front sizes (all ++ more) (length all) h in
    grind (arith, common_steps)

cut_push : (sizes all : List ℕ) (m : ℕ) → cut (sizes ++ m ∷ []) all ≡ cut sizes all ++ take m (drop (sum sizes) all) ∷ []
cut_push [] all m = refl
cut_push (n ∷ ns) all m =
    let later = cut_push ns (drop n all) m in
    let whole = sum_cons n ns in
    grind (arith, common_steps)

pub cut_bytes : (sizes all : List ℕ) → sum sizes ≤ length all → bytes_in (cut sizes all) ≡ sum sizes
cut_bytes [] all h = refl
cut_bytes (n ∷ ns) all h = grind (arith, common_steps, cut_bytes ns (drop n all), sum_by-cons)

-- the bytes of the blocks before an index
pub bytes_before : (k : ℕ) (sizes all : List ℕ) → sum sizes ≤ length all → bytes_in (take k (cut sizes all)) ≡ sum (take k sizes)
bytes_before k sizes all h =
    ap bytes_in (cut_take k sizes all) ∙ cut_bytes (take k sizes) all (omega (arith, sum_by-take-le (λ x. x) sizes k))

-- how many more bytes the block being written may have
pub room_is : (sizes all : List ℕ) → sum sizes ≤ length all → room_after (stored sizes all).blocks - length (stored sizes all).written ≡ min 4096 (8192 - sum sizes) - (length all - sum sizes)
room_is sizes all h = omega (arith, cut_bytes sizes all h, length-drop (sum sizes) all)

pub written_size : (sizes all : List ℕ) (reel : ReelState) → stored sizes all ≡ reel → length reel.written ≡ length all - sum sizes
written_size sizes all reel view = omega (arith, ap (λ r. length r.written) view, length-drop (sum sizes) all)

-- what a change of the lengths and the bytes makes of the blocks and of what is written

pub truncated : (k : ℕ) (sizes all : List ℕ) → stored (take k sizes) (take (sum (take k sizes)) all) ≡ record { blocks = take k (stored sizes all).blocks; written = [] }
truncated k sizes all =
    let front = cut_front (take k sizes) all (sum (take k sizes)) (omega arith) in
    let kept = cut_take k sizes all in
    grind (arith, common_steps)

extended : (sizes all more : List ℕ) → sum sizes ≤ length all → stored sizes (all ++ more) ≡ record { blocks = (stored sizes all).blocks; written = (stored sizes all).written ++ more }
extended sizes all more h = let same = cut_longer sizes all more h in grind (arith, common_steps)

pub closed : (sizes all : List ℕ) → sum sizes ≤ length all → stored (sizes ++ (length all - sum sizes) ∷ []) all ≡ record { blocks = (stored sizes all).blocks ++ (stored sizes all).written ∷ []; written = [] }
closed sizes all h =
    let pushed = cut_push sizes all (length all - sum sizes) in
    let whole = sum_by_push (λ x. x) sizes (length all - sum sizes) in
    grind (arith, common_steps)

-- the first k of a list, taken twice
accepted : (m n k : ℕ) (l : List ℕ) → n ≡ min (length l) k → k ≤ m → take m (take n l) ≡ take k l
accepted m n k l count fits = grind (arith, common_steps)

-- n bytes behind those that are there, as many as there is room for
pub appended : (sizes all bytes after : List ℕ) (n : ℕ) (reel : ReelState) → stored sizes all ≡ reel → ReelFits sizes all → n ≡ min (length bytes) (room_after reel.blocks - length reel.written) → after ≡ all ++ take (8192 - length all) (take n bytes) → stored sizes after ≡ record { blocks = reel.blocks; written = reel.written ++ take (room_after reel.blocks - length reel.written) bytes }
appended sizes all bytes after n reel view fits count is =
    let k = room_after reel.blocks - length reel.written in
    let there = fits.there in
    let room = room_is sizes all there in
    let same = ap (λ r. room_after r.blocks - length r.written) view in
    let within : k ≤ 8192 - length all = omega arith in
    let part = accepted (8192 - length all) n k bytes count within in
    let longer = extended sizes all (take k bytes) there in
    cc

-- what lengths and bytes keep, kept by the changes

pub fits_truncated : (k : ℕ) (sizes all : List ℕ) → ReelFits sizes all → ReelFits (take k sizes) (take (sum (take k sizes)) all)
fits_truncated k sizes all fits =
    let part = sum_by-take-le (λ x. x) sizes k in
    record {
      few = grind (arith, common_steps, fits.few);
      filled = λ i h. let here = fits.filled i in grind (arith, common_steps);
      there = grind (arith, common_steps, fits.there);
      small = grind (arith, common_steps, fits.small);
    }

pub fits_closed : (sizes all : List ℕ) → ReelFits sizes all → length sizes < 64 → 0 < length all - sum sizes → ReelFits (sizes ++ (length all - sum sizes) ∷ []) all
fits_closed sizes all fits few some =
    let there = fits.there in
    let whole = sum_by_push (λ x. x) sizes (length all - sum sizes) in
    record {
      few = grind (arith, common_steps);
      filled = λ i h. let here = fits.filled i in grind (arith, common_steps);
      there = omega arith;
      small = fits.small;
    }

-- the block at an index begins where the blocks before it end, and ends within the bytes

pub begins_at : (k : ℕ) (sizes all : List ℕ) (reel : ReelState) → stored sizes all ≡ reel → sum sizes ≤ length all → bytes_in (take k reel.blocks) ≡ sum (take k sizes)
begins_at k sizes all reel view there =
    ap (λ r. bytes_in (take k r.blocks)) (sym view) ∙ bytes_before k sizes all there

-- what is left of the bytes from a block's own on is one block more than what is left behind it
block_size : (k : ℕ) (sizes all : List ℕ) → ReelFits sizes all → k < length sizes → (sum (take (k + 1) sizes) ≡ sum (take k sizes) + get_or sizes k 0) × (0 < get_or sizes k 0) × (sum (take (k + 1) sizes) ≤ length all)
block_size k sizes all fits inside =
    let there = fits.there in
    let more = sum_by_more (λ x. x) sizes k 0 inside in
    let part = sum_by-take-le (λ x. x) sizes (k + 1) in (
      omega arith,
      fits.filled k inside,
      omega arith,
    )

pub begins_within : (sizes all : List ℕ) (k start stop : ℕ) (reel : ReelState) → stored sizes all ≡ reel → ReelFits sizes all → k < length reel.blocks → start ≡ bytes_in (take k reel.blocks) → stop ≡ bytes_in (take (k + 1) reel.blocks) → start ≤ stop
begins_within sizes all k start stop reel view fits inside before behind =
    let begins = begins_at k sizes all reel view fits.there in
    let stops = begins_at (k + 1) sizes all reel view fits.there in
    let count = cut_count sizes all in
    let blocks = ap (λ r. length r.blocks) view in
    let size = block_size k sizes all fits (omega arith) in
    omega (arith, size.0, size.1)

pub ends_within : (sizes all bytes : List ℕ) (k stop : ℕ) (reel : ReelState) → stored sizes all ≡ reel → ReelFits sizes all → bytes ≡ all → k < length reel.blocks → stop ≡ bytes_in (take (k + 1) reel.blocks) → stop ≤ length bytes
ends_within sizes all bytes k stop reel view fits whole inside behind =
    let stops = begins_at (k + 1) sizes all reel view fits.there in
    let count = cut_count sizes all in
    let blocks = ap (λ r. length r.blocks) view in
    let size = block_size k sizes all fits (omega arith) in
    omega (arith, ap length whole, size.2)

-- the block at an index, of bytes that are all of them
pub found : (sizes all bytes : List ℕ) (k start stop : ℕ) (reel : ReelState) → stored sizes all ≡ reel → ReelFits sizes all → bytes ≡ all → k < length reel.blocks → start ≡ bytes_in (take k reel.blocks) → stop ≡ bytes_in (take (k + 1) reel.blocks) → (k < length reel.blocks) × (take (stop - start) (drop start bytes) ≡ get_or reel.blocks k []) × (0 < length (take (stop - start) (drop start bytes))) × (length (take (stop - start) (drop start bytes)) ≤ 8192)
found sizes all bytes k start stop reel view fits whole listed before behind =
    let small = fits.small in
    let count = cut_count sizes all in
    let blocks = ap (λ r. length r.blocks) view in
    let inside : k < length sizes = omega arith in
    let begins : start ≡ sum (take k sizes) = before ∙ begins_at k sizes all reel view fits.there in
    let stops : stop ≡ sum (take (k + 1) sizes) = behind ∙ begins_at (k + 1) sizes all reel view fits.there in
    let size = block_size k sizes all fits inside in
    let past : stop - start ≡ get_or sizes k 0 = omega (arith, size.0) in
    let here = cut_at sizes all k inside in
    let long : length (take (stop - start) (drop start bytes)) ≡ get_or sizes k 0 =
    omega (arith, size.0, size.2, ap length whole, length-take (stop - start) (drop start bytes), length-drop start bytes) in (
      listed,
      cc,
      omega (arith, size.1),
      omega (arith, size.0, size.2),
    )

pub ruleset cuts = (cut_count, cut_at, cut_bytes, bytes_before, truncated, appended, closed, fits_truncated, fits_closed, room_is, begins_within, ends_within)
