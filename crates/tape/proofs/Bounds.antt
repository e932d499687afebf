-- How long blocks with given bounds are, where none of them is empty.
use Rattle.std.proofs.Common.{◌≡◌, ℕ, zero, suc, ◌+◌, ◌-◌, ◌<◌, List, [], ◌∷◌, ◌++◌, length, get_or, slice_index, take, sum, refl, ap, arith}
use Rattle.std.proofs.lemmas.Grind.{common_steps}
use Rattle.std.proofs.lemmas.List.Sums.{sum_by-cons}
use Rattle.tape.specs.Cutting.{LengthsFit}
use Rattle.tape.specs.ReelState.{BoundsFit, lengths_from, lengths_of}

sum_cons : (n : ℕ) (ns : List ℕ) → sum (n ∷ ns) ≡ n + sum ns
sum_cons n ns = sum_by-cons (λ x. x) n ns

-- each length is above 0
Filled : List ℕ → Type 0
Filled sizes = (k : ℕ) → k < length sizes → 0 < get_or sizes k 0

-- there are as many lengths as ends, and those of the ends in front are in front

from_count : (start : ℕ) (ends : List ℕ) → length (lengths_from start ends) ≡ length ends
from_count start [] = refl
from_count start (e ∷ ends) = ap suc (from_count e ends)

from_take : (k start : ℕ) (ends : List ℕ) → lengths_from start (take k ends) ≡ take k (lengths_from start ends)
from_take zero start ends = refl
from_take (suc k) start [] = refl
from_take (suc k) start (e ∷ ends) = ap (λ ns. (e - start) ∷ ns) (from_take k e ends)

-- a block ends where the lengths up to its own add up to

from_at : (k start : ℕ) (ends : List ℕ) → Filled (lengths_from start ends) → k < length ends → start + sum (take (suc k) (lengths_from start ends)) ≡ get_or ends k 0
unfolding Filled
from_at k start [] filled h = absurd (omega arith)
from_at zero start (e ∷ ends) filled h =
    let first = filled 0 (omega arith) in
    let whole = sum_cons (e - start) [] in
    omega arith
from_at (suc k) start (e ∷ ends) filled h =
    let first = filled 0 (omega arith) in
    let later = from_at k e ends (λ i g. filled (suc i) (omega arith)) (omega arith) in
    let whole = sum_cons (e - start) (take (suc k) (lengths_from e ends)) in
    omega arith

from_push : (start : ℕ) (ends : List ℕ) (n : ℕ) → Filled (lengths_from start ends) → lengths_from start (ends ++ n ∷ []) ≡ lengths_from start ends ++ (n - (start + sum (lengths_from start ends))) ∷ []
unfolding Filled
from_push start [] n filled =
    let none : start ≡ start + sum [] = omega arith in
    ap (λ m. (n - m) ∷ []) none
from_push start (e ∷ ends) n filled =
    let first = filled 0 (omega arith) in
    let later = from_push e ends n (λ i g. filled (suc i) (omega arith)) in
    let whole = sum_cons (e - start) (lengths_from e ends) in
    let same : e + sum (lengths_from e ends) ≡ start + sum ((e - start) ∷ lengths_from e ends) = omega arith in
    cc

-- the same of bounds, the first of which is where the first block begins

pub count_of : (bounds : List ℕ) → 0 < length bounds → length bounds ≡ length (lengths_of bounds) + 1
count_of [] begun = absurd (omega arith)
count_of (start ∷ ends) begun = omega (arith, from_count start ends)

pub take_of : (k : ℕ) (bounds : List ℕ) → lengths_of (take (k + 1) bounds) ≡ take k (lengths_of bounds)
take_of k [] = grind (arith, common_steps)
take_of k (start ∷ ends) = let front = from_take k start ends in grind (arith, common_steps)

pub bound_at : (k : ℕ) (bounds all : List ℕ) → BoundsFit bounds all → k < length bounds → get_or bounds k 0 ≡ sum (take k (lengths_of bounds))
unfolding Filled
bound_at k [] all fits h = absurd (omega arith)
bound_at zero (start ∷ ends) all fits h = fits.from_zero
bound_at (suc k) (start ∷ ends) all fits h =
    let first = fits.from_zero in
    let here = from_at k start ends fits.fit.filled (omega arith) in
    grind (arith, common_steps)

pub bound_push : (bounds all : List ℕ) → BoundsFit bounds all → lengths_of (bounds ++ length all ∷ []) ≡ lengths_of bounds ++ (length all - sum (lengths_of bounds)) ∷ []
unfolding Filled
bound_push [] all fits = let begun = fits.begun in absurd (omega arith)
bound_push (start ∷ ends) all fits =
    let first : start ≡ 0 = fits.from_zero in
    let pushed = from_push start ends (length all) fits.fit.filled in
    grind (arith, common_steps)

-- one more bound, where the lengths so far are those in front
pub bound_next : (bounds sizes : List ℕ) (i end size : ℕ) → LengthsFit sizes → 0 < length bounds → slice_index bounds 0 ≡ 0 → lengths_of bounds ≡ take i sizes → end ≡ sum (take i sizes) → i < length sizes → size ≡ get_or sizes i 0 → lengths_of (bounds ++ (end + size) ∷ []) ≡ take (i + 1) sizes
unfolding Filled
bound_next [] sizes i end size fits begun zero_first before sum_is h here = absurd (omega arith)
bound_next (start ∷ ends) sizes i end size fits begun zero_first before sum_is h here =
    let first : start ≡ 0 = zero_first in
    let filled : Filled (lengths_from start ends) =
    rw before (λ k g. let inside = fits.filled k in grind (arith, common_steps)) in
    let pushed = from_push start ends (end + size) filled in
    grind (arith, common_steps)

pub ruleset bounds = (count_of, take_of, bound_at)
