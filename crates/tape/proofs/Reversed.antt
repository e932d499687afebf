-- The front and the rest of a reversed list.
use Rattle.std.proofs.Common.{◌≡◌, ℕ, ◌-◌, ◌≤◌, min, List, ◌++◌, reverse, length, take, drop, sym, ap, ◌∙◌, arith}
use Rattle.std.proofs.lemmas.Grind.{common_steps}
use Rattle.std.proofs.lemmas.List.{take-append-drop, reverse-append}

split : (j : ℕ) (l : List ℕ) → reverse l ≡ reverse (drop j l) ++ reverse (take j l)
split j l = ap reverse (sym (take-append-drop j l)) ∙ reverse-append (take j l) (drop j l)

pub take-reverse : (k : ℕ) (l : List ℕ) → k ≤ length l → take k (reverse l) ≡ reverse (drop (length l - k) l)
take-reverse k l h = let parts = split (length l - k) l in grind (arith, common_steps)

pub drop-reverse : (k : ℕ) (l : List ℕ) → drop k (reverse l) ≡ reverse (take (length l - k) l)
drop-reverse k l = let parts = split (length l - k) l in grind (arith, common_steps)

-- of what stands before the last `gone` bytes, the last r reversed are the first n of what is left of the reversed list
pub last_reversed : (n r gone : ℕ) (l : List ℕ) → r ≡ min n (length (take (length l - gone) l)) → reverse (drop (length (take (length l - gone) l) - r) (take (length l - gone) l)) ≡ take n (drop gone (reverse l))
last_reversed n r gone l count =
    let kept = take (length l - gone) l in
    let first = take-reverse r kept (omega arith) in
    let rest = drop-reverse gone l in
    grind (arith, common_steps)

pub ruleset reversed = (drop-reverse, last_reversed)
