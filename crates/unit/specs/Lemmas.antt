-- What the laws of several models rest on. A reader must believe nothing here: it is all proof.
use Rattle.std.specs.Prelude.{◌≡◌, ℕ, ◌+◌, ◌-◌, ◌≤◌, true, List, ◌++◌, length, take, drop, ◌==◌}
use Rattle.std.proofs.Common.{sym, ap, ◌∙◌, inl, inr, arith, eqb-true}
use Rattle.std.proofs.Math.Seq.{take-append-add}
use Rattle.std.proofs.lemmas.List.{append-nil, drop_all, take_all, take-append-le}
use Rattle.std.proofs.lemmas.Bool.{cases_lt}
use Rattle.format.specs.Classes.{class_of, reads_storage}

-- whether a code that was compared with k reads
pub class_at : (code k : ℕ) → (code == k) ≡ true → reads_storage (class_of code) ≡ reads_storage (class_of k)
class_at code k h = ap (λ n. reads_storage (class_of n)) (eqb-true code k h)

pub drop_past : (n : ℕ) (l : List ℕ) → length l ≤ n → drop n l ≡ drop (length l) l
drop_past n l h = drop_all n l h ∙ sym (drop_all (length l) l (omega arith))

-- the first k of two lists
pub take_two : (k j : ℕ) (a b : List ℕ) → j ≡ k - length a → take k a ++ take j b ≡ take k (a ++ b)
take_two k j a b h =
    elim (cases_lt k (length a)) [
      | inl w ↦
          let z : j ≡ 0 = omega arith in
          let f : k ≤ length a = omega arith in
          ap (λ i. take k a ++ take i b) z ∙ append-nil (take k a) ∙ sym (take-append-le k a b f)
      | inr w ↦
          let e : length a + j ≡ k = omega arith in
          ap (λ x. x ++ take j b) (take_all k a w) ∙ sym (take-append-add a b j) ∙ ap (λ i. take i (a ++ b)) e
    ]
