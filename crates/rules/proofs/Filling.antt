-- An array that a closure filled place by place.
use Rattle.std.proofs.Common.{◌≡◌, ℕ, zero, suc, ◌+◌, ◌<◌, ◌≤◌, List, slice_index, ◌∙◌, subst, inl, inr, arith}
use Rattle.std.proofs.lemmas.Bool.Decides.{eqb_tells}
use Rattle.std.specs.Array.{IsFromFnResultFrom}
use Rattle.std.specs.Fn.{Mut, Called}

-- where each call gives h i and leaves the closure as it was, the array has h i at i
pub filled : {F : Type 0} (g : Mut F (ℕ × Unit {0}) ℕ) (f : F) (ys : List ℕ) (n i : ℕ) → IsFromFnResultFrom g f ys i n
    → (h : ℕ → ℕ) → ((k y : ℕ) (q : F) → Called g f (k, tt) y q → (y ≡ h k) × (q ≡ f))
    → (j : ℕ) → i ≤ j → j < i + n → slice_index ys j ≡ h j
filled g f ys zero i e h step j low high = absurd (omega arith)
filled g f ys (suc n) i e h step j low high =
    let s = step i e.1 e.0 e.3 in
    let rest : IsFromFnResultFrom g f ys (i + 1) n = subst (λ q. IsFromFnResultFrom g q ys (i + 1) n) s.1 e.4 in
    elim (eqb_tells i j) [
      | inl (t, same) ↦ subst (λ k. slice_index ys k ≡ h k) same (e.2.1 0 ∙ s.0)
      | inr (t, other) ↦ filled g f ys n (i + 1) rest h step j (omega arith) (omega arith)
    ]
