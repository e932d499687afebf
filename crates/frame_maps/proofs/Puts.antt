-- A put that is done keeps the law.
use Rattle.std.proofs.Common.{◌≡◌, ℕ, ◌<◌, Bool, true, false, cond, eqb, List, length, get_or, sym, refl, ap, ◌∙◌, subst, inl, inr, arith}
use Rattle.std.proofs.lemmas.List.{length-set, get_or-set_same, get_or-set_other}
use Rattle.std.proofs.lemmas.Bool.{eq-eqb, ne_eqb, cases_eq, cases_order, both_ways}
use Rattle.map.specs.Law.{Lawful, Ranged, Distinct, Kept, Spare, PutDone, exchanged}

module _ (free : ℕ → Bool) (frame old : ℕ) where
  pub exchanged_frame : exchanged free frame old frame ≡ false
  exchanged_frame = ap (λ b. cond b false (cond (eqb frame old) true (free frame))) (eq-eqb frame frame refl)

  pub exchanged_old : (old ≡ frame → ⊥) → exchanged free frame old old ≡ true
  exchanged_old ne = simp (ne_eqb old frame ne, eq-eqb old old refl)

  pub exchanged_other : (f : ℕ) → (f ≡ frame → ⊥) → (f ≡ old → ⊥) → exchanged free frame old f ≡ free f
  exchanged_other f a b = simp (ne_eqb f frame a, ne_eqb f old b)

module _ (fs : List ℕ) (free : ℕ → Bool) (page frame : ℕ) (fs' : List ℕ) (free' : ℕ → Bool) (l : Lawful fs free) (d : PutDone fs free page frame fs' free') where
  same_length : length fs' ≡ length fs
  same_length = ap length d.2 ∙ length-set fs page frame

  here : get_or fs' page 0 ≡ frame
  here = ap (λ xs. get_or xs page 0) d.2 ∙ get_or-set_same fs page frame 0 d.0

  there : (i : ℕ) → (i ≡ page → ⊥) → get_or fs' i 0 ≡ get_or fs i 0
  there i ne = ap (λ xs. get_or xs i 0) d.2 ∙ get_or-set_other fs page i frame 0 ne

  -- a listed frame is not the one that was free
  unlike : (i : ℕ) → i < length fs → get_or fs i 0 ≡ frame → ⊥
  unlike i h e = both_ways (free frame) (subst (λ (f : ℕ). free f ≡ false) e (l.4 i h)) d.1

  apart : (i j : ℕ) → i < length fs → j < length fs → (i ≡ j → ⊥) → get_or fs i 0 ≡ get_or fs j 0 → ⊥
  apart i j hi hj ne e =
      elim (cases_order i j) [ inl s ↦ ne s | inr o ↦ elim o [ inl a ↦ l.3 i j a hj e | inr b ↦ l.3 j i b hi (sym e) ] ]

  ranged : Ranged fs'
  ranged i h =
      let le = same_length in
      elim (cases_eq i page) [
        | inl e ↦ rw (ap (λ k. get_or fs' k 0) e ∙ here) (l.5 frame d.1)
        | inr ne ↦ rw (there i ne) (l.2 i (omega arith))
      ]

  distinct : Distinct fs'
  distinct i j lt h same =
      let le = same_length in
      elim (cases_eq i page) [
        | inl e ↦ unlike j (omega arith) (sym (there j (λ q. omega arith)) ∙ sym same ∙ ap (λ k. get_or fs' k 0) e ∙ here)
        | inr ni ↦ elim (cases_eq j page) [
          | inl e ↦ unlike i (omega arith) (sym (there i ni) ∙ same ∙ ap (λ k. get_or fs' k 0) e ∙ here)
          | inr nj ↦ l.3 i j lt (omega arith) (sym (there i ni) ∙ same ∙ there j nj)
        ]
      ]

  kept : Kept fs' free'
  kept i h =
      let le = same_length in
      elim (cases_eq i page) [
        | inl e ↦ ap free' (ap (λ k. get_or fs' k 0) e ∙ here) ∙ d.3 frame ∙ exchanged_frame free frame (get_or fs page 0)
        | inr ne ↦
            let hi : i < length fs = omega arith in
            ap free' (there i ne) ∙ d.3 (get_or fs i 0) ∙ exchanged_other free frame (get_or fs page 0) (get_or fs i 0) (unlike i hi) (apart i page hi d.0 ne) ∙ l.4 i hi
      ]

  spare : Spare free'
  spare f t =
      let old = get_or fs page 0 in
      elim (cases_eq f frame) [
        | inl e ↦ rw e (l.5 frame d.1)
        | inr nf ↦ elim (cases_eq f old) [
          | inl e ↦ rw e (l.2 page d.0)
          | inr no_old ↦ l.5 f (sym (exchanged_other free frame old f nf no_old) ∙ sym (d.3 f) ∙ t)
        ]
      ]

  pub put_lawful : Lawful fs' free'
  put_lawful =
      let some = l.0 in
      let most = l.1 in
      let le = same_length in
      (omega arith, omega arith, ranged, distinct, kept, spare)
