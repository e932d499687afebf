-- The flags of a list of frames, and the law page by page.
use Rattle.std.proofs.Common.{◌≡◌, ℕ, ◌+◌, ◌<◌, ◌≤◌, Bool, true, false, ◌||◌, eqb, List, [], ◌∷◌, ◌++◌, length, get_or, take, set, replicate, sym, refl, ap, ◌∙◌, inl, inr, arith}
use Rattle.std.proofs.lemmas.List.{get_or-replicate, length-replicate, take_more, get_or_past, length-set, get_or-set_same, get_or-set_other}
use Rattle.std.proofs.lemmas.Bool.{cases_eq, cases_lt, both_ways, eq-eqb, ne_eqb}
use Rattle.map.specs.Law.{Lawful, exchanged}
use Rattle.frame_maps.specs.FrameSets.{among, flagged}
use Rattle.frame_maps.proofs.Puts.{exchanged_frame, exchanged_old, exchanged_other}

-- what the law says of page k, given the pages before it
abbrev pub Good : List ℕ → (ℕ → Bool) → ℕ → Type 0
Good fs free k =
    (1 ≤ get_or fs k 0) × (get_or fs k 0 ≤ 255) × (free (get_or fs k 0) ≡ false)
    × ((j : ℕ) → j < k → get_or fs j 0 ≡ get_or fs k 0 → ⊥)

-- the flags once that of `frame` is turned off and that of `old` on
pub flagged_exchanged : (flags : List Bool) (frame old : ℕ) → frame < length flags → old < length flags → (old ≡ frame → ⊥)
    → (f : ℕ) → flagged (set (set flags frame false) old true) f ≡ exchanged (flagged flags) frame old f
flagged_exchanged flags frame old hf ho ne f =
    let ho' : old < length (set flags frame false) = simp length-set ho in
    elim (cases_eq f old) [
      | inl e ↦ rw e (get_or-set_same (set flags frame false) old true false ho' ∙ sym (exchanged_old (flagged flags) frame old ne))
      | inr na ↦
          get_or-set_other (set flags frame false) old f true false na
          ∙ elim (cases_eq f frame) [
            | inl e ↦ rw e (get_or-set_same flags frame false false hf ∙ sym (exchanged_frame (flagged flags) frame old))
            | inr nf ↦ get_or-set_other flags frame f false false nf ∙ sym (exchanged_other (flagged flags) frame old f nf na)
          ]
    ]

-- the law, page by page
pub law_from_good : (fs : List ℕ) (flags : List Bool) → 1 ≤ length fs → length fs ≤ 128 → length flags ≡ 256 → get_or flags 0 false ≡ false
    → ((k : ℕ) → k < length fs → Good fs (flagged flags) k) → Lawful fs (flagged flags)
law_from_good fs flags one most size zero_kept good = (
  one,
  most,
  (λ i h. ((good i h).0, (good i h).1)),
  (λ i j lt h e. (good j h).3 i lt e),
  (λ i h. (good i h).2),
  (λ f t. elim (cases_eq f 0) [
    | inl e ↦ absurd (both_ways (flagged flags f) (ap (flagged flags) e ∙ zero_kept) t)
    | inr nz ↦ elim (cases_lt f 256) [
      | inl h ↦ (omega arith, omega arith)
      | inr past ↦ absurd (both_ways (flagged flags f) (get_or_past flags f false (omega arith)) t)
    ]
  ]),
)

or_swap : (a b c : Bool) → (a || (b || c)) ≡ (b || (a || c))
or_swap true true c = refl
or_swap true false c = refl
or_swap false true c = refl
or_swap false false c = refl

-- no flag is on at first
pub flagged_none : (n f : ℕ) → flagged (replicate n false) f ≡ false
flagged_none n f =
    elim (cases_lt f n) [
      | inl h ↦ get_or-replicate n f false false h
      | inr past ↦ get_or_past (replicate n false) f false (rw length-replicate past)
    ]

among_push : (xs : List ℕ) (x f : ℕ) → among (xs ++ (x ∷ [])) f ≡ (eqb x f || among xs f)
among_push [] x f = refl
among_push (y ∷ ys) x f = ap (λ b. eqb y f || b) (among_push ys x f) ∙ or_swap (eqb y f) (eqb x f) (among ys f)

-- the flags of a list of frames, one frame more
pub flagged_more : (flags : List Bool) (xs : List ℕ) (i x : ℕ) → x ≡ get_or xs i 0 → i < length xs → x < length flags
    → ((f : ℕ) → flagged flags f ≡ among (take i xs) f)
    → (f : ℕ) → flagged (set flags x true) f ≡ among (take (i + 1) xs) f
flagged_more flags xs i x is h room before f =
    let pushed : among (take (i + 1) xs) f ≡ (eqb x f || among (take i xs) f) =
    ap (λ l. among l f) (take_more xs i 0 h) ∙ among_push (take i xs) (get_or xs i 0) f ∙ ap (λ y. eqb y f || among (take i xs) f) (sym is) in
    elim (cases_eq f x) [
      | inl e ↦ rw e (get_or-set_same flags x true false room) ∙ sym (pushed ∙ ap (λ b. b || among (take i xs) f) (eq-eqb x f (sym e)))
      | inr ne ↦ get_or-set_other flags x f true false ne ∙ before f ∙ sym (pushed ∙ ap (λ b. b || among (take i xs) f) (ne_eqb x f (λ e. ne (sym e))))
    ]
