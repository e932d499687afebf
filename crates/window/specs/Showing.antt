-- What a window shows of a lawful map, before and after a put. Nothing here has to be believed: these are lemmas with their
-- proofs, which stand here since the law of a window cites them.
use Rattle.std.specs.Prelude.{◌≡◌, ℕ, ◌+◌, ◌-◌, ◌<◌, ◌≤◌, min, Bool, cond, List, length, take, drop, IfOk, Ok, Err, Result, MatchResult, nat_lt, slice_index, slice_set, refl}
use Rattle.std.proofs.Common.{sym, ap, subst, ◌∙◌, inl, inr, arith}
use Rattle.std.proofs.Math.Seq.{take-set-lt}
use Rattle.std.proofs.lemmas.List.{length-take, length-drop, length-set, get_or-take, get_or-drop, get_or_past, drop-set-add}
use Rattle.std.proofs.lemmas.Result.{MatchResult-weaker}
use Rattle.std.proofs.lemmas.Bool.{cases_lt, cond_below, cond_above}
use Rattle.format.specs.declared.refusal.Refusal.{Refusal}
use Rattle.map.specs.Law.{Lawful, PutDone, PutRefused, exchanged}
use Rattle.window.specs.Windows.{Inside, start_of, shown, PutThrough}

module _ (first count : ℕ) (fs : List ℕ) where
  pub length-shown : length (shown first count fs) ≡ min count (length fs - start_of first fs)
  length-shown = length-take count (drop (start_of first fs) fs) ∙ ap (min count) (length-drop (start_of first fs) fs)

  pub get_or-shown : (i : ℕ) → i < count → slice_index (shown first count fs) i ≡ slice_index fs (start_of first fs + i)
  get_or-shown i h = get_or-take count (drop (start_of first fs) fs) i 0 h ∙ get_or-drop (start_of first fs) fs i 0

  pub get_or-shown_at : (i : ℕ) → slice_index (shown first count fs) i ≡ cond (nat_lt i count) (slice_index fs (start_of first fs + i)) 0
  get_or-shown_at i =
      elim (cases_lt i count) [
        | inl h ↦ get_or-shown i h ∙ cond_below i count _ 0 h
        | inr past ↦ let len = length-shown in get_or_past (shown first count fs) i 0 (omega arith) ∙ cond_above i count (slice_index fs (start_of first fs + i)) 0 0 past refl
      ]

  within : (i : ℕ) → i < length (shown first count fs) → (i < count) × (start_of first fs + i < length fs)
  within i h = let e = length-shown in (omega arith, omega arith)

  pub shown_lawful : (free : ℕ → Bool) → 1 ≤ count → Lawful fs free → Lawful (shown first count fs) free
  shown_lawful free some l =
      let e = length-shown in
      let one = l.0 in
      let most = l.1 in (
        omega arith,
        omega arith,
        (λ i h. let w = within i h in rw (get_or-shown i w.0) (l.2 (start_of first fs + i) w.1)),
        (λ i j lt h same.
            let w = within j h in
            let is : i < count = omega arith in
            l.3 (start_of first fs + i) (start_of first fs + j) (omega arith) w.1 (sym (get_or-shown i is) ∙ same ∙ get_or-shown j w.0)),
        (λ i h. let w = within i h in rw (get_or-shown i w.0) (l.4 (start_of first fs + i) w.1)),
        l.5,
      )

  -- a window inside the map below starts at its first page
  pub starts_inside : Inside first count fs → start_of first fs ≡ first
  starts_inside inside = omega arith

  pub shown_inside : Inside first count fs → shown first count fs ≡ take count (drop first fs)
  shown_inside inside = ap (λ n. take count (drop n fs)) (starts_inside inside)

  shown_set : (page frame : ℕ) → page < count → shown first count (slice_set fs (start_of first fs + page) frame) ≡ slice_set (shown first count fs) page frame
  shown_set page frame h =
      ap (λ n. take count (drop (min first (n - 1)) (slice_set fs (start_of first fs + page) frame))) (length-set fs (start_of first fs + page) frame)
      ∙ ap (take count) (drop-set-add (start_of first fs) fs page frame)
      ∙ take-set-lt count (drop (start_of first fs) fs) page frame h

  module _ (free free' : ℕ → Bool) (fs' : List ℕ) (page frame : ℕ) where
    -- a put through the window is a put on what the window shows
    pub shown_put : PutThrough first count fs free page frame fs' free' → PutDone (shown first count fs) free page frame (shown first count fs') free'
    shown_put p =
        let h = (within page p.0).0 in
        let d = p.1 in (
          p.0,
          d.1,
          ap (shown first count) d.2 ∙ shown_set page frame h,
          (λ f. d.3 f ∙ ap (λ old. exchanged free frame old f) (sym (get_or-shown page h))),
        )

    -- what the map below answers, as the window's answer
    pub put_below : {X V W : Type 0} (r : Result X Refusal) (make : V → W) (new old : V) (at : ℕ) → at ≡ start_of first fs + page → page < count
        → MatchResult r (λ _. PutDone fs free at frame fs' free') (λ e. PutRefused fs free at frame e × (new ≡ old))
        → MatchResult r (λ _. PutThrough first count fs free page frame fs' free') (λ e. PutRefused (shown first count fs) free page frame e × (make new ≡ make old))
    put_below r make new old at is h answer =
        MatchResult-weaker r answer
        (λ x d.
        let len = length-shown in
        let lt = d.0 in
        (omega arith, subst (λ (a : ℕ). PutDone fs free a frame fs' free') is d))
        (λ e k. ((k.0.0, (λ lt t. k.0.1 (let w = within page lt in omega arith) t)), ap make k.1))

pub made_from_cases : {X E : Type 0} (r : Result X E) (P : X → Type 0) (Q : E → Type 0) → MatchResult r P Q → IfOk r P
made_from_cases (Ok x) P Q c = c
made_from_cases (Err e) P Q c = tt
