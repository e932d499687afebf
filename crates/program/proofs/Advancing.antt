-- Up to k steps: one step more, the end, and what the count says.
use Rattle.std.proofs.Common.{◌≡◌, ℕ, zero, suc, ◌+◌, ◌-◌, ◌<◌, true, false, sym, refl, ap, ◌∙◌, subst, inl, inr, arith}
use Rattle.std.proofs.lemmas.Bool.{cond-true, cond-false, cases_Bool}
use Rattle.format.specs.declared.ccw.Format.{Format}
use Rattle.device.specs.Machine.{Machine}
use Rattle.channel.specs.Steps.{World, stepped, is_ended, steps, advanced, Counted}

module _ (m : Machine) (F : Format) where
  pub advanced_none : (k : ℕ) (w : World m) → k ≡ 0 → advanced m F k w ≡ (0, w)
  unfolding advanced
  advanced_none zero w e = refl
  advanced_none (suc k) w e = absurd (omega arith)

  pub advanced_ended : (k : ℕ) (w : World m) → is_ended w.run ≡ true → advanced m F k w ≡ (0, w)
  unfolding advanced
  advanced_ended zero w e = refl
  advanced_ended (suc k) w e = cond-true (is_ended w.run) _ _ e

  pub advanced_step : (k : ℕ) (w : World m) → 0 < k → is_ended w.run ≡ false → advanced m F k w ≡ (suc (advanced m F (k - 1) (stepped m F w)).0, (advanced m F (k - 1) (stepped m F w)).1)
  unfolding advanced
  advanced_step zero w h e = absurd (omega arith)
  advanced_step (suc k) w h e =
      let z : suc k - 1 ≡ k = omega arith in
      cond-false (is_ended w.run) _ _ e ∙ ap (λ j. (suc (advanced m F j (stepped m F w)).0, (advanced m F j (stepped m F w)).1)) (sym z)

  none_taken : (k : ℕ) (w : World m) → (0 < k → is_ended w.run ≡ true) → Counted m F k w 0 w
  unfolding steps
  none_taken k w e = record { bounded = omega arith; taken = refl; running = λ j h. absurd (omega arith); early = e }

  one_more : (k : ℕ) (w : World m) (n : ℕ) (v : World m) → is_ended w.run ≡ false → Counted m F k (stepped m F w) n v → Counted m F (suc k) w (suc n) v
  unfolding steps
  one_more k w n v e c = record {
    bounded = omega (arith, c.bounded);
    taken = c.taken;
    running = λ j h. go j h;
    early = λ h. c.early (omega arith);
  }
    where
      go : (j : ℕ) → j < suc n → is_ended (steps m F j w).run ≡ false
      go zero h = e
      go (suc j) h = c.running j (omega arith)

  pub counted : (k : ℕ) (w : World m) → Counted m F k w (advanced m F k w).0 (advanced m F k w).1
  unfolding advanced
  counted zero w = none_taken 0 w (λ h. absurd (omega arith))
  counted (suc k) w =
      elim (cases_Bool (is_ended w.run)) [
        | inl e ↦
            subst (λ (r : ℕ × World m). Counted m F (suc k) w r.0 r.1) (sym (cond-true (is_ended w.run) (0, w) _ e)) (none_taken (suc k) w (λ h. e))
        | inr e ↦
            subst (λ (r : ℕ × World m). Counted m F (suc k) w r.0 r.1) (sym (cond-false (is_ended w.run) (0, w) _ e))
            (one_more k w (advanced m F k (stepped m F w)).0 (advanced m F k (stepped m F w)).1 e (counted k (stepped m F w)))
      ]

  -- n steps taken and j still to come are the k steps
  abbrev pub Under : ℕ → ℕ → ℕ → World m → World m → Type 0
  Under n j k here before = ◌≡◌ {A = ℕ × World m} (n + (advanced m F j here).0, (advanced m F j here).1) (advanced m F k before)

  -- one of them is taken
  pub one_taken : (n j i k : ℕ) (here after before : World m) → j ≡ suc i → is_ended here.run ≡ false → after ≡ stepped m F here → Under n j k here before → Under (n + 1) i k after before
  one_taken n j i k here after before left runs e under =
      let rest = advanced m F i after in
      let fewer : j - 1 ≡ i = omega arith in
      let same : advanced m F j here ≡ (suc rest.0, rest.1) =
      advanced_step j here (omega arith) runs
      ∙ ap (λ x. (suc (advanced m F x (stepped m F here)).0, (advanced m F x (stepped m F here)).1)) fewer
      ∙ ap (λ (w : World m). (suc (advanced m F i w).0, (advanced m F i w).1)) (sym e) in
      let shift : n + 1 + rest.0 ≡ n + suc rest.0 = omega arith in
      ap (λ x. (x, rest.1)) shift ∙ ap (λ (r : ℕ × World m). (n + r.0, r.1)) (sym same) ∙ under

  -- none is still to come
  pub all_taken : (n j k : ℕ) (here before : World m) → advanced m F j here ≡ (0, here) → Under n j k here before → ◌≡◌ {A = ℕ × World m} (n, here) (advanced m F k before)
  all_taken n j k here before none under =
      let zero_more : n ≡ n + 0 = omega arith in
      ap (λ x. (x, here)) zero_more ∙ ap (λ (r : ℕ × World m). (n + r.0, r.1)) (sym none) ∙ under

  pub counted_at : (n k : ℕ) (here before : World m) → ◌≡◌ {A = ℕ × World m} (n, here) (advanced m F k before) → Counted m F k before n here
  counted_at n k here before e = subst (λ (r : ℕ × World m). Counted m F k before r.0 r.1) (sym e) (counted k before)
