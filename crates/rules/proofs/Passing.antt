-- Rules that are passed, there and back: what a place that is found was found by, and that it is found by that.
use Rattle.std.proofs.Common.{◌≡◌, ℕ, ◌+◌, ◌%◌, Bool, true, false, cond, not, ◌&&◌, eqb, ltb, ◌⊎◌, List, Ok, Option, Result, refl, ap, ◌∙◌, subst, inl, inr, arith}
use Rattle.std.proofs.lemmas.Bool.{not-false}
use Rattle.format.specs.declared.ccw.Ccw.{Ccw}
use Rattle.format.specs.declared.ccw.Format.{Format}
use Rattle.format.specs.declared.ccw.Format.TheVariants.{Zero}
use Rattle.format.specs.declared.refusal.Refusal.TheVariants.{TransferMisplaced}
use Rattle.format.specs.Bytes.{Reader}
use Rattle.format.specs.Classes.{class_in}
use Rattle.format.specs.Layouts.{ccw_at}
use Rattle.rules.specs.declared.pieces.Piece.{Piece}
use Rattle.rules.specs.declared.place.Broken.{Broken}
use Rattle.rules.specs.Rules.{unless}
use Rattle.rules.specs.TakingUp.{backward, aligned, transfer_at, transfer_rules, target, found, in_force, none_in_force, is_invalid, refused_flag, pieces_of, cell_at, read_up}
use Rattle.rules.proofs.AreaSteps.{unless_ok}

-- rules 1 and 2 hold at a
abbrev pub Aligned : ℕ → ℕ → Type 0
Aligned L a = (eqb (a % 8) 0 ≡ true) × (ltb L (a + 8) ≡ false)

pub aligned_parts : (L a x : ℕ) (rest : Result ℕ Broken) → aligned L a rest ≡ Ok x → Aligned L a × (rest ≡ Ok x)
aligned_parts L a x rest e =
    let u1 = unless_ok (not (eqb (a % 8) 0)) _ a _ x e in
    let u2 = unless_ok (ltb L (a + 8)) _ a _ x u1.1 in
    ((not-false (eqb (a % 8) 0) u1.0, u2.0), u2.1)

aligned_from : (L a : ℕ) (rest : Result ℕ Broken) → Aligned L a → aligned L a rest ≡ rest
aligned_from L a rest h = rw (h.0, h.1) refl

module _ (F : Format) (L : ℕ) (b : Reader) where
  target_here : (a : ℕ) → Aligned L a → transfer_at F b a ≡ false → target F L b a ≡ Ok a
  target_here a h n = aligned_from L a _ h ∙ ap (λ t. cond t (transfer_rules F b a true (Ok a)) (Ok a)) n

  -- a CCW that is no TIC is found where it stands
  pub found_here : (a : ℕ) (first : Bool) → Aligned L a → transfer_at F b a ≡ false → found F L b a first ≡ Ok a
  found_here a first h n = aligned_from L a _ h ∙ ap (λ t. cond t (transfer_rules F b a first (target F L b (ccw_at F b a).address)) (Ok a)) n

  -- a TIC that may stand there leads to its target
  pub found_through : (a x : ℕ) (first : Bool) → Aligned L a → transfer_at F b a ≡ true → ((rest : Result ℕ Broken) → transfer_rules F b a first rest ≡ rest)
      → (ccw_at F b a).address ≡ x → Aligned L x → transfer_at F b x ≡ false → found F L b a first ≡ Ok x
  found_through a x first h t rules e k n =
      aligned_from L a _ h
      ∙ ap (λ y. cond y (transfer_rules F b a first (target F L b (ccw_at F b a).address)) (Ok a)) t
      ∙ rules (target F L b (ccw_at F b a).address)
      ∙ ap (target F L b) e
      ∙ target_here x k n

-- by what a place of format 0 was found: it is no TIC, or a TIC that is not the first leads there
pub record Finds (L : ℕ) (b : Reader) (a : ℕ) (first : Bool) (x : ℕ) : Type 0 where
  pub fits : Aligned L a
  pub way : ((transfer_at Zero b a ≡ false) × (a ≡ x))
      ⊎ ((transfer_at Zero b a ≡ true) × (first ≡ false) × ((ccw_at Zero b a).address ≡ x) × Aligned L x × (transfer_at Zero b x ≡ false))

target_ok : (L : ℕ) (b : Reader) (a x : ℕ) → target Zero L b a ≡ Ok x → (a ≡ x) × Aligned L a × (transfer_at Zero b a ≡ false)
target_ok L b a x e =
    let u = aligned_parts L a x _ e in
    let g = go (transfer_at Zero b a) u.1 in
    (g.1, u.0, g.0)
  where
    go : (t : Bool) → cond t (transfer_rules Zero b a true (Ok a)) (Ok a) ≡ Ok x → (t ≡ false) × (a ≡ x)
    go true f = let z : ◌≡◌ {A = ℕ} 0 1 = cc in let q : ⊥ = omega arith in absurd q
    go false f = (refl, cc)

pub found_ok : (L : ℕ) (b : Reader) (a x : ℕ) (first : Bool) → found Zero L b a first ≡ Ok x → Finds L b a first x
found_ok L b a x first e =
    let u = aligned_parts L a x _ e in
    record { fits = u.0; way = go (transfer_at Zero b a) refl first refl u.1 }
  where
    y : ℕ
    y = (ccw_at Zero b a).address

    go : (t : Bool) → transfer_at Zero b a ≡ t → (v : Bool) → first ≡ v → cond t (unless v (TransferMisplaced a) a (target Zero L b y)) (Ok a) ≡ Ok x
        → ((transfer_at Zero b a ≡ false) × (a ≡ x)) ⊎ ((transfer_at Zero b a ≡ true) × (first ≡ false) × (y ≡ x) × Aligned L x × (transfer_at Zero b x ≡ false))
    go false q v w f = inl (q, cc)
    go true q true w f = let z : ◌≡◌ {A = ℕ} 0 1 = cc in let r : ⊥ = omega arith in absurd r
    go true q false w f =
        let g = target_ok L b y x f in
        inr (q, w, g.0, subst (Aligned L) g.0 g.1, subst (λ z. transfer_at Zero b z ≡ false) g.0 g.2)

pub found_again : (L : ℕ) (b : Reader) (a x : ℕ) (first : Bool) → Finds L b a first x → found Zero L b a first ≡ Ok x
found_again L b a x first f = go f.way
  where
    go : ((transfer_at Zero b a ≡ false) × (a ≡ x)) ⊎ ((transfer_at Zero b a ≡ true) × (first ≡ false) × ((ccw_at Zero b a).address ≡ x) × Aligned L x × (transfer_at Zero b x ≡ false)) → found Zero L b a first ≡ Ok x
    go (inl h) = found_here Zero L b a first f.fits h.0 ∙ ap Ok h.1
    go (inr h) = found_through Zero L b a x first f.fits h.0 (λ rest. ap (λ v. unless v (TransferMisplaced a) a rest) h.1) h.2 h.3 h.4

-- the CCW found is no TIC
pub found_no_transfer : (L : ℕ) (b : Reader) (a x : ℕ) (first : Bool) → found Zero L b a first ≡ Ok x → transfer_at Zero b x ≡ false
found_no_transfer L b a x first e = go (found_ok L b a x first e).way
  where
    go : ((transfer_at Zero b a ≡ false) × (a ≡ x)) ⊎ ((transfer_at Zero b a ≡ true) × (first ≡ false) × ((ccw_at Zero b a).address ≡ x) × Aligned L x × (transfer_at Zero b x ≡ false)) → transfer_at Zero b x ≡ false
    go (inl h) = subst (λ z. transfer_at Zero b z ≡ false) h.1 h.0
    go (inr h) = h.4

-- a CCW that passes rules 4 to 10 is read
pub read_up_from : (F : Format) (L : ℕ) (b : Reader) (a : ℕ) (command : Option ℕ) (w : Ccw) (ps : List Piece) → ccw_at F b a ≡ w
    → (none_in_force command && is_invalid (class_in F w.code)) ≡ false → refused_flag w.flags ≡ false → eqb w.count 0 ≡ false
    → pieces_of L b a w (backward (in_force command w.code)) w.flags.ida ≡ Ok ps → read_up F L b a command ≡ Ok (cell_at command a w ps)
read_up_from F L b a command w ps e valid flags count from = rw (e, valid, flags, count, from) refl
