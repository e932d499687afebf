-- Pages marked one after the other.
use Rattle.std.proofs.Common.{◌≡◌, ℕ, ◌/◌, ◌<◌, Bool, true, false, ◌||◌, eqb, List, [], ◌∷◌, length, get_or, set, sym, ap, ◌∙◌, subst, inl, inr}
use Rattle.std.proofs.Math.Bool.{or_assoc, or-true, or-false}
use Rattle.std.proofs.lemmas.List.{get_or-set_same, get_or-set_other}
use Rattle.std.proofs.lemmas.Bool.{cases_eq, eq-eqb, ne_eqb}
use Rattle.rules.specs.declared.pieces.Piece.{Piece}
use Rattle.rules.specs.TakingUp.{Cell}
use Rattle.translate.specs.Translations.{piece_in, data_in}

-- a flag that is set
marked : (flags : List Bool) (n page : ℕ) → (page ≡ n → page < length flags) → get_or (set flags n true) page false ≡ get_or flags page false || eqb n page
marked flags n page h =
    elim (cases_eq page n) [
      | inl same ↦
          ap (λ k. get_or (set flags n true) k false) same ∙ get_or-set_same flags n true false (subst (λ k. k < length flags) same (h same))
          ∙ sym (ap (λ x. get_or flags page false || x) (eq-eqb n page (sym same)) ∙ or-true (get_or flags page false))
      | inr other ↦
          get_or-set_other flags n page true false other
          ∙ sym (ap (λ x. get_or flags page false || x) (ne_eqb n page (λ e. other (sym e))) ∙ or-false (get_or flags page false))
    ]

-- one piece more, whose page has a flag if it is this one
pub piece_marked : (flags : List Bool) (p : Piece) (rest : List Piece) (page : ℕ) → (page ≡ p.first / 4096 → page < length flags)
    → get_or (set flags (p.first / 4096) true) page false || piece_in page rest ≡ get_or flags page false || piece_in page (p ∷ rest)
unfolding piece_in
piece_marked flags p rest page h = ap (λ x. x || piece_in page rest) (marked flags (p.first / 4096) page h) ∙ or_assoc (get_or flags page false) (eqb (p.first / 4096) page) (piece_in page rest)

-- a piece past the pages that are kept
pub piece_past : (p : Piece) (rest : List Piece) (page : ℕ) (flag : Bool) → (p.first / 4096 ≡ page → ⊥) → flag || piece_in page rest ≡ flag || piece_in page (p ∷ rest)
unfolding piece_in
piece_past p rest page flag ne = ap (λ x. flag || (x || piece_in page rest)) (sym (ne_eqb (p.first / 4096) page ne))

pub no_piece_in : (page : ℕ) (flag : Bool) → flag || piece_in page [] ≡ flag
unfolding piece_in
no_piece_in page flag = or-false flag

-- one cell more
pub cell_marked : (t : Cell) (rest : List Cell) (page : ℕ) (before after : Bool) → after ≡ before || piece_in page t.pieces → after || data_in rest page ≡ before || data_in (t ∷ rest) page
unfolding data_in
cell_marked t rest page before after e = ap (λ x. x || data_in rest page) e ∙ or_assoc before (piece_in page t.pieces) (data_in rest page)

pub no_data_in : (page : ℕ) (flag : Bool) → flag || data_in [] page ≡ flag
unfolding data_in
no_data_in page flag = or-false flag
