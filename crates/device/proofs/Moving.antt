-- What the laws give: moves add up, in full or not, and parts are one move.
use Rattle.std.proofs.Common.{◌≡◌, ℕ, ◌+◌, ◌-◌, ◌≤◌, List, [], ◌∷◌, ◌++◌, length, take, drop, sym, refl, ap, ◌∙◌, inl, inr, arith}
use Rattle.std.proofs.Math.Seq.{take-add}
use Rattle.std.proofs.lemmas.List.{take-append-le, drop_all}
use Rattle.std.proofs.lemmas.Bool.{cases_lt}
use Rattle.device.specs.Machine.{Machine, Pending, shut, giving, taking, due, room, less_given, less_taken}
use Rattle.device.specs.Laws.{Laws}
use Rattle.device.specs.Parts.{total, joined, handed_out, given_all, taken_all, PartsAreOneMove}

less_due : (n : ℕ) (p : Pending) → due (less_given n p) ≡ drop n (due p)
less_due n shut = sym (drop_all n [] (omega arith))
less_due n (giving bytes) = refl
less_due n (taking m) = sym (drop_all n [] (omega arith))

less_room : (n : ℕ) (p : Pending) → room (less_taken n p) ≡ room p - n
less_room n shut = omega arith
less_room n (giving bytes) = omega arith
less_room n (taking m) = refl

module _ {m : Machine} (laws : Laws m) where
  pub given_due : (n : ℕ) (s : m.State) → due (m.pending (m.given n s)) ≡ drop n (due (m.pending s))
  given_due n s = ap due (laws.give_drops n s) ∙ less_due n (m.pending s)

  pub taken_room : (bytes : List ℕ) (s : m.State) → room (m.pending (m.taken bytes s)) ≡ room (m.pending s) - length bytes
  taken_room bytes s = ap room (laws.take_fills bytes s) ∙ less_room (length bytes) (m.pending s)

  -- a and then b is a + b, also past the end
  pub given_more : (a b : ℕ) (s : m.State) → m.given b (m.given a s) ≡ m.given (a + b) s
  given_more a b s =
      elim (cases_lt (length (due (m.pending s))) a) [
        | inl past ↦
            let n : ℕ = length (due (m.pending s)) in
            let short : n ≤ a = omega arith in
            let shorter : n ≤ a + b = omega arith in
            let full : n ≤ n = omega arith in
            let longer : n ≤ n + b = omega arith in
            ap (m.given b) (laws.give_past a s short) ∙ laws.give_parts n b s full ∙ laws.give_past (n + b) s longer ∙ sym (laws.give_past (a + b) s shorter)
        | inr fits ↦ laws.give_parts a b s fits
      ]

  -- the part that has no room changes nothing
  taken_full : (bytes : List ℕ) (s : m.State) → room (m.pending s) ≡ 0 → m.taken bytes s ≡ s
  taken_full bytes s e = laws.take_past bytes s ∙ ap (λ n. m.taken (take n bytes) s) e ∙ laws.take_none s

  pub taken_more : (a b : List ℕ) (s : m.State) → m.taken b (m.taken a s) ≡ m.taken (a ++ b) s
  taken_more a b s =
      elim (cases_lt (room (m.pending s)) (length a)) [
        | inl past ↦
            let n : ℕ = room (m.pending s) in
            let none : room (m.pending (m.taken a s)) ≡ 0 = taken_room a s ∙ omega arith in
            let within : n ≤ length a = omega arith in
            taken_full b (m.taken a s) none ∙ laws.take_past a s ∙ ap (λ x. m.taken x s) (sym (take-append-le n a b within)) ∙ sym (laws.take_past (a ++ b) s)
        | inr fits ↦ laws.take_parts a b s fits
      ]

  gives : (sizes : List ℕ) (s : m.State) → given_all m sizes s ≡ m.given (total sizes) s
  gives [] s = sym (laws.give_none s)
  gives (n ∷ ns) s = gives ns (m.given n s) ∙ given_more n (total ns) s

  hands : (sizes : List ℕ) (s : m.State) → handed_out m sizes s ≡ take (total sizes) (due (m.pending s))
  hands [] s = refl
  hands (n ∷ ns) s =
      ap (λ x. take n (due (m.pending s)) ++ x) (hands ns (m.given n s) ∙ ap (take (total ns)) (given_due n s))
      ∙ sym (take-add n (total ns) (due (m.pending s)))

  takes : (parts : List (List ℕ)) (s : m.State) → taken_all m parts s ≡ m.taken (joined parts) s
  takes [] s = sym (laws.take_none s)
  takes (bytes ∷ rest) s = takes rest (m.taken bytes s) ∙ taken_more bytes (joined rest) s

  pub parts_are_one_move : PartsAreOneMove m
  parts_are_one_move = (λ sizes s. (gives sizes s, hands sizes s), takes)
