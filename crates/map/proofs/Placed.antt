-- Places and homes in a lawful map.
use Rattle.std.proofs.Common.{◌≡◌, ℕ, ◌+◌, ◌*◌, ◌/◌, ◌%◌, ◌<◌, Bool, List, length, get_or, sym, inl, inr, arith}
use Rattle.std.proofs.lemmas.Bool.{cases_order}
use Rattle.map.specs.Law.{Lawful}
use Rattle.map.specs.Places.{LiesAt, NeverShared}

pub never_shared : (fs : List ℕ) (free : ℕ → Bool) → Lawful fs free → (guest host : ℕ) → LiesAt fs guest host → NeverShared fs guest host
never_shared fs free l a host la b lb =
    let p = a / 4096 in
    let q = b / 4096 in
    let hp : p < length fs = omega arith in
    let hq : q < length fs = omega arith in
    let same : get_or fs p 0 ≡ get_or fs q 0 = omega arith in
    elim (cases_order p q) [
      | inl e ↦ omega arith
      | inr o ↦ elim o [ inl lt ↦ absurd (l.3 p q lt hq same) | inr gt ↦ absurd (l.3 q p gt hp (sym same)) ]
    ]

-- the address at the offset of `host` in the page whose frame `host` lies in
pub home_lies : (fs : List ℕ) (page host : ℕ) → page < length fs → get_or fs page 0 ≡ host / 4096 → LiesAt fs (page * 4096 + host % 4096) host
home_lies fs page host h e =
    let quotient : (page * 4096 + host % 4096) / 4096 ≡ page = omega arith in
    let offset : (page * 4096 + host % 4096) % 4096 ≡ host % 4096 = omega arith in
    (omega arith, rw (quotient, offset, e) (omega arith))
