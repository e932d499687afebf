-- A CCW and a word read byte by byte.
use Rattle.std.proofs.Common.{◌≡◌, ℕ, ◌+◌, List, [], ◌∷◌, refl, ap, arith}
use Rattle.format.specs.declared.ccw.Format.{Format}
use Rattle.format.specs.declared.ccw.Format.TheVariants.{Zero, One}
use Rattle.format.specs.Bytes.{Reader, reader, word_at}
use Rattle.format.specs.Layouts.{ccw_at}

-- the eight bytes at an address
abbrev pub eight : Reader → ℕ → List ℕ
eight b a = b a ∷ b (a + 1) ∷ b (a + 2) ∷ b (a + 3) ∷ b (a + 4) ∷ b (a + 5) ∷ b (a + 6) ∷ b (a + 7) ∷ []

shift : (b : Reader) (a x y z : ℕ) → x + y ≡ z → b (a + x + y) ≡ b (a + z)
shift b a x y z e = ap b (let f : a + x + y ≡ a + z = omega arith in f)

pub ccw_from_eight : (F : Format) (b : Reader) (a : ℕ) → ccw_at F (reader (eight b a)) 0 ≡ ccw_at F b a
ccw_from_eight Zero b a = rw (shift b a 1 1 2 refl, shift b a 1 2 3 refl, shift b a 6 1 7 refl) refl
ccw_from_eight One b a = rw (shift b a 2 1 3 refl, shift b a 4 1 5 refl, shift b a 4 2 6 refl, shift b a 4 3 7 refl) refl

pub word_from_four : (b : Reader) (a : ℕ) → word_at (reader (b a ∷ b (a + 1) ∷ b (a + 2) ∷ b (a + 3) ∷ [])) 0 ≡ word_at b a
word_from_four b a = refl
