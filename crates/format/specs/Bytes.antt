-- Big-endian fields. A reader must believe: the first byte of a field weighs most.
use Rattle.std.specs.Prelude.{ℕ, ◌+◌, ◌*◌, ◌/◌, ◌%◌, List, [], ◌∷◌, slice_index}

-- a storage as a function from addresses to bytes
abbrev pub Reader : Type 0
Reader = ℕ → ℕ

-- a byte past the end reads 0
abbrev pub reader : List ℕ → Reader
reader bytes address = slice_index bytes address

abbrev pub half_word_at : Reader → ℕ → ℕ
half_word_at b a = b a * 256 + b (a + 1)

abbrev pub three_bytes_at : Reader → ℕ → ℕ
three_bytes_at b a = b a * 65536 + b (a + 1) * 256 + b (a + 2)

abbrev pub word_at : Reader → ℕ → ℕ
word_at b a = b a * 16777216 + b (a + 1) * 65536 + b (a + 2) * 256 + b (a + 3)

-- the fields of a number
abbrev pub half_word_bytes : ℕ → List ℕ
half_word_bytes n = n / 256 ∷ n % 256 ∷ []

abbrev pub word_bytes : ℕ → List ℕ
word_bytes n = n / 256 / 256 / 256 ∷ n / 256 / 256 % 256 ∷ n / 256 % 256 ∷ n % 256 ∷ []
