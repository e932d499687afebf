-- How a CCW stands in storage. A reader must believe the two layouts:
-- format 0: code (1 byte), address (3), flags (1), ignored (1), count (2);
-- format 1: code (1), flags (1), count (2), address (4).
use Rattle.std.specs.Prelude.{ℕ, ◌+◌, ◌%◌, List, ◌∷◌, ◌++◌}
use Rattle.format.specs.declared.ccw.Ccw.{Ccw}
use Rattle.format.specs.declared.ccw.Format.{Format}
use Rattle.format.specs.declared.ccw.Format.TheVariants.{Zero, One}
use Rattle.format.specs.Bytes.{Reader, half_word_at, three_bytes_at, word_at, half_word_bytes, word_bytes}
use Rattle.format.specs.FlagBits.{flags_of, flags_byte}

-- code and count are taken modulo what one and two bytes hold, since a list of numbers does not say that each is a byte
abbrev pub ccw_at : Format → Reader → ℕ → Ccw
ccw_at Zero b a = record { code = b a % 256; flags = flags_of (b (a + 4)); count = half_word_at b (a + 6) % 65536; address = three_bytes_at b (a + 1) }
ccw_at One b a = record { code = b a % 256; flags = flags_of (b (a + 1)); count = half_word_at b (a + 2) % 65536; address = word_at b (a + 4) }

-- the eight bytes of a format 1 CCW
abbrev pub ccw_bytes : Ccw → List ℕ
ccw_bytes w = w.code ∷ flags_byte w.flags ∷ (half_word_bytes w.count ++ word_bytes w.address)
