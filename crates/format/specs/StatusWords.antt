-- The eight bytes of a status word. A reader must believe the layout:
-- CCW address (4 bytes), device status (1), subchannel status (1), residual count (2).
use Rattle.std.specs.Prelude.{ℕ, List, ◌∷◌, ◌++◌}
use Rattle.format.specs.declared.status.StatusWord.{StatusWord}
use Rattle.format.specs.Bytes.{half_word_bytes, word_bytes}

abbrev pub status_bytes : StatusWord → List ℕ
status_bytes w = word_bytes w.ccw_address ++ (w.device_status ∷ w.subchannel_status ∷ half_word_bytes w.residual)
