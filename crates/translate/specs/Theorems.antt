-- What a frame that was written says. A reader must believe: this is what makes it safe to hand the frame to a channel
-- that uses host addresses.
use Rattle.std.specs.Prelude.{◌≡◌, ℕ, ◌+◌, ◌*◌, ◌<◌, ◌≤◌, List, length, slice_index}
use Rattle.format.specs.Bytes.{reader, word_at}
use Rattle.rules.specs.Areas.{word_size}
use Rattle.walk.specs.Walks.{Trail}
use Rattle.map.specs.Places.{LiesAt, NeverShared}
use Rattle.translate.specs.Frames.{lists_start, frame_size, words_of}

-- word k of the lists, read in the frame, and the guest address that it stands for
abbrev pub word_read : List ℕ → ℕ → ℕ
word_read frame k = word_at (reader frame) (lists_start + word_size * k)

abbrev pub word_of : Trail → ℕ → ℕ
word_of w k = slice_index (words_of w.cells) k

pub record LeadsHome (fs frame : List ℕ) (w : Trail) : Type 0 where
  -- the frame is written whole
  pub whole : length frame ≡ frame_size
  pub cells : length w.cells ≤ 64
  pub words : length (words_of w.cells) ≤ 768
  -- each word is the host address at which the first byte of its piece lies
  pub place : (k : ℕ) → k < length (words_of w.cells) → LiesAt fs (word_of w k) (word_read frame k)
  -- and no other guest address lies there
  pub home : (k : ℕ) → k < length (words_of w.cells) → NeverShared fs (word_of w k) (word_read frame k)
