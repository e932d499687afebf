-- Parts of one size, one after the other, and how a CCW and a word are read out of them.
use Rattle.std.proofs.Common.{◌≡◌, ℕ, ◌+◌, ◌*◌, ◌%◌, ◌<◌, List, [], ◌∷◌, length, get_or, take, sym, ap, ◌∙◌, mul-zero, mul-suc, arith, length-append}
use Rattle.std.proofs.lemmas.List.{length-take-le}
use Rattle.std.proofs.lemmas.List.Concat.{get_or-flat_map}
use Rattle.std.specs.List.{flat_map}
use Rattle.format.specs.declared.ccw.Ccw.{Ccw}
use Rattle.format.specs.declared.ccw.Format.TheVariants.{One}
use Rattle.format.specs.Bytes.{Reader, reader, word_at, word_bytes}
use Rattle.format.specs.FlagBits.{flags_of}
use Rattle.format.specs.Layouts.{ccw_at, ccw_bytes}
use Rattle.format.proofs.ReadBack.{ccw_back, word_back}

module _ {X : Type 0} (n : ℕ) (f : X → List ℕ) (sized : (x : X) → length (f x) ≡ n) where
  pub length-joined : (xs : List X) → length (flat_map f xs) ≡ n * length xs
  length-joined [] = sym (mul-zero n)
  length-joined (x ∷ xs) = length-append (f x) (flat_map f xs) ∙ omega (arith, sized x, length-joined xs, mul-suc n (length xs))

  -- byte k of part i
  pub part_at : (xs : List X) (i k : ℕ) (d : X) → i < length xs → k < n → get_or (flat_map f xs) (n * i + k) 0 ≡ get_or (f (get_or xs i d)) k 0
  part_at xs i k d h l =
      let before : length (flat_map f (take i xs)) ≡ n * i = length-joined (take i xs) ∙ ap (λ j. n * j) (length-take-le i xs (omega arith)) in
      ap (λ j. get_or (flat_map f xs) (j + k) 0) (sym before) ∙ get_or-flat_map f xs i k d 0 h (omega (arith, sized (get_or xs i d)))

-- the bytes of a part, read where it stands
abbrev pub Stands : Reader → ℕ → ℕ → List ℕ → Type 0
Stands b a n part = (k : ℕ) → k < n → b (a + k) ≡ get_or part k 0

pub ccw_stands : (b : Reader) (a : ℕ) (w : Ccw) → Stands b a 8 (ccw_bytes w) → w.code < 256 → w.count < 65536 → ccw_at One b a ≡ w
ccw_stands b a w h byte short =
    let zero_on : a ≡ a + 0 = omega arith in
    let at3 : a + 2 + 1 ≡ a + 3 = omega arith in
    let at5 : a + 4 + 1 ≡ a + 5 = omega arith in
    let at6 : a + 4 + 2 ≡ a + 6 = omega arith in
    let at7 : a + 4 + 3 ≡ a + 7 = omega arith in
    let c0 : b a ≡ get_or (ccw_bytes w) 0 0 = ap b zero_on ∙ h 0 (omega arith) in
    let c1 : b (a + 1) ≡ get_or (ccw_bytes w) 1 0 = h 1 (omega arith) in
    let c2 : b (a + 2) ≡ get_or (ccw_bytes w) 2 0 = h 2 (omega arith) in
    let c3 : b (a + 2 + 1) ≡ get_or (ccw_bytes w) 3 0 = ap b at3 ∙ h 3 (omega arith) in
    let c4 : b (a + 4) ≡ get_or (ccw_bytes w) 4 0 = h 4 (omega arith) in
    let c5 : b (a + 4 + 1) ≡ get_or (ccw_bytes w) 5 0 = ap b at5 ∙ h 5 (omega arith) in
    let c6 : b (a + 4 + 2) ≡ get_or (ccw_bytes w) 6 0 = ap b at6 ∙ h 6 (omega arith) in
    let c7 : b (a + 4 + 3) ≡ get_or (ccw_bytes w) 7 0 = ap b at7 ∙ h 7 (omega arith) in
    let same : ccw_at One b a ≡ ccw_at One (reader (ccw_bytes w)) 0 = λ i. record {
      code = c0 i % 256;
      flags = flags_of (c1 i);
      count = (c2 i * 256 + c3 i) % 65536;
      address = c4 i * 16777216 + c5 i * 65536 + c6 i * 256 + c7 i;
    } in
    same ∙ ccw_back w byte short

pub word_stands : (b : Reader) (a v : ℕ) → Stands b a 4 (word_bytes v) → word_at b a ≡ v
word_stands b a v h =
    let zero_on : a ≡ a + 0 = omega arith in
    let same : word_at b a ≡ word_at (reader (word_bytes v)) 0 = λ i.
    (ap b zero_on ∙ h 0 (omega arith)) i * 16777216 + h 1 (omega arith) i * 65536 + h 2 (omega arith) i * 256 + h 3 (omega arith) i in
    same ∙ word_back v
