-- What was written reads back.
use Rattle.std.proofs.Common.{◌≡◌, ℕ, ◌+◌, ◌*◌, ◌/◌, ◌%◌, ◌<◌, ◌≤◌, Bool, true, false, List, cond, eqb, sym, refl, ap, ◌∙◌, mul-zero, mul-one, arith}
use Rattle.format.specs.declared.flags.Flags.{Flags}
use Rattle.format.specs.declared.ccw.Ccw.{Ccw}
use Rattle.format.specs.declared.ccw.Format.TheVariants.{One}
use Rattle.format.specs.FlagBits.{on, flags_of, flags_byte, weight_if}
use Rattle.format.specs.Bytes.{reader}
use Rattle.format.specs.Layouts.{ccw_at, ccw_bytes}

bit : Bool → ℕ
bit b = cond b 1 0

-- a bit and its weight
record Weighed (b : Bool) (n : ℕ) : Type 0 where
  low : n ≤ 1
  is : eqb n 1 ≡ b
  weighs : (w : ℕ) → weight_if b w ≡ w * n

weighed : (b : Bool) → (n : ℕ) × Weighed b n
weighed true = (1, record { low = omega arith; is = refl; weighs = λ w. sym (mul-one w) })
weighed false = (0, record { low = omega arith; is = refl; weighs = λ w. sym (mul-zero w) })

-- the flags from their byte, each bit by itself
pub flags_back : (f : Flags) → flags_of (flags_byte f) ≡ f
flags_back f =
    let a = weighed f.cd in
    let b = weighed f.cc in
    let c = weighed f.sli in
    let d = weighed f.skip in
    let e = weighed f.pci in
    let g = weighed f.ida in
    let h = weighed f.suspend in
    let k = weighed f.mida in
    let sum : flags_byte f ≡ 128 * a.0 + 64 * b.0 + 32 * c.0 + 16 * d.0 + 8 * e.0 + 4 * g.0 + 2 * h.0 + 1 * k.0 =
    rw (a.1.weighs 128, b.1.weighs 64, c.1.weighs 32, d.1.weighs 16, e.1.weighs 8, g.1.weighs 4, h.1.weighs 2, k.1.weighs 1) refl in
    let i7 : flags_byte f / 128 % 2 ≡ a.0 = omega arith in
    let i6 : flags_byte f / 64 % 2 ≡ b.0 = omega arith in
    let i5 : flags_byte f / 32 % 2 ≡ c.0 = omega arith in
    let i4 : flags_byte f / 16 % 2 ≡ d.0 = omega arith in
    let i3 : flags_byte f / 8 % 2 ≡ e.0 = omega arith in
    let i2 : flags_byte f / 4 % 2 ≡ g.0 = omega arith in
    let i1 : flags_byte f / 2 % 2 ≡ h.0 = omega arith in
    let i0 : flags_byte f / 1 % 2 ≡ k.0 = omega arith in
    let on7 : on 128 (flags_byte f) ≡ f.cd = ap (λ n. eqb n 1) i7 ∙ a.1.is in
    let on6 : on 64 (flags_byte f) ≡ f.cc = ap (λ n. eqb n 1) i6 ∙ b.1.is in
    let on5 : on 32 (flags_byte f) ≡ f.sli = ap (λ n. eqb n 1) i5 ∙ c.1.is in
    let on4 : on 16 (flags_byte f) ≡ f.skip = ap (λ n. eqb n 1) i4 ∙ d.1.is in
    let on3 : on 8 (flags_byte f) ≡ f.pci = ap (λ n. eqb n 1) i3 ∙ e.1.is in
    let on2 : on 4 (flags_byte f) ≡ f.ida = ap (λ n. eqb n 1) i2 ∙ g.1.is in
    let on1 : on 2 (flags_byte f) ≡ f.suspend = ap (λ n. eqb n 1) i1 ∙ h.1.is in
    let on0 : on 1 (flags_byte f) ≡ f.mida = ap (λ n. eqb n 1) i0 ∙ k.1.is in
    λ i. record { cd = on7 i; cc = on6 i; sli = on5 i; skip = on4 i; pci = on3 i; ida = on2 i; suspend = on1 i; mida = on0 i }

-- and from a number that is said to be their byte
pub flags_back_from : (f : Flags) (byte : ℕ) → byte ≡ flags_byte f → flags_of byte ≡ f
flags_back_from f byte is = ap flags_of is ∙ flags_back f

pub half_word_back : (n : ℕ) → n < 65536 → (n / 256 * 256 + n % 256) % 65536 ≡ n
half_word_back n h = omega arith

pub word_back : (n : ℕ) → n / 256 / 256 / 256 * 16777216 + n / 256 / 256 % 256 * 65536 + n / 256 % 256 * 256 + n % 256 ≡ n
word_back n = omega arith

-- a CCW from its eight bytes
pub ccw_back : (w : Ccw) → w.code < 256 → w.count < 65536 → ccw_at One (reader (ccw_bytes w)) 0 ≡ w
ccw_back w c n =
    let code : w.code % 256 ≡ w.code = omega arith in
    λ i. record { code = code i; flags = flags_back w.flags i; count = half_word_back w.count n i; address = word_back w.address i }

-- and from a list that is said to be them
pub ccw_back_from : (w : Ccw) (bytes : List ℕ) → bytes ≡ ccw_bytes w → w.code < 256 → w.count < 65536 → ccw_at One (reader bytes) 0 ≡ w
ccw_back_from w bytes is c n = ap (λ b. ccw_at One (reader b) 0) is ∙ ccw_back w c n
