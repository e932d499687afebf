-- The flag byte. A reader must believe: the eight weights in their order.
use Rattle.std.specs.Prelude.{ℕ, ◌+◌, ◌/◌, ◌%◌, Bool, cond, ◌||◌, ◌==◌}
use Rattle.format.specs.declared.flags.Flags.{Flags}

-- whether the bit of this weight is on
abbrev pub on : ℕ → ℕ → Bool
on weight byte = byte / weight % 2 == 1

abbrev pub flags_of : ℕ → Flags
flags_of byte = record {
  cd = on 128 byte;
  cc = on 64 byte;
  sli = on 32 byte;
  skip = on 16 byte;
  pci = on 8 byte;
  ida = on 4 byte;
  suspend = on 2 byte;
  mida = on 1 byte;
}

abbrev pub weight_if : Bool → ℕ → ℕ
weight_if flag weight = cond flag weight 0

abbrev pub flags_byte : Flags → ℕ
flags_byte f =
    weight_if f.cd 128 + weight_if f.cc 64 + weight_if f.sli 32 + weight_if f.skip 16
    + weight_if f.pci 8 + weight_if f.ida 4 + weight_if f.suspend 2 + weight_if f.mida 1

abbrev pub any_flag : Flags → Bool
any_flag f = f.cd || f.cc || f.sli || f.skip || f.pci || f.ida || f.suspend || f.mida
