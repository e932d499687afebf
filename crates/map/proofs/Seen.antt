-- The bytes that a guest's view shows.
use Rattle.std.proofs.Common.{◌≡◌, ℕ, ◌<◌, List, length, get_or, sym, ◌∙◌, zero-add}
use Rattle.std.proofs.lemmas.List.FromFn.{length-map-range_with_len, get_or-map-range_with_len}
use Rattle.std.proofs.lemmas.List.{ext_get_or}
use Rattle.map.specs.Places.{end_of}
use Rattle.map.specs.Views.{byte_at, guest_bytes, ByPlace}

module _ (fs host : List ℕ) where
  pub length-guest_bytes : length (guest_bytes fs host) ≡ end_of fs
  unfolding guest_bytes
  length-guest_bytes = length-map-range_with_len (byte_at fs host) 0 (end_of fs)

  pub get_or-guest_bytes : (address : ℕ) → address < end_of fs → get_or (guest_bytes fs host) address 0 ≡ byte_at fs host address
  unfolding guest_bytes
  get_or-guest_bytes address h = get_or-map-range_with_len (byte_at fs host) 0 (end_of fs) address address 0 h (zero-add address)

  pub by_place : ByPlace fs host (guest_bytes fs host)
  by_place = (length-guest_bytes, get_or-guest_bytes)

  pub copy_is : (copy : List ℕ) → ByPlace fs host copy → copy ≡ guest_bytes fs host
  copy_is copy c =
      ext_get_or 0 copy (guest_bytes fs host) (c.0 ∙ sym length-guest_bytes)
      (λ i h. let inside : i < end_of fs = rw c.0 at h in c.1 i inside ∙ sym (get_or-guest_bytes i inside))

-- what the functions of a view need
pub ruleset seen = (length-guest_bytes, get_or-guest_bytes, copy_is)
