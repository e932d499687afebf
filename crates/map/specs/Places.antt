-- Where guest addresses lie in the host. A reader must believe: pages and frames have 4,096 bytes, and an
-- address keeps its offset while the page's frame takes the place of its page.
use Rattle.std.specs.Prelude.{◌≡◌, ℕ, ◌+◌, ◌*◌, ◌/◌, ◌%◌, ◌<◌, List, length, Some, None, Option, slice_index}
use Rattle.map.specs.declared.address.GuestAddress.{GuestAddress}

-- the bytes of a page, and of a frame
abbrev pub page_size : ℕ
page_size = 4096

-- the first address past the guest's storage
abbrev pub end_of : List ℕ → ℕ
end_of fs = length fs * page_size

abbrev pub place_of : List ℕ → ℕ → ℕ
place_of fs address = slice_index fs (address / page_size) * page_size + address % page_size

-- the guest has this address, and it lies at this host address
abbrev pub LiesAt : List ℕ → ℕ → ℕ → Type 0
LiesAt fs guest host = (guest < end_of fs) × (place_of fs guest ≡ host)

-- no guest address lies at this host address
abbrev pub NothingAt : List ℕ → ℕ → Type 0
NothingAt fs host = (guest : ℕ) → LiesAt fs guest host → ⊥

-- two guest addresses never share a host byte
abbrev pub NeverShared : List ℕ → ℕ → ℕ → Type 0
NeverShared fs guest host = (other : ℕ) → LiesAt fs other host → other ≡ guest

-- an address keeps its offset in the page
abbrev pub OffsetKept : ℕ → ℕ → Type 0
OffsetKept guest host = host % page_size ≡ guest % page_size

-- the home of a place is the address that was placed
abbrev pub HomeOfPlace : List ℕ → ℕ → Option GuestAddress → Type 0
HomeOfPlace fs host answer = (guest : GuestAddress) → LiesAt fs guest.0 host → answer ≡ Some guest

-- the home of any other host address is none
abbrev pub HomeOfOther : List ℕ → ℕ → Option GuestAddress → Type 0
HomeOfOther fs host answer = NothingAt fs host → answer ≡ None
