-- Stores outside the program's own bytes, and pages without its data moved.
use Rattle.std.proofs.Common.{◌≡◌, ℕ, ◌+◌, ◌*◌, ◌/◌, ◌%◌, ◌<◌, ◌≤◌, min, Bool, true, false, not, ◌&&◌, is_some, cond, eqb, List, [], ◌∷◌, ◌++◌, map, length, get_or, take, set, sym, refl, ap, ◌∙◌, subst, inl, inr, arith, length-set, length-take}
use Rattle.std.proofs.lemmas.List.{get_or-take, ext_get_or, get_or-set_same, get_or-set_other}
use Rattle.std.proofs.lemmas.Bool.{cases_eq, both_ways, not-true, or_parts, eqb-false, eq-eqb, ne_eqb, cond-true, cond-false}
use Rattle.device.specs.Machine.{Machine}
use Rattle.rules.specs.declared.pieces.Piece.{Piece}
use Rattle.rules.specs.Areas.{run}
use Rattle.rules.specs.TakingUp.{Cell}
use Rattle.walk.specs.declared.own_bytes.Extent.{Extent}
use Rattle.walk.specs.OwnBytes.{extents_of, touched, Own}
use Rattle.walk.specs.Walks.{Trail}
use Rattle.walk.proofs.Touching.{tells}
use Rattle.channel.specs.Moves.{lay}
use Rattle.program.proofs.Changing.{lay_apart}
use Rattle.map.specs.Law.{Lawful, exchanged}
use Rattle.map.specs.Places.{place_of, end_of}
use Rattle.map.specs.Views.{guest_bytes, ByPlace}
use Rattle.map.proofs.Seen.{length-guest_bytes, get_or-guest_bytes, copy_is}
use Rattle.translate.specs.Frames.{first_of, words_of, words_bytes, filled, cells_part}
use Rattle.translate.specs.Translations.{accepted, piece_in, data_in}
use Rattle.agree.specs.Correspondence.{Loaded, Corresponding}
use Rattle.agree.specs.Agreement.{with_storage, StoresAgree, StoreKeeps, PageMoved, MovesAgree, MoveKeeps}
use Rattle.agree.proofs.Clear.{none_told}
use Rattle.agree.proofs.Places.{Framed, framed}
use Rattle.agree.proofs.Laying.{Every, every_append, apart_from, run_inside, run_up}
use Rattle.agree.proofs.Steps.{laid_stays}

module _ (fs : List ℕ) (free : ℕ → Bool) (law : Lawful fs free) (m : Machine) where
  pub stores_agree : StoresAgree m fs free
  unfolding StoresAgree
  stores_agree start w host direct address bytes c inside away =
      let xs : List ℕ = run false address (length bytes) in
      let H : List ℕ = host.storage in
      let G : List ℕ = guest_bytes fs H in
      let off : Every (λ a. Own a (extents_of w.cells) → ⊥) xs = run_up (λ a. Own a (extents_of w.cells) → ⊥) address (length bytes) away in
      let own : (a : ℕ) → Own a (extents_of w.cells) → get_or (lay xs bytes G) a 0 ≡ get_or G a 0 =
      λ a o. lay_apart xs bytes G a (apart_from (λ x. Own x (extents_of w.cells) → ⊥) xs a off (λ x n q. n (subst (λ y. Own y (extents_of w.cells)) (sym q) o))) in
      let after = laid_stays fs free law start w H c.loaded xs bytes (run_inside (end_of fs) address (length bytes) inside) own in
      record { loaded = after.0; bytes = after.1 ∙ ap (lay xs bytes) c.bytes; device = c.device; runs = c.runs }

  pub store_keeps : (es : List Extent) (low n : ℕ) → not (is_some (touched es low n)) ≡ true → StoreKeeps m fs free es low n
  unfolding StoreKeeps StoresAgree
  store_keeps es low n allowed start w host direct bytes c own size inside =
      let fits : low + length bytes ≤ end_of fs = omega (arith, size, inside) in
      stores_agree start w host direct low bytes c fits
      (λ a from to o. none_told es low n (touched es low n) (not-true (is_some (touched es low n)) allowed) (tells es low n) a from (omega (arith, size, to)) (subst (Own a) (sym own) o))

-- no word leads into the page
pieces_off : (page : ℕ) (ps : List Piece) → piece_in page ps ≡ false → Every (λ a. a / 4096 ≡ page → ⊥) (map first_of ps)
unfolding piece_in Every
pieces_off page [] e = tt
pieces_off page (p ∷ ps) e =
    let u = or_parts (eqb (p.first / 4096) page) (piece_in page ps) e in
    (eqb-false (p.first / 4096) page u.0, pieces_off page ps u.1)

words_off : (page : ℕ) (ts : List Cell) → data_in ts page ≡ false → Every (λ a. a / 4096 ≡ page → ⊥) (words_of ts)
unfolding data_in words_of Every
words_off page [] e = tt
words_off page (t ∷ ts) e =
    let u = or_parts (piece_in page t.pieces) (data_in ts page) e in
    every_append (λ a. a / 4096 ≡ page → ⊥) (map first_of t.pieces) (words_of ts) (pieces_off page t.pieces u.0) (words_off page ts u.1)

map_same : (P : ℕ → Type 0) (f g : ℕ → ℕ) (xs : List ℕ) → ((a : ℕ) → P a → f a ≡ g a) → Every P xs → map f xs ≡ map g xs
unfolding Every
map_same P f g [] h e = refl
map_same P f g (x ∷ xs) h e = λ i. h x e.0 i ∷ map_same P f g xs h e.1 i

exchanged_in : (free : ℕ → Bool) (frame old f count : ℕ) → exchanged free frame old f ≡ true → old < count → ((x : ℕ) → free x ≡ true → x < count) → f < count
exchanged_in free frame old f count e o s =
    elim (cases_eq f frame) [
      | inl q ↦ absurd (both_ways _ (cond-true (eqb f frame) false (cond (eqb f old) true (free f)) (eq-eqb f frame q)) e)
      | inr q ↦
          let e2 : cond (eqb f old) true (free f) ≡ true = sym (cond-false (eqb f frame) false (cond (eqb f old) true (free f)) (ne_eqb f frame q)) ∙ e in
          elim (cases_eq f old) [
            | inl r ↦ subst (λ x. x < count) (sym r) o
            | inr r ↦ s f (sym (cond-false (eqb f old) true (free f) (ne_eqb f old r)) ∙ e2)
          ]
    ]

module _ (fs : List ℕ) (free : ℕ → Bool) (law : Lawful fs free) (page frame : ℕ) (inside : page < length fs) (spare : free frame ≡ true) where
  abbrev moved : List ℕ
  moved = set fs page frame

  abbrev old : ℕ
  old = get_or fs page 0

  here : get_or moved page 0 ≡ frame
  here = get_or-set_same fs page frame 0 inside

  others : (q : ℕ) → (q ≡ page → ⊥) → get_or moved q 0 ≡ get_or fs q 0
  others q h = get_or-set_other fs page q frame 0 h

  place_other : (a : ℕ) → (a / 4096 ≡ page → ⊥) → place_of moved a ≡ place_of fs a
  place_other a h = ap (λ x. x * 4096 + a % 4096) (others (a / 4096) h)

  -- a frame that is free is no page's
  not_listed : (q : ℕ) → q < length fs → get_or fs q 0 ≡ frame → ⊥
  not_listed q h e = both_ways (free frame) (subst (λ x. free x ≡ false) e (law.4 q h)) spare

  seen_moved : (H M : List ℕ) → Framed fs (length H) → PageMoved old frame H M → ByPlace moved M (guest_bytes fs H)
  seen_moved H M f p = (
    length-guest_bytes fs H ∙ ap (λ n. n * 4096) (sym (length-set fs page frame)),
    λ a u.
        let long = length-set fs page frame in
        let h : a < length fs * 4096 = subst (λ n. a < n * 4096) long u in
        get_or-guest_bytes fs H a h ∙ at a h,
  )
    where
      at : (a : ℕ) → a < length fs * 4096 → get_or H (place_of fs a) 0 ≡ get_or M (place_of moved a) 0
      at a h =
          elim (cases_eq (a / 4096) page) [
            | inl e ↦ (
                let to : get_or moved (a / 4096) 0 ≡ frame = ap (λ q. get_or moved q 0) e ∙ here in
                let d : place_of moved a / 4096 ≡ frame = omega arith in
                let r : place_of moved a % 4096 ≡ a % 4096 = omega arith in
                let b : place_of fs a ≡ old * 4096 + place_of moved a % 4096 = ap (λ q. get_or fs q 0 * 4096 + a % 4096) e ∙ ap (λ x. old * 4096 + x) (sym r) in
                ap (λ x. get_or H x 0) b ∙ sym (p.copied (place_of moved a) d))
            | inr e ↦ (
                let q : a / 4096 < length fs = omega arith in
                let d : place_of fs a / 4096 ≡ get_or fs (a / 4096) 0 = omega arith in
                sym (ap (λ x. get_or M x 0) (place_other a e) ∙ p.kept (place_of fs a) (λ x. not_listed (a / 4096) q (sym d ∙ x)) (λ x. e (f.apart (a / 4096) page q inside (sym d ∙ x)))))
          ]

  pub loaded_moved : (free' : ℕ → Bool) (start : ℕ) (w : Trail) (H M : List ℕ) → Loaded fs free start w H → ((f : ℕ) → free' f ≡ exchanged free frame old f) → data_in w.cells page ≡ false → PageMoved old frame H M
      → Loaded moved free' start w M × (guest_bytes moved M ≡ guest_bytes fs H)
  loaded_moved free' start w H M l ex off p =
      let h = l.holds in
      let fm = framed fs free H law h in
      let same : guest_bytes moved M ≡ guest_bytes fs H = sym (copy_is moved M (guest_bytes fs H) (seen_moved H M fm p)) in
      let low : 1 ≤ old = (fm.inside page inside).0 in
      let first : 1 ≤ frame = (law.5 frame spare).0 in
      let front : take 4096 M ≡ take 4096 H =
      ext_get_or 0 (take 4096 M) (take 4096 H) (length-take 4096 M ∙ ap (min 4096) p.long ∙ sym (length-take 4096 H))
      (λ a u. let n = length-take 4096 M in let lt : a < 4096 = omega arith in get_or-take 4096 M a 0 lt ∙ p.kept a (λ e. omega arith) (λ e. omega arith) ∙ sym (get_or-take 4096 H a 0 lt)) in
      let words : map (place_of fs) (words_of w.cells) ≡ map (place_of moved) (words_of w.cells) = map_same (λ a. a / 4096 ≡ page → ⊥) (place_of fs) (place_of moved) (words_of w.cells) (λ a e. sym (place_other a e)) (words_off page w.cells off) in (
        record {
          holds = record {
            count = h.count;
            most = h.most;
            whole = p.long ∙ h.whole;
            listed = λ q u. elim (cases_eq q page) [
              | inl e ↦ (let z : get_or moved q 0 ≡ frame = ap (λ x. get_or moved x 0) e ∙ here in let s = h.spare frame spare in omega arith)
              | inr e ↦ (let z = others q e in let long = length-set fs page frame in let s = h.listed q (omega arith) in omega arith)
            ];
            spare = λ f e. exchanged_in free frame old f h.count (sym (ex f) ∙ e) (h.listed page inside) h.spare;
          };
          frame = front ∙ l.frame ∙ ap (λ ws. filled 1024 (cells_part w) ++ filled 3072 (words_bytes ws)) words;
          program = ap (λ z. accepted z start) same ∙ l.program;
        },
        same,
      )

pub moves_agree : (fs : List ℕ) (free : ℕ → Bool) → Lawful fs free → (m : Machine) → MovesAgree m fs free
unfolding MovesAgree
moves_agree fs free law m start w host direct page frame fs' free' after c done off p =
    let l = loaded_moved fs free law page frame done.0 done.1 free' start w host.storage after c.loaded done.3 off p in
    let base : Corresponding m (set fs page frame) free' start w (with_storage host after) direct = record { loaded = l.0; bytes = l.1 ∙ c.bytes; device = c.device; runs = c.runs } in
    subst (λ z. Corresponding m z free' start w (with_storage host after) direct) (sym done.2) base

no_data : (d p q : Bool) → ((not d && p) && q) ≡ true → d ≡ false
no_data true p q e = sym e
no_data false p q e = refl

pub move_keeps : (fs : List ℕ) (free : ℕ → Bool) → Lawful fs free → (m : Machine) (page frame : ℕ) (d p q : Bool) → ((not d && p) && q) ≡ true → MoveKeeps m fs free page frame d
unfolding MoveKeeps MovesAgree
move_keeps fs free law m page frame d p q allowed start w host direct fs' free' after c said done copied =
    moves_agree fs free law m start w host direct page frame fs' free' after c done (said ∙ no_data d p q allowed) copied
