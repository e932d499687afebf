-- The host's channel and the guest's, step by step.
use Rattle.std.proofs.Common.{◌≡◌, ℕ, zero, suc, ◌+◌, ◌-◌, ◌*◌, ◌/◌, ◌%◌, ◌<◌, ◌≤◌, min, Bool, true, false, cond, ◌||◌, eqb, ltb, ◌⊎◌, List, [], ◌∷◌, map, length, get_or, take, Some, None, Ok, Result, sym, refl, ap, ◌∙◌, subst, inl, inr, arith, length-take}
use Rattle.std.proofs.lemmas.List.{get_or-take, ext_get_or}
use Rattle.std.proofs.lemmas.Bool.{cases_Bool, lt-ltb, eq-eqb, and_from, cond-true, cond-false}
use Rattle.format.specs.declared.ccw.Format.TheVariants.{Zero, One}
use Rattle.format.specs.declared.status.StatusWord.{StatusWord}
use Rattle.format.specs.Bytes.{reader}
use Rattle.device.specs.Machine.{Machine}
use Rattle.rules.specs.declared.place.Broken.{Broken}
use Rattle.rules.specs.declared.place.Place.{Place}
use Rattle.rules.specs.Rules.{bind}
use Rattle.rules.specs.Soundness.{Sound}
use Rattle.rules.specs.TakingUp.{Cell, reach, backward, found, read_up, taken_up}
use Rattle.walk.specs.OwnBytes.{extents_of, Own}
use Rattle.walk.specs.SoundTrails.{cell, SoundTrail}
use Rattle.walk.specs.Walks.{Trail, carried}
use Rattle.walk.proofs.OwnAlone.{own_bytes_alone}
use Rattle.walk.proofs.SoundTrails.{sound_trail}
use Rattle.channel.specs.declared.run.Next.{Next}
use Rattle.channel.specs.declared.run.Next.TheVariants.{Data, Command, End}
use Rattle.channel.specs.declared.run.Run.{Run}
use Rattle.channel.specs.declared.run.Run.TheVariants.{Running, Ended}
use Rattle.channel.specs.Moves.{lay, addresses_of, gathered, Outcome, done}
use Rattle.channel.specs.Steps.{World, status_of, onwards, ran, closed, stepped_as, stepped_from, stepped, is_ended, steps, advanced, halted_from, halted}
use Rattle.program.proofs.Changing.{lay_apart}
use Rattle.map.specs.Law.{Lawful}
use Rattle.map.specs.Places.{place_of, end_of}
use Rattle.map.specs.Views.{guest_bytes, ByPlace}
use Rattle.map.proofs.Seen.{length-guest_bytes, by_place, copy_is}
use Rattle.translate.specs.Translations.{accepted, ccw_addresses, follows_cell, guest_ccw}
use Rattle.agree.specs.Correspondence.{Loaded, AtStart, Behind, Unchecked, Meeting, Corresponding}
use Rattle.agree.specs.Agreement.{Kept, AdvancedAlike}
use Rattle.agree.proofs.Places.{Framed, framed, place_inside, area_placed}
use Rattle.agree.proofs.Taking.{Ready, list_of, hosted, host_found, host_next, host_read}
use Rattle.agree.proofs.Laying.{Every, apart_from, area_inside, lay_length, lay_seen, lay_elsewhere, gathered_same, other_frame}
use Rattle.agree.proofs.Clear.{stores, accepted_parts, accepted_from, area_clear}
use Rattle.agree.proofs.Outcomes.{done_hosted, Goes, done_goes}

-- the back table
length-addresses : (ts : List Cell) → length (ccw_addresses ts) ≡ length ts
unfolding ccw_addresses
length-addresses [] = refl
length-addresses (t ∷ ts) = ap suc (length-addresses ts)

address_at : (ts : List Cell) (i : ℕ) → i < length ts → get_or (ccw_addresses ts) i 0 ≡ (cell ts i).ccw.address
unfolding ccw_addresses
address_at [] i h = let z : ⊥ = omega arith in absurd z
address_at (t ∷ ts) zero h = refl
address_at (t ∷ ts) (suc i) h = address_at ts i (omega arith)

pub back_at : (ts : List Cell) (i : ℕ) → i < length ts → guest_ccw (ccw_addresses ts) (8 * i + 8) ≡ (cell ts i).ccw.address + 8
back_at ts i h =
    let x : ℕ = 8 * i + 8 in
    let q : (x - 8) / 8 ≡ i = omega arith in
    let l = length-addresses ts in
    let above : ltb 0 x ≡ true = lt-ltb 0 x (omega arith) in
    let multiple : eqb (x % 8) 0 ≡ true = eq-eqb (x % 8) 0 (omega arith) in
    let short : ltb ((x - 8) / 8) (length (ccw_addresses ts)) ≡ true = lt-ltb ((x - 8) / 8) (length (ccw_addresses ts)) (omega arith) in
    cond-true (follows_cell (ccw_addresses ts) x) _ _ (and_from _ _ (and_from _ _ above multiple) short)
    ∙ ap (λ z. get_or (ccw_addresses ts) z 0 + 8) q
    ∙ ap (λ z. z + 8) (address_at ts i h)

reach_all : (bytes : List ℕ) → length bytes ≤ 1048576 → reach bytes ≡ length bytes
reach_all bytes h = omega arith

module _ (fs : List ℕ) (free : ℕ → Bool) (law : Lawful fs free) (start : ℕ) (w : Trail) where
  abbrev cells : List Cell
  cells = w.cells

  -- what a translated program in the host's storage comes to
  module _ (H : List ℕ) (l : Loaded fs free start w H) where
    abbrev G : List ℕ
    G = guest_bytes fs H

    pub frames_in : Framed fs (length H)
    frames_in = framed fs free H law l.holds

    guest_reach : reach G ≡ end_of fs
    guest_reach = let n = length-guest_bytes fs H in let f = frames_in.few in reach_all G (omega arith) ∙ n

    pub trail_sound : SoundTrail (reach G) (reader G) start w
    trail_sound = sound_trail (reach G) (reader G) w start (accepted_parts G start w l.program).0

    pub ready : Ready fs (reach H) (reader H) w
    ready =
        let f = frames_in in
        let s = trail_sound in
        record {
          framed = subst (Framed fs) (sym (reach_all H f.small)) f;
          same = λ a h. sym (get_or-take 4096 H a 0 h) ∙ ap (λ z. get_or z a 0) l.frame;
          few = s.cells_bound;
          short = s.words_bound;
          sound = λ i h. subst (λ n. Sound n (cell cells i)) guest_reach (s.sound i h);
          proper = s.proper;
        }

    area_in : (i : ℕ) → i < length cells → Every (λ a. a < end_of fs) (addresses_of (cell cells i))
    area_in i h = area_inside (backward (cell cells i).code) (end_of fs) false (cell cells i).ccw.value.count (cell cells i).pieces (ready.sound i h).shaped

    pub area_is : (i : ℕ) → i < length cells → addresses_of (hosted fs i (list_of w i) (cell cells i)) ≡ map (place_of fs) (addresses_of (cell cells i))
    area_is i h = area_placed fs (backward (cell cells i).code) (end_of fs) false (cell cells i).ccw.value.count (cell cells i).pieces (ready.sound i h).shaped

    -- storage that still holds the program: frame 0 and the own bytes have stayed
    pub loaded_stays : (H' G' : List ℕ) → length H' ≡ length H → ((a : ℕ) → a < 4096 → get_or H' a 0 ≡ get_or H a 0) → ByPlace fs H' G' → ((a : ℕ) → Own a (extents_of cells) → get_or G' a 0 ≡ get_or G a 0)
        → Loaded fs free start w H' × (guest_bytes fs H' ≡ G')
    loaded_stays H' G' len front seen own =
        let h = l.holds in
        let p = accepted_parts G start w l.program in
        let same : guest_bytes fs H' ≡ G' = sym (copy_is fs H' G' seen) in
        let walks = (own_bytes_alone G start w p.0).same G' (seen.0 ∙ sym (length-guest_bytes fs H)) own in
        let frame : take 4096 H' ≡ take 4096 H =
        ext_get_or 0 (take 4096 H') (take 4096 H) (length-take 4096 H' ∙ ap (min 4096) len ∙ sym (length-take 4096 H))
        (λ a u. let n = length-take 4096 H' in let lt : a < 4096 = omega arith in get_or-take 4096 H' a 0 lt ∙ front a lt ∙ sym (get_or-take 4096 H a 0 lt)) in (
          record {
            holds = record { count = h.count; most = h.most; whole = len ∙ h.whole; listed = h.listed; spare = h.spare };
            frame = frame ∙ l.frame;
            program = ap (λ z. accepted z start) same ∙ accepted_from G' start w walks p.1;
          },
          same,
        )

    -- bytes laid at guest addresses, in both storages
    pub laid_stays : (xs bs : List ℕ) → Every (λ a. a < end_of fs) xs → ((a : ℕ) → Own a (extents_of cells) → get_or (lay xs bs G) a 0 ≡ get_or G a 0)
        → Loaded fs free start w (lay (map (place_of fs) xs) bs H) × (guest_bytes fs (lay (map (place_of fs) xs) bs H) ≡ lay xs bs G)
    laid_stays xs bs inside own =
        let f = frames_in in
        loaded_stays (lay (map (place_of fs) xs) bs H) (lay xs bs G) (lay_length (map (place_of fs) xs) bs H)
        (λ a u. lay_elsewhere fs xs bs H a inside (λ x v e. let q = place_inside fs (length H) f x v in omega arith))
        (lay_seen fs xs bs H G f inside (by_place fs H)) own

    -- what a cell stores is no own byte
    pub own_stays : (i : ℕ) (bs : List ℕ) → i < length cells → (stores (cell cells i) ≡ false → bs ≡ []) → (a : ℕ) → Own a (extents_of cells) → get_or (lay (addresses_of (cell cells i)) bs G) a 0 ≡ get_or G a 0
    own_stays i bs h none a o =
        elim (cases_Bool (stores (cell cells i))) [
          | inl e ↦ lay_apart (addresses_of (cell cells i)) bs G a (apart_from (λ x. Own x (extents_of cells) → ⊥) (addresses_of (cell cells i)) a (area_clear (end_of fs) cells i (accepted_parts G start w l.program).1 h (ready.sound i h) e) (λ x n q. n (subst (λ y. Own y (extents_of cells)) (sym q) o)))
          | inr e ↦ ap (λ z. get_or (lay (addresses_of (cell cells i)) z G) a 0) (none e)
        ]

    -- the cell that both channels take up
    pub record Taking (host direct : Place) : Type 0 where
      pub index : ℕ
      pub within : index < length cells
      pub host_up : taken_up One H host ≡ Ok (hosted fs index (list_of w index) (cell cells index))
      pub direct_up : taken_up Zero G direct ≡ Ok (cell cells index)

    both_take : (i : ℕ) (host direct : Place) → i < length cells → found One (reach H) (reader H) host.address host.first ≡ Ok (8 * i) → found Zero (reach G) (reader G) direct.address direct.first ≡ Ok (cell cells i).ccw.address
        → (cell cells i).before ≡ host.command → (cell cells i).before ≡ direct.command → Taking host direct
    both_take i host direct h fh fd ch cd = record {
      index = i;
      within = h;
      host_up =
          ap (λ (r : Result ℕ Broken). bind r (λ a. read_up One (reach H) (reader H) a host.command)) fh
          ∙ ap (read_up One (reach H) (reader H) (8 * i)) (sym ch)
          ∙ host_read fs (reach H) (reader H) w ready i h;
      direct_up =
          ap (λ (r : Result ℕ Broken). bind r (λ a. read_up Zero (reach G) (reader G) a direct.command)) fd
          ∙ ap (read_up Zero (reach G) (reader G) (cell cells i).ccw.address) (sym cd)
          ∙ trail_sound.here i h;
    }

    pub takes : (host direct : Place) → AtStart start host direct ⊎ Behind w host direct → Taking host direct
    takes host direct (inl q) =
        let s = trail_sound in
        both_take 0 host direct s.some
        (ap (λ (p : Place). found One (reach H) (reader H) p.address p.first) q.host_is ∙ host_found fs (reach H) (reader H) w ready 0 true s.some)
        (ap (λ (p : Place). found Zero (reach G) (reader G) p.address p.first) q.direct_is ∙ s.first)
        (s.opening ∙ ap (λ (p : Place). p.command) (sym q.host_is))
        (s.opening ∙ ap (λ (p : Place). p.command) (sym q.direct_is))
    takes host direct (inr q) =
        let f = trail_sound.next q.index q.within q.goes in
        both_take f.index host direct f.within
        (ap (λ (p : Place). found One (reach H) (reader H) p.address p.first) q.host_is ∙ host_next fs (reach H) (reader H) w ready q.index f.index q.within f.within f.leads)
        (ap (λ (p : Place). found Zero (reach G) (reader G) p.address p.first) q.direct_is ∙ f.finds)
        (f.carries ∙ ap (λ (p : Place). p.command) (sym q.host_is))
        (f.carries ∙ ap (λ (p : Place). p.command) (sym q.direct_is))

  next_meets : (i : ℕ) (n : Next) → i < length cells → Goes (cell cells i).ccw.value n → Meeting start w (onwards (8 * i) (cell cells i).code n) (onwards (cell cells i).ccw.address (cell cells i).code n)
  next_meets i (Data owed) h g =
      let t : Cell = cell cells i in
      let c : Some t.code ≡ carried t = sym (ap (λ x. cond x (Some t.code) None) g) in
      (refl, inr (record { index = i; within = h; goes = ap (λ x. x || t.ccw.value.flags.cc) g; host_is = λ d. record { address = 8 * i + 8; first = false; command = c d }; direct_is = λ d. record { address = t.ccw.address + 8; first = false; command = c d } }))
  next_meets i Command h g =
      let t : Cell = cell cells i in
      let c : None ≡ carried t = sym (ap (λ x. cond x (Some t.code) None) g.0) in
      (refl, inr (record { index = i; within = h; goes = (λ d. g.0 d || g.1 d); host_is = λ d. record { address = 8 * i + 8; first = false; command = c d }; direct_is = λ d. record { address = t.ccw.address + 8; first = false; command = c d } }))
  next_meets i (End device subchannel residual) h g = (ap (λ x. status_of x device subchannel residual) (back_at cells i h), g)

  module _ (m : Machine) where
    abbrev Agrees : World m → World m → Type 0
    Agrees = Corresponding m fs free start w

    -- a cell that both have taken up
    ran_agree : (H : List ℕ) (l : Loaded fs free start w H) (s : m.State) (i owed : ℕ) → i < length cells → Agrees (ran m (hosted fs i (list_of w i) (cell cells i)) owed H s) (ran m (cell cells i) owed (guest_bytes fs H) s)
    ran_agree H l s i owed h =
        let t : Cell = cell cells i in
        let ht : Cell = hosted fs i (list_of w i) t in
        let xs : List ℕ = addresses_of t in
        let G : List ℕ = guest_bytes fs H in
        let inside = area_in H l i h in
        let ea = area_is H l i h in
        let eb : gathered ht H ≡ gathered t G = ap (map (reader H)) ea ∙ gathered_same fs xs H G inside (by_place fs H) in
        let o : Outcome m = done m t owed (gathered t G) s in
        let eo : done m ht owed (gathered ht H) s ≡ o = ap (λ y. done m ht owed y s) eb ∙ done_hosted m fs i (list_of w i) t owed (gathered t G) s in
        let g = done_goes m t owed (gathered t G) s in
        let after = laid_stays H l xs o.stored inside (own_stays H l i o.stored h g.1) in
        let W : List ℕ → Outcome m → World m = λ at z. record { storage = lay at z.stored H; state = z.state; run = onwards (8 * i) t.code z.next } in
        let base : Agrees (W (map (place_of fs) xs) o) (ran m t owed G s) = record { loaded = after.0; bytes = after.1; device = refl; runs = next_meets i o.next h g.0 } in
        let ew : W (map (place_of fs) xs) o ≡ W (addresses_of ht) (done m ht owed (gathered ht H) s) = λ d. W (sym ea d) (sym eo d) in
        subst (λ (x : World m). Agrees x (ran m t owed G s)) ew base

    step_from : (H : List ℕ) (s : m.State) (host direct : Run) → Loaded fs free start w H → Meeting start w host direct → Agrees (stepped_from m One H s host) (stepped_from m Zero (guest_bytes fs H) s direct)
    step_from H s (Running ph oh) (Running pd od) l q =
        let k = takes H l ph pd q.1 in
        let G : List ℕ = guest_bytes fs H in
        let a : stepped_from m One H s (Running ph oh) ≡ ran m (hosted fs k.index (list_of w k.index) (cell cells k.index)) oh H s = ap (stepped_as m ph.command oh H s) k.host_up in
        let b : stepped_from m Zero G s (Running pd od) ≡ ran m (cell cells k.index) oh G s = ap (stepped_as m pd.command od G s) k.direct_up ∙ ap (λ z. ran m (cell cells k.index) z G s) (sym q.0) in
        subst (λ (x : World m). Agrees (stepped_from m One H s (Running ph oh)) x) (sym b) (subst (λ (x : World m). Agrees x (ran m (cell cells k.index) oh G s)) (sym a) (ran_agree H l s k.index oh k.within))
    step_from H s (Running ph oh) (Ended d) l q = absurd q
    step_from H s (Ended h) (Running pd od) l q = absurd q
    step_from H s (Ended h) (Ended d) l q = record { loaded = l; bytes = refl; device = refl; runs = q }

    -- the direct side may be given by anything equal
    on_direct : (F : List ℕ → m.State → World m) (x : World m) (H G : List ℕ) (s s' : m.State) → guest_bytes fs H ≡ G → s ≡ s' → Agrees x (F (guest_bytes fs H) s) → Agrees x (F G s')
    on_direct F x H G s s' e f a = subst (λ g. Agrees x (F g s')) e (subst (λ z. Agrees x (F (guest_bytes fs H) z)) f a)

    pub step_agrees : (host direct : World m) → Agrees host direct → Agrees (stepped m One host) (stepped m Zero direct)
    step_agrees host direct c =
        on_direct (λ g s. stepped_from m Zero g s direct.run) (stepped m One host) host.storage direct.storage host.state direct.state c.bytes c.device
        (step_from host.storage host.state host.run direct.run c.loaded c.runs)

    pub steps_agree : (k : ℕ) (host direct : World m) → Agrees host direct → Agrees (steps m One k host) (steps m Zero k direct)
    unfolding steps
    steps_agree zero host direct c = c
    steps_agree (suc k) host direct c = steps_agree k (stepped m One host) (stepped m Zero direct) (step_agrees host direct c)

    -- the halt
    halt_places : (H : List ℕ) (s : m.State) (ph pd : Place) (oh od : ℕ) → Loaded fs free start w H → AtStart start ph pd ⊎ Behind w ph pd → Agrees (halted_from m H s (Running ph oh)) (halted_from m (guest_bytes fs H) s (Running pd od))
    halt_places H s ph pd oh od l (inl q) =
        let base : Agrees (halted_from m H s (Running (record { address = 0; first = true; command = None }) oh)) (halted_from m (guest_bytes fs H) s (Running (record { address = start; first = true; command = None }) od)) =
        record { loaded = l; bytes = refl; device = refl; runs = (refl, λ u. omega arith) } in
        subst (λ (p : Place). Agrees (halted_from m H s (Running ph oh)) (halted_from m (guest_bytes fs H) s (Running p od))) (sym q.direct_is)
        (subst (λ (p : Place). Agrees (halted_from m H s (Running p oh)) (halted_from m (guest_bytes fs H) s (Running (record { address = start; first = true; command = None }) od))) (sym q.host_is) base)
    halt_places H s ph pd oh od l (inr q) =
        let t : Cell = cell cells q.index in
        let on_host : Place = record { address = 8 * q.index + 8; first = false; command = carried t } in
        let on_guest : Place = record { address = t.ccw.address + 8; first = false; command = carried t } in
        let base : Agrees (halted_from m H s (Running on_host oh)) (halted_from m (guest_bytes fs H) s (Running on_guest od)) =
        record { loaded = l; bytes = refl; device = refl; runs = (ap (λ x. status_of x (closed m (carried t) s).0 0 0) (back_at cells q.index q.within), λ u. omega arith) } in
        subst (λ (p : Place). Agrees (halted_from m H s (Running ph oh)) (halted_from m (guest_bytes fs H) s (Running p od))) (sym q.direct_is)
        (subst (λ (p : Place). Agrees (halted_from m H s (Running p oh)) (halted_from m (guest_bytes fs H) s (Running on_guest od))) (sym q.host_is) base)

    halt_from : (H : List ℕ) (s : m.State) (host direct : Run) → Loaded fs free start w H → Meeting start w host direct → Agrees (halted_from m H s host) (halted_from m (guest_bytes fs H) s direct)
    halt_from H s (Running ph oh) (Running pd od) l q = halt_places H s ph pd oh od l q.1
    halt_from H s (Running ph oh) (Ended d) l q = absurd q
    halt_from H s (Ended h) (Running pd od) l q = absurd q
    halt_from H s (Ended h) (Ended d) l q = record { loaded = l; bytes = refl; device = refl; runs = q }

    pub halt_agrees : (host direct : World m) → Agrees host direct → Agrees (halted m host) (halted m direct)
    halt_agrees host direct c =
        on_direct (λ g s. halted_from m g s direct.run) (halted m host) host.storage direct.storage host.state direct.state c.bytes c.device
        (halt_from host.storage host.state host.run direct.run c.loaded c.runs)

    -- ends and counts
    pub ends_same : (host direct : Run) → Meeting start w host direct → is_ended host ≡ is_ended direct
    ends_same (Running ph oh) (Running pd od) q = refl
    ends_same (Running ph oh) (Ended d) q = absurd q
    ends_same (Ended h) (Running pd od) q = absurd q
    ends_same (Ended h) (Ended d) q = refl

    pub unchecked : (host direct : Run) → Meeting start w host direct → Unchecked host × Unchecked direct
    unchecked (Running ph oh) (Running pd od) q = (tt, tt)
    unchecked (Running ph oh) (Ended d) q = absurd q
    unchecked (Ended h) (Running pd od) q = absurd q
    unchecked (Ended h) (Ended d) q = (λ e. q.1 (sym (ap (λ (x : StatusWord). x.subchannel_status) q.0) ∙ e), q.1)

    pub advance_agrees : (k : ℕ) (host direct : World m) → Agrees host direct → AdvancedAlike m fs free start w (advanced m One k host) (advanced m Zero k direct)
    unfolding advanced
    advance_agrees zero host direct c = record { counts = refl; ends = ends_same host.run direct.run c.runs; after = c }
    advance_agrees (suc k) host direct c =
        let e = ends_same host.run direct.run c.runs in
        let ih = advance_agrees k (stepped m One host) (stepped m Zero direct) (step_agrees host direct c) in
        let rh : ℕ × World m = advanced m One k (stepped m One host) in
        let rd : ℕ × World m = advanced m Zero k (stepped m Zero direct) in
        let stop : AdvancedAlike m fs free start w (0, host) (0, direct) = record { counts = refl; ends = e; after = c } in
        let on : AdvancedAlike m fs free start w (suc rh.0, rh.1) (suc rd.0, rd.1) = record { counts = ap suc ih.counts; ends = ih.ends; after = ih.after } in
        elim (cases_Bool (is_ended host.run)) [
          | inl t ↦ subst2-alike (0, host) (0, direct) _ _ (sym (cond-true (is_ended host.run) _ _ t)) (sym (cond-true (is_ended direct.run) _ _ (sym e ∙ t))) stop
          | inr t ↦ subst2-alike (suc rh.0, rh.1) (suc rd.0, rd.1) _ _ (sym (cond-false (is_ended host.run) _ _ t)) (sym (cond-false (is_ended direct.run) _ _ (sym e ∙ t))) on
        ]
      where
        subst2-alike : (x y x' y' : ℕ × World m) → x ≡ x' → y ≡ y' → AdvancedAlike m fs free start w x y → AdvancedAlike m fs free start w x' y'
        subst2-alike x y x' y' p q a = subst (λ (z : ℕ × World m). AdvancedAlike m fs free start w x' z) q (subst (λ (z : ℕ × World m). AdvancedAlike m fs free start w z y) p a)

    -- what a step keeps
    keep_from : (H : List ℕ) (s : m.State) (host direct : Run) → Loaded fs free start w H → Meeting start w host direct
        → Kept m fs w (record { storage = H; state = s; run = host }) (stepped_from m One H s host) (record { storage = guest_bytes fs H; state = s; run = direct }) (stepped_from m Zero (guest_bytes fs H) s direct)
    keep_from H s (Running ph oh) (Running pd od) l q =
        let k = takes H l ph pd q.1 in
        let i : ℕ = k.index in
        let t : Cell = cell cells i in
        let ht : Cell = hosted fs i (list_of w i) t in
        let G : List ℕ = guest_bytes fs H in
        let oh' : Outcome m = done m ht oh (gathered ht H) s in
        let od' : Outcome m = done m t od (gathered t G) s in
        let a : (stepped_from m One H s (Running ph oh)).storage ≡ lay (map (place_of fs) (addresses_of t)) oh'.stored H =
        ap (λ r. (stepped_as m ph.command oh H s r).storage) k.host_up ∙ ap (λ z. lay z oh'.stored H) (area_is H l i k.within) in
        let b : (stepped_from m Zero G s (Running pd od)).storage ≡ lay (addresses_of t) od'.stored G = ap (λ r. (stepped_as m pd.command od G s r).storage) k.direct_up in
        record {
          long = ap length a ∙ lay_length (map (place_of fs) (addresses_of t)) oh'.stored H;
          elsewhere = λ y out. ap (λ z. get_or z y 0) a ∙ lay_elsewhere fs (addresses_of t) oh'.stored H y (area_in H l i k.within) (other_frame fs y out);
          own = λ y o. ap (λ z. get_or z y 0) b ∙ own_stays H l i od'.stored k.within (done_goes m t od (gathered t G) s).1 y o;
        }
    keep_from H s (Running ph oh) (Ended d) l q = absurd q
    keep_from H s (Ended h) (Running pd od) l q = absurd q
    keep_from H s (Ended h) (Ended d) l q = record { long = refl; elsewhere = λ y out. refl; own = λ y o. refl }

    step_keeps : (host direct : World m) → Agrees host direct → Kept m fs w host (stepped m One host) direct (stepped m Zero direct)
    step_keeps host direct c =
        let k = keep_from host.storage host.state host.run direct.run c.loaded c.runs in
        let G : List ℕ → m.State → Type 0 = λ g s. (a : ℕ) → Own a (extents_of cells) → get_or (stepped_from m Zero g s direct.run).storage a 0 ≡ get_or g a 0 in
        record { long = k.long; elsewhere = k.elsewhere; own = subst (λ g. G g direct.state) c.bytes (subst (G (guest_bytes fs host.storage)) c.device k.own) }

    pub steps_keep : (k : ℕ) (host direct : World m) → Agrees host direct → Kept m fs w host (steps m One k host) direct (steps m Zero k direct)
    unfolding steps
    steps_keep zero host direct c = record { long = refl; elsewhere = λ y out. refl; own = λ y o. refl }
    steps_keep (suc k) host direct c =
        let one = step_keeps host direct c in
        let more = steps_keep k (stepped m One host) (stepped m Zero direct) (step_agrees host direct c) in
        record {
          long = more.long ∙ one.long;
          elsewhere = λ y out. more.elsewhere y out ∙ one.elsewhere y out;
          own = λ y o. more.own y o ∙ one.own y o;
        }
