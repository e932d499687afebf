-- The statements of the agreement, put together.
use Rattle.std.proofs.Common.{◌≡◌, ℕ, ◌+◌, ◌-◌, Bool, List, ◌++◌, length, get_or, drop, Ok, Result, sym, refl, ap, ◌∙◌, subst, inl, arith, length-append, length-drop}
use Rattle.std.proofs.lemmas.List.{get_or-append_right, get_or-drop, take_at}
use Rattle.format.specs.declared.ccw.Format.{Format}
use Rattle.format.specs.declared.ccw.Format.TheVariants.{Zero, One}
use Rattle.format.specs.Bytes.{reader}
use Rattle.device.specs.Machine.{Machine}
use Rattle.rules.specs.declared.place.Broken.{Broken}
use Rattle.rules.specs.Rules.{bind}
use Rattle.rules.specs.TakingUp.{reach, read_up}
use Rattle.walk.specs.SoundTrails.{cell}
use Rattle.walk.specs.Walks.{Trail}
use Rattle.walk.proofs.SoundTrails.{sound_trail}
use Rattle.channel.specs.Steps.{World, stepped, advanced, halted}
use Rattle.map.specs.Law.{Lawful}
use Rattle.map.specs.Places.{place_of}
use Rattle.map.specs.Views.{guest_bytes, ByPlace}
use Rattle.map.proofs.Seen.{length-guest_bytes, get_or-guest_bytes, copy_is}
use Rattle.translate.specs.Frames.{frame_of}
use Rattle.translate.specs.Translations.{accepted}
use Rattle.agree.specs.Correspondence.{Holds, Loaded, Corresponding}
use Rattle.agree.specs.Agreement.{CellsAgree, StartsAgree, StepsAgree, AdvancesAgree, HaltsAgree, NeverChecked, StepsKeep, Together}
use Rattle.agree.proofs.Frames.{frame_length}
use Rattle.agree.proofs.Places.{framed, place_inside}
use Rattle.agree.proofs.Taking.{list_of, hosted, host_found, host_read}
use Rattle.agree.proofs.Clear.{accepted_parts}
use Rattle.agree.proofs.Steps.{ready, area_is, step_agrees, steps_agree, halt_agrees, unchecked, advance_agrees, steps_keep}

module _ (fs : List ℕ) (free : ℕ → Bool) (law : Lawful fs free) where
  pub cells_agree : CellsAgree fs free
  unfolding CellsAgree
  cells_agree host start w l i first h =
      let r = ready fs free law start w host l in
      record {
        taken = hosted fs i (list_of w i) (cell w.cells i);
        up = ap (λ (x : Result ℕ Broken). bind x (λ a. read_up One (reach host) (reader host) a (cell w.cells i).before)) (host_found fs (reach host) (reader host) w r i first h) ∙ host_read fs (reach host) (reader host) w r i h;
        same = record { code = refl; count = refl; cd = refl; cc = refl; sli = refl; skip = refl; area = area_is fs free law start w host l i h };
      }

  -- the frame written, and nothing else
  pub loaded_first : (host : List ℕ) (start : ℕ) (w : Trail) → Holds fs free host → accepted (guest_bytes fs host) start ≡ Ok w
      → Loaded fs free start w (frame_of (place_of fs) w ++ drop 4096 host) × (guest_bytes fs (frame_of (place_of fs) w ++ drop 4096 host) ≡ guest_bytes fs host)
  loaded_first host start w h e =
      let G : List ℕ = guest_bytes fs host in
      let F : List ℕ = frame_of (place_of fs) w in
      let s = sound_trail (reach G) (reader G) w start (accepted_parts G start w e).0 in
      let lF : length F ≡ 4096 = frame_length (place_of fs) w s.cells_bound s.words_bound in
      let H : List ℕ = F ++ drop 4096 host in
      let f = framed fs free host law h in
      let long = f.long in
      let lH : length H ≡ length host = length-append F (drop 4096 host) ∙ omega (arith, length-drop 4096 host) in
      let seen : ByPlace fs H G = (
        length-guest_bytes fs host,
        λ a u.
            let p = place_inside fs (length host) f a u in
            let x : ℕ = place_of fs a in
            let on : 4096 + (x - 4096) ≡ x = omega (arith, p.0) in
            get_or-guest_bytes fs host a u ∙ sym (get_or-append_right F (drop 4096 host) 4096 x 0 lF p.0 ∙ get_or-drop 4096 host (x - 4096) 0 ∙ ap (λ y. get_or host y 0) on),
      ) in
      let same : guest_bytes fs H ≡ G = sym (copy_is fs H G seen) in (
        record {
          holds = record { count = h.count; most = h.most; whole = lH ∙ h.whole; listed = h.listed; spare = h.spare };
          frame = take_at F (drop 4096 host) 4096 lF;
          program = ap (λ z. accepted z start) same ∙ e;
        },
        same,
      )

  module _ (m : Machine) where
    pub starts_agree : StartsAgree m fs free
    unfolding StartsAgree
    starts_agree host start w s h e =
        let l = loaded_first host start w h e in
        record { loaded = l.0; bytes = l.1; device = refl; runs = (refl, inl (record { host_is = refl; direct_is = refl })) }

    pub one_step_agrees : StepsAgree m fs free
    unfolding StepsAgree
    one_step_agrees start w host direct c = step_agrees fs free law start w m host direct c

    pub advances_agree : AdvancesAgree m fs free
    unfolding AdvancesAgree
    advances_agree start w host direct k c = advance_agrees fs free law start w m k host direct c

    pub halts_agree : HaltsAgree m fs free
    unfolding HaltsAgree
    halts_agree start w host direct c = halt_agrees fs free law start w m host direct c

    pub never_checked : NeverChecked m fs free
    unfolding NeverChecked
    never_checked start w host direct k c = unchecked fs free law start w m _ _ (steps_agree fs free law start w m k host direct c).runs

    pub all_steps_keep : StepsKeep m fs free
    unfolding StepsKeep
    all_steps_keep start w host direct k c = steps_keep fs free law start w m k host direct c

    -- two worlds that are known to be the outcome
    pub together_by : (host direct host' direct' x y : World m) → host' ≡ x → direct' ≡ y → ((start : ℕ) (w : Trail) → Corresponding m fs free start w host direct → Corresponding m fs free start w x y) → Together m fs free host direct host' direct'
    unfolding Together
    together_by host direct host' direct' x y p q h start w c =
        subst (λ (z : World m). Corresponding m fs free start w host' z) (sym q) (subst (λ (z : World m). Corresponding m fs free start w z y) (sym p) (h start w c))

    -- the same, with the formats of the two programs
    pub stepped_together : (f f' : Format) (host direct host' direct' : World m) → f ≡ One → f' ≡ Zero → host' ≡ stepped m f host → direct' ≡ stepped m f' direct → Together m fs free host direct host' direct'
    stepped_together f f' host direct host' direct' a b p q =
        together_by host direct host' direct' _ _ (p ∙ ap (λ x. stepped m x host) a) (q ∙ ap (λ x. stepped m x direct) b) (λ start w c. step_agrees fs free law start w m host direct c)

    pub advanced_together : (f f' : Format) (k : ℕ) (host direct host' direct' : World m) → f ≡ One → f' ≡ Zero → host' ≡ (advanced m f k host).1 → direct' ≡ (advanced m f' k direct).1 → Together m fs free host direct host' direct'
    advanced_together f f' k host direct host' direct' a b p q =
        together_by host direct host' direct' _ _ (p ∙ ap (λ x. (advanced m x k host).1) a) (q ∙ ap (λ x. (advanced m x k direct).1) b) (λ start w c. (advance_agrees fs free law start w m k host direct c).after)

    pub halted_together : (host direct host' direct' : World m) → host' ≡ halted m host → direct' ≡ halted m direct → Together m fs free host direct host' direct'
    halted_together host direct host' direct' p q = together_by host direct host' direct' _ _ p q (λ start w c. halt_agrees fs free law start w m host direct c)
