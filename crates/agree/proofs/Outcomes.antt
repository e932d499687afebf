-- What a CCW does to a device has no address in it, and how it may go on.
use Rattle.std.proofs.Common.{◌≡◌, ℕ, ◌-◌, Bool, true, false, cond, not, ◌&&◌, ◌||◌, eqb, List, [], Some, None, Option, refl, ◌∙◌, arith}
use Rattle.std.proofs.lemmas.Bool.{both_ways}
use Rattle.format.specs.declared.ccw.Ccw.{Ccw}
use Rattle.device.specs.declared.interface.Begun.{Begun}
use Rattle.device.specs.declared.interface.Begun.TheVariants.{Immediate, Open}
use Rattle.device.specs.Machine.{Machine}
use Rattle.rules.specs.TakingUp.{Cell, reading}
use Rattle.channel.specs.declared.run.Next.{Next}
use Rattle.channel.specs.declared.run.Next.TheVariants.{Data, Command, End}
use Rattle.channel.specs.Moves.{Outcome, finished, settled, moved_count, moved_bytes, moved_state, moved, begun_as, done_with, done}
use Rattle.agree.proofs.Taking.{hosted}

pub done_hosted : (m : Machine) (fs : List ℕ) (i list : ℕ) (t : Cell) (owed : ℕ) (bytes : List ℕ) (s : m.State) → done m (hosted fs i list t) owed bytes s ≡ done m t owed bytes s
done_hosted m fs i list t owed bytes s = refl

-- how a CCW with these flags may go on
abbrev pub Goes : Ccw → Next → Type 0
Goes w (Data owed) = w.flags.cd ≡ true
Goes w Command = (w.flags.cd ≡ false) × (w.flags.cc ≡ true)
Goes w (End device subchannel residual) = subchannel ≡ 0x20 → ⊥

finished_goes : (w : Ccw) (status residual : ℕ) (incorrect : Bool) → Goes w (finished w status residual incorrect)
finished_goes w status residual incorrect = go w.flags.cc w.flags.cd (eqb status 12) incorrect refl refl
  where
    go : (cc cd e l : Bool) → w.flags.cc ≡ cc → w.flags.cd ≡ cd → Goes w (cond (cc && not cd && e && not l) Command (End status (cond l 0x40 0) residual))
    go true false true false p q = (q, p)
    go true false true true p q = λ u. omega arith
    go true false false true p q = λ u. omega arith
    go true false false false p q = λ u. omega arith
    go true true e true p q = λ u. omega arith
    go true true e false p q = λ u. omega arith
    go false d e true p q = λ u. omega arith
    go false d e false p q = λ u. omega arith

settled_goes : (m : Machine) (w : Ccw) (owed n : ℕ) (bytes : List ℕ) (s : m.State) → Goes w (settled m w owed n bytes s).next × ((settled m w owed n bytes s).stored ≡ bytes)
settled_goes m w owed n bytes s = go (eqb n w.count) w.flags.cd refl
  where
    stops : Outcome m
    stops = record { state = (m.ended s).1; stored = bytes; next = finished w (m.ended s).0 (w.count - n) ((not (eqb (w.count - n) 0) || not (eqb (owed - n) 0)) && not (w.flags.sli && not w.flags.cd)) }

    chains : Outcome m
    chains = record { state = s; stored = bytes; next = Data (owed - n) }

    go : (e cd : Bool) → w.flags.cd ≡ cd → Goes w (cond (e && cd) chains stops).next × ((cond (e && cd) chains stops).stored ≡ bytes)
    go true true p = (p, refl)
    go true false p = (finished_goes w _ _ _, refl)
    go false cd p = (finished_goes w _ _ _, refl)

none_stored : (d k : Bool) (r : List ℕ) → (d && not k) ≡ false → cond d (cond k [] r) [] ≡ []
none_stored true true r e = refl
none_stored true false r e = absurd (both_ways true e refl)
none_stored false k r e = refl

-- it goes on as its flags say, and stores only where it reads without SKIP
abbrev pub Follows : (m : Machine) → Cell → Outcome m → Type 0
Follows m t o = Goes t.ccw.value o.next × ((reading t.code && not t.ccw.value.flags.skip) ≡ false → o.stored ≡ [])

moved_goes : (m : Machine) (t : Cell) (owed : ℕ) (bytes : List ℕ) (s : m.State) → Follows m t (moved m t owed bytes s)
moved_goes m t owed bytes s =
    let g = settled_goes m t.ccw.value owed (moved_count m t bytes s) (moved_bytes m t s) (moved_state m t bytes s) in
    (g.0, λ u. g.1 ∙ none_stored (reading t.code) t.ccw.value.flags.skip _ u)

begun_goes : (m : Machine) (t : Cell) (bytes : List ℕ) (b : Begun) (s : m.State) → Follows m t (begun_as m t bytes b s)
begun_goes m t bytes (Immediate status) s = (finished_goes t.ccw.value status t.ccw.value.count false, λ _. refl)
begun_goes m t bytes (Open least most) s = moved_goes m t least bytes s

pub done_goes : (m : Machine) (t : Cell) (owed : ℕ) (bytes : List ℕ) (s : m.State) → Follows m t (done m t owed bytes s)
done_goes m t owed bytes s = go t.before
  where
    go : (p : Option ℕ) → Follows m t (done_with m t owed bytes s p)
    go None = begun_goes m t bytes (m.begun t.code s).0 (m.begun t.code s).1
    go (Some command) = moved_goes m t owed bytes s
