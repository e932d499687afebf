-- A device of a lawful model keeps the laws of a device. A reader must believe nothing here: it is all proof.
use Rattle.std.specs.Prelude.{◌≡◌, ℕ, zero, suc, ◌+◌, ◌≤◌, Bool, true, false, cond, List, [], ◌∷◌, ◌++◌, length, take, Ok, Err, Result, ◌==◌, ◌≢◌, refl}
use Rattle.std.proofs.Common.{sym, ap, subst, ◌∙◌, arith}
use Rattle.std.proofs.lemmas.List.{drop_all}
use Rattle.format.specs.Classes.{class_of, reads_storage}
use Rattle.device.specs.declared.interface.Begun.{Begun}
use Rattle.device.specs.declared.interface.Begun.TheVariants.{Immediate, Open}
use Rattle.device.specs.Machine.{Pending, shut, giving, taking, due, room, less_given, less_taken}
use Rattle.device.specs.Laws.{Laws, Opened}
use Rattle.unit.specs.Core.{Core, is_open}
use Rattle.unit.specs.CoreLaws.{CoreLaws, OpenedOwn}
use Rattle.unit.specs.Lemmas.{class_at}
use Rattle.unit.specs.UnitMachine.{UnitState, unit_machine, with_sensing, with_core, core_open, sense_pending, sense_given, answer_to, begin_core, begin_sensing, end_sensing, pending_by, begun_by, given_by, taken_by, ended_by}
use Rattle.unit.specs.declared.model.Fault.{Fault}
use Rattle.unit.specs.declared.state.Sensing.{Sensing}
use Rattle.unit.specs.declared.state.Sensing.TheVariants.{Closed, Unread, Read}

open_given : (n : ℕ) (p : Pending) → is_open (less_given n p) ≡ is_open p
open_given n shut = refl
open_given n (giving bytes) = refl
open_given n (taking m) = refl

open_taken : (n : ℕ) (p : Pending) → is_open (less_taken n p) ≡ is_open p
open_taken n shut = refl
open_taken n (giving bytes) = refl
open_taken n (taking m) = refl

shut_by : (p : Pending) → is_open p ≡ false → p ≡ shut
shut_by shut e = refl
shut_by (giving bytes) e = cc
shut_by (taking m) e = cc

-- the sense command

sense_drops : (n : ℕ) (s : Sensing) (byte : ℕ) → sense_pending (sense_given n s) byte ≡ less_given n (sense_pending s byte)
sense_drops n Closed byte = refl
sense_drops zero Unread byte = refl
sense_drops (suc n) Unread byte = ap giving (sym (drop_all (suc n) (byte ∷ []) (omega arith)))
sense_drops n Read byte = ap giving (sym (drop_all n [] (omega arith)))

sense_none : (s : Sensing) → sense_given 0 s ≡ s
sense_none Closed = refl
sense_none Unread = refl
sense_none Read = refl

sense_parts : (a b : ℕ) (s : Sensing) → sense_given b (sense_given a s) ≡ sense_given (a + b) s
sense_parts a b Closed = refl
sense_parts zero b Unread = let e : b ≡ 0 + b = omega arith in ap (λ n. sense_given n Unread) e
sense_parts (suc a) b Unread = let e : suc (a + b) ≡ suc a + b = omega arith in ap (λ n. sense_given n Unread) e
sense_parts a b Read = refl

sense_past : (n : ℕ) (s : Sensing) (byte : ℕ) → length (due (sense_pending s byte)) ≤ n → sense_given n s ≡ sense_given (length (due (sense_pending s byte))) s
sense_past n Closed byte h = refl
sense_past zero Unread byte h = absurd (omega arith)
sense_past (suc n) Unread byte h = refl
sense_past n Read byte h = refl

closed_by : (s : Sensing) (byte : ℕ) → sense_pending s byte ≡ shut → s ≡ Closed
closed_by Closed byte h = refl
closed_by Unread byte h = cc
closed_by Read byte h = cc

-- nothing is accepted by a sense command
sense_room : (s : Sensing) (byte : ℕ) (n : ℕ) → sense_pending s byte ≡ less_taken n (sense_pending s byte)
sense_room Closed byte n = refl
sense_room Unread byte n = refl
sense_room Read byte n = refl

opened_by : (reads : Bool) (r : Result Begun Fault) (p : Pending) → OpenedOwn reads r p → Opened reads (answer_to r) p
opened_by reads (Ok begun) p h = h
opened_by reads (Err fault) p h = h

module _ (c : Core) (laws : CoreLaws c) where
  abbrev pending_of : UnitState c → Pending
  pending_of u = pending_by c (core_open c u) u

  -- with nothing pending neither the model nor the sense command is open

  idle_core : (b : Bool) (u : UnitState c) → core_open c u ≡ b → pending_by c b u ≡ shut → core_open c u ≡ false
  idle_core true u e h = ap is_open h
  idle_core false u e h = e

  idle_sense : (b : Bool) (u : UnitState c) → core_open c u ≡ b → pending_by c b u ≡ shut → u.sensing ≡ Closed
  idle_sense true u e h = let z : true ≡ false = sym e ∙ ap is_open h in cc
  idle_sense false u e h = closed_by u.sensing u.sense h

  idle : (u : UnitState c) → core_open c u ≡ false → u.sensing ≡ Closed → pending_of u ≡ shut
  idle u e f = ap (λ b. pending_by c b u) e ∙ ap (λ s. sense_pending s u.sense) f

  -- with no sense command open, what is pending is the model's
  own_by : (b : Bool) (u : UnitState c) → core_open c u ≡ b → u.sensing ≡ Closed → pending_by c b u ≡ c.pending u.core
  own_by true u e f = refl
  own_by false u e f = ap (λ s. sense_pending s u.sense) f ∙ sym (shut_by (c.pending u.core) e)

  busy_sensing : (s : Sensing) (code : ℕ) (u : UnitState c) → (sense_pending s u.sense ≢ shut) → begin_sensing c s code u ≡ (Immediate 0x10, u)
  busy_sensing Closed code u h = absurd (h refl)
  busy_sensing Unread code u h = refl
  busy_sensing Read code u h = refl

  busy_by : (b : Bool) (code : ℕ) (u : UnitState c) → (pending_by c b u ≢ shut) → begun_by c b code u ≡ (Immediate 0x10, u)
  busy_by true code u h = refl
  busy_by false code u h = busy_sensing u.sensing code u h

  -- the answer fits what is pending after it
  abbrev FitsPending : Bool → Begun × UnitState c → Type 0
  FitsPending reads x = Opened reads x.0 (pending_of x.1)

  begin_fits : (reads three four : Bool) (code : ℕ) (u : UnitState c) → reads_storage (class_of code) ≡ reads → (four ≡ true → reads ≡ true) → core_open c u ≡ false → u.sensing ≡ Closed → FitsPending reads (cond three (Immediate 0x0C, u) (cond four (Open 1 1, with_sensing c Unread u) (begin_core c code u)))
  begin_fits reads true four code u k h e f = idle u e f
  begin_fits reads false true code u k h e f =
      subst (λ (b : Bool). FitsPending b (Open 1 1, with_sensing c Unread u)) (sym (h refl))
      (refl, (u.sense ∷ [], ap (λ b. pending_by c b (with_sensing c Unread u)) e, refl))
  begin_fits reads false false code u k h e f =
      let after : UnitState c = (begin_core c code u).1 in
      let own : pending_of after ≡ c.pending after.core = own_by (core_open c after) after refl f in
      let fits : OpenedOwn reads (c.started code u.core).0 (c.pending after.core) =
      subst (λ (b : Bool). OpenedOwn b (c.started code u.core).0 (c.pending after.core)) k
      (laws.opens code u.core (shut_by (c.pending u.core) e)) in
      subst (λ (p : Pending). Opened reads (answer_to (c.started code u.core).0) p) (sym own)
      (opened_by reads (c.started code u.core).0 (c.pending after.core) fits)

  opens_fitting : (code : ℕ) (u : UnitState c) → core_open c u ≡ false → u.sensing ≡ Closed → FitsPending (reads_storage (class_of code)) (begun_by c (core_open c u) code u)
  opens_fitting code u e f =
      subst (λ (b : Bool). FitsPending (reads_storage (class_of code)) (begun_by c b code u)) (sym e) (
      subst (λ (s : Sensing). FitsPending (reads_storage (class_of code)) (begin_sensing c s code u)) (sym f)
      (begin_fits (reads_storage (class_of code)) (code == 3) (code == 4) code u refl (class_at code 4) e f))

  given_open : (n : ℕ) (s : c.State) → is_open (c.pending (c.given n s)) ≡ is_open (c.pending s)
  given_open n s = ap is_open (laws.give_drops n s) ∙ open_given n (c.pending s)

  give_drops_by : (b : Bool) (n : ℕ) (u : UnitState c) → core_open c u ≡ b → pending_of (given_by c b n u) ≡ less_given n (pending_by c b u)
  give_drops_by true n u e =
      ap (λ b. pending_by c b (given_by c true n u)) (given_open n u.core ∙ e) ∙ laws.give_drops n u.core
  give_drops_by false n u e =
      ap (λ b. pending_by c b (given_by c false n u)) e ∙ sense_drops n u.sensing u.sense

  give_none_by : (b : Bool) (u : UnitState c) → given_by c b 0 u ≡ u
  give_none_by true u = ap (λ s. with_core c s u) (laws.give_none u.core)
  give_none_by false u = ap (λ s. with_sensing c s u) (sense_none u.sensing)

  give_parts_by : (open_now : Bool) (a b : ℕ) (u : UnitState c) → core_open c u ≡ open_now → a ≤ length (due (pending_by c open_now u)) → given_by c (core_open c (given_by c open_now a u)) b (given_by c open_now a u) ≡ given_by c open_now (a + b) u
  give_parts_by true a b u e h =
      ap (λ o. given_by c o b (given_by c true a u)) (given_open a u.core ∙ e)
      ∙ ap (λ s. with_core c s u) (laws.give_parts a b u.core h)
  give_parts_by false a b u e h =
      ap (λ o. given_by c o b (given_by c false a u)) e ∙ ap (λ s. with_sensing c s u) (sense_parts a b u.sensing)

  give_past_by : (b : Bool) (n : ℕ) (u : UnitState c) → length (due (pending_by c b u)) ≤ n → given_by c b n u ≡ given_by c b (length (due (pending_by c b u))) u
  give_past_by true n u h = ap (λ s. with_core c s u) (laws.give_past n u.core h)
  give_past_by false n u h = ap (λ s. with_sensing c s u) (sense_past n u.sensing u.sense h)

  taken_open : (bytes : List ℕ) (s : c.State) → is_open (c.pending (c.taken bytes s)) ≡ is_open (c.pending s)
  taken_open bytes s = ap is_open (laws.take_fills bytes s) ∙ open_taken (length bytes) (c.pending s)

  take_fills_by : (b : Bool) (bytes : List ℕ) (u : UnitState c) → core_open c u ≡ b → pending_of (taken_by c b bytes u) ≡ less_taken (length bytes) (pending_by c b u)
  take_fills_by true bytes u e =
      ap (λ b. pending_by c b (taken_by c true bytes u)) (taken_open bytes u.core ∙ e) ∙ laws.take_fills bytes u.core
  take_fills_by false bytes u e = ap (λ b. pending_by c b u) e ∙ sense_room u.sensing u.sense (length bytes)

  take_none_by : (b : Bool) (u : UnitState c) → taken_by c b [] u ≡ u
  take_none_by true u = ap (λ s. with_core c s u) (laws.take_none u.core)
  take_none_by false u = refl

  take_parts_by : (open_now : Bool) (a b : List ℕ) (u : UnitState c) → core_open c u ≡ open_now → length a ≤ room (pending_by c open_now u) → taken_by c (core_open c (taken_by c open_now a u)) b (taken_by c open_now a u) ≡ taken_by c open_now (a ++ b) u
  take_parts_by true a b u e h =
      ap (λ o. taken_by c o b (taken_by c true a u)) (taken_open a u.core ∙ e)
      ∙ ap (λ s. with_core c s u) (laws.take_parts a b u.core h)
  take_parts_by false a b u e h = ap (λ o. taken_by c o b u) e

  take_past_by : (b : Bool) (bytes : List ℕ) (u : UnitState c) → taken_by c b bytes u ≡ taken_by c b (take (room (pending_by c b u)) bytes) u
  take_past_by true bytes u = ap (λ s. with_core c s u) (laws.take_past bytes u.core)
  take_past_by false bytes u = refl

  ends_sensing : (s : Sensing) (u : UnitState c) → core_open c u ≡ false → u.sensing ≡ s → pending_of (end_sensing c s u).1 ≡ shut
  ends_sensing Closed u e f = idle u e f
  ends_sensing Unread u e f = idle (end_sensing c Unread u).1 e refl
  ends_sensing Read u e f = idle (end_sensing c Read u).1 e refl

  end_closes_by : (b : Bool) (u : UnitState c) → core_open c u ≡ b → pending_of (ended_by c b u).1 ≡ shut
  end_closes_by true u e =
      let after : UnitState c = (ended_by c true u).1 in
      own_by (core_open c after) after refl refl ∙ laws.end_closes u.core
  end_closes_by false u e = ends_sensing u.sensing u e refl

  pub unit_laws : Laws (unit_machine c)
  unit_laws = record {
    busy = λ code u h. busy_by (core_open c u) code u h;
    opens = λ code u h. opens_fitting code u (idle_core (core_open c u) u refl h) (idle_sense (core_open c u) u refl h);
    give_drops = λ n u. give_drops_by (core_open c u) n u refl;
    give_none = λ u. give_none_by (core_open c u) u;
    give_parts = λ a b u h. give_parts_by (core_open c u) a b u refl h;
    give_past = λ n u h. give_past_by (core_open c u) n u h;
    take_fills = λ bytes u. take_fills_by (core_open c u) bytes u refl;
    take_none = λ u. take_none_by (core_open c u) u;
    take_parts = λ a b u h. take_parts_by (core_open c u) a b u refl h;
    take_past = λ bytes u. take_past_by (core_open c u) bytes u;
    end_idle = λ u h.
        ap (λ b. ended_by c b u) (idle_core (core_open c u) u refl h)
        ∙ ap (λ s. end_sensing c s u) (idle_sense (core_open c u) u refl h);
    end_closes = λ u. end_closes_by (core_open c u) u refl;
  }
