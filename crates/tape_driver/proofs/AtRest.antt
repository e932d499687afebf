-- A tape with nothing open: what writes and reads make of it, and the theorems.
use Rattle.std.proofs.Common.{◌≡◌, ℕ, zero, suc, ◌+◌, ◌-◌, ◌<◌, ◌≤◌, min, Bool, true, false, cond, eqb, List, [], ◌∷◌, ◌++◌, reverse, length, get_or, take, drop, Ok, Result, sym, refl, ap, ◌∙◌, arith, length-take}
use Rattle.std.proofs.lemmas.List.{length-take-le, take_all, take_at, take-take, take-append-le, drop_more, length_push, get_or_push}
use Rattle.std.proofs.lemmas.Bool.{cond-true, lt-ltb, ne_eqb, and_from}
use Rattle.device.specs.Machine.{shut, due}
use Rattle.unit.specs.UnitMachine.{UnitState, sense_after}
use Rattle.device.specs.declared.interface.Begun.{Begun}
use Rattle.device.specs.declared.interface.Begun.TheVariants.{Open}
use Rattle.unit.specs.declared.model.Fault.{Fault}
use Rattle.unit.specs.declared.state.Sensing.{Sensing}
use Rattle.unit.specs.declared.state.Sensing.TheVariants.{Closed, Unread, Read}
use Rattle.tape.specs.TapeState.{TapeState, Command, none, writing, reading, reading_backward}
use Rattle.tape.specs.TapeMachine.{tape_core, tape_machine, bytes_in, room_after, has_room, refuse}
use Rattle.tape_driver.specs.Theorems.{after_begin, after_write, after_rewind, heard, after_read, all_heard, WrittenIsReadBack, WrittenIsReadBackward, BlocksBeforeStay}

abbrev pub resting : ℕ → List (List ℕ) → ℕ → UnitState tape_core
resting sense stored p = record { sense = sense; sensing = Closed; core = record { blocks = stored; position = p; command = none } }

abbrev made : ℕ → Sensing → List (List ℕ) → ℕ → Command → UnitState tape_core
made sense sensing stored p c = record { sense = sense; sensing = sensing; core = record { blocks = stored; position = p; command = c } }

rests : (sense : ℕ) (sensing : Sensing) (stored : List (List ℕ)) (p : ℕ) (c : Command) → tape_machine.pending (made sense sensing stored p c) ≡ shut → made sense sensing stored p c ≡ resting sense stored p
rests sense Closed stored p none h = refl
rests sense Unread stored p none h = cc
rests sense Read stored p none h = cc
rests sense sensing stored p (writing done) h = cc
rests sense sensing stored p (reading rest) h = cc
rests sense sensing stored p (reading_backward rest) h = cc

pub rests_as : (u : UnitState tape_core) → tape_machine.pending u ≡ shut → u ≡ resting u.sense u.core.blocks u.core.position
rests_as u h = rests u.sense u.sensing u.core.blocks u.core.position u.core.command h

-- the device after the start of a command, by what the tape answered
abbrev started_as : ℕ → Result Begun Fault × TapeState → UnitState tape_core
started_as sense x = record { sense = sense_after x.0 sense; sensing = Closed; core = x.1 }

module _ (sense : ℕ) (stored : List (List ℕ)) (p : ℕ) where
  abbrev here : TapeState
  here = record { blocks = stored; position = p; command = none }

  -- what a write leaves, once it has opened
  abbrev ended_with : List ℕ → UnitState tape_core
  ended_with done = resting sense (cond (eqb (length done) 0) (take p stored) (take p stored ++ done ∷ [])) (cond (eqb (length done) 0) p (p + 1))

  pub writes : (offered : List ℕ) → p < 64 → 0 < length offered → length offered ≤ room_after (take p stored) → after_write offered (resting sense stored p) ≡ resting sense (take p stored ++ offered ∷ []) (p + 1)
  writes offered few some fits =
      let blocks_left : length (take p stored) < 64 = omega (arith, length-take p stored) in
      let bytes_left : bytes_in (take p stored) < 8192 = omega arith in
      let open_now : has_room (take p stored) ≡ true = and_from _ _ (lt-ltb _ 64 blocks_left) (lt-ltb _ 8192 bytes_left) in
      let whole : take (room_after (take p stored) - 0) offered ≡ offered = take_all (room_after (take p stored) - 0) offered (omega arith) in
      let filled : eqb (length offered) 0 ≡ false = ne_eqb _ _ (λ e. omega arith) in
      ap (λ x. (tape_machine.ended (tape_machine.taken offered (started_as sense x))).1) (cond-true _ _ _ open_now)
      ∙ ap ended_with whole
      ∙ ap (λ b. resting sense (cond b (take p stored) (take p stored ++ offered ∷ [])) (cond b p (p + 1))) filled

  pub hears : p < length stored → heard 0x02 (resting sense stored p) ≡ get_or stored p []
  hears h = ap (λ x. due (tape_machine.pending (started_as sense x))) (cond-true _ _ _ (lt-ltb p (length stored) h))

  pub passes : (n : ℕ) → p < length stored → after_read 0x02 n (resting sense stored p) ≡ resting sense stored (p + 1)
  passes n h =
      ap (λ x. (tape_machine.ended (tape_machine.given n (started_as sense x))).1) (cond-true _ _ _ (lt-ltb p (length stored) h))

  pub hears_backward : 0 < p → heard 0x0C (resting sense stored p) ≡ reverse (get_or stored (p - 1) [])
  hears_backward h = ap (λ x. due (tape_machine.pending (started_as sense x))) (cond-true _ _ _ (lt-ltb 0 p h))

  pub passes_backward : (n : ℕ) → 0 < p → after_read 0x0C n (resting sense stored p) ≡ resting sense stored (p - 1)
  passes_backward n h =
      ap (λ x. (tape_machine.ended (tape_machine.given n (started_as sense x))).1) (cond-true _ _ _ (lt-ltb 0 p h))

-- so many reads from the position on
hears_all : (n sense : ℕ) (stored : List (List ℕ)) (p : ℕ) → p + n ≤ length stored → all_heard n (resting sense stored p) ≡ take n (drop p stored)
hears_all zero sense stored p h = refl
hears_all (suc n) sense stored p h =
    let inside : p < length stored = omega arith in
    let next = get_or stored p [] in
    let size = length (heard 0x02 (resting sense stored p)) in
    ap (λ x. x ∷ all_heard n (after_read 0x02 size (resting sense stored p))) (hears sense stored p inside)
    ∙ ap (λ u. next ∷ all_heard n u) (passes sense stored p size inside)
    ∙ ap (λ x. next ∷ x) (hears_all n sense stored (p + 1) (omega arith))
    ∙ ap (take (suc n)) (sym (drop_more stored p [] inside))

pub written_is_read_back : WrittenIsReadBack
written_is_read_back offered u (idle, on_tape) (few, some, fits) =
    let sense = u.sense in
    let stored = u.core.blocks in
    let p = u.core.position in
    let after = take p stored ++ offered ∷ [] in
    let size : length after ≡ p + 1 = length_push (take p stored) offered ∙ ap (λ n. n + 1) (length-take-le p stored on_tape) in
    ap (λ x. all_heard (p + 1) (after_rewind (after_write offered x))) (rests_as u idle)
    ∙ ap (λ x. all_heard (p + 1) (after_rewind x)) (writes sense stored p offered few some fits)
    ∙ hears_all (p + 1) sense after 0 (omega arith)
    ∙ take_all (p + 1) after (omega arith)

pub written_is_read_backward : WrittenIsReadBackward
written_is_read_backward offered n u (idle, on_tape) (few, some, fits) =
    let sense = u.sense in
    let stored = u.core.blocks in
    let p = u.core.position in
    let after = take p stored ++ offered ∷ [] in
    let back : p + 1 - 1 ≡ p = omega arith in
    let past : 0 < p + 1 = omega arith in
    let written : after_write offered u ≡ resting sense after (p + 1) = ap (after_write offered) (rests_as u idle) ∙ writes sense stored p offered few some fits in (
      ap (heard 0x0C) written
          ∙ hears_backward sense after (p + 1) past
          ∙ ap reverse (get_or_push (take p stored) offered [] (p + 1 - 1) (length-take-le p stored on_tape ∙ sym back)),
      ap (λ x. (after_read 0x0C n x).core.position) written
          ∙ ap (λ x. x.core.position) (passes_backward sense after (p + 1) n past)
          ∙ back,
    )

-- whether the write opens, and whether a byte moved
module _ (sense : ℕ) (stored : List (List ℕ)) (p : ℕ) (on_tape : p ≤ length stored) where
  before_add : (b : Bool) (done : List ℕ) → take p (cond b (take p stored) (take p stored ++ done ∷ [])) ≡ take p stored
  before_add true done = take-take p p stored (omega arith)
  before_add false done =
      take-append-le p (take p stored) (done ∷ []) (omega (arith, length-take p stored))
      ∙ take-take p p stored (omega arith)

  abbrev by_room : Bool → UnitState tape_core
  by_room b = started_as sense (cond b (Ok (Open 1 (room_after (take p stored))), record { blocks = take p stored; position = p; command = writing [] }) (refuse (record { blocks = stored; position = p; command = none })))

  stay_started : (b : Bool) → take p (by_room b).core.blocks ≡ take p stored
  stay_started true = take-take p p stored (omega arith)
  stay_started false = refl

  stay_taken : (b : Bool) (offered : List ℕ) → take p (tape_machine.taken offered (by_room b)).core.blocks ≡ take p stored
  stay_taken true offered = take-take p p stored (omega arith)
  stay_taken false offered = refl

  stay_ended : (b : Bool) (offered : List ℕ) → take p (tape_machine.ended (tape_machine.taken offered (by_room b))).1.core.blocks ≡ take p stored
  stay_ended true offered =
      let done = take (room_after (take p stored) - 0) offered in
      before_add (eqb (length done) 0) done
  stay_ended false offered = refl

pub blocks_before_stay : BlocksBeforeStay
blocks_before_stay offered u (idle, on_tape) =
    let sense = u.sense in
    let stored = u.core.blocks in
    let p = u.core.position in
    let rest = rests_as u idle in
    let b = has_room (take p stored) in (
      ap (λ x. take p (after_begin 0x01 x).core.blocks) rest ∙ stay_started sense stored p on_tape b,
      ap (λ x. take p (tape_machine.taken offered (after_begin 0x01 x)).core.blocks) rest ∙ stay_taken sense stored p on_tape b offered,
      ap (λ x. take p (after_write offered x).core.blocks) rest ∙ stay_ended sense stored p on_tape b offered,
    )

-- written as the only block, and read again
pub one_block : (offered : List ℕ) (u : UnitState tape_core) → tape_machine.pending u ≡ shut → 0 < length offered → length offered ≤ 4096 → heard 0x02 (after_rewind (after_write offered (after_rewind u))) ≡ offered
one_block offered u idle some short =
    let sense = u.sense in
    ap (λ x. heard 0x02 (after_rewind (after_write offered (after_rewind x)))) (rests_as u idle)
    ∙ ap (λ x. heard 0x02 (after_rewind x)) (writes sense u.core.blocks 0 offered (omega arith) some short)
    ∙ hears sense (offered ∷ []) 0 (omega arith)

-- a buffer that is long enough holds all that was to hand out
pub all_read : (buffer after expected due_now : List ℕ) (r : ℕ) → due_now ≡ expected → length expected ≤ length buffer → r ≡ min (length buffer) (length due_now) → after ≡ take (length buffer) due_now ++ drop r buffer → (r ≡ length expected) × (take r after ≡ expected)
all_read buffer after expected due_now r same wide count e =
    let size : r ≡ length expected = omega (arith, ap length same) in
    let front : take (length buffer) due_now ≡ expected = ap (take (length buffer)) same ∙ take_all (length buffer) expected wide in (
      size,
      ap (take r) (e ∙ ap (λ x. x ++ drop r buffer) front) ∙ take_at expected (drop r buffer) r (sym size),
    )
