-- The tape keeps the laws of a model. A reader must believe nothing here: it is all proof.
use Rattle.std.specs.Prelude.{◌≡◌, ℕ, ◌+◌, ◌-◌, ◌≤◌, Bool, true, false, cond, List, [], ◌++◌, reverse, length, take, ◌==◌, nat_lt, slice_index_or, Err, Result, refl}
use Rattle.std.proofs.Common.{sym, ap, subst, ◌∙◌, arith, length-append, length-take}
use Rattle.std.proofs.Math.Seq.{take-nil}
use Rattle.std.proofs.lemmas.List.{append-nil, append_assoc, drop-drop, take-take, length-reverse}
use Rattle.format.specs.Classes.{class_of, reads_storage}
use Rattle.device.specs.declared.interface.Begun.{Begun}
use Rattle.device.specs.Machine.{shut, taking, due, room, less_given, less_taken}
use Rattle.unit.specs.declared.model.Fault.{Fault}
use Rattle.unit.specs.Core.{unknown_command}
use Rattle.unit.specs.Lemmas.{class_at, drop_past, take_two}
use Rattle.unit.specs.CoreLaws.{CoreLaws, OpenedOwn}
use Rattle.tape.specs.TapeState.{TapeState, Command, none, writing, reading, reading_backward}
use Rattle.tape.specs.TapeMachine.{tape_core, with_open, room_after, has_room, kept, refuse, begin_write, begin_read, begin_read_backward, rewind, begin_own, pending_during, given_during, taken_during}

shut_is_none : (c : Command) (stored : List (List ℕ)) → pending_during c stored ≡ shut → c ≡ none
shut_is_none none stored h = refl
shut_is_none (writing done) stored h = cc
shut_is_none (reading rest) stored h = cc
shut_is_none (reading_backward rest) stored h = cc

-- the answer fits what is pending after it
FitsPending : Bool → Result Begun Fault × TapeState → Type 0
FitsPending reads x = OpenedOwn reads x.0 (pending_during x.1.command x.1.blocks)

stays_shut : (s : TapeState) → s.command ≡ none → pending_during s.command s.blocks ≡ shut
stays_shut s e = ap (λ c. pending_during c s.blocks) e

fits_either : (reads b : Bool) (x y : Result Begun Fault × TapeState) → FitsPending reads x → FitsPending reads y → FitsPending reads (cond b x y)
fits_either reads true x y g h = g
fits_either reads false x y g h = h

refuse_fits : (reads : Bool) (s : TapeState) → s.command ≡ none → FitsPending reads (refuse s)
unfolding FitsPending
refuse_fits reads s e = stays_shut s e

write_fits : (s : TapeState) → s.command ≡ none → FitsPending false (begin_write s)
unfolding FitsPending
write_fits s e =
    let most = room_after (kept s) in
    let all : most - 0 ≡ most = omega arith in
    fits_either false (has_room (kept s)) _ _ (ap taking all) (refuse_fits false s e)

read_fits : (s : TapeState) → s.command ≡ none → FitsPending true (begin_read s)
unfolding FitsPending
read_fits s e =
    let next = slice_index_or s.blocks s.position [] in
    fits_either true (nat_lt s.position (length s.blocks)) _ _ (refl, (next, refl, refl)) (refuse_fits true s e)

read_backward_fits : (s : TapeState) → s.command ≡ none → FitsPending true (begin_read_backward s)
unfolding FitsPending
read_backward_fits s e =
    let previous = slice_index_or s.blocks (s.position - 1) [] in
    fits_either true (nat_lt 0 s.position) _ _ (refl, (reverse previous, refl, length-reverse previous)) (refuse_fits true s e)

-- by the tests for the codes 01, 02, 0C and 07
begin_fits : (reads one two twelve seven : Bool) (s : TapeState) → (one ≡ true → reads ≡ false) → (two ≡ true → reads ≡ true) → (twelve ≡ true → reads ≡ true) → s.command ≡ none → FitsPending reads (cond one (begin_write s) (cond two (begin_read s) (cond twelve (begin_read_backward s) (cond seven (rewind s) (Err unknown_command, s)))))
unfolding FitsPending
begin_fits reads true two twelve seven s f g h e =
    subst (λ (b : Bool). FitsPending b (begin_write s)) (sym (f refl)) (write_fits s e)
begin_fits reads false true twelve seven s f g h e =
    subst (λ (b : Bool). FitsPending b (begin_read s)) (sym (g refl)) (read_fits s e)
begin_fits reads false false true seven s f g h e =
    subst (λ (b : Bool). FitsPending b (begin_read_backward s)) (sym (h refl)) (read_backward_fits s e)
begin_fits reads false false false true s f g h e = refl
begin_fits reads false false false false s f g h e = stays_shut s e

opens_fitting : (code : ℕ) (s : TapeState) → pending_during s.command s.blocks ≡ shut → FitsPending (reads_storage (class_of code)) (begin_own code s)
opens_fitting code s h =
    begin_fits (reads_storage (class_of code)) (code == 1) (code == 2) (code == 12) (code == 7) s (class_at code 1) (class_at code 2) (class_at code 12) (shut_is_none s.command s.blocks h)

give_pending : (c : Command) (n : ℕ) (stored : List (List ℕ)) → pending_during (given_during n c) stored ≡ less_given n (pending_during c stored)
give_pending none n stored = refl
give_pending (writing done) n stored = refl
give_pending (reading rest) n stored = refl
give_pending (reading_backward rest) n stored = refl

give_nothing : (c : Command) → given_during 0 c ≡ c
give_nothing none = refl
give_nothing (writing done) = refl
give_nothing (reading rest) = refl
give_nothing (reading_backward rest) = refl

give_more : (c : Command) (a b : ℕ) → given_during b (given_during a c) ≡ given_during (a + b) c
give_more none a b = refl
give_more (writing done) a b = refl
give_more (reading rest) a b = ap reading (drop-drop b a rest)
give_more (reading_backward rest) a b = ap reading_backward (drop-drop b a rest)

give_beyond : (c : Command) (n : ℕ) (stored : List (List ℕ)) → length (due (pending_during c stored)) ≤ n → given_during n c ≡ given_during (length (due (pending_during c stored))) c
give_beyond none n stored h = refl
give_beyond (writing done) n stored h = refl
give_beyond (reading rest) n stored h = ap reading (drop_past n rest h)
give_beyond (reading_backward rest) n stored h = ap reading_backward (drop_past n rest h)

-- the bytes of a write after more were offered, and the room that is left
longer : (k : ℕ) (done offered : List ℕ) → k - length (done ++ take (k - length done) offered) ≡ (k - length done) - length offered
longer k done offered =
    omega (arith, length-append done (take (k - length done) offered), length-take (k - length done) offered)

take_pending : (c : Command) (stored : List (List ℕ)) (offered : List ℕ) → pending_during (taken_during offered stored c) stored ≡ less_taken (length offered) (pending_during c stored)
take_pending none stored offered = refl
take_pending (writing done) stored offered = ap taking (longer (room_after stored) done offered)
take_pending (reading rest) stored offered = refl
take_pending (reading_backward rest) stored offered = refl

take_nothing : (c : Command) (stored : List (List ℕ)) → taken_during [] stored c ≡ c
take_nothing none stored = refl
take_nothing (writing done) stored =
    ap writing (ap (λ x. done ++ x) (take-nil (room_after stored - length done)) ∙ append-nil done)
take_nothing (reading rest) stored = refl
take_nothing (reading_backward rest) stored = refl

take_more : (c : Command) (stored : List (List ℕ)) (a b : List ℕ) → taken_during b stored (taken_during a stored c) ≡ taken_during (a ++ b) stored c
take_more none stored a b = refl
take_more (writing done) stored a b =
    let k = room_after stored - length done in
    let first : List ℕ = take k a in
    let j = room_after stored - length (done ++ first) in
    ap writing (append_assoc done first (take j b) ∙ ap (λ x. done ++ x) (take_two k j a b (longer (room_after stored) done a)))
take_more (reading rest) stored a b = refl
take_more (reading_backward rest) stored a b = refl

take_beyond : (c : Command) (stored : List (List ℕ)) (offered : List ℕ) → taken_during offered stored c ≡ taken_during (take (room (pending_during c stored)) offered) stored c
take_beyond none stored offered = refl
take_beyond (writing done) stored offered =
    let k = room_after stored - length done in
    ap (λ x. writing (done ++ x)) (sym (take-take k k offered (omega arith)))
take_beyond (reading rest) stored offered = refl
take_beyond (reading_backward rest) stored offered = refl

pub tape_laws : CoreLaws tape_core
unfolding FitsPending
tape_laws = record {
  opens = λ code s h. opens_fitting code s h;
  give_drops = λ n s. give_pending s.command n s.blocks;
  give_none = λ s. ap (λ c. with_open c s) (give_nothing s.command);
  give_parts = λ a b s h. ap (λ c. with_open c s) (give_more s.command a b);
  give_past = λ n s h. ap (λ c. with_open c s) (give_beyond s.command n s.blocks h);
  take_fills = λ offered s. take_pending s.command s.blocks offered;
  take_none = λ s. ap (λ c. with_open c s) (take_nothing s.command s.blocks);
  take_parts = λ a b s h. ap (λ c. with_open c s) (take_more s.command s.blocks a b);
  take_past = λ offered s. ap (λ c. with_open c s) (take_beyond s.command s.blocks offered);
  end_closes = λ s. refl;
}
