-- The console keeps the laws of a model. A reader must believe nothing here: it is all proof.
use Rattle.std.specs.Prelude.{◌≡◌, ℕ, ◌+◌, ◌-◌, ◌≤◌, Bool, true, false, cond, List, [], ◌++◌, length, take, Ok, Err, Result, ◌==◌, refl}
use Rattle.std.proofs.Common.{sym, ap, subst, ◌∙◌, arith, length-append, length-take}
use Rattle.std.proofs.Math.Seq.{take-nil}
use Rattle.std.proofs.lemmas.List.{append-nil, append_assoc, drop-drop, take-take}
use Rattle.format.specs.Classes.{class_of, reads_storage}
use Rattle.device.specs.declared.interface.Begun.{Begun}
use Rattle.device.specs.declared.interface.Begun.TheVariants.{Open}
use Rattle.device.specs.Machine.{shut, taking, due, room, less_given, less_taken}
use Rattle.unit.specs.declared.model.Fault.{Fault}
use Rattle.unit.specs.Core.{unknown_command, nothing_left}
use Rattle.unit.specs.Lemmas.{class_at, drop_past, take_two}
use Rattle.unit.specs.CoreLaws.{CoreLaws, OpenedOwn}
use Rattle.console.specs.ConsoleState.{ConsoleState, Command, none, printing, reading_line}
use Rattle.console.specs.ConsoleMachine.{console_core, with_open, with_paper, paper_left, begin_write, begin_read, begin_own, pending_during, given_during, accepted_during}

shut_is_none : (c : Command) (printed : ℕ) → pending_during c printed ≡ shut → c ≡ none
shut_is_none none printed h = refl
shut_is_none printing printed h = cc
shut_is_none (reading_line bytes) printed h = cc

-- the answer fits what is pending after it
FitsPending : Bool → Result Begun Fault × ConsoleState → Type 0
FitsPending reads x = OpenedOwn reads x.0 (pending_during x.1.command (length x.1.paper))

stays_shut : (s : ConsoleState) → s.command ≡ none → pending_during s.command (length s.paper) ≡ shut
stays_shut s e = ap (λ c. pending_during c (length s.paper)) e

write_fits : (s : ConsoleState) (b : Bool) → s.command ≡ none → FitsPending false (cond b (Err nothing_left, s) (Ok (Open 0 (paper_left (length s.paper))), with_open printing s))
unfolding FitsPending
write_fits s true e = stays_shut s e
write_fits s false e = refl

read_fits : (s : ConsoleState) (b : Bool) → s.command ≡ none → FitsPending true (cond b (Err nothing_left, s) (Ok (Open (length s.line) (length s.line)), with_open (reading_line s.line) s))
unfolding FitsPending
read_fits s true e = stays_shut s e
read_fits s false e = (refl, (s.line, refl, refl))

-- by the tests for the codes 09 and 0A
begin_fits : (reads nine ten : Bool) (s : ConsoleState) → (nine ≡ true → reads ≡ false) → (ten ≡ true → reads ≡ true) → s.command ≡ none → FitsPending reads (cond nine (begin_write s) (cond ten (begin_read s) (Err unknown_command, s)))
unfolding FitsPending
begin_fits reads true ten s g h e =
    subst (λ (b : Bool). FitsPending b (begin_write s)) (sym (g refl)) (write_fits s (paper_left (length s.paper) == 0) e)
begin_fits reads false true s g h e =
    subst (λ (b : Bool). FitsPending b (begin_read s)) (sym (h refl)) (read_fits s (length s.line == 0) e)
begin_fits reads false false s g h e = stays_shut s e

opens_fitting : (code : ℕ) (s : ConsoleState) → pending_during s.command (length s.paper) ≡ shut → FitsPending (reads_storage (class_of code)) (begin_own code s)
opens_fitting code s h =
    begin_fits (reads_storage (class_of code)) (code == 9) (code == 10) s (class_at code 9) (class_at code 10) (shut_is_none s.command (length s.paper) h)

give_pending : (c : Command) (n printed : ℕ) → pending_during (given_during n c) printed ≡ less_given n (pending_during c printed)
give_pending none n printed = refl
give_pending printing n printed = refl
give_pending (reading_line bytes) n printed = refl

give_nothing : (c : Command) → given_during 0 c ≡ c
give_nothing none = refl
give_nothing printing = refl
give_nothing (reading_line bytes) = refl

give_more : (c : Command) (a b : ℕ) → given_during b (given_during a c) ≡ given_during (a + b) c
give_more none a b = refl
give_more printing a b = refl
give_more (reading_line bytes) a b = ap reading_line (drop-drop b a bytes)

give_beyond : (c : Command) (n printed : ℕ) → length (due (pending_during c printed)) ≤ n → given_during n c ≡ given_during (length (due (pending_during c printed))) c
give_beyond none n printed h = refl
give_beyond printing n printed h = refl
give_beyond (reading_line bytes) n printed h = ap reading_line (drop_past n bytes h)

take_pending : (c : Command) (before after : ℕ) (bytes : List ℕ) → after ≡ before + length (accepted_during c before bytes) → pending_during c after ≡ less_taken (length bytes) (pending_during c before)
take_pending none before after bytes h = refl
take_pending printing before after bytes h = ap taking (omega (arith, length-take (2048 - before) bytes))
take_pending (reading_line rest) before after bytes h = refl

take_nothing : (c : Command) (printed : ℕ) → accepted_during c printed [] ≡ []
take_nothing none printed = refl
take_nothing printing printed = take-nil _
take_nothing (reading_line rest) printed = refl

accept_more : (c : Command) (before after : ℕ) (a b : List ℕ) → after ≡ before + length (accepted_during c before a) → accepted_during c before a ++ accepted_during c after b ≡ accepted_during c before (a ++ b)
accept_more none before after a b h = refl
accept_more printing before after a b h = take_two (2048 - before) (2048 - after) a b (omega (arith, length-take (2048 - before) a))
accept_more (reading_line rest) before after a b h = refl

take_more : (c : Command) (paper a b : List ℕ) → (paper ++ accepted_during c (length paper) a) ++ accepted_during c (length (paper ++ accepted_during c (length paper) a)) b ≡ paper ++ accepted_during c (length paper) (a ++ b)
take_more c paper a b =
    let first : List ℕ = accepted_during c (length paper) a in
    append_assoc paper first (accepted_during c (length (paper ++ first)) b)
    ∙ ap (λ x. paper ++ x) (accept_more c (length paper) (length (paper ++ first)) a b (length-append paper first))

take_beyond : (c : Command) (printed : ℕ) (bytes : List ℕ) → accepted_during c printed bytes ≡ accepted_during c printed (take (room (pending_during c printed)) bytes)
take_beyond none printed bytes = refl
take_beyond printing printed bytes = sym (take-take _ _ bytes (omega arith))
take_beyond (reading_line rest) printed bytes = refl

pub console_laws : CoreLaws console_core
unfolding FitsPending
console_laws = record {
  opens = λ code s h. opens_fitting code s h;
  give_drops = λ n s. give_pending s.command n (length s.paper);
  give_none = λ s. ap (λ c. with_open c s) (give_nothing s.command);
  give_parts = λ a b s h. ap (λ c. with_open c s) (give_more s.command a b);
  give_past = λ n s h. ap (λ c. with_open c s) (give_beyond s.command n (length s.paper) h);
  take_fills = λ bytes s. take_pending s.command (length s.paper) _ bytes (length-append _ _);
  take_none = λ s. ap (λ x. with_paper x s) (ap (λ x. s.paper ++ x) (take_nothing s.command (length s.paper)) ∙ append-nil s.paper);
  take_parts = λ a b s h. ap (λ x. with_paper x s) (take_more s.command s.paper a b);
  take_past = λ bytes s. ap (λ x. with_paper (s.paper ++ x) s) (take_beyond s.command (length s.paper) bytes);
  end_closes = λ s. refl;
}
