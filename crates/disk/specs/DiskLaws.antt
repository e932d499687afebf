-- The disk keeps the laws of a model. A reader must believe nothing here: it is all proof.
use Rattle.std.specs.Prelude.{◌≡◌, ℕ, zero, suc, ◌+◌, ◌-◌, ◌≤◌, Bool, true, false, cond, List, [], ◌∷◌, ◌++◌, length, take, drop, replicate, Some, None, Option, Err, Result, ◌==◌, refl}
use Rattle.std.proofs.Common.{sym, ap, subst, ◌∙◌, arith, length-append, length-take}
use Rattle.std.proofs.Math.Seq.{take-nil}
use Rattle.std.proofs.lemmas.List.{append-nil, append_assoc, drop_all, drop_at, drop-drop, take_all, take_at, take-append-drop, take-take, length-replicate}
use Rattle.format.specs.Classes.{class_of, reads_storage}
use Rattle.format.specs.Laying.{put_at}
use Rattle.device.specs.declared.interface.Begun.{Begun}
use Rattle.device.specs.Machine.{shut, taking, due, room, less_given, less_taken}
use Rattle.unit.specs.declared.model.Fault.{Fault}
use Rattle.unit.specs.Core.{unknown_command}
use Rattle.unit.specs.Lemmas.{class_at, drop_past, take_two}
use Rattle.unit.specs.CoreLaws.{CoreLaws, OpenedOwn}
use Rattle.disk.specs.declared.blocks.Location.{Location}
use Rattle.disk.specs.Blocks.{bytes_at}
use Rattle.disk.specs.DiskState.{DiskState, Command, none, locating, writing, reading}
use Rattle.disk.specs.DiskMachine.{disk_core, with_open, with_store, begin_locate, begin_write, begin_read, begin_own, pending_during, given_during, taken_during, store_during, location_by, end_locate, end_own}

-- bytes in a store

pub length-bytes_at : (address n : ℕ) (store : List ℕ) → length (bytes_at address n store) ≡ n
length-bytes_at address n store =
    let zeros : List ℕ = replicate n 0 in
    let so_many : length zeros ≡ n = length-replicate {A = ℕ} n 0 in
    omega (arith, length-take n (drop address store ++ zeros), length-append (drop address store) zeros)

-- bytes that are put behind others
put_more : (address : ℕ) (a b store : List ℕ) → put_at (address + length a) b (put_at address a store) ≡ put_at address (a ++ b) store
put_more zero a b store =
    let rest : List ℕ = drop (length a) store in
    let here : 0 + length a ≡ length a = omega arith in
    let far : length a + length b ≡ length (a ++ b) = sym (length-append a b) in
    ap (λ n. put_at n b (a ++ rest)) here
    ∙ ap (λ x. x ++ (b ++ drop (length b) (drop (length a) (a ++ rest)))) (take_at a rest (length a) refl)
    ∙ ap (λ x. a ++ (b ++ drop (length b) x)) (drop_at a rest (length a) refl)
    ∙ ap (λ x. a ++ (b ++ x)) (drop-drop (length b) (length a) store ∙ ap (λ n. drop n store) far)
    ∙ sym (append_assoc a b (drop (length (a ++ b)) store))
put_more (suc address) a b [] =
    let past : length a ≤ suc address + length a = omega arith in
    let none_left : drop (length a) [] ≡ [] = drop_all (length a) [] (omega arith) in
    let whole : a ++ drop (length a) [] ≡ a = ap (λ x. a ++ x) none_left ∙ append-nil a in
    let none_behind : drop (length b) [] ≡ [] = drop_all (length b) [] (omega arith) in
    let none_at_all : drop (length (a ++ b)) [] ≡ [] = drop_all (length (a ++ b)) [] (omega arith) in
    ap (put_at (suc address + length a) b) whole
    ∙ ap (λ x. x ++ (b ++ drop (length b) (drop (suc address + length a) a))) (take_all (suc address + length a) a past)
    ∙ ap (λ x. a ++ (b ++ drop (length b) x)) (drop_all (suc address + length a) a past)
    ∙ sym (append_assoc a b (drop (length b) []))
    ∙ ap (λ x. (a ++ b) ++ x) (none_behind ∙ sym none_at_all)
put_more (suc address) a b (y ∷ store) =
    let next : suc address + length a ≡ suc (address + length a) = omega arith in
    ap (λ n. put_at n b (y ∷ put_at address a store)) next
    ∙ ap (λ x. y ∷ x) (put_more address a b store)

-- begin

shut_is_none : (c : Command) → pending_during c ≡ shut → c ≡ none
shut_is_none none h = refl
shut_is_none (locating taken) h = cc
shut_is_none (writing address n) h = cc
shut_is_none (reading rest) h = cc

-- the answer fits what is pending after it
FitsPending : Bool → Result Begun Fault × DiskState → Type 0
FitsPending reads x = OpenedOwn reads x.0 (pending_during x.1.command)

write_fits : (place : Option Location) (s : DiskState) → pending_during s.command ≡ shut → FitsPending false (begin_write place s)
unfolding FitsPending
write_fits None s h = h
write_fits (Some place) s h = refl

read_fits : (place : Option Location) (s : DiskState) → pending_during s.command ≡ shut → FitsPending true (begin_read place s)
unfolding FitsPending
read_fits None s h = h
read_fits (Some place) s h = (refl, (_, refl, length-bytes_at _ _ s.bytes))

-- by the tests for the codes 43, 41 and 42
begin_fits : (reads locates writes asks : Bool) (s : DiskState) → (locates ≡ true → reads ≡ false) → (writes ≡ true → reads ≡ false) → (asks ≡ true → reads ≡ true) → pending_during s.command ≡ shut → FitsPending reads (cond locates (begin_locate s) (cond writes (begin_write s.location s) (cond asks (begin_read s.location s) (Err unknown_command, s))))
unfolding FitsPending
begin_fits reads true writes asks s f g h e =
    subst (λ (b : Bool). FitsPending b (begin_locate s)) (sym (f refl)) refl
begin_fits reads false true asks s f g h e =
    subst (λ (b : Bool). FitsPending b (begin_write s.location s)) (sym (g refl)) (write_fits s.location s e)
begin_fits reads false false true s f g h e =
    subst (λ (b : Bool). FitsPending b (begin_read s.location s)) (sym (h refl)) (read_fits s.location s e)
begin_fits reads false false false s f g h e = e

opens_fitting : (code : ℕ) (s : DiskState) → pending_during s.command ≡ shut → FitsPending (reads_storage (class_of code)) (begin_own code s)
opens_fitting code s h =
    begin_fits (reads_storage (class_of code)) (code == 0x43) (code == 0x41) (code == 0x42) s (class_at code 0x43) (class_at code 0x41) (class_at code 0x42) h

-- give

give_pending : (c : Command) (n : ℕ) → pending_during (given_during n c) ≡ less_given n (pending_during c)
give_pending none n = refl
give_pending (locating taken) n = refl
give_pending (writing address m) n = refl
give_pending (reading rest) n = refl

give_nothing : (c : Command) → given_during 0 c ≡ c
give_nothing none = refl
give_nothing (locating taken) = refl
give_nothing (writing address n) = refl
give_nothing (reading rest) = refl

give_more : (c : Command) (a b : ℕ) → given_during b (given_during a c) ≡ given_during (a + b) c
give_more none a b = refl
give_more (locating taken) a b = refl
give_more (writing address n) a b = refl
give_more (reading rest) a b = ap reading (drop-drop b a rest)

give_beyond : (c : Command) (n : ℕ) → length (due (pending_during c)) ≤ n → given_during n c ≡ given_during (length (due (pending_during c))) c
give_beyond none n h = refl
give_beyond (locating taken) n h = refl
give_beyond (writing address m) n h = refl
give_beyond (reading rest) n h = ap reading (drop_past n rest h)

-- take

take_pending : (c : Command) (offered : List ℕ) → pending_during (taken_during offered c) ≡ less_taken (length offered) (pending_during c)
take_pending none offered = refl
take_pending (locating taken) offered =
    ap taking (omega (arith, length-append taken (take (4 - length taken) offered), length-take (4 - length taken) offered))
take_pending (writing address n) offered = refl
take_pending (reading rest) offered = refl

-- the store and the command after an offer
abbrev Moved : Type 0
Moved = List ℕ × Command

abbrev after : List ℕ → Moved → Moved
after offered x = (store_during offered x.1 x.0, taken_during offered x.1)

same_write : {x y : List ℕ} {a b m n : ℕ} → x ≡ y → a ≡ b → m ≡ n → ◌≡◌ {A = Moved} (x, writing a m) (y, writing b n)
same_write p q r = cc

take_nothing : (c : Command) (store : List ℕ) → after [] (store, c) ≡ (store, c)
take_nothing none store = refl
take_nothing (locating taken) store =
    ap (λ x. (store, locating x)) (ap (λ x. taken ++ x) (take-nil (4 - length taken)) ∙ append-nil taken)
take_nothing (writing address n) store =
    let none_taken : take n [] ≡ [] = take-nil n in
    same_write (ap (λ x. put_at address x store) none_taken ∙ take-append-drop address store) (omega (arith, ap length none_taken)) (omega arith)
take_nothing (reading rest) store = refl

take_more : (c : Command) (a b store : List ℕ) → after b (after a (store, c)) ≡ after (a ++ b) (store, c)
take_more none a b store = refl
take_more (locating taken) a b store =
    let first_taken : List ℕ = take (4 - length taken) a in
    let left : 4 - length (taken ++ first_taken) ≡ 4 - length taken - length a =
    omega (arith, length-append taken first_taken, length-take (4 - length taken) a) in
    ap (λ x. (store, locating x)) (append_assoc taken first_taken _ ∙ ap (λ x. taken ++ x) (take_two (4 - length taken) _ a b left))
take_more (writing address n) a b store =
    same_write
    (put_more address (take n a) (take (n - length a) b) store ∙ ap (λ x. put_at address x store) (take_two n (n - length a) a b refl))
    (omega (arith, length-take n a, length-take (n - length a) b, length-take n (a ++ b), length-append a b))
    (omega (arith, length-append a b))
take_more (reading rest) a b store = refl

take_beyond : (c : Command) (offered store : List ℕ) → after offered (store, c) ≡ after (take (room (pending_during c)) offered) (store, c)
take_beyond none offered store = refl
take_beyond (locating taken) offered store = ap (λ x. (store, locating (taken ++ x))) (sym (take-take _ _ offered (omega arith)))
take_beyond (writing address n) offered store =
    let same : take n offered ≡ take n (take n offered) = sym (take-take n n offered (omega arith)) in
    same_write (ap (λ x. put_at address x store) same) (ap (λ x. address + length x) same) (omega (arith, length-take n offered))
take_beyond (reading rest) offered store = refl

-- end

end_locate_closes : (place : Option Location) (s : DiskState) → pending_during (end_locate place s).1.command ≡ shut
end_locate_closes None s = refl
end_locate_closes (Some place) s = refl

end_own_closes : (c : Command) (s : DiskState) → pending_during (end_own c s).1.command ≡ shut
end_own_closes none s = refl
end_own_closes (locating taken) s = end_locate_closes (location_by taken) s
end_own_closes (writing address n) s = refl
end_own_closes (reading rest) s = refl

abbrev with_moved : DiskState → Moved → DiskState
with_moved s x = with_store x.0 x.1 s

pub disk_laws : CoreLaws disk_core
unfolding FitsPending
disk_laws = record {
  opens = λ code s h. opens_fitting code s h;
  give_drops = λ n s. give_pending s.command n;
  give_none = λ s. ap (λ c. with_open c s) (give_nothing s.command);
  give_parts = λ a b s h. ap (λ c. with_open c s) (give_more s.command a b);
  give_past = λ n s h. ap (λ c. with_open c s) (give_beyond s.command n h);
  take_fills = λ offered s. take_pending s.command offered;
  take_none = λ s. ap (with_moved s) (take_nothing s.command s.bytes);
  take_parts = λ a b s h. ap (with_moved s) (take_more s.command a b s.bytes);
  take_past = λ offered s. ap (with_moved s) (take_beyond s.command offered s.bytes);
  end_closes = λ s. end_own_closes s.command s;
}
