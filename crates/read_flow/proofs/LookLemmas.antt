-- What a look of a seat finds, and what it is refused for.
use Rattle.std.proofs.Common.{◌≡◌, ℕ, Bool, true, false, List, Option, Some, None, Result, Ok, Err, refl, sym, ap, subst, ◌∙◌}
use Rattle.std.specs.Prelude.{IsSome, if◌then◌else◌}
use Rattle.std.specs.FinMap.{get}
use Rattle.std.specs.Option.{option_map_or}
use Rattle.lake_base.specs.declared.digest.Digest.{Digest}
use Rattle.lake_values.specs.Entry.{EntryValue}
use Rattle.lake_values.specs.declared.entry.Place.{Place}
use Rattle.lake_values.specs.declared.entry.Place.TheVariants.{Own, External}
use Rattle.commit_graph.specs.Expressions.{RefExprValue}
use Rattle.commit_graph.specs.Moves.{moves_target}
use Rattle.lake_model.specs.declared.fault.Reference.TheVariants as reference
use Rattle.lake_model.specs.declared.fault.StepFault.{StepFault}
use Rattle.lake_model.specs.declared.fault.StepFault.TheVariants as step
use Rattle.lake_model.specs.declared.reply.Seen.{Seen}
use Rattle.lake_model.specs.State.{Repository, State}
use Rattle.lake_model.specs.Readings.{expression_map, look_reply, map_at, seen_in, ◌then◌}
use Rattle.lake_model.specs.Refusals.{Gives}
use Rattle.lake_model.specs.Resolving.{name_target, parent_fault, moved_target}
use Rattle.core_puts.specs.KeeperViews.{KeeperView}
use Rattle.lake_core.specs.declared.standing.LakeOrigin.{LakeOrigin}
use Rattle.lake_core.specs.Lakes.{LakeValue, state}
use Rattle.turn_lock.specs.Seats.{seat_after}
use Rattle.shared_lake.specs.SeatSteps.{IsRead, LakeSeat, origin_of}
use Rattle.call_placement.specs.Sessions.{caller}
use Rattle.call_placement.proofs.WalkLemmas.{came_on}
use Rattle.lake_calls.specs.CallExceptions.{number_at}
use Rattle.lake_calls.specs.LakeRules.{lake_rules}
use Rattle.flow_steps.proofs.SeatFlowLemmas.{answer_read, came_to_reading, goes_by_reading, goes_further}
use Rattle.write_flow.specs.declared.answer.FlowFault.{FlowFault}
use Rattle.write_flow.specs.declared.answer.FlowFault.TheVariants.{Step, NoPath, Gone, NotHeld, NoMemory}
use Rattle.write_flow.specs.FlowFaults.{fault_of_step}
use Rattle.read_flow.specs.ObjectLooks.{HasLooked, IsLookRefusal, OnlyLooked, OthersCame, TellsFound, gettable, look_up, object_of}

-- ---- what a look is refused for

abbrev no_seen : StepFault → Result Seen StepFault
no_seen fault = Err fault

abbrev no_object : FlowFault → Result EntryValue FlowFault
no_object fault = Err fault

abbrev an_object : EntryValue → Result EntryValue FlowFault
an_object entry = Ok entry

by_step : (one fault : StepFault) → no_seen one ≡ no_seen fault → IsLookRefusal (Step one) → IsLookRefusal (Step fault)
by_step one fault same is = let equal : one ≡ fault = cc (same) in subst (λ f. IsLookRefusal (Step f)) equal is

by_fault : (one fault : FlowFault) → no_object one ≡ no_object fault → IsLookRefusal one → IsLookRefusal fault
by_fault one fault same is = let equal : one ≡ fault = cc (same) in subst IsLookRefusal equal is

module _ (state : State) (e : RefExprValue) (path : List ℕ) (fault : StepFault) where
  -- what is told behind the commit that an expression leads to
  abbrev behind : Repository → Result Digest StepFault → Result Seen StepFault
  behind r target = (target then λ id. Ok (map_at r e id)) then λ map. Ok (seen_in state map path)

  by_moves : (r : Repository) (moves : Result Digest ℕ) → behind r (parent_fault moves) ≡ no_seen fault → IsLookRefusal (Step fault)
  by_moves r (Ok id) is = absurd cc
  by_moves r (Err number) is = by_step (step.NoParent number) fault is tt

  by_name : (r : Repository) (target : Option Digest) → behind r (moved_target r e target) ≡ no_seen fault → IsLookRefusal (Step fault)
  by_name r None is = by_step (step.NoRef reference.Expression) fault is tt
  by_name r (Some id) is = by_moves r (moves_target r.commits 0 id e.moves) is

  by_repository : (found : Option Repository)
      → option_map_or (λ (r : Repository). expression_map r e then λ map. Ok (seen_in state map path)) found (Err step.NoRepo) ≡ no_seen fault
      → IsLookRefusal (Step fault)
  by_repository None is = by_step step.NoRepo fault is tt
  by_repository (Some r) is = by_name r (name_target r e.name) is

step_refused : (state : State) (repo : List ℕ) (e : RefExprValue) (path : List ℕ) (fault : StepFault) → look_reply state repo e path ≡ no_seen fault
    → IsLookRefusal (Step fault)
step_refused state repo e path fault is = by_repository state e path fault (get state.repositories repo) is

-- such a step's refusal is answered as it is
as_flow : (fault : StepFault) → IsLookRefusal (Step fault) → fault_of_step fault ≡ Step fault
as_flow step.NoPath is = absurd is
as_flow step.NoMemory is = absurd is
as_flow fault is = refl

gone_refused : (number : ℕ) (entry : EntryValue) (gone : Bool) (fault : FlowFault)
    → (if gone then no_object (Gone number) else an_object entry) ≡ no_object fault → IsLookRefusal fault
gone_refused number entry true fault is = by_fault (Gone number) fault is tt
gone_refused number entry false fault is = absurd cc

place_refused : (place : Place) (entry : EntryValue) (gone : Bool) (fault : FlowFault) → gettable place entry gone ≡ no_object fault → IsLookRefusal fault
place_refused (Own number digest) entry gone fault is = gone_refused number entry gone fault is
place_refused (External at checksum) entry gone fault is = by_fault (NotHeld at) fault is tt

entry_refused : (gone : Bool) (found : Option EntryValue) (fault : FlowFault)
    → option_map_or (λ (entry : EntryValue). gettable entry.place entry gone) found (no_object NoPath) ≡ no_object fault → IsLookRefusal fault
entry_refused gone None fault is = by_fault NoPath fault is tt
entry_refused gone (Some entry) fault is = place_refused entry.place entry gone fault is

told_refused : (told : Result Seen StepFault) (fault : FlowFault) → ((one : StepFault) → told ≡ no_seen one → IsLookRefusal (Step one))
    → object_of told ≡ no_object fault → IsLookRefusal fault
told_refused (Ok seen) fault why is = entry_refused seen.gone seen.found fault is
told_refused (Err one) fault why is =
    let kind = why one refl in by_fault (fault_of_step one) fault is (subst IsLookRefusal (sym (as_flow one kind)) kind)

pub look_refused : (state : State) (repo : List ℕ) (e : RefExprValue) (path : List ℕ) (fault : FlowFault)
    → look_up state repo e path ≡ no_object fault → IsLookRefusal fault
look_refused state repo e path fault is =
    told_refused (look_reply state repo e path) fault (λ one same. step_refused state repo e path one same) is

-- ---- what it finds

gone_own : (number : ℕ) (digest : Digest) (entry other : EntryValue) (gone : Bool)
    → (if gone then no_object (Gone number) else an_object entry) ≡ an_object other
    → entry ≡ other
gone_own number digest entry other true is = absurd cc
gone_own number digest entry other false is = cc

place_own : (place : Place) (entry other : EntryValue) (gone : Bool) → gettable place entry gone ≡ an_object other → IsSome (number_at place) × (entry ≡ other)
place_own (Own number digest) entry other gone is = (refl, gone_own number digest entry other gone is)
place_own (External at checksum) entry other gone is = absurd cc

entry_own : (gone : Bool) (found : Option EntryValue) (other : EntryValue)
    → option_map_or (λ (entry : EntryValue). gettable entry.place entry gone) found (no_object NoPath) ≡ an_object other → IsSome (number_at other.place)
entry_own gone None other is = absurd cc
entry_own gone (Some entry) other is =
    let own = place_own entry.place entry other gone is in subst (λ (o : EntryValue). IsSome (number_at o.place)) own.1 own.0

told_own : (told : Result Seen StepFault) (other : EntryValue) → object_of told ≡ an_object other → IsSome (number_at other.place)
told_own (Ok seen) other is = entry_own seen.gone seen.found other is
told_own (Err one) other is = absurd cc

-- the entry that a look finds is the lake's own
pub look_own : (state : State) (repo : List ℕ) (e : RefExprValue) (path : List ℕ) (entry : EntryValue) → look_up state repo e path ≡ an_object entry
    → IsSome (number_at entry.place)
look_own state repo e path entry is = told_own (look_reply state repo e path) entry is

-- ---- a seat that only looked

pub others_on : (seat : ℕ) (xs ys zs : List _) → OthersCame seat xs ys → OthersCame seat ys zs → OthersCame seat xs zs
others_on seat xs ys zs one two = came_on lake_rules (caller seat 0) xs ys zs one two

pub same_number : (origin : LakeOrigin) (old now : LakeSeat) → OnlyLooked origin old now → now.number ≡ old.number
same_number origin old now only = ap (λ (s : LakeSeat). s.number) only.adds_none

pub same_turn : (origin : LakeOrigin) (old now : LakeSeat) → OnlyLooked origin old now → now.turn ≡ old.turn
same_turn origin old now only = ap (λ (s : LakeSeat). s.turn) only.adds_none

-- and looked on
pub only_further : (origin : LakeOrigin) (old now next : LakeSeat) → OnlyLooked origin old now → OnlyLooked origin now next → OnlyLooked origin old next
only_further origin old now next one two = record {
  goes = λ call. goes_further origin call old now next (one.goes call) (two.goes call);
  came = others_on old.number old.seen now.seen next.seen one.came
      (subst (λ n. OthersCame n now.seen next.seen) (same_number origin old now one) two.came);
  adds_none = two.adds_none ∙ ap (λ (s : LakeSeat). seat_after s next.seen s.mine) one.adds_none;
}

-- of the same origin
pub same_origin : (origin other : LakeOrigin) (old now next : LakeSeat) → OnlyLooked origin old now → OnlyLooked other now next → other ≡ origin
same_origin origin other old now next one two =
    let from = (one.goes 0).from in
    let both : Some other ≡ Some origin = sym (two.goes 0).from ∙ ap (λ (s : LakeSeat). s.origin) one.adds_none ∙ from in cc (both)

-- ---- one look

told_so : (told found : Result EntryValue FlowFault) → found ≡ told → TellsFound found told
told_so (Ok entry) found is = is
told_so (Err NoMemory) found is = tt
told_so (Err fault) found is = is

given_so : (answered reply : Result Seen StepFault) → Gives answered reply → TellsFound (object_of reply) (object_of answered)
given_so (Err step.NoMemory) reply gives = tt
given_so (Err fault) reply gives = told_so (object_of (Err fault)) (object_of reply) (sym (ap object_of gives))
given_so (Ok seen) reply gives = told_so (object_of (Ok seen)) (object_of reply) (sym (ap object_of gives))

module _ {K : Type 0} (view : KeeperView K) (old new : LakeSeat) (repo path : List ℕ) (e : RefExprValue) (answered : Result Seen StepFault)
    (read : IsRead view old new (λ (l : LakeValue K). Gives answered (look_reply (state l) repo e path))) where
  abbrev Answers : LakeValue K → Type 0
  Answers l = Gives answered (look_reply (state l) repo e path)

  abbrev origin : LakeOrigin
  origin = origin_of view read.found

  pub has_looked : (told : Result EntryValue FlowFault) → told ≡ object_of answered → HasLooked repo path e old new told
  has_looked told is = subst (HasLooked repo path e old new) (sym is) (record {
    origin = origin;
    only = record {
      goes = λ call. goes_by_reading view old new Answers read call origin read.finds.origin;
      came = came_to_reading view old new Answers read 0;
      adds_none = read.seat ∙ ap (λ es. seat_after old es old.mine) (sym (ap (λ (s : LakeSeat). s.seen) read.seat));
    };
    tells = answer_read view old new Answers read (λ s given. TellsFound (look_up s repo e path) (object_of answered)) origin read.finds.origin
        (λ l gives. given_so answered (look_reply (state l) repo e path) gives);
  })
