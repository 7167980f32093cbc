-- Rounds, one after the other, and how they end.
use Rattle.std.proofs.Common.{◌≡◌, ◌≢◌, ◌≤◌, ◌<◌, ◌+◌, ◌⊎◌, inl, inr, arith, ℕ, zero, suc, Bool, true, false, List, length, Option, Some, None, option_map}
use Rattle.std.proofs.Common.{Result, Ok, Err, refl, sym, ap, subst, ◌∙◌}
use Rattle.std.specs.Prelude.{IfNone, IfSome, IsSome, if◌then◌else◌}
use Rattle.std.specs.FinMap.{get}
use Rattle.lake_base.specs.Memory.{next_count}
use Rattle.lake_values.specs.Entry.{EntryValue}
use Rattle.lake_values.specs.Sameness.{same_entry}
use Rattle.lake_values.specs.declared.entry.Place.{Place}
use Rattle.lake_values.specs.declared.entry.Place.TheVariants.{Own, External}
use Rattle.lake_values.proofs.SamenessLemmas.{same_entry_decides}
use Rattle.commit_graph.specs.Expressions.{RefExprValue}
use Rattle.lake_core.specs.declared.standing.LakeOrigin.{LakeOrigin}
use Rattle.block_store.specs.Blocks.{HeldObjects}
use Rattle.shared_lake.specs.SeatSteps.{LakeSeat}
use Rattle.lake_calls.specs.CallExceptions.{HasRisen, HasRisenBy, number_at}
use Rattle.flow_steps.specs.FlowSeats.{state_at}
use Rattle.write_flow.specs.declared.answer.FlowFault.{FlowFault}
use Rattle.write_flow.specs.declared.answer.FlowFault.TheVariants.{TooManyTries, Lost, Damaged, BlockFault, NoMemory}
use Rattle.flow_steps.specs.FlowAnswers.{BlockCounts}
use Rattle.flow_steps.specs.Retries.{called_more}
use Rattle.read_flow.specs.declared.rounds.Round.{Round}
use Rattle.read_flow.specs.declared.rounds.Round.TheVariants.{Got, Missed, Refused}
use Rattle.read_flow.specs.ObjectLooks.{HasLooked, HaveFound, IsLookRefusal, OnlyLooked, OthersCame, TellsFound, look_up}
use Rattle.read_flow.specs.ObjectReads.{AskedOf, HasRead, HasRound, HoldsAt, IsFitted, LooksOn, MissedOf, NoLook, ObjectRead, ReadEnds, RoundEnds}
use Rattle.read_flow.specs.ObjectReads.{counted_between, round_after}
use Rattle.read_flow.proofs.LookLemmas.{look_own, look_refused, only_further, others_on, same_number, same_origin}

-- ---- numbers

pub called_after : (times : ℕ) (before : Option ℕ) → called_more (suc times) before ≡ option_map next_count (called_more times before)
called_after zero before = refl
called_after (suc times) before = called_after times (option_map next_count before)

next_times : (times : ℕ) → times + 1 ≡ suc times
next_times times = omega arith

called_next : (times : ℕ) (before now next : Option ℕ) → now ≡ called_more times before → next ≡ option_map next_count now
    → next ≡ called_more (times + 1) before
called_next times before now next is so =
    so ∙ ap (option_map next_count) is ∙ sym (called_after times before) ∙ ap (λ n. called_more n before) (sym (next_times times))

-- a count that rose by so many rose once more
risen_once : (by before now next : ℕ) → HasRisenBy by (record { before = before; now = now }) → HasRisen (record { before = now; now = next })
    → HasRisenBy (by + 1) (record { before = before; now = next })
risen_once by before now next some more = λ counting. let rose = more counting in
    let so = some (omega (arith, rose, counting)) in omega (arith, rose, so)

-- ---- what comes of a miss

module _ (repo path : List ℕ) (e : RefExprValue) (entry : EntryValue) (old new : LakeSeat) (blocks : BlockCounts) (held : Option HeldObjects) where
  abbrev Ends : Round → Type 0
  Ends = RoundEnds repo path e entry old new blocks held

  abbrev Looks : Result EntryValue FlowFault → Type 0
  Looks = LooksOn repo path e entry old new blocks held

  either_other : (other : EntryValue) (same : Bool) → same ≡ same_entry entry other → Looks (Ok other)
      → Ends (if same then Refused (Lost blocks.missed_last) else Missed other)
  either_other other true is looks =
      let equal = (same_entry_decides entry other).0 (sym is) in
      (subst (λ (o : EntryValue). Looks (Ok o)) (sym equal) looks, refl)
  either_other other false is looks =
      (looks, λ equal. let so = (same_entry_decides entry other).1 (sym equal) in absurd (let wrong = is ∙ so in cc (wrong)))

  refused_look : (fault : FlowFault) → IsLookRefusal fault → Looks (Err fault) → Ends (Refused fault)
  refused_look (Lost number) is looks = absurd is
  refused_look BlockFault is looks = absurd is
  refused_look NoMemory is looks = absurd is
  refused_look fault is looks = looks

  told_look : (fault : FlowFault) (found : Result EntryValue FlowFault) → TellsFound found (Err fault) → (fault ≡ NoMemory) ⊎ (found ≡ Err fault)
  told_look NoMemory found tells = inl refl
  told_look fault found tells = inr tells

  faulted_look : (fault : FlowFault) → Looks (Err fault) → Ends (Refused fault)
  faulted_look fault looks =
      let tells = looks.look.tells in
      elim (told_look fault (look_up (state_at looks.look.origin new.seen) repo e path) tells) [
        | inl none ↦ subst (λ f. Looks (Err f) → Ends (Refused f)) (sym none) (λ so. inr so) looks
        | inr is ↦ refused_look fault (look_refused (state_at looks.look.origin new.seen) repo e path fault is) looks
      ]

  pub missed_so : (told : Result EntryValue FlowFault) → Looks told → Ends (round_after entry blocks.missed_last told)
  missed_so (Ok other) looks = either_other other (same_entry entry other) refl looks
  missed_so (Err fault) looks = faulted_look fault looks

-- what holds where none was got
pub none_got : {X P : Type 0} (got : Option X) → got ≡ None → IfNone got P → P
none_got None is has = has
none_got (Some x) is has = absurd cc

-- under a number that is missed nothing is held
pub unheld_at : {X : Type 0} (items : X → List ℕ) (got : Option X) (held : Option HeldObjects) (place : Place) (number : ℕ) → got ≡ None
    → number_at place ≡ Some number → IfSome held (λ (objects : HeldObjects). option_map items got ≡ get objects number) → HoldsAt held place None
unheld_at items None None (Own own digest) number none is has = tt
unheld_at items None (Some objects) (Own own digest) number none is has =
    let same : own ≡ number = cc (is) in subst (λ n. get objects n ≡ None) (sym same) (sym has)
unheld_at items None held (External at checksum) number none is has = absurd cc
unheld_at items (Some x) held place number none is has = absurd cc

-- ---- under way

-- An entry was found, and so many gets missed: each found another one.
pub record UnderWay (repo path : List ℕ) (e : RefExprValue) (missed first : ℕ) (entry : EntryValue) (old now : LakeSeat) (blocks : BlockCounts)
    (held held_now : Option HeldObjects) (paused paused_now : Option ℕ) : Type 0 where
  pub origin : LakeOrigin
  pub only : OnlyLooked origin old now
  pub found : HaveFound origin old.number repo path e old.seen missed first entry now.seen
  pub pauses : paused_now ≡ called_more missed paused
  pub kept : held_now ≡ held
  pub counted : HasRisenBy missed blocks.misses
  pub faults : blocks.faults.before ≤ blocks.faults.now
  pub misses : blocks.misses.before ≤ blocks.misses.now

-- the entry that was found last
pub last_found : (origin : LakeOrigin) (seat : ℕ) (repo path : List ℕ) (e : RefExprValue) (from : List _) (again first : ℕ) (entry : EntryValue) (now : List _)
    → HaveFound origin seat repo path e from again first entry now → look_up (state_at origin now) repo e path ≡ Ok entry
last_found origin seat repo path e from zero first entry now found = found.1
last_found origin seat repo path e from (suc again) first entry now found = found.4

-- behind the beginning only others' entries came up to it
pub came_before : (origin : LakeOrigin) (seat : ℕ) (repo path : List ℕ) (e : RefExprValue) (from : List _) (again first : ℕ) (entry : EntryValue)
    (now : List _) → HaveFound origin seat repo path e from again first entry now → OthersCame seat from now
came_before origin seat repo path e from zero first entry now found = found.0
came_before origin seat repo path e from (suc again) first entry now found =
    others_on seat from found.1 now (came_before origin seat repo path e from again first found.0 found.1 found.2) found.3

module _ (repo path : List ℕ) (e : RefExprValue) (old now : LakeSeat) (faults misses missed_last : ℕ) (held : Option HeldObjects) (paused : Option ℕ) where
  abbrev still : BlockCounts
  still = counted_between faults misses faults misses missed_last

  -- the first look found an entry
  pub begun : (entry : EntryValue) (first : ℕ) → first ≡ length now.seen → HasLooked repo path e old now (Ok entry)
      → UnderWay repo path e 0 first entry old now still held held paused paused
  begun entry first is looked = record {
    origin = looked.origin;
    only = looked.only;
    found = (looked.only.came, looked.tells, is);
    pauses = refl;
    kept = refl;
    counted = λ counting. omega arith;
    faults = omega arith;
    misses = omega arith;
  }

  abbrev First : FlowFault → Type 0
  First fault = HasRead repo path e old now still held held paused paused (Err fault)

  first_ends : (fault : FlowFault) (looked : HasLooked repo path e old now (Err fault))
      → ReadEnds looked.origin old.number repo path e still held 0 0 old.seen (Err fault) now.seen → First fault
  first_ends fault looked ends = record {
    origin = looked.origin;
    only = looked.only;
    missed = 0;
    gets = 0;
    few = omega arith;
    others_missed = inl refl;
    pauses = refl;
    kept = refl;
    counted = λ counting. omega arith;
    faults = omega arith;
    misses = omega arith;
    ends = ends;
  }

  refused_first : (fault : FlowFault) → IsLookRefusal fault → HasLooked repo path e old now (Err fault) → First fault
  refused_first (TooManyTries first last) is looked = absurd is
  refused_first (Lost number) is looked = absurd is
  refused_first (Damaged named found) is looked = absurd is
  refused_first BlockFault is looked = absurd is
  refused_first NoMemory is looked = absurd is
  refused_first fault is looked = first_ends fault looked (is, looked.tells, inl (refl, refl))

  -- or it was refused
  pub not_begun : (fault : FlowFault) → HasLooked repo path e old now (Err fault) → First fault
  not_begun NoMemory looked = first_ends NoMemory looked tt
  not_begun fault looked =
      refused_first fault (look_refused (state_at looked.origin now.seen) repo e path fault looked.tells) looked

module _ (repo path : List ℕ) (e : RefExprValue) (missed first : ℕ) (entry : EntryValue) (old now next : LakeSeat)
    (faults misses faults_now misses_now last faults_next misses_next missed_last : ℕ) (held held_now held_next : Option HeldObjects)
    (paused paused_now paused_next : Option ℕ)
    (way : UnderWay repo path e missed first entry old now (counted_between faults misses faults_now misses_now last) held held_now paused paused_now)
    (under : missed < 10) where
  abbrev so_far : BlockCounts
  so_far = counted_between faults misses faults_next misses_next missed_last

  abbrev in_round : BlockCounts
  in_round = counted_between faults_now misses_now faults_next misses_next missed_last

  abbrev Rounds : Round → Type 0
  Rounds round = HasRound repo path e entry now next in_round held_now held_next paused_now paused_next round

  abbrev Reads : Result ObjectRead FlowFault → Type 0
  Reads outcome = HasRead repo path e old next so_far held held_next paused paused_next outcome

  abbrev Stays : Type 0
  Stays = NoLook repo path e entry now next in_round held_now

  abbrev LooksOnce : Result EntryValue FlowFault → Type 0
  LooksOnce told = LooksOn repo path e entry now next in_round held_now told

  module _ (round : Round) (rounds : Rounds round) where
    -- it ended without a look
    ended_here : (stays : Stays) (outcome : Result ObjectRead FlowFault)
        → ReadEnds way.origin old.number repo path e so_far held missed (missed + 1) old.seen outcome next.seen → Reads outcome
    ended_here stays outcome ends = record {
      origin = way.origin;
      only = subst (λ (s : LakeSeat). OnlyLooked way.origin old s) (sym stays.seat) way.only;
      missed = missed;
      gets = missed + 1;
      few = omega (arith, under);
      others_missed = inr refl;
      pauses = called_next missed paused paused_now paused_next way.pauses rounds.pause;
      kept = rounds.kept ∙ way.kept;
      counted = λ counting. let same = stays.none in let so = way.counted (omega (arith, same, counting)) in omega (arith, same, so);
      faults = let one = way.faults in let two = rounds.faults in omega (arith, one, two);
      misses = let one = way.misses in let two = rounds.misses in omega (arith, one, two);
      ends = ends;
    }

    asked : (stays : Stays) → AskedOf way.origin old.number repo path e so_far held missed (missed + 1) old.seen entry next.seen
    asked stays = record {
      first = first;
      found = subst (λ (s : LakeSeat). HaveFound way.origin old.number repo path e old.seen missed first entry s.seen) (sym stays.seat) way.found;
      once = refl;
    }

    held_first : (body : Option (List ℕ)) → HoldsAt held_now entry.place body → HoldsAt held entry.place body
    held_first body = subst (λ h. HoldsAt h entry.place body) way.kept

    -- it ended behind a look
    module _ (told : Result EntryValue FlowFault) (looks : LooksOnce told) where
      origin_is : looks.look.origin ≡ way.origin
      origin_is = same_origin way.origin looks.look.origin old now next way.only looks.look.only

      only_now : OnlyLooked way.origin now next
      only_now = subst (λ (o : LakeOrigin). OnlyLooked o now next) origin_is looks.look.only

      came : OthersCame old.number now.seen next.seen
      came = subst (λ n. OthersCame n now.seen next.seen) (same_number way.origin old now way.only) only_now.came

      tells : TellsFound (look_up (state_at way.origin next.seen) repo e path) told
      tells = subst (λ (o : LakeOrigin). TellsFound (look_up (state_at o next.seen) repo e path) told) origin_is looks.look.tells

      risen : HasRisenBy (missed + 1) so_far.misses
      risen = risen_once missed misses misses_now misses_next way.counted looks.counted

      missed_of : MissedOf way.origin old.number repo path e so_far held (missed + 1) (missed + 1) old.seen entry next.seen
      missed_of = record {
        again = missed;
        first = first;
        before = now.seen;
        found = way.found;
        came = came;
        once = refl;
        all = refl;
        unheld = held_first None looks.unheld;
      }

      ended_behind : (outcome : Result ObjectRead FlowFault)
          → ReadEnds way.origin old.number repo path e so_far held (missed + 1) (missed + 1) old.seen outcome next.seen → Reads outcome
      ended_behind outcome ends = record {
        origin = way.origin;
        only = only_further way.origin old now next way.only only_now;
        missed = missed + 1;
        gets = missed + 1;
        few = omega (arith, under);
        others_missed = inl refl;
        pauses = called_next missed paused paused_now paused_next way.pauses rounds.pause;
        kept = rounds.kept ∙ way.kept;
        counted = risen;
        faults = let one = way.faults in let two = rounds.faults in omega (arith, one, two);
        misses = let one = way.misses in let two = rounds.misses in omega (arith, one, two);
        ends = ends;
      }

      further : (other : EntryValue) → look_up (state_at way.origin next.seen) repo e path ≡ Ok other → other ≢ entry
          → UnderWay repo path e (missed + 1) first other old next so_far held held_next paused paused_next
      further other finds differ = record {
        origin = way.origin;
        only = only_further way.origin old now next way.only only_now;
        found = subst (λ n. HaveFound way.origin old.number repo path e old.seen n first other next.seen) (sym (next_times missed))
            (entry, now.seen, way.found, came, finds, differ);
        pauses = called_next missed paused paused_now paused_next way.pauses rounds.pause;
        kept = rounds.kept ∙ way.kept;
        counted = risen;
        faults = let one = way.faults in let two = rounds.faults in omega (arith, one, two);
        misses = let one = way.misses in let two = rounds.misses in omega (arith, one, two);
      }

  -- another entry was found
  pub missed_on : (other : EntryValue) → Rounds (Missed other)
      → UnderWay repo path e (missed + 1) first other old next so_far held held_next paused paused_next
  missed_on other rounds =
      let looks = rounds.ends.0 in
      further (Missed other) rounds (Ok other) looks other (tells (Missed other) rounds (Ok other) looks) rounds.ends.1

  -- bytes were got
  got : (body : List ℕ) (rounds : Rounds (Got body)) (outcome : Result ObjectRead FlowFault) → IsFitted (length next.seen) entry body outcome → Reads outcome
  got body rounds (Ok object) fitted =
      let stays = rounds.ends.0 in
      let held_so = held_first (Got body) rounds (Some body) rounds.ends.1 in
      ended_here (Got body) rounds stays (Ok object) (
        entry,
        asked (Got body) rounds stays,
        subst (λ b. IsFitted (length next.seen) entry b (Ok object)) (sym fitted.2) fitted,
        subst (λ b. HoldsAt held entry.place (Some b)) (sym fitted.2) held_so,
      )
  got body rounds (Err (Damaged named found)) fitted =
      let stays = rounds.ends.0 in
      ended_here (Got body) rounds stays (Err (Damaged named found))
      (entry, asked (Got body) rounds stays, body, fitted, held_first (Got body) rounds (Some body) rounds.ends.1)
  got body rounds (Err fault) fitted = absurd fitted

  pub got_so : (body : List ℕ) (at : ℕ) (outcome : Result ObjectRead FlowFault) → Rounds (Got body) → at ≡ length next.seen → IsFitted at entry body outcome
      → Reads outcome
  got_so body at outcome rounds is fitted = got body rounds outcome (subst (λ n. IsFitted n entry body outcome) is fitted)

  refused_on : (fault : FlowFault) → IsLookRefusal fault → (rounds : Rounds (Refused fault)) → LooksOnce (Err fault) → Reads (Err fault)
  refused_on (TooManyTries first last) is rounds looks = absurd is
  refused_on (Lost number) is rounds looks = absurd is
  refused_on (Damaged named found) is rounds looks = absurd is
  refused_on BlockFault is rounds looks = absurd is
  refused_on NoMemory is rounds looks = absurd is
  refused_on fault is rounds looks =
      ended_behind (Refused fault) rounds (Err fault) looks (Err fault)
      (is, tells (Refused fault) rounds (Err fault) looks, inr (entry, missed_of (Refused fault) rounds (Err fault) looks))

  memory_on : (rounds : Rounds (Refused NoMemory)) → Stays ⊎ LooksOnce (Err NoMemory) → Reads (Err NoMemory)
  memory_on rounds (inl stays) = ended_here (Refused NoMemory) rounds stays (Err NoMemory) tt
  memory_on rounds (inr looks) = ended_behind (Refused NoMemory) rounds (Err NoMemory) looks (Err NoMemory) tt

  -- it was refused
  pub refused_so : (fault : FlowFault) → Rounds (Refused fault) → Reads (Err fault)
  refused_so BlockFault rounds =
      let stays = rounds.ends.0 in
      ended_here (Refused BlockFault) rounds stays (Err BlockFault) (
        entry,
        asked (Refused BlockFault) rounds stays,
        λ counting. let rose = rounds.ends.1 counting in let before = way.faults in omega (arith, rose, before),
      )
  refused_so NoMemory rounds = memory_on rounds rounds.ends
  refused_so (Lost number) rounds =
      let looks = rounds.ends.0 in
      ended_behind (Refused (Lost number)) rounds (Ok entry) looks (Err (Lost number)) (
        entry,
        missed_of (Refused (Lost number)) rounds (Ok entry) looks,
        tells (Refused (Lost number)) rounds (Ok entry) looks,
        looks.number ∙ ap Some (sym rounds.ends.1),
        sym rounds.ends.1,
      )
  refused_so fault rounds =
      refused_on fault
      (look_refused (state_at way.origin next.seen) repo e path fault (tells (Refused fault) rounds (Err fault) rounds.ends)) rounds rounds.ends

-- ---- ten gets missed

pub ten_missed : (repo path : List ℕ) (e : RefExprValue) (missed first last : ℕ) (entry : EntryValue) (old now : LakeSeat) (blocks : BlockCounts)
    (held held_now : Option HeldObjects) (paused paused_now : Option ℕ) → missed ≡ 10 → last ≡ length now.seen
    → UnderWay repo path e missed first entry old now blocks held held_now paused paused_now
    → HasRead repo path e old now blocks held held_now paused paused_now (Err (TooManyTries first last))
ten_missed repo path e missed first last entry old now blocks held held_now paused paused_now ten at way =
    let way_ten = subst (λ n. UnderWay repo path e n first entry old now blocks held held_now paused paused_now) ten way in
    record {
      origin = way_ten.origin;
      only = way_ten.only;
      missed = 10;
      gets = 10;
      few = omega arith;
      others_missed = inl refl;
      pauses = way_ten.pauses;
      kept = way_ten.kept;
      counted = way_ten.counted;
      faults = way_ten.faults;
      misses = way_ten.misses;
      ends = (entry, way_ten.found, at, refl, refl);
    }

-- the entry that was found last is the lake's own, and the seat is one of the same lake
pub way_own : (repo path : List ℕ) (e : RefExprValue) (missed first : ℕ) (entry : EntryValue) (old now : LakeSeat) (blocks : BlockCounts)
    (held held_now : Option HeldObjects) (paused paused_now : Option ℕ)
    → UnderWay repo path e missed first entry old now blocks held held_now paused paused_now → IsSome (number_at entry.place)
way_own repo path e missed first entry old now blocks held held_now paused paused_now way =
    look_own (state_at way.origin now.seen) repo e path entry
    (last_found way.origin old.number repo path e old.seen missed first entry now.seen way.found)
