-- What flows are told and meet; and their tries, one after the other.
use Rattle.std.proofs.Common.{◌≡◌, ◌≤◌, ◌+◌, ℕ, zero, suc, List, [], ◌∷◌, ◌++◌, length, drop, Option, Some, None, refl, sym, ap, subst, ◌∙◌, arith}
use Rattle.std.proofs.Common.{append_assoc}
use Rattle.std.specs.Prelude.{◌==◌, Bool, true, false, if◌then◌else◌}
use Rattle.std.proofs.lemmas.Bool.{ne_eqb}
use Rattle.std.proofs.lemmas.List.{append-nil, length-append}
use Rattle.lake_model.specs.declared.fault.Reference.TheVariants as reference
use Rattle.lake_model.specs.declared.fault.StepFault.{StepFault}
use Rattle.lake_model.specs.declared.fault.StepFault.TheVariants as step
use Rattle.lake_model.specs.declared.history.HistoryEntry.{HistoryEntry}
use Rattle.lake_model.specs.Refusals.{IsRefusal}
use Rattle.lake_laws.specs.VersionGivers.{count_of}
use Rattle.lake_laws.proofs.GiverLemmas.{count_append}
use Rattle.lake_core.specs.declared.standing.LakeOrigin.{LakeOrigin}
use Rattle.core_puts.specs.KeeperViews.{KeeperView}
use Rattle.lake_core.specs.Lakes.{LakeValue}
use Rattle.shared_lake.specs.SeatSteps.{Finds, LakeSeat}
use Rattle.turn_lock.specs.Seats.{seat_after}
use Rattle.call_placement.specs.Rules.{Caller}
use Rattle.call_placement.specs.Points.{Came}
use Rattle.call_placement.specs.Sessions.{caller}
use Rattle.call_placement.proofs.WalkLemmas.{came_on, drop_front, further, nothing_came}
use Rattle.lake_calls.specs.CallExceptions.{CallMet, Counts, HasRisen}
use Rattle.lake_calls.specs.CallRefusals.{CallNames, told}
use Rattle.lake_calls.specs.LakeRules.{lake_rules}
use Rattle.lake_calls.specs.declared.reply.Refusal.{Refusal}
use Rattle.flow_steps.specs.FlowAnswers.{BlockCounts}
use Rattle.flow_steps.specs.FlowSeats.{GoesOn}
use Rattle.flow_steps.specs.Retries.{AreEnds, FoundInTurn}
use Rattle.flow_steps.proofs.SeatFlowLemmas.{finds_since, goes_further}
use Rattle.flow_steps.proofs.VersionCauseLemmas.{IsUnversioned}

-- what a call met that got no bytes, by what the stores counted, and how many of its tries found another version
abbrev pub met_by : (store : Counts) → BlockCounts → (changed : ℕ) → CallMet
met_by store blocks changed = record {
  store_faults = store;
  block_faults = blocks.faults;
  misses = blocks.misses;
  missed_last = blocks.missed_last;
  bytes = None;
  changed = changed;
  missed = 0;
}

-- the store of pairs counted nothing that is told
abbrev pub no_store : Counts
no_store = record { before = 0; now = 0 }

-- it counted a fault
abbrev pub one_fault : Counts
one_fault = record { before = 0; now = 1 }

pub fault_counted : HasRisen one_fault
fault_counted below = omega arith

-- what a client is told of a step's refusal, which is neither for a version, nor of the store, nor for memory
pub told_some : (names : CallNames) (fault : StepFault) → IsUnversioned fault → IsRefusal fault → (refused : Refusal) × (told names fault ≡ Some refused)
told_some names (step.Changed version settings) u r = absurd u
told_some names step.StoreFault u r = absurd r
told_some names step.NoMemory u r = absurd r
told_some names (step.NoRef reference.Named) u r = (_, refl)
told_some names (step.NoRef reference.Expression) u r = (_, refl)
told_some names (step.NoRef reference.After) u r = (_, refl)
told_some names fault u r = (_, refl)

-- ---- what tries found, one after the other

module _ (Found : (version : ℕ) → (from next : List HistoryEntry) → Type 0) where
  in_turn_append : (versions more : List ℕ) (from between next : List HistoryEntry) → FoundInTurn Found versions from between
      → FoundInTurn Found more between next → FoundInTurn Found (versions ++ more) from next
  in_turn_append [] more from between next is rest = subst (λ es. FoundInTurn Found more es next) is rest
  in_turn_append (version ∷ later) more from between next found rest =
      (found.0, found.1, in_turn_append later more found.0 between next found.2 rest)

  -- so many tries, at least one: the first and the last version that they found
  pub record HaveFound (changed first last : ℕ) (from next : List HistoryEntry) : Type 0 where
    pub versions : List ℕ
    pub found : FoundInTurn Found versions from next
    pub count : length versions ≡ changed
    pub ends : AreEnds first last versions

  found_once : (version : ℕ) (from next : List HistoryEntry) → Found version from next → HaveFound 1 version version from next
  found_once version from next found = record {
    versions = version ∷ [];
    found = (next, found, refl);
    count = refl;
    ends = record { later = []; begins = refl; before = []; ends = refl };
  }

  -- and one more
  found_more : (changed first last version : ℕ) (from now next : List HistoryEntry) → HaveFound changed first last from now → Found version now next
      → HaveFound (changed + 1) first version from next
  found_more changed first last version from now next have found = record {
    versions = have.versions ++ version ∷ [];
    found = in_turn_append have.versions (version ∷ []) from now next have.found (next, found, refl);
    count = length-append have.versions (version ∷ []) ∙ ap (λ n. n + 1) have.count;
    ends = record {
      later = have.ends.later ++ version ∷ [];
      begins = ap (λ vs. vs ++ version ∷ []) have.ends.begins;
      before = have.versions;
      ends = refl;
    };
  }

  -- only others' entries came in them
  pub came_in_turn : (by : Caller) → ((version : ℕ) (from next : List HistoryEntry) → Found version from next → Came lake_rules by from next)
      → (versions : List ℕ) (from next : List HistoryEntry) → FoundInTurn Found versions from next → Came lake_rules by from next
  came_in_turn by each [] from next is = subst (Came lake_rules by from) (sym is) (nothing_came lake_rules by from)
  came_in_turn by each (version ∷ later) from next found =
      came_on lake_rules by from found.0 next (each version from found.0 found.1) (came_in_turn by each later found.0 next found.2)

  -- entries behind others, as many of which pass a test as it was asked so often
  abbrev pub GivenBehind : (test : HistoryEntry → Bool) → (times : ℕ) → (from next : List HistoryEntry) → Type 0
  GivenBehind test times from next = (more : List HistoryEntry) × (next ≡ from ++ more) × (times ≤ count_of test more)

  pub given_in_turn : (test : HistoryEntry → Bool)
      → ((version : ℕ) (from next : List HistoryEntry) → Found version from next → GivenBehind test 1 from next)
      → (versions : List ℕ) (from next : List HistoryEntry) → FoundInTurn Found versions from next → GivenBehind test (length versions) from next
  given_in_turn test each [] from next is = ([], is ∙ sym (append-nil from), omega arith)
  given_in_turn test each (version ∷ later) from next found =
      let one = each version from found.0 found.1 in
      let rest = given_in_turn test each later found.0 next found.2 in
      let sum = count_append test one.0 rest.0 in (
        one.0 ++ rest.0,
        further from found.0 one.0 rest.0 next rest.1 one.1,
        omega (arith, one.2, rest.2, sum),
      )

-- as many entries pass a test since a call began as since its tries did
pub counted_since : (test : HistoryEntry → Bool) (times : ℕ) (before from found added more : List HistoryEntry) → from ≡ before ++ added → found ≡ from ++ more
    → times ≤ count_of test (drop (length from) found) → times ≤ count_of test (drop (length before) found)
counted_since test times before from found added more began whole some =
    let all : count_of test (drop (length before) found) ≡ count_of test (added ++ more) =
    ap (count_of test) (drop_front before (added ++ more) found (further before from added more found whole began)) in
    let late : count_of test (drop (length from) found) ≡ count_of test more = ap (count_of test) (drop_front from more found whole) in
    let sum = count_append test added more in
    omega (arith, some, all, late, sum)

-- ---- tries of a seat

-- two origins of one seat are one
pub one_origin : (origin other : LakeOrigin) (old now : LakeSeat) (seen mine : List HistoryEntry) → old.origin ≡ Some origin → now ≡ seat_after old seen mine
    → now.origin ≡ Some other → other ≡ origin
one_origin origin other old now seen mine from seat is =
    let both : Some other ≡ Some origin = sym is ∙ ap (λ (s : LakeSeat). s.origin) seat ∙ from in cc (both)

positive : (n : ℕ) → suc n ≡ 0 → ⊥
positive n is = absurd cc

module _ (Found : LakeOrigin → Caller → (version : ℕ) → (from next : List HistoryEntry) → Type 0) (call : ℕ) where
  -- nothing tried yet, or some tries that all found another version
  pub data UnderWay (changed first last : ℕ) (old now : LakeSeat) : Type 0 where
    NoneTried : changed ≡ 0 → now ≡ old → UnderWay changed first last old now
    SomeTried : (origin : LakeOrigin) → GoesOn origin call old now
        → HaveFound (Found origin (caller old.number call)) changed first last old.seen now.seen → UnderWay changed first last old now

  -- what came of a seat's last try, behind so many that found another version
  pub record LastBehind (Ends : LakeOrigin → Caller → (from next : List HistoryEntry) → Type 0) (changed : ℕ) (old next : LakeSeat) : Type 0 where
    pub origin : LakeOrigin
    pub goes : GoesOn origin call old next
    pub versions : List ℕ
    pub between : List HistoryEntry
    pub found : FoundInTurn (Found origin (caller old.number call)) versions old.seen between
    pub count : length versions ≡ changed
    pub last : Ends origin (caller old.number call) between next.seen

  module _ (changed first last : ℕ) (old now : LakeSeat) where
    -- a try of the seat now is one of the call
    moved : (Ends : LakeOrigin → Caller → (from next : List HistoryEntry) → Type 0) (origin other : LakeOrigin) (next : LakeSeat)
        → GoesOn origin call old now → GoesOn other call now next → Ends other (caller now.number call) now.seen next.seen
        → GoesOn origin call old next × Ends origin (caller old.number call) now.seen next.seen
    moved Ends origin other next goes more ends =
        let same = one_origin origin other old now now.seen now.mine goes.from goes.seat more.from in
        let number : now.number ≡ old.number = ap (λ (s : LakeSeat). s.number) goes.seat in (
          goes_further origin call old now next goes (subst (λ (o : LakeOrigin). GoesOn o call now next) same more),
          subst (λ n. Ends origin (caller n call) now.seen next.seen) number
              (subst (λ (o : LakeOrigin). Ends o (caller now.number call) now.seen next.seen) same ends),
        )

    pub last_behind : (Ends : LakeOrigin → Caller → (from next : List HistoryEntry) → Type 0) (other : LakeOrigin) (next : LakeSeat)
        → UnderWay changed first last old now → GoesOn other call now next → Ends other (caller now.number call) now.seen next.seen
        → LastBehind Ends changed old next
    last_behind Ends other next (NoneTried none is) more ends =
        subst (λ (s : LakeSeat). LastBehind Ends changed s next) is (record {
          origin = other;
          goes = more;
          versions = [];
          between = now.seen;
          found = refl;
          count = sym none;
          last = ends;
        })
    last_behind Ends other next (SomeTried origin goes have) more ends =
        let all = moved Ends origin other next goes more ends in
        record {
          origin = origin;
          goes = all.0;
          versions = have.versions;
          between = now.seen;
          found = have.found;
          count = have.count;
          last = all.1;
        }

    -- another version was found, once more
    pub changed_behind : (version : ℕ) (other : LakeOrigin) (next : LakeSeat) → UnderWay changed first last old now → GoesOn other call now next
        → Found other (caller now.number call) version now.seen next.seen
        → UnderWay (changed + 1) (if changed == 0 then version else first) version old next
    changed_behind version other next (NoneTried none is) more found =
        subst (λ n. UnderWay (n + 1) (if n == 0 then version else first) version old next) (sym none)
        (subst (λ (s : LakeSeat). UnderWay 1 version version s next) is
        (SomeTried other more (found_once (Found other (caller now.number call)) version now.seen next.seen found)))
    changed_behind version other next (SomeTried origin goes have) more found =
        let by = caller old.number call in
        let all = moved (λ o by from to. Found o by version from to) origin other next goes more found in
        let some : suc (length have.ends.later) ≡ changed = sym (ap length have.ends.begins) ∙ have.count in
        let tried : (changed == 0) ≡ false = ne_eqb changed 0 (λ none. positive (length have.ends.later) (some ∙ none)) in
        SomeTried origin all.0
        (subst (λ (b : Bool). HaveFound (Found origin by) (changed + 1) (if b then version else first) version old.seen next.seen) (sym tried)
        (found_more (Found origin by) changed first last version old.seen now.seen next.seen have all.1))

    -- ten tries are all
    pub record TenTried : Type 0 where
      pub origin : LakeOrigin
      pub goes : GoesOn origin call old now
      pub have : HaveFound (Found origin (caller old.number call)) 10 first last old.seen now.seen

    pub ten_tried : changed ≡ 10 → UnderWay changed first last old now → TenTried
    ten_tried ten (NoneTried none is) = absurd (positive 9 (sym ten ∙ none))
    ten_tried ten (SomeTried origin goes have) = record {
      origin = origin;
      goes = goes;
      have = subst (λ n. HaveFound (Found origin (caller old.number call)) n first last old.seen now.seen) ten have;
    }

    -- the seat is one of the same lake
    pub same_turn : UnderWay changed first last old now → now.turn ≡ old.turn
    same_turn (NoneTried none is) = ap (λ (s : LakeSeat). s.turn) is
    same_turn (SomeTried origin goes have) = ap (λ (s : LakeSeat). s.turn) goes.seat

    pub same_number : UnderWay changed first last old now → now.number ≡ old.number
    same_number (NoneTried none is) = ap (λ (s : LakeSeat). s.number) is
    same_number (SomeTried origin goes have) = ap (λ (s : LakeSeat). s.number) goes.seat

    -- what it may find now it might have found before
    pub finds_then : {K : Type 0} (view : KeeperView K)
        → ((origin : LakeOrigin) (by : Caller) (version : ℕ) (from next : List HistoryEntry) → Found origin by version from next
        → Came lake_rules by from next)
        → UnderWay changed first last old now → (found : LakeValue K) → Finds view now found → Finds view old found
    finds_then view each (NoneTried none is) found finds = subst (λ (s : LakeSeat). Finds view s found) is finds
    finds_then view each (SomeTried origin goes have) found finds =
        let by = caller old.number call in
        finds_since view origin call old now goes
        (came_in_turn (Found origin by) by (each origin by) have.versions old.seen now.seen have.found) found finds
