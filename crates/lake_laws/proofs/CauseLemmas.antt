-- Where no cause holds, each of them is nothing, and the other way round.
use Rattle.std.proofs.Common.{◌≡◌, ◌<◌, ℕ, Bool, true, false, not, nat_lt, List, [], ◌∷◌, refl, ap}
use Rattle.std.proofs.lemmas.Bool.{lt-ltb, ltb-true, not-false, not_from_true}
use Rattle.std.specs.Prelude.{Option, Some, None}
use Rattle.std.specs.Option.{option_or}
use Rattle.lake_model.specs.declared.fault.StepFault.{StepFault}
use Rattle.lake_model.specs.declared.fault.StepFault.TheVariants.{Stopped, HistoryFull}
use Rattle.lake_model.specs.declared.history.HistoryEntry.{HistoryEntry}
use Rattle.lake_model.specs.State.{State}
use Rattle.lake_model.specs.History.{Allows, IsPossible, operation_of}
use Rattle.lake_model.specs.Refusals.{Causes, first_of, first_cause, cause_if, causes_of_change}

-- each cause is nothing
pub record HasNoCause (c : Causes) : Type 0 where
  pub stopped : c.stopped ≡ None
  pub full : c.full ≡ None
  pub repository : c.repository ≡ None
  pub reference : c.reference ≡ None
  pub parent : c.parent ≡ None
  pub note : c.note ≡ None
  pub exists : c.exists ≡ None
  pub default_branch : c.default_branch ≡ None
  pub protected : c.protected ≡ None
  pub version : c.version ≡ None
  pub path : c.path ≡ None
  pub expired : c.expired ≡ None
  pub clash : c.clash ≡ None

-- where the first of some is nothing, the front one is, and the first of the others
none_first : (o : Option StepFault) (later : List (Option StepFault)) → first_of (o ∷ later) ≡ None → (o ≡ None) × (first_of later ≡ None)
none_first None later is = (refl, is)
none_first (Some fault) later is = absurd cc

first_none : (o : Option StepFault) (later : List (Option StepFault)) → o ≡ None → first_of later ≡ None → first_of (o ∷ later) ≡ None
first_none None later is none = none
first_none (Some fault) later is none = absurd cc

-- no cause holds: each is nothing
pub no_cause : (c : Causes) → first_cause c ≡ None → HasNoCause c
no_cause c none =
    let a = none_first c.stopped _ none in
    let b = none_first c.full _ a.1 in
    let d = none_first c.repository _ b.1 in
    let e = none_first c.reference _ d.1 in
    let f = none_first c.parent _ e.1 in
    let g = none_first c.note _ f.1 in
    let h = none_first c.exists _ g.1 in
    let i = none_first c.default_branch _ h.1 in
    let j = none_first c.protected _ i.1 in
    let k = none_first c.version _ j.1 in
    let l = none_first c.path _ k.1 in
    let m = none_first c.expired _ l.1 in
    let n = none_first c.clash _ m.1 in
    record {
      stopped = a.0;
      full = b.0;
      repository = d.0;
      reference = e.0;
      parent = f.0;
      note = g.0;
      exists = h.0;
      default_branch = i.0;
      protected = j.0;
      version = k.0;
      path = l.0;
      expired = m.0;
      clash = n.0;
    }

-- each is nothing: no cause holds
pub none_holds : (c : Causes) → c.stopped ≡ None → c.full ≡ None → c.repository ≡ None → c.reference ≡ None → c.parent ≡ None
    → c.note ≡ None → c.exists ≡ None → c.default_branch ≡ None → c.protected ≡ None → c.version ≡ None → c.path ≡ None
    → c.expired ≡ None → c.clash ≡ None → first_cause c ≡ None
none_holds c stopped full repository reference parent note exists default_branch protected version path expired clash =
    first_none c.stopped _ stopped (first_none c.full _ full (first_none c.repository _ repository
    (first_none c.reference _ reference (first_none c.parent _ parent (first_none c.note _ note
    (first_none c.exists _ exists (first_none c.default_branch _ default_branch (first_none c.protected _ protected
    (first_none c.version _ version (first_none c.path _ path (first_none c.expired _ expired
    (first_none c.clash [] clash refl))))))))))))

-- a cause that doesn't hold: its test fails
pub test_fails : (test : Bool) (fault : StepFault) → cause_if test fault ≡ None → test ≡ false
test_fails true fault none = absurd cc
test_fails false fault none = refl

-- and the other way round
pub cause_fails : (test : Bool) (fault : StepFault) → test ≡ false → cause_if test fault ≡ None
cause_fails test fault is = ap (λ b. cause_if b fault) is

-- a cause that something isn't: it is
pub test_holds : (test : Bool) (fault : StepFault) → cause_if (not test) fault ≡ None → test ≡ true
test_holds test fault none = not-false test (test_fails (not test) fault none)

pub cause_not : (test : Bool) (fault : StepFault) → test ≡ true → cause_if (not test) fault ≡ None
cause_not test fault is = cause_fails (not test) fault (not_from_true test is)

-- of two causes neither holds
pub or_none : (o p : Option StepFault) → option_or o p ≡ None → (o ≡ None) × (p ≡ None)
or_none None p none = (refl, none)
or_none (Some fault) p none = absurd cc

-- neither of two holds: nor does the first of them
pub neither : (o p : Option StepFault) → o ≡ None → p ≡ None → option_or o p ≡ None
neither None p is none = none
neither (Some fault) p is none = absurd cc

-- there is room below a limit
pub room_below : (entries limit : ℕ) → cause_if (not (nat_lt entries limit)) HistoryFull ≡ None → entries < limit
room_below entries limit none = ltb-true entries limit (test_holds (nat_lt entries limit) HistoryFull none)

pub full_below : (entries limit : ℕ) → entries < limit → cause_if (not (nat_lt entries limit)) HistoryFull ≡ None
full_below entries limit room = cause_not (nat_lt entries limit) HistoryFull (lt-ltb entries limit room)

-- what every change asks, and its operation: its entry may come next
pub allowed : (state : State) (entry : HistoryEntry) → cause_if state.stopped Stopped ≡ None
    → (causes_of_change state).full ≡ None → IsPossible state entry.by.seat (operation_of entry.kind) → Allows state entry
allowed state entry stopped full possible = record {
  running = test_fails state.stopped Stopped stopped;
  room = room_below state.entries _ full;
  possible = possible;
}

-- of an entry that may come next: the lake isn't stopped, and there is room
pub not_stopped : (state : State) (entry : HistoryEntry) → Allows state entry → cause_if state.stopped Stopped ≡ None
not_stopped state entry may = cause_fails state.stopped Stopped may.running

pub not_full : (state : State) (entry : HistoryEntry) → Allows state entry → (causes_of_change state).full ≡ None
not_full state entry may = full_below state.entries _ may.room
