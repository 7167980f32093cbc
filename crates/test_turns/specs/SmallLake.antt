-- A small lake of the tests, over which they use a turn as a lake of many seats will.
use Rattle.std.specs.Prelude.{◌≡◌, ℕ, ◌+◌, ◌-◌, ◌≤◌, ◌==◌, List, [], ◌∷◌, map, Option, Some, None, Result, Ok, Err, MatchResult, Contains, if◌then◌else◌}
use Rattle.test_turns.specs.declared.small_lake.By.{By}
use Rattle.test_turns.specs.declared.small_lake.Entry.{Entry}
use Rattle.test_turns.specs.declared.small_lake.PutFault.{PutFault}
use Rattle.test_turns.specs.declared.small_lake.PutFault.TheVariants.{Changed, Failed, Full, Low, NoMemory}

-- what the lake is at a moment: a number, and its version
pub record SmallState : Type 0 where
  pub number : ℕ
  pub version : ℕ

-- the state after these entries, of each of which stands the number that was put, or that the keeper failed
abbrev pub state_after : SmallState → List (Option ℕ) → SmallState
state_after state [] = state
state_after state (None ∷ ns) = state_after state ns
state_after state (Some n ∷ ns) = state_after (record { number = n; version = state.version + 1 }) ns

-- how many faults of the keeper stand in these entries
abbrev pub faults_in : List (Option ℕ) → ℕ
faults_in [] = 0
faults_in (None ∷ ns) = faults_in ns + 1
faults_in (Some n ∷ ns) = faults_in ns

-- what contracts see of a lake: the state that it was opened with, its entries and its keeper
pub record SmallLakeValue (K E : Type 0) : Type 0 where
  pub opened : SmallState
  pub entries : List E
  pub keeper : K

-- the state that entries lead to, of each of which this is the number that was put
abbrev pub state_of : {E : Type 0} → (E → Option ℕ) → SmallState → List E → SmallState
state_of number opened entries = state_after opened (map number entries)

-- A lake stands for such entries: its keeper counted each fault that they note, and no number that was put is above
-- the one that the lake has now
pub record Stands (counted : ℕ) (opened : SmallState) (numbers : List (Option ℕ)) : Type 0 where
  pub noted : faults_in numbers ≤ counted
  pub greatest : (n : ℕ) → Contains numbers (Some n) → n ≤ (state_after opened numbers).number

-- what a put at this version is answered: the version that it makes, or the other one that stands there
abbrev pub put_reply : SmallState → ℕ → Result ℕ ℕ
put_reply state version = if version == state.version then Ok (version + 1) else Err state.version

-- the answer is this reply, or a fault of another kind than that of a changed version
abbrev pub Gives : Result ℕ PutFault → Result ℕ ℕ → Type 0
Gives answer reply =
    MatchResult answer (λ next. reply ≡ Ok next) (λ fault. (v : ℕ) → fault ≡ Changed v → reply ≡ Err v)

-- the number that is as far above the lake's as that is above the lower one
abbrev pub raised : SmallState → ℕ → ℕ
raised state low = state.number + (state.number - low)

-- the entry that a step adds by its answer: the number that it put, a fault of the keeper, or nothing
abbrev pub entry_of : By → ℕ → List ℕ → Result ℕ PutFault → Option Entry
entry_of by number remark (Ok _) = Some (record { by = by; number = Some number; remark = remark })
entry_of by number remark (Err Failed) = Some (record { by = by; number = None; remark = remark })
entry_of by number remark (Err (Changed v)) = None
entry_of by number remark (Err Full) = None
entry_of by number remark (Err Low) = None
entry_of by number remark (Err NoMemory) = None
