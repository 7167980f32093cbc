-- Where nothing clashes with a new commit, its step is refused for one cause.
use Rattle.std.proofs.Common.{◌≡◌, ℕ, Bool, true, false, not, List, [], ◌∷◌, ◌++◌, refl, ap, sym, ◌∙◌, subst}
use Rattle.std.specs.Prelude.{◌⊎◌, Option, Some, None, is_some, option_and_then, if◌then◌else◌}
use Rattle.std.specs.FinMap.{get}
use mathlib.Core.Logic.{inl, inr}
use Rattle.lake_model.specs.declared.fault.Reference.TheVariants.{Named}
use Rattle.lake_model.specs.declared.fault.StepFault.{StepFault}
use Rattle.lake_model.specs.declared.fault.StepFault.TheVariants.{NoRef}
use Rattle.lake_model.specs.declared.history.Operation.{Operation}
use Rattle.lake_model.specs.declared.history.Operation.TheVariants.{RepoCreate, Commit, Merge, Pick}
use Rattle.lake_model.specs.declared.reply.SwapKind.TheVariants as kind
use Rattle.lake_model.specs.State.{Branch, Repository, State, branch_of}
use Rattle.lake_model.specs.Refusals.{Causes, Clash, cause_if, causes_of_change, clash_fault, first_cause, first_of, with_branch}
use Rattle.lake_model.specs.Steps.{IsSwapClash, SwapRule, create_repository_causes, new_head_causes, swap_expired, swap_rule, write_causes}
use Rattle.lake_calls.specs.CallRefusals.{IsClashOf, step_causes}
use Rattle.lake_calls.specs.Courses.{CallPoint, Makes}
use Rattle.lake_calls.specs.declared.call.Call.{Call}

-- nothing clashes with the commit of a point, if it makes one
abbrev pub IsClear : CallPoint → State → Type 0
IsClear (Makes operation) state = IsClashOf state operation None
IsClear point state = Unit {0}

-- what comes behind a cause that holds isn't asked
stops : (a b c : Option StepFault) (fault : StepFault) (xs ys : List (Option StepFault))
    → first_of (a ∷ b ∷ c ∷ Some fault ∷ xs) ≡ first_of (a ∷ b ∷ c ∷ Some fault ∷ ys)
stops (Some a) b c fault xs ys = refl
stops None (Some b) c fault xs ys = refl
stops None None (Some c) fault xs ys = refl
stops None None None fault xs ys = refl

behind_reference : (c : Causes) (fault : StepFault) (expired x y : Option StepFault) → c.reference ≡ Some fault
    → first_cause (record c { expired = expired; clash = x }) ≡ first_cause (record c { expired = expired; clash = y })
behind_reference c fault expired x y is =
    let later : Option StepFault → List (Option StepFault) = λ clash.
    c.parent ∷ c.note ∷ c.exists ∷ c.default_branch ∷ c.protected ∷ c.version ∷ c.path ∷ expired ∷ clash ∷ [] in
    subst (λ o. first_of (c.stopped ∷ c.full ∷ c.repository ∷ o ∷ later x) ≡ first_of (c.stopped ∷ c.full ∷ c.repository ∷ o ∷ later y)) (sym is)
    (stops c.stopped c.full c.repository fault (later x) (later y))

-- ---- a new head

module _ (state : State) (repo branch : List ℕ) where
  -- a branch that isn't there is asked for
  no_branch : (protects : Bool) → branch_of state repo branch ≡ None
      → (if protects then write_causes state repo branch else with_branch state repo branch (causes_of_change state)).reference ≡ Some (NoRef Named)
  no_branch true none = ap (λ b. cause_if (not (is_some b)) (NoRef Named)) none
  no_branch false none = ap (λ b. cause_if (not (is_some b)) (NoRef Named)) none

  abbrev heads_first : SwapRule → Option Clash → Option StepFault
  heads_first rule clash = first_cause (new_head_causes state repo branch rule clash)

  without_branch : (rule : SwapRule) (clash other : Option Clash) → branch_of state repo branch ≡ None → heads_first rule clash ≡ heads_first rule other
  without_branch rule clash other none =
      behind_reference (if rule.protects then write_causes state repo branch else with_branch state repo branch (causes_of_change state)) (NoRef Named)
      (swap_expired state repo branch rule) (clash_fault clash) (clash_fault other) (no_branch rule.protects none)

  at_branch : (rule : SwapRule) (clash : Clash) (r : Repository) (b : Option Branch) → get state.repositories repo ≡ Some r → get r.branches branch ≡ b
      → IsSwapClash state repo branch rule None → IsSwapClash state repo branch rule (Some clash) → heads_first rule None ≡ heads_first rule (Some clash)
  at_branch rule clash r (Some b) there is none told = absurd (none r b there is clash (told r b there is))
  at_branch rule clash r None there is none told =
      without_branch rule None (Some clash) (ap (option_and_then (λ (w : Repository). get w.branches branch)) there ∙ is)

  at_repository : (rule : SwapRule) (clash : Clash) (r : Option Repository) → get state.repositories repo ≡ r
      → IsSwapClash state repo branch rule None → IsSwapClash state repo branch rule (Some clash) → heads_first rule None ≡ heads_first rule (Some clash)
  at_repository rule clash (Some r) is none told = at_branch rule clash r (get r.branches branch) is refl none told
  at_repository rule clash None is none told =
      without_branch rule None (Some clash) (ap (option_and_then (λ (w : Repository). get w.branches branch)) is)

  same_head : (rule : SwapRule) (clash : Option Clash) → IsSwapClash state repo branch rule None → IsSwapClash state repo branch rule clash
      → heads_first rule None ≡ heads_first rule clash
  same_head rule None none told = refl
  same_head rule (Some clash) none told = at_repository rule clash (get state.repositories repo) refl none told

-- ---- every step

-- where nothing clashes, a step is refused as if no clash were told
pub same_cause : (state : State) (call : Call) (operation : Operation) (clash : Option Clash)
    → IsClashOf state operation None → IsClashOf state operation clash
    → first_cause (step_causes state call operation None) ≡ first_cause (step_causes state call operation clash)
same_cause state call (RepoCreate repo branch date) None none told = refl
same_cause state call (RepoCreate repo branch date) (Some clash) none told = absurd (none clash told)
same_cause state call (Commit repo branch about) clash none told = same_head state repo branch (swap_rule kind.Commit about) clash none told
same_cause state call (Merge repo branch source strategy about) clash none told =
    same_head state repo branch (swap_rule (kind.Merge source strategy) about) clash none told
same_cause state call (Pick repo branch base source strategy about) clash none told =
    same_head state repo branch (swap_rule (kind.Pick base source strategy) about) clash none told
same_cause state call operation clash none told = ap (λ c. first_cause (step_causes state call operation c)) (sym told)

-- ---- two clashes

alone : (x : Option StepFault) → first_of (x ∷ []) ≡ x
alone None = refl
alone (Some fault) = refl

-- of causes of which only the last is another, the first is one, or both times it is the last
last_differs : (xs : List (Option StepFault)) (x y : Option StepFault)
    → (first_of (xs ++ x ∷ []) ≡ first_of (xs ++ y ∷ [])) ⊎ ((first_of (xs ++ x ∷ []) ≡ x) × (first_of (xs ++ y ∷ []) ≡ y))
last_differs [] x y = inr (alone x, alone y)
last_differs (None ∷ xs) x y = last_differs xs x y
last_differs (Some fault ∷ xs) x y = inl refl

clash_differs : (c : Causes) (x y : Option StepFault)
    → (first_cause (record c { clash = x }) ≡ first_cause (record c { clash = y }))
    ⊎ ((first_cause (record c { clash = x }) ≡ x) × (first_cause (record c { clash = y }) ≡ y))
clash_differs c x y = last_differs
    (c.stopped ∷ c.full ∷ c.repository ∷ c.reference ∷ c.parent ∷ c.note ∷ c.exists ∷ c.default_branch ∷ c.protected ∷ c.version ∷ c.path ∷ c.expired ∷ [])
    x y

-- with one clash and with another a step is refused for one cause, or for them
abbrev ForOneOrThem : State → Call → Operation → (clash other : Clash) → Type 0
ForOneOrThem state call operation clash other =
    (first_cause (step_causes state call operation (Some clash)) ≡ first_cause (step_causes state call operation (Some other)))
    ⊎ ((first_cause (step_causes state call operation (Some clash)) ≡ clash_fault (Some clash))
    × (first_cause (step_causes state call operation (Some other)) ≡ clash_fault (Some other)))

two_clashes : (state : State) (call : Call) (operation : Operation) (clash other : Clash) → ForOneOrThem state call operation clash other
two_clashes state call (RepoCreate repo branch date) clash other =
    clash_differs (create_repository_causes state repo None) (clash_fault (Some clash)) (clash_fault (Some other))
two_clashes state call (Commit repo branch about) clash other =
    clash_differs (new_head_causes state repo branch (swap_rule kind.Commit about) None) (clash_fault (Some clash)) (clash_fault (Some other))
two_clashes state call (Merge repo branch source strategy about) clash other =
    clash_differs (new_head_causes state repo branch (swap_rule (kind.Merge source strategy) about) None)
    (clash_fault (Some clash)) (clash_fault (Some other))
two_clashes state call (Pick repo branch base source strategy about) clash other =
    clash_differs (new_head_causes state repo branch (swap_rule (kind.Pick base source strategy) about) None)
    (clash_fault (Some clash)) (clash_fault (Some other))
two_clashes state call operation clash other = inl refl

-- with whatever is told of clashes, a step is refused for one cause, or for clashes
abbrev pub ForOneOrClashes : State → Call → Operation → (told other : Option Clash) → Type 0
ForOneOrClashes state call operation told other =
    (first_cause (step_causes state call operation told) ≡ first_cause (step_causes state call operation other))
    ⊎ ((x : Clash) × (y : Clash) × (first_cause (step_causes state call operation told) ≡ clash_fault (Some x))
    × (first_cause (step_causes state call operation other) ≡ clash_fault (Some y)))

for_clashes : (state : State) (call : Call) (operation : Operation) (clash other : Clash) → ForOneOrThem state call operation clash other
    → ForOneOrClashes state call operation (Some clash) (Some other)
for_clashes state call operation clash other (inl one) = inl one
for_clashes state call operation clash other (inr both) = inr (clash, other, both.0, both.1)

pub either_cause : (state : State) (call : Call) (operation : Operation) (told other : Option Clash)
    → IsClashOf state operation told → IsClashOf state operation other → ForOneOrClashes state call operation told other
either_cause state call operation None other a b = inl (same_cause state call operation other a b)
either_cause state call operation (Some clash) None a b = inl (sym (same_cause state call operation (Some clash) b a))
either_cause state call operation (Some clash) (Some other) a b =
    for_clashes state call operation clash other (two_clashes state call operation clash other)
