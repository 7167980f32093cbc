-- The first cause of a new head: what its guard tells, then what is expired, then a clash.
use Rattle.std.proofs.Common.{◌≡◌, ℕ, Bool, true, false, List, [], ◌∷◌, ◌++◌, refl, ap, ◌∙◌}
use Rattle.std.specs.Prelude.{Option, Some, None, option_and_then, option_map}
use Rattle.std.specs.Option.{option_or}
use Rattle.std.specs.FinMap.{get}
use Rattle.lake_format.specs.Spelling.{commit_id}
use Rattle.lake_model.specs.declared.fault.StepFault.{StepFault}
use Rattle.lake_model.specs.State.{Branch, Repository, State}
use Rattle.lake_model.specs.Commits.{record_of}
use Rattle.lake_model.specs.Refusals.{Causes, Clash, clash_fault, first_cause, first_of}
use Rattle.lake_model.specs.Steps.{SwapRule, expired_fault, swap_causes, swap_expired}
use Rattle.lake_model.specs.Versions.{VersionsGiven}
use Rattle.core_causes.specs.Guarding.{guard_causes}

-- a cause among the front ones is the first one, whatever comes behind them
front_some : (xs ys zs : List (Option StepFault)) (fault : StepFault) → first_of ys ≡ None → first_of (xs ++ ys) ≡ Some fault
    → first_of (xs ++ zs) ≡ Some fault
front_some [] ys zs fault none is = absurd cc
front_some (None ∷ xs) ys zs fault none is = front_some xs ys zs fault none is
front_some (Some other ∷ xs) ys zs fault none is = is

-- where there is none, the first one is that of those behind
front_none : (xs ys zs : List (Option StepFault)) → first_of (xs ++ ys) ≡ None → first_of (xs ++ zs) ≡ first_of zs
front_none [] ys zs none = refl
front_none (None ∷ xs) ys zs none = front_none xs ys zs none
front_none (Some other ∷ xs) ys zs none = absurd cc

-- the causes up to that of a path
abbrev front : Causes → List (Option StepFault)
front c = c.stopped ∷ c.full ∷ c.repository ∷ c.reference ∷ c.parent ∷ c.note ∷ c.exists ∷ c.default_branch ∷ c.protected ∷ c.version ∷ c.path ∷ []

module _ (state : State) (given : VersionsGiven) (repo branch : List ℕ) (version settings : ℕ) where
  -- a guard tells of nothing behind them
  guard_ends : (protects : Bool)
      → (let c = guard_causes protects state given repo branch version settings in first_of (c.expired ∷ c.clash ∷ []) ≡ None)
  guard_ends true = refl
  guard_ends false = refl

  module _ (rule : SwapRule) (clash : Option Clash) where
    abbrev guard : Causes
    guard = guard_causes rule.protects state given repo branch version settings

    abbrev all : Causes
    all = swap_causes state given repo branch version settings rule clash

    pub guard_refuses : (fault : StepFault) → first_cause guard ≡ Some fault → first_cause all ≡ Some fault
    guard_refuses fault is = front_some (front guard) (guard.expired ∷ guard.clash ∷ []) (all.expired ∷ all.clash ∷ []) fault (guard_ends rule.protects) is

    pub guard_passes : first_cause guard ≡ None
        → first_cause all ≡ first_of (swap_expired state repo branch rule ∷ clash_fault clash ∷ [])
    guard_passes none = front_none (front guard) (guard.expired ∷ guard.clash ∷ []) (all.expired ∷ all.clash ∷ []) none

-- ---- what is expired

module _ (state : State) (repo branch : List ℕ) where
  -- where the branch is there
  pub expired_there : (rule : SwapRule) (r : Repository) (b : Branch) → get state.repositories repo ≡ Some r → get r.branches branch ≡ Some b
      → swap_expired state repo branch rule
      ≡ option_or (option_and_then (expired_fault r) rule.source) (expired_fault r (commit_id (record_of state.cut r.commits (rule.draft r b))))
  expired_there rule r b at on =
      (λ i. option_and_then (λ r. option_or (option_and_then (expired_fault r) rule.source)
      (option_and_then (λ commit. expired_fault r (commit_id commit))
      (option_and_then (λ r. option_map (λ b. record_of state.cut r.commits (rule.draft r b)) (get r.branches branch)) (at i)))) (at i))
      ∙ ap (λ o. option_or (option_and_then (expired_fault r) rule.source)
      (option_and_then (λ commit. expired_fault r (commit_id commit)) (option_map (λ b. record_of state.cut r.commits (rule.draft r b)) o))) on

-- a cause that holds of the first of two, and of neither
pub first_tells : (e c : Option StepFault) (fault : StepFault) → e ≡ Some fault → first_of (e ∷ c ∷ []) ≡ Some fault
first_tells None c fault is = absurd cc
first_tells (Some other) c fault is = is

pub second_tells : (e c : Option StepFault) → e ≡ None → first_of (e ∷ c ∷ []) ≡ c
second_tells None None none = refl
second_tells None (Some fault) none = refl
second_tells (Some other) c none = absurd cc
