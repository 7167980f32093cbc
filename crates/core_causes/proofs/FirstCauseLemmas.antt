-- The first cause of a step: those before it don't hold.
use Rattle.std.proofs.Common.{◌≡◌, List, [], ◌∷◌, refl, sym, ap, ◌∙◌}
use Rattle.std.specs.Prelude.{Option, Some, None, Result, Ok, Err, IsErrAnd, MatchResult}
use Rattle.lake_model.specs.declared.fault.StepFault.{StepFault}
use Rattle.lake_model.specs.State.{State}
use Rattle.lake_model.specs.Refusals.{Causes, first_of, first_cause, causes_of_change}
use Rattle.core_causes.specs.Asking.{AsksFor}

-- a cause that doesn't hold: the first one is that of the later ones
skip : (o : Option StepFault) (later : List (Option StepFault)) (answer : Option StepFault)
    → o ≡ None → first_of later ≡ answer → first_of (o ∷ later) ≡ answer
skip None later answer none first = first
skip (Some fault) later answer none first = absurd cc

-- a cause that holds is the first one
stop : (o : Option StepFault) (later : List (Option StepFault)) (fault : StepFault)
    → o ≡ Some fault → first_of (o ∷ later) ≡ Some fault
stop None later fault is = absurd cc
stop (Some other) later fault is = is

-- the first of some is nothing: so is the front one, and the first of the others
none_first : (o : Option StepFault) (later : List (Option StepFault)) → first_of (o ∷ later) ≡ None → (o ≡ None) × (first_of later ≡ None)
none_first None later none = (refl, none)
none_first (Some fault) later none = absurd cc

-- the last one is the first
last : (o answer : Option StepFault) → o ≡ answer → first_of (o ∷ []) ≡ answer
last None answer is = is
last (Some fault) answer is = is

-- neither holds of what every change asks
abbrev pub PassesChange : Causes → Type 0
PassesChange c = (c.stopped ≡ None) × (c.full ≡ None)

-- so it is of a change that passed
pub change_passes : (state : State) → first_cause (causes_of_change state) ≡ None → PassesChange (causes_of_change state)
change_passes state none =
    let stopped = none_first (causes_of_change state).stopped _ none in
    let full = none_first (causes_of_change state).full _ stopped.1 in
    (stopped.0, full.0)

-- the causes after that of a parent, and those after that of a repository
abbrev pub after_parent : Causes → List (Option StepFault)
after_parent c = c.note ∷ c.exists ∷ c.default_branch ∷ c.protected ∷ c.version ∷ c.path ∷ c.expired ∷ c.clash ∷ []

abbrev after_repository : Causes → List (Option StepFault)
after_repository c = c.reference ∷ c.parent ∷ after_parent c

module _ (c : Causes) (change : PassesChange c) where
  change_passed : (answer : Option StepFault) → first_of (c.repository ∷ after_repository c) ≡ answer → first_cause c ≡ answer
  change_passed answer first = skip c.stopped _ answer change.0 (skip c.full (c.repository ∷ after_repository c) answer change.1 first)

  pub repository_refuses : (fault : StepFault) → c.repository ≡ Some fault → first_cause c ≡ Some fault
  repository_refuses fault is = change_passed (Some fault) (stop c.repository (after_repository c) fault is)

  module _ (repository : c.repository ≡ None) where
    pub repository_passed : (answer : Option StepFault) → first_of (after_repository c) ≡ answer → first_cause c ≡ answer
    repository_passed answer first = change_passed answer (skip c.repository (after_repository c) answer repository first)

    pub reference_refuses : (fault : StepFault) → c.reference ≡ Some fault → first_cause c ≡ Some fault
    reference_refuses fault is = repository_passed (Some fault) (stop c.reference _ fault is)

    module _ (reference : c.reference ≡ None) (parent : c.parent ≡ None) where
      parent_passed : (answer : Option StepFault) → first_of (after_parent c) ≡ answer → first_cause c ≡ answer
      parent_passed answer first = repository_passed answer (skip c.reference _ answer reference (skip c.parent _ answer parent first))

      pub note_refuses : (fault : StepFault) → c.note ≡ Some fault → first_cause c ≡ Some fault
      note_refuses fault is = parent_passed (Some fault) (stop c.note _ fault is)

      module _ (note : c.note ≡ None) where
        pub exists_refuses : (fault : StepFault) → c.exists ≡ Some fault → first_cause c ≡ Some fault
        exists_refuses fault is = parent_passed (Some fault) (skip c.note _ (Some fault) note (stop c.exists _ fault is))

        module _ (exists : c.exists ≡ None) where
          exists_passed : (answer : Option StepFault)
              → first_of (c.default_branch ∷ c.protected ∷ c.version ∷ c.path ∷ c.expired ∷ c.clash ∷ []) ≡ answer
              → first_cause c ≡ answer
          exists_passed answer first = parent_passed answer (skip c.note _ answer note (skip c.exists _ answer exists first))

          pub default_branch_refuses : (fault : StepFault) → c.default_branch ≡ Some fault → first_cause c ≡ Some fault
          default_branch_refuses fault is = exists_passed (Some fault) (stop c.default_branch _ fault is)

          module _ (default_branch : c.default_branch ≡ None) where
            default_passed : (answer : Option StepFault)
                → first_of (c.protected ∷ c.version ∷ c.path ∷ c.expired ∷ c.clash ∷ []) ≡ answer → first_cause c ≡ answer
            default_passed answer first = exists_passed answer (skip c.default_branch _ answer default_branch first)

            pub protected_refuses : (fault : StepFault) → c.protected ≡ Some fault → first_cause c ≡ Some fault
            protected_refuses fault is = default_passed (Some fault) (stop c.protected _ fault is)

            module _ (protected : c.protected ≡ None) where
              protected_passed : (answer : Option StepFault)
                  → first_of (c.version ∷ c.path ∷ c.expired ∷ c.clash ∷ []) ≡ answer → first_cause c ≡ answer
              protected_passed answer first = default_passed answer (skip c.protected _ answer protected first)

              pub version_refuses : (fault : StepFault) → c.version ≡ Some fault → first_cause c ≡ Some fault
              version_refuses fault is = protected_passed (Some fault) (stop c.version _ fault is)

              module _ (version : c.version ≡ None) where
                version_passed : (answer : Option StepFault) → first_of (c.path ∷ c.expired ∷ c.clash ∷ []) ≡ answer → first_cause c ≡ answer
                version_passed answer first = protected_passed answer (skip c.version _ answer version first)

                pub path_refuses : (fault : StepFault) → c.path ≡ Some fault → first_cause c ≡ Some fault
                path_refuses fault is = version_passed (Some fault) (stop c.path _ fault is)

                module _ (path : c.path ≡ None) where
                  path_passed : (answer : Option StepFault) → first_of (c.expired ∷ c.clash ∷ []) ≡ answer → first_cause c ≡ answer
                  path_passed answer first = version_passed answer (skip c.path _ answer path first)

                  pub expired_refuses : (fault : StepFault) → c.expired ≡ Some fault → first_cause c ≡ Some fault
                  expired_refuses fault is = path_passed (Some fault) (stop c.expired _ fault is)

                  pub clash_tells : c.expired ≡ None → (answer : Option StepFault) → c.clash ≡ answer → first_cause c ≡ answer
                  clash_tells expired answer is = path_passed answer (skip c.expired _ answer expired (last c.clash answer is))

                  pub nothing_refuses : c.expired ≡ None → c.clash ≡ None → first_cause c ≡ None
                  nothing_refuses expired clash = path_passed None (skip c.expired _ None expired (skip c.clash [] None clash refl))

-- what every change is refused for is the first cause of all
change_first : (stopped full : Option StepFault) (others later : List (Option StepFault)) (fault : StepFault) → first_of others ≡ None
    → first_of (stopped ∷ full ∷ others) ≡ Some fault → first_of (stopped ∷ full ∷ later) ≡ Some fault
change_first (Some one) full others later fault none is = is
change_first None (Some one) others later fault none is = is
change_first None None others later fault none is = absurd cc

pub change_refuses : (state : State) (later : List (Option StepFault)) (fault : StepFault) → first_cause (causes_of_change state) ≡ Some fault
    → first_of ((causes_of_change state).stopped ∷ (causes_of_change state).full ∷ later) ≡ Some fault
change_refuses state later fault is =
    change_first (causes_of_change state).stopped (causes_of_change state).full _ later fault refl is

-- what another test told is told: it is the first cause
pub refused : {X : Type 0} (P : X → Type 0) (c : Causes) (answer : Result X StepFault) (told fault : StepFault)
    → IsErrAnd answer (λ e. e ≡ told) → told ≡ fault → first_cause c ≡ Some fault
    → MatchResult answer P (λ e. first_cause c ≡ Some e)
refused P c (Ok x) told fault err is first = elim err [ ]
refused P c (Err e) told fault err is first = first ∙ ap Some (sym (err ∙ is))

-- what is found, where nothing refuses
pub asks_for : {X : Type 0} (c : Causes) (value : Option X) (answer : Result X StepFault)
    → MatchResult answer (λ x. (first_cause c ≡ None) × (value ≡ Some x)) (λ e. first_cause c ≡ Some e) → AsksFor c value answer
asks_for c value (Ok x) is = is
asks_for c value (Err e) is = is
