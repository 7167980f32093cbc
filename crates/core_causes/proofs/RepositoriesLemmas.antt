-- What the test of a repository answers that is to be made.
use Rattle.std.proofs.Common.{◌≡◌, ℕ, Bool, true, false, List, [], ◌∷◌, map, ◌⊎◌, inl, inr, refl, sym, ap, subst, ◌∙◌}
use Rattle.std.specs.Prelude.{Option, Some, None, is_some, Result, Ok, Err, IsErrAnd}
use Rattle.std.specs.FinMap.{contains_key, empty, get}
use Rattle.byte_map.proofs.ValuesLemmas.{contains_map_values}
use Rattle.lake_format.specs.Cutting.{files}
use Rattle.lake_format.specs.Spelling.{file_name}
use Rattle.meta_range.specs.Files.{file_of}
use Rattle.meta_range.specs.declared.file.File.{File}
use Rattle.lake_model.specs.declared.fault.StepFault.{StepFault}
use Rattle.lake_model.specs.declared.fault.StepFault.TheVariants.{Exists, NoMemory}
use Rattle.lake_model.specs.Commits.{StandsBefore, bare_repository, bytes_of, first_draft}
use Rattle.lake_model.specs.Refusals.{Clash, IsClashOrNone, cause_if, causes_of_change, clash_fault, first_cause}
use Rattle.lake_model.specs.Soundness.{IsSound}
use Rattle.lake_model.specs.Steps.{create_repository_causes}
use Rattle.core_state.specs.Index.{HasIndex}
use Rattle.core_state.proofs.FilesLemmas.{alone}
use Rattle.core_state.specs.RepositoryStates.{repository_of}
use Rattle.core_state.specs.LakeStates.{LakeStateValue, state_of}
use Rattle.core_causes.specs.Clashing.{AsksToCreate, TellsOrFails, indexed_clash, first_clash}
use Rattle.core_causes.proofs.ClashLemmas.{first_answer}
use Rattle.core_causes.proofs.FaultLemmas.{fault_none, fault_or, or_nothing}
use Rattle.core_causes.proofs.FirstCauseLemmas.{change_passes, change_refuses, clash_tells, exists_refuses}

-- the bytes of files that are known by their names
bytes_back : (contents : List (List ℕ)) → map (λ file. file.bytes) (map file_of contents) ≡ contents
bytes_back [] = refl
bytes_back (content ∷ contents) = ap (λ rest. content ∷ rest) (bytes_back contents)

-- the name of the first, and the others
first_named : (contents : List (List ℕ)) (first : File) (later : List File) → map file_of contents ≡ first ∷ later
    → (first.name ≡ file_name first.bytes) × ((rest : List (List ℕ)) × (map file_of rest ≡ later))
first_named [] first later are = absurd cc
first_named (content ∷ contents) first later are =
    let one : file_of content ≡ first = cc in
    let others : map file_of contents ≡ later = cc in
    (subst (λ (file : File). file.name ≡ file_name file.bytes) one refl, (contents, others))

-- the first commit clashes, or it doesn't
pub some_clash : (l : LakeStateValue) → IsSound (state_of l) → HasIndex l → (branch : List ℕ) (date : ℕ) (file : List ℕ) → files l.cut empty ≡ file ∷ []
    → (clash : Option Clash) × IsClashOrNone (state_of l) (bare_repository date branch) (first_draft date) clash
some_clash l sound index branch date file one =
    let news = bytes_of l.cut empty (first_draft date) in (
      first_clash l news,
      first_answer l sound index (bare_repository date branch) (first_draft date) news refl
          (λ first other stands. alone file first other (subst (λ all. StandsBefore all first other) one stands)),
    )

module _ (l : LakeStateValue) (sound : IsSound (state_of l)) (index : HasIndex l) (repo branch : List ℕ) (date : ℕ)
    (commit file : File) (are : map file_of (bytes_of l.cut empty (first_draft date)) ≡ commit ∷ file ∷ []) where
  abbrev news : List (List ℕ)
  news = commit.bytes ∷ file.bytes ∷ []

  bytes_are : bytes_of l.cut empty (first_draft date) ≡ news
  bytes_are = sym (bytes_back (bytes_of l.cut empty (first_draft date))) ∙ ap (map (λ f. f.bytes)) are

  one_file : files l.cut empty ≡ file.bytes ∷ []
  one_file = cc (bytes_are)

  abbrev the_clash : Option Clash
  the_clash = first_clash l news

  clash_there : IsClashOrNone (state_of l) (bare_repository date branch) (first_draft date) the_clash
  clash_there =
      first_answer l sound index (bare_repository date branch) (first_draft date) news bytes_are
      (λ one other stands. alone file.bytes one other (subst (λ all. StandsBefore all one other) one_file stands))

  -- both files have the names of their bytes
  pub commit_named : commit.name ≡ file_name commit.bytes
  commit_named = (first_named (bytes_of l.cut empty (first_draft date)) commit (file ∷ []) are).0

  pub file_named : file.name ≡ file_name file.bytes
  file_named =
      let rest = (first_named (bytes_of l.cut empty (first_draft date)) commit (file ∷ []) are).1 in
      (first_named rest.0 file [] rest.1).0

  -- a fault is the first cause, or memory ran out
  answer_err : {X : Type 0} (answer : Result X StepFault) (fault : StepFault) → IsErrAnd answer (λ e. e ≡ fault)
      → (fault ≡ NoMemory) ⊎ (first_cause (create_repository_causes (state_of l) repo the_clash) ≡ Some fault)
      → AsksToCreate (state_of l) repo branch date answer
  answer_err (Ok x) fault same is = absurd same
  answer_err (Err e) fault same is = record {
    clash = the_clash;
    there = clash_there;
    tells = elim is [ inl memory ↦ inl (same ∙ memory) | inr first ↦ inr (first ∙ ap Some (sym same)) ];
  }

  -- the test of every change refused it
  pub change_answer : {X : Type 0} (answer : Result X StepFault) (fault : StepFault) → IsErrAnd answer (λ e. e ≡ fault)
      → first_cause (causes_of_change (state_of l)) ≡ Some fault → AsksToCreate (state_of l) repo branch date answer
  change_answer answer fault same is = answer_err answer fault same (inr (change_refuses (state_of l) _ fault is))

  module _ (change : first_cause (causes_of_change (state_of l)) ≡ None) where
    taken : (t : Bool) → is_some (get l.repositories repo) ≡ t → cause_if (contains_key (state_of l).repositories repo) Exists ≡ cause_if t Exists
    taken t is = ap (λ h. cause_if h Exists) (contains_map_values repository_of l.repositories repo ∙ is)

    -- the name is taken
    pub exists_answer : {X : Type 0} → is_some (get l.repositories repo) ≡ true → AsksToCreate {X = X} (state_of l) repo branch date (Err Exists)
    exists_answer is = answer_err (Err Exists) Exists refl (inr
        (exists_refuses (create_repository_causes (state_of l) repo the_clash) (change_passes (state_of l) change) refl refl refl refl Exists (taken true is)))

    module _ (free : is_some (get l.repositories repo) ≡ false) where
      cause_is : (o : Option StepFault) → clash_fault the_clash ≡ o → first_cause (create_repository_causes (state_of l) repo the_clash) ≡ o
      cause_is o is =
          clash_tells (create_repository_causes (state_of l) repo the_clash) (change_passes (state_of l) change) refl refl refl refl
          (taken false free) refl refl refl refl refl o is

      -- the test of the commit refused it
      pub commit_answer : {X : Type 0} (answer : Result X StepFault) (fault : StepFault) → IsErrAnd answer (λ e. e ≡ fault)
          → (fault ≡ NoMemory) ⊎ (clash_fault (indexed_clash l commit.bytes) ≡ Some fault) → AsksToCreate (state_of l) repo branch date answer
      commit_answer answer fault same is = answer_err answer fault same (elim is [
        | inl memory ↦ inl memory
        | inr clash ↦ inr (cause_is (Some fault) (fault_or (indexed_clash l commit.bytes) (first_clash l (file.bytes ∷ [])) fault clash))
      ])

      -- it passed, and then the test of the file tells
      pub file_answer : {X : Type 0} (answer : Result X StepFault) → clash_fault (indexed_clash l commit.bytes) ≡ None
          → TellsOrFails (clash_fault (indexed_clash l file.bytes)) answer → AsksToCreate (state_of l) repo branch date answer
      file_answer answer passed tells =
          let same : clash_fault the_clash ≡ clash_fault (indexed_clash l file.bytes) =
          ap clash_fault (fault_none (indexed_clash l commit.bytes) (first_clash l (file.bytes ∷ [])) passed ∙ or_nothing (indexed_clash l file.bytes)) in
          record {
            clash = the_clash;
            there = clash_there;
            tells = subst (λ cause. TellsOrFails cause answer) (sym (cause_is (clash_fault (indexed_clash l file.bytes)) same)) tells;
          }
