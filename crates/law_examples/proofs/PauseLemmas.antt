-- A pick of a commit that expires in the pause before its swap.
use Rattle.std.proofs.Common.{◌≡◌, ◌∷◌, [], Bool, true, cond, List, ℕ, refl, sym, ap, subst, ◌∙◌, arith}
use Rattle.std.specs.Prelude.{Option, Some, None, is_some, not, option_and_then, IsOk, Result, Ok, Err}
use Rattle.std.specs.Option.{option_map_or, option_or}
use Rattle.std.specs.FinMap.{empty, get}
use Rattle.lake_base.specs.declared.digest.Digest.{Digest}
use Rattle.lake_values.specs.Commit.{AboutValue, CommitRecordValue}
use Rattle.lake_values.specs.declared.commit.Strategy.{Strategy}
use Rattle.lake_values.specs.declared.settings.NoteName.TheVariants as name
use Rattle.lake_format.specs.Spelling.{commit_id}
use Rattle.lake_format.specs.declared.cut.Cut.{Cut}
use Rattle.lake_model.specs.declared.fault.StepFault.{StepFault}
use Rattle.lake_model.specs.declared.fault.StepFault.TheVariants.{Changed, Expired, NoRef, NoRepo}
use Rattle.lake_model.specs.declared.fault.Reference.TheVariants.{Named}
use Rattle.lake_model.specs.declared.history.Operation.TheVariants.{NoteSet}
use Rattle.lake_model.specs.declared.history.Operation.TheVariants as operation
use Rattle.lake_model.specs.declared.history.RepositoryCommit.{RepositoryCommit}
use Rattle.lake_model.specs.declared.reply.Sides.{Sides}
use Rattle.lake_model.specs.declared.reply.Sides.TheVariants as sides
use Rattle.lake_model.specs.History.{Allows, after}
use Rattle.lake_model.specs.Preparing.{PreparedValue, expired_source, preparation, prepare_reply}
use Rattle.lake_model.specs.declared.reply.SwapKind.TheVariants.{Pick}
use Rattle.lake_model.specs.Refusals.{Causes, Clash, cause_if, first_cause, first_of, unless_refused}
use Rattle.lake_model.specs.State.{Branch, Repository, State, is_expired}
use Rattle.lake_model.specs.Steps.{SwapRule, expired_fault, is_current, new_commit, swap_causes, swap_rule}
use Rattle.lake_model.specs.Versions.{VersionsGiven, branch_version, settings_version}
use Rattle.law_examples.specs.RefusedLakes.{one_day}
use Rattle.law_examples.specs.HistoryWords.{quickstart, main, first, entry_of}
use Rattle.law_examples.proofs.InsertsLemmas.{stands}
use Rattle.law_examples.proofs.MapsLemmas.{get_put}
use Rattle.law_examples.proofs.EntriesLemmas.{may}
use Rattle.law_examples.proofs.SceneLemmas.{counted, in_quickstart, main_there, of_main, repo_there, scene}
use Rattle.law_examples.specs.Days.{AreApart, commit, expire_entry, first_commit, older_commits, quiet_lake, quiet_lake_after}
use Rattle.law_examples.proofs.DaysLemmas.{clean_second, first_is, one, r2, s2, second_end, second_is, two}
use Rattle.law_examples.proofs.EndLemmas.{dated, left, live_first, live_one, only}
use Rattle.law_examples.proofs.KeepingLemmas.{after_expiring, expirable_listed, keeping, listed_expirable, only_element}

-- a cause that doesn't hold is passed over
passed : (cause : Option StepFault) (later : List (Option StepFault)) → cause ≡ None → first_of (cause ∷ later) ≡ first_of later
passed cause later none = ap (λ o. first_of (o ∷ later)) none

-- ---- the quiet lake

module _ (cut : Cut) (digest : Digest) where
  abbrev r : Repository
  r = keeping (r2 cut digest)

  abbrev b : Branch
  b = clean_second cut digest

  abbrev before : State
  before = counted (counted (s2 cut digest))

  abbrev quiet : State
  quiet = scene before r b

  quiet_is : quiet_lake cut digest ≡ quiet
  unfolding quiet_lake
  quiet_is =
      ap (λ (l : State). after l (entry_of (NoteSet quickstart name.Retention (Some one_day)))) (second_end cut digest)
      ∙ ap counted (in_quickstart keeping (counted (s2 cut digest)) (r2 cut digest) b)

  abbrev expired_quiet : State
  expired_quiet = scene (counted before) (left cut digest) b

  expired_quiet_is : quiet_lake_after cut digest ≡ expired_quiet
  expired_quiet_is =
      ap (λ (l : State). after l (expire_entry (older_commits cut digest))) quiet_is
      ∙ ap (λ (id : Digest). after quiet (expire_entry (commit id ∷ commit (first cut) ∷ []))) (first_is cut digest)
      ∙ after_expiring before r b (first cut) (one cut digest)

  -- what a pick of the first day's commit is made from is handed out
  pub handed : (given : VersionsGiven)
      → IsOk (prepare_reply (quiet_lake cut digest) given quickstart main (Some (sides.Pick (first cut) (first_commit cut digest))))
  handed given =
      let at = ap (λ (s : State). prepare_reply s given quickstart main (Some (sides.Pick (first cut) (first_commit cut digest)))) quiet_is
      ∙ ap (λ (id : Digest). prepare_reply quiet given quickstart main (Some (sides.Pick (first cut) id))) (first_is cut digest) in
      subst IsOk (sym (at ∙ told)) refl
    where
      pick : Option Sides
      pick = Some (sides.Pick (first cut) (one cut digest))

      answer : Repository → Branch → Result PreparedValue StepFault
      answer q c = unless_refused (option_map_or (expired_source q) pick None) (preparation quiet given quickstart main pick q c)

      told : prepare_reply quiet given quickstart main pick ≡ Ok (preparation quiet given quickstart main pick (of_main r b) b)
      told =
          ap (λ (o : Option Repository). option_map_or (λ (q : Repository). option_map_or (answer q) (get q.branches main) (Err (NoRef Named))) o (Err NoRepo))
          (repo_there (of_main r b))
          ∙ ap (λ (o : Option Branch). option_map_or (answer (of_main r b)) o (Err (NoRef Named))) (main_there b)
          ∙ ap (λ (t : Bool). unless_refused (cond t (Some (Expired (one cut digest))) None) (preparation quiet given quickstart main pick (of_main r b) b))
          (live_one cut digest).1

  -- it may expire
  pub expires : AreApart cut digest → Allows (quiet_lake cut digest) (expire_entry (older_commits cut digest))
  expires apart =
      subst (λ (l : State). Allows l (expire_entry (older_commits cut digest))) (sym quiet_is)
      (subst (λ (id : Digest). Allows quiet (expire_entry (commit id ∷ commit (first cut) ∷ []))) (sym (first_is cut digest))
      (may before r b 1 (operation.Expire 1300000 (commit (one cut digest) ∷ commit (first cut) ∷ [])) refl (omega arith) (record {
        distinct = (
          λ has. early (ap (λ (c : RepositoryCommit). c.commit) (only_element (commit (first cut)) (commit (one cut digest)) has)),
          (λ has. absurd (omega (arith, has.1)), tt),
        );
        all = λ one_of. (
          listed_expirable before (r2 cut digest) b refl (dated cut digest) (first cut) (one cut digest)
              (live_first cut digest) (live_one cut digest) (only cut digest) ends late one_of,
          expirable_listed before (r2 cut digest) b refl (dated cut digest) (first cut) (one cut digest)
              (live_first cut digest) (live_one cut digest) (only cut digest) ends late one_of,
        );
      })))
    where
      early : first cut ≡ one cut digest → ⊥
      early is = apart.early (is ∙ sym (first_is cut digest))

      late : one cut digest ≡ two cut digest → ⊥
      late is = apart.late (first_is cut digest ∙ (is ∙ sym (second_is cut digest)))

      ends : first cut ≡ two cut digest → ⊥
      ends is = apart.ends (is ∙ sym (second_is cut digest))

-- ---- its swap

module _ (cut : Cut) (digest : Digest) (given : VersionsGiven) (version settings : ℕ) (strategy : Strategy) (about : AboutValue) (clash : Option Clash)
    (current : is_current given quickstart main version settings ≡ true) where
  abbrev rule : SwapRule
  rule = swap_rule (Pick (first cut) (one cut digest) strategy) about

  abbrev now : State
  now = expired_quiet cut digest

  abbrev main_now : Repository
  main_now = of_main (left cut digest) (clean_second cut digest)

  abbrev causes : Causes
  causes = swap_causes now given quickstart main version settings rule clash

  has_repository : causes.repository ≡ None
  has_repository = ap (λ o. cause_if (not (is_some o)) NoRepo) (repo_there main_now)

  has_branch : causes.reference ≡ None
  has_branch =
      ap (λ o. cause_if (not (is_some (option_and_then (λ (q : Repository). get q.branches main) o))) (NoRef Named)) (repo_there main_now)
      ∙ ap (λ o. cause_if (not (is_some o)) (NoRef Named)) (main_there (clean_second cut digest))

  has_versions : causes.version ≡ None
  has_versions = ap (λ b. cause_if (not b) (Changed (branch_version given quickstart main) (settings_version given quickstart))) current

  is_gone : is_expired main_now (one cut digest) ≡ true
  is_gone = stands _ (first cut).0 tt (one cut digest).0 (ap is_some (get_put empty (one cut digest).0 tt))

  abbrev own_expired : Repository → Option StepFault
  own_expired q = option_and_then (λ (commit : CommitRecordValue). expired_fault q (commit_id commit)) (new_commit now quickstart main rule)

  has_expired : causes.expired ≡ Some (Expired (one cut digest))
  has_expired =
      ap (option_and_then (λ q. option_or (expired_fault q (one cut digest)) (own_expired q))) (repo_there main_now)
      ∙ ap (λ b. option_or (cause_if b (Expired (one cut digest))) (own_expired main_now)) is_gone

  first_is_expired : first_cause causes ≡ Some (Expired (one cut digest))
  first_is_expired =
      passed causes.repository _ has_repository ∙ passed causes.reference _ has_branch ∙ passed causes.version _ has_versions
      ∙ ap (λ o. first_of (o ∷ causes.clash ∷ [])) has_expired

  pub refused : first_cause (swap_causes (quiet_lake_after cut digest) given quickstart main version settings
      (swap_rule (Pick (first cut) (first_commit cut digest) strategy) about) clash)
      ≡ Some (Expired (first_commit cut digest))
  refused =
      ap (λ (s : State). first_cause (swap_causes s given quickstart main version settings
      (swap_rule (Pick (first cut) (first_commit cut digest) strategy) about) clash)) (expired_quiet_is cut digest)
      ∙ ap (λ (id : Digest). first_cause (swap_causes now given quickstart main version settings (swap_rule (Pick (first cut) id strategy) about) clash))
      (first_is cut digest)
      ∙ first_is_expired ∙ ap (λ (id : Digest). Some (Expired id)) (sym (first_is cut digest))
