-- What a commit makes of a scene, and where it may come.
use Rattle.std.proofs.Common.{◌≡◌, ◌<◌, ℕ, false, List, sym, ap, ◌∙◌}
use Rattle.std.specs.Prelude.{Option, Some, None}
use Rattle.std.specs.FinMap.{get, insert, empty}
use Rattle.std.specs.Option.{unwrap_or}
use Rattle.lake_base.specs.declared.digest.Digest.{Digest}
use Rattle.lake_values.specs.Commit.{CommitRecordValue, AboutValue}
use Rattle.lake_values.specs.Entry.{EntryValue}
use Rattle.lake_values.specs.KeyMap.{KeyMapValue}
use Rattle.lake_values.specs.declared.settings.HookRule.{HookRule}
use Rattle.lake_format.specs.Spelling.{commit_id}
use Rattle.lake_model.specs.declared.history.Operation.TheVariants.{Commit}
use Rattle.lake_model.specs.State.{Branch, Repository, State, head_map, sealed_map}
use Rattle.lake_model.specs.Branches.{protected_by}
use Rattle.lake_model.specs.Commits.{IsAdmissible, IsCommittable, commit_draft, denied_by, record_of, with_commit, with_head}
use Rattle.lake_model.specs.History.{Allows, after}
use Rattle.law_examples.specs.HistoryWords.{quickstart, main, entry_of, IsCommitAdmissible}
use Rattle.law_examples.proofs.BranchesLemmas.{in_draft, put_again, spread}
use Rattle.law_examples.proofs.SceneLemmas.{scene, counted, main_there, on_main, the_main}
use Rattle.law_examples.proofs.EntriesLemmas.{may}
use Rattle.law_examples.proofs.MapsLemmas.{get_put}

module _ (s : State) (r : Repository) (b : Branch) (about : AboutValue) where
  -- the new commit, its id, the repository with it, and the branch at it
  abbrev pub new_record : CommitRecordValue
  new_record = record_of s.cut r.commits (commit_draft r b about)

  abbrev pub new_id : Digest
  new_id = commit_id new_record

  abbrev pub with_new : Repository
  with_new = with_commit new_id new_record (sealed_map r b) r

  abbrev pub at_new : Branch
  at_new = with_head new_id b

  pub after_committing : after (scene s r b) (entry_of (Commit quickstart main about)) ≡ scene (counted s) with_new at_new
  after_committing =
      ap counted (in_draft s r (insert empty main b) main b (main_there b) (λ x y. commit_draft x y about))
      ∙ ap (spread (counted s) with_new) (put_again empty main b at_new)

  -- the new head has the sealed map
  pub new_map : head_map with_new at_new ≡ sealed_map r b
  new_map = ap (λ (o : Option KeyMapValue). unwrap_or o empty) (get_put r.maps new_id.0 (sealed_map r b))

  pub may_commit : s.stopped ≡ false → s.entries < 4194304 → r.notes.protection ≡ None → r.notes.hooks ≡ None → (sealed_map r b ≡ head_map r b → ⊥)
      → IsCommitAdmissible (scene s r b) about
      → Allows (scene s r b) (entry_of (Commit quickstart main about))
  may_commit running room unprotected unhooked changed admissible =
      may s r b 1 (Commit quickstart main about) running room
      (on_main (IsCommittable (scene s r b) main about) s r b (record {
        unprotected = ap (λ (x : Option (List (List ℕ))). protected_by x main) unprotected;
        changed = changed;
        head = record {
          allowed = ap (λ (x : Option (List HookRule)). denied_by x main (head_map r b) (commit_draft r b about)) unhooked;
          admissible = the_main (λ x y. IsAdmissible (scene s r b) x (commit_draft x y about)) s r b admissible;
        };
      }))

-- maps that differ at a path
pub apart_at : (map other : KeyMapValue) (path : List ℕ) (entry : EntryValue) → get map path ≡ Some entry → get other path ≡ None → map ≡ other → ⊥
apart_at map other path entry has lacks is = let e : get map path ≡ get other path = ap (λ (m : KeyMapValue). get m path) is in
    absurd (cc (sym has ∙ (e ∙ lacks)))
