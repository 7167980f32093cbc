-- The lakes of the examples as scenes, and what may not come in them.
use Rattle.std.proofs.Common.{◌≡◌, ◌∷◌, [], refl, sym, ap, subst, ◌∙◌}
use Rattle.std.specs.Prelude.{Some, codes}
use Rattle.std.specs.FinMap.{insert, empty}
use Rattle.lake_values.specs.declared.settings.Note.{Note}
use Rattle.lake_values.specs.declared.settings.NoteName.{NoteName}
use Rattle.lake_values.specs.declared.settings.NoteName.TheVariants as name
use Rattle.lake_format.specs.declared.cut.Cut.{Cut}
use Rattle.lake_model.specs.declared.history.HistoryEntry.{HistoryEntry}
use Rattle.lake_model.specs.declared.history.Operation.TheVariants.{NoteSet}
use Rattle.lake_model.specs.State.{Repository, State, HasRepository}
use Rattle.lake_values.specs.HookDecisions.{matches}
use Rattle.lake_model.specs.Branches.{protected_by}
use Rattle.lake_model.specs.NoteChanges.{notes_after}
use Rattle.lake_model.specs.Removal.{with_expired}
use Rattle.lake_model.specs.History.{Allows, after}
use Rattle.lake_model.specs.Soundness.{fresh}
use Rattle.law_examples.specs.HistoryWords.{quickstart, main, first, entry_of}
use Rattle.law_examples.specs.RefusedLakes.{mail, one, one_day, ma_protected, tagged_lake, expired_lake, retaining_lake, ready_lake, protected_lake}
use Rattle.law_examples.proofs.SceneLemmas.{scene, counted, repo_there, in_quickstart}
use Rattle.law_examples.proofs.EntriesLemmas.{first_repository, first_branch}
use Rattle.law_examples.proofs.StaysStagedLemmas.{a_sealed, second_state, to_seal}

-- what the repository of a lake has
pub on_quickstart : (P : Repository → Type 0) (s : State) (r : Repository) → P r
    → HasRepository (record s { repositories = insert empty quickstart r }) quickstart P
on_quickstart P s r p = (r, repo_there r, p)

pub the_quickstart : (P : Repository → Type 0) (s : State) (r : Repository)
    → HasRepository (record s { repositories = insert empty quickstart r }) quickstart P → P r
the_quickstart P s r has = let same : has.0 ≡ r = cc (sym has.1 ∙ repo_there r) in subst P same has.2

-- a lake that is another allows what that one does
pub allows_by : {s : State} {t : State} (entry : HistoryEntry) → s ≡ t → Allows t entry → Allows s entry
allows_by entry is may = subst (λ (x : State). Allows x entry) (sym is) may

pub refuses_by : {s : State} {t : State} (entry : HistoryEntry) → s ≡ t → (Allows t entry → ⊥) → Allows s entry → ⊥
refuses_by entry is not_there may = not_there (subst (λ (x : State). Allows x entry) is may)

-- a repository with a setting
abbrev pub with_notes : Note → NoteName → Repository → Repository
with_notes note name r = record r { notes = notes_after name (Some note) r.notes }

-- the pattern `ma*` matches
pub main_matches : protected_by (Some (codes "ma*" ∷ [])) main ≡ Some 0
unfolding matches
main_matches = refl

pub mail_matches : protected_by (Some (codes "ma*" ∷ [])) mail ≡ Some 0
unfolding matches
mail_matches = refl

module _ (cut : Cut) where
  pub retaining_scene : retaining_lake cut ≡ scene (counted (fresh cut)) (with_notes one_day name.Retention (first_repository cut)) (first_branch cut)
  retaining_scene = ap counted (in_quickstart (with_notes one_day name.Retention) (fresh cut) (first_repository cut) (first_branch cut))

  abbrev pub tagged : Repository
  tagged = record (first_repository cut) { tags = insert empty one (first cut) }

  pub tagged_scene : tagged_lake cut ≡ scene (counted (fresh cut)) tagged (first_branch cut)
  tagged_scene = ap counted (in_quickstart (λ r. record r { tags = insert r.tags one (first cut) }) (fresh cut) (first_repository cut) (first_branch cut))

  abbrev pub expired : Repository
  expired = with_expired (first cut) (first_repository cut)

  pub expired_scene : expired_lake cut ≡ scene (fresh cut) expired (first_branch cut)
  expired_scene = in_quickstart (with_expired (first cut)) (fresh cut) (first_repository cut) (first_branch cut)

  pub ready_scene : ready_lake cut ≡ scene (second_state cut) (first_repository cut) (a_sealed cut)
  ready_scene = (to_seal cut).comes

  abbrev pub guarded : Repository
  guarded = with_notes ma_protected name.Protection (first_repository cut)

  pub protected_scene : protected_lake cut ≡ scene (counted (second_state cut)) guarded (a_sealed cut)
  protected_scene =
      ap (λ (x : State). after x (entry_of (NoteSet quickstart name.Protection (Some ma_protected)))) ready_scene
      ∙ ap counted (in_quickstart (with_notes ma_protected name.Protection) (second_state cut) (first_repository cut) (a_sealed cut))
