-- Settings are the same where their version is.
use Rattle.std.proofs.Common.{◌≡◌, ℕ, false, List, ◌++◌, refl, sym, ap, ◌∙◌}
use Rattle.std.specs.Prelude.{Some}
use Rattle.std.specs.FinMap.{get}
use Rattle.lake_model.specs.declared.history.HistoryEntry.{HistoryEntry}
use Rattle.lake_model.specs.declared.history.Operation.{Operation}
use Rattle.lake_model.specs.declared.history.Operation.TheVariants.{Commit, Merge, Pick, NoteSet, Expire}
use Rattle.lake_model.specs.State.{Notes, Repository, State, HasRepository}
use Rattle.lake_model.specs.Commits.{commit_draft, merge_draft, pick_draft}
use Rattle.lake_model.specs.History.{IsLegal, replay}
use Rattle.lake_model.specs.Versions.{VersionsGiven, AreBelowNext, settings_version, version_holder, versions_after_kind, count_versions}
use Rattle.lake_laws.proofs.OperationLemmas.{Keeps, HasRepository-after}
use Rattle.lake_laws.proofs.KeepingLemmas.{kept_expired, kept_draft}
use Rattle.lake_laws.proofs.VersionLemmas.{is_settings, is_settings-not, settings_version_rises, AreBelowNext-after}
use Rattle.lake_laws.proofs.CountingLemmas.{Tells, same_where_level}

-- a repository has these settings
abbrev HasNotes : Notes → Repository → Type 0
HasNotes notes r = r.notes ≡ notes

-- an operation that gives the settings no version keeps them
kept_by : (state : State) (seat : ℕ) (q : List ℕ) (notes : Notes) (operation : Operation)
    → is_settings (version_holder operation) q ≡ false → Keeps state seat q (HasNotes notes) operation
kept_by state seat q notes (NoteSet repo name setting) none r may tie is has = absurd cc
kept_by state seat q notes (Commit repo branch about) none r may tie is has =
    kept_draft (HasNotes notes) state.cut branch (λ s b. commit_draft s b about) r (λ b was. has) has
kept_by state seat q notes (Merge repo branch source strategy about) none r may tie is has =
    kept_draft (HasNotes notes) state.cut branch (merge_draft source strategy about) r (λ b was. has) has
kept_by state seat q notes (Pick repo branch base source strategy about) none r may tie is has =
    kept_draft (HasNotes notes) state.cut branch (pick_draft base source strategy about) r (λ b was. has) has
kept_by state seat q notes (Expire now commits) none r may tie is has = kept_expired (HasNotes notes) (λ s one h. h) q commits r has
kept_by state seat q notes _ none r may tie is has = has

-- a repository of the name that is there stays, with the same settings
abbrev SameSettings : List ℕ → State → State → Type 0
SameSettings repo old new = (notes : Notes) → HasRepository old repo (HasNotes notes) → HasRepository new repo (HasNotes notes)

SettingsTell : (repo : List ℕ) → Tells AreBelowNext (λ given. settings_version given repo) (SameSettings repo)
SettingsTell repo = record {
  itself = λ state notes has. has;
  joined = λ first second third one other notes has. other notes (one notes has);
  fit = AreBelowNext-after;
  rises = λ given entry below. settings_version_rises entry.kind given repo below;
  kept = λ state given entry may below level notes.
      HasRepository-after state entry repo (HasNotes notes) may (λ operation kind.
      kept_by state entry.by.seat repo notes operation
      (is_settings-not operation given repo below (level ∙ ap (λ k. settings_version (versions_after_kind k given) repo) kind)));
}

-- in a legal history two states in which a repository has the same version of its settings have the same settings of it
pub notes_same : (state : State) (given : VersionsGiven) (entries more : List HistoryEntry) (repo : List ℕ) (old new : Repository)
    → AreBelowNext given → IsLegal state (entries ++ more)
    → get (replay state entries).repositories repo ≡ Some old → get (replay state (entries ++ more)).repositories repo ≡ Some new
    → settings_version (count_versions given entries) repo ≡ settings_version (count_versions given (entries ++ more)) repo
    → new.notes ≡ old.notes
notes_same state given entries more repo old new below legal was is level =
    let has = same_where_level AreBelowNext (λ given. settings_version given repo) (SameSettings repo) (SettingsTell repo)
    entries more state given below legal level old.notes (old, was, refl) in
    let one : has.0 ≡ new = cc (has.1) in
    ap (λ (r : Repository). r.notes) (sym one) ∙ has.2
