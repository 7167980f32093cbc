-- References lead to the same where their count is the same.
use Rattle.std.proofs.Common.{◌≡◌, ℕ, false, List, ◌++◌, refl, sym, ap, ◌∙◌, subst}
use Rattle.std.specs.Prelude.{Option, Some, None, option_map}
use Rattle.std.specs.Option.{option_or}
use Rattle.std.specs.FinMap.{get}
use Rattle.lake_values.specs.declared.entry.Change.TheVariants.{Put}
use Rattle.lake_format.specs.declared.cut.Cut.{Cut}
use Rattle.lake_model.specs.declared.history.EntryKind.{EntryKind}
use Rattle.lake_model.specs.declared.history.EntryKind.TheVariants.{Accepted, Faulted}
use Rattle.lake_model.specs.declared.history.HistoryEntry.{HistoryEntry}
use Rattle.lake_model.specs.declared.history.Operation.{Operation}
use Rattle.lake_model.specs.declared.history.Operation.TheVariants.{RepoCreate, TicketTake, TicketDrop, Stage, Copy, Reset, Seal, Condemn}
use Rattle.lake_model.specs.State.{Branch, Repository, State}
use Rattle.lake_model.specs.Parts.{changed_at}
use Rattle.lake_model.specs.Uncommitted.{with_staged, reset_branch, sealed_branch}
use Rattle.lake_model.specs.History.{IsLegal, after_kind, replay}
use Rattle.lake_model.specs.Versions.{VersionsGiven, moves_references, versions_after_kind, count_versions}
use Rattle.lake_laws.specs.References.{HaveSameReferences, SameRepository, SameReferences}
use Rattle.lake_laws.proofs.PartsLemmas.{seen_again}
use Rattle.lake_laws.proofs.OperationLemmas.{made_repository, touches, change_of, changed_by, with_branches, get_after, kept_if}
use Rattle.lake_laws.proofs.VersionLemmas.{references_rise, moves_references-not}
use Rattle.lake_laws.proofs.CountingLemmas.{Tells, same_where_level}

HaveSameReferences-itself : (r : Repository) → HaveSameReferences r r
HaveSameReferences-itself r = record { heads = λ name. refl; tags = refl; commits = refl; maps = refl; expired = refl; notes = refl }

HaveSameReferences-joined : (a b c : Repository) → HaveSameReferences a b → HaveSameReferences b c → HaveSameReferences a c
HaveSameReferences-joined a b c one other = record {
  heads = λ name. other.heads name ∙ one.heads name;
  tags = other.tags ∙ one.tags;
  commits = other.commits ∙ one.commits;
  maps = other.maps ∙ one.maps;
  expired = other.expired ∙ one.expired;
  notes = other.notes ∙ one.notes;
}

SameRepository-itself : (o : Option Repository) → SameRepository o o
SameRepository-itself None = tt
SameRepository-itself (Some r) = HaveSameReferences-itself r

SameRepository-joined : (a b c : Option Repository) → SameRepository a b → SameRepository b c → SameRepository a c
SameRepository-joined None None c one other = other
SameRepository-joined None (Some b) c one other = absurd one
SameRepository-joined (Some a) None c one other = absurd one
SameRepository-joined (Some a) (Some b) None one other = absurd other
SameRepository-joined (Some a) (Some b) (Some c) one other = HaveSameReferences-joined a b c one other

-- a change of a branch that leaves its head leaves what references lead to
same_heads : (branch : List ℕ) (change : Branch → Branch) (r : Repository) → ((b : Branch) → (change b).head ≡ b.head)
    → HaveSameReferences r (with_branches (changed_at branch change) r)
same_heads branch change r kept = record {
  heads = λ name. seen_again (λ b. b.head) branch change r.branches name kept;
  tags = refl;
  commits = refl;
  maps = refl;
  expired = refl;
  notes = refl;
}

same_by : (cut : Cut) (q : List ℕ) (operation : Operation) (r : Repository) → moves_references operation ≡ false
    → HaveSameReferences r (change_of cut operation q r)
same_by cut q (Stage repo branch path change) r stays = same_heads branch (with_staged path change) r (λ b. refl)
same_by cut q (Copy repo branch path from from_path entry) r stays = same_heads branch (with_staged path (Put entry)) r (λ b. refl)
same_by cut q (Reset repo branch what) r stays = same_heads branch (reset_branch what) r (λ b. refl)
same_by cut q (Seal repo branch why) r stays = same_heads branch sealed_branch r (λ b. refl)
same_by cut q (TicketTake repo branch number) r stays = HaveSameReferences-itself r
same_by cut q (TicketDrop number) r stays = HaveSameReferences-itself r
same_by cut q (Condemn numbers) r stays = HaveSameReferences-itself r
same_by cut q _ r stays = absurd cc

none_made : (cut : Cut) (q : List ℕ) (operation : Operation) → moves_references operation ≡ false → made_repository cut operation q ≡ None
none_made cut q (RepoCreate repo branch date) stays = absurd cc
none_made cut q _ stays = refl

same_map : (change : Repository → Repository) (o : Option Repository) → ((r : Repository) → HaveSameReferences r (change r))
    → SameRepository o (option_map change o)
same_map change None same = tt
same_map change (Some r) same = same r

same_kind : (state : State) (seat : ℕ) (kind : EntryKind)
    → ((operation : Operation) → kind ≡ Accepted operation → moves_references operation ≡ false)
    → SameReferences state (after_kind seat kind state)
same_kind state seat (Accepted operation) stays q =
    let stood = get state.repositories q in
    let change = changed_by state.cut operation q in
    let is : get (after_kind seat (Accepted operation) state).repositories q ≡ option_map change stood =
    get_after state seat operation q ∙ ap (λ o. option_or o (option_map change stood)) (none_made state.cut q operation (stays operation refl)) in
    subst (SameRepository stood) (sym is) (same_map change stood (λ r.
    kept_if (HaveSameReferences r) (touches operation q) (change_of state.cut operation q) r (λ tie. same_by state.cut q operation r (stays operation refl))
    (HaveSameReferences-itself r)))
same_kind state seat (Faulted operation) stays q = SameRepository-itself (get state.repositories q)

abbrev AnyVersions : VersionsGiven → Type 0
AnyVersions given = Unit {0}

ReferencesTell : Tells AnyVersions (λ given. given.references) SameReferences
ReferencesTell = record {
  itself = λ state q. SameRepository-itself (get state.repositories q);
  joined =
      λ first second third one other q. SameRepository-joined (get first.repositories q) (get second.repositories q) (get third.repositories q) (one q)
      (other q);
  fit = λ given entry any. tt;
  rises = λ given entry any. references_rise entry.kind given;
  kept = λ state given entry may any level.
      same_kind state entry.by.seat entry.kind (λ operation kind.
      moves_references-not operation given (level ∙ ap (λ k. (versions_after_kind k given).references) kind));
}

-- in a legal history references lead to the same in two states with the same count of them
pub references_same : (state : State) (given : VersionsGiven) (entries more : List HistoryEntry) → IsLegal state (entries ++ more)
    → (count_versions given entries).references ≡ (count_versions given (entries ++ more)).references
    → SameReferences (replay state entries) (replay state (entries ++ more))
references_same state given entries more legal level =
    same_where_level AnyVersions (λ given. given.references) SameReferences ReferencesTell entries more state given tt legal level
