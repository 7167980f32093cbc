-- Where references lead to the same, the same commits can expire.
use Rattle.std.proofs.Common.{◌≡◌, ℕ, cond, T, List, [], ◌∷◌, ◌++◌, map, refl, sym, ap, subst, ◌∙◌, inl, inr}
use Rattle.std.specs.Prelude.{◌↔◌, Option, Some, None, option_map, is_some}
use Rattle.std.specs.FinMap.{contains_key, entries, entries_sorted, find, get, get-entries}
use Rattle.std.specs.FinMap.Entries.{below_all}
use Rattle.std.specs.List.{Contains}
use Rattle.std.specs.Ordering.{eq_by_cmp, is_eq}
use Rattle.std.specs.declared.cmp.Ordering.TheVariants.{Less}
use Rattle.lake_base.specs.Maps.{ByteMap, HasAscendingKeys, byte_order}
use Rattle.lake_base.specs.declared.digest.Digest.{Digest}
use Rattle.lake_base.proofs.MapsLemmas.{first, head_below, less, second, tail_ascends, turned}
use Rattle.lake_values.specs.Ancestry.{Graph, commit_of}
use Rattle.lake_values.specs.Retention.{IsKeptBy}
use Rattle.lake_values.specs.Settings.{RulesValue}
use Rattle.lake_values.proofs.OrderLemmas.{Contains-from_map, Contains-map, Contains-nothing, first_or_later}
use Rattle.lake_model.specs.declared.history.HistoryEntry.{HistoryEntry}
use Rattle.lake_model.specs.declared.history.RepositoryCommit.{RepositoryCommit}
use Rattle.lake_model.specs.State.{Branch, Notes, Repository, State}
use Rattle.lake_model.specs.History.{IsLegal, replay}
use Rattle.lake_model.specs.Removal.{IsExpirable, IsKeptIn, MayExpire, heads_of, tagged_of}
use Rattle.lake_model.specs.Versions.{VersionsGiven, count_versions}
use Rattle.lake_laws.specs.References.{HaveSameReferences, SameReferences, SameRepository}
use Rattle.lake_laws.proofs.LookupLemmas.{get_entries, itself}
use Rattle.lake_laws.proofs.ReferencesLemmas.{references_same}
use Rattle.lake_laws.proofs.TargetLemmas.{map_cases}

-- ---- the entries of a map

module _ {X : Type 0} (name : List ℕ) (x : X) where
  -- a key that is below all is below one of them
  below_one : (k : List ℕ) (es : List (List ℕ × X)) → T (below_all byte_order k es) → Contains es (name, x) → byte_order k name ≡ Less
  below_one k [] below within = absurd (Contains-nothing (name, x) within)
  below_one k (e ∷ es) below within =
      elim (first_or_later e (name, x) es within) [
        | inl same ↦ ap (λ (f : List ℕ × X). byte_order k f.0) (sym same) ∙ less _ (first _ _ below)
        | inr later ↦ below_one k es (second _ _ below) later
      ]

  -- what is among entries is found
  found : (es : List (List ℕ × X)) → HasAscendingKeys es → Contains es (name, x) → find byte_order name es ≡ Some x
  found [] sorted within = absurd (Contains-nothing (name, x) within)
  found (e ∷ es) sorted within =
      elim (first_or_later e (name, x) es within) [
        | inl same ↦
            ap (λ (f : List ℕ × X). cond (eq_by_cmp byte_order name f.0) (Some f.1) (find byte_order name es)) same
            ∙ ap (λ tie. cond tie (Some x) (find byte_order name es)) (itself name)
        | inr later ↦
            let above = turned e.0 name Less (below_one e.0 es (head_below e es sorted) later) in
            ap (λ o. cond (is_eq o) (Some e.1) (find byte_order name es)) above ∙ found es (tail_ascends e es sorted) later
      ]

  -- and stands in the map
  entry_stands : (m : ByteMap X) → Contains (entries m) (name, x) → get m name ≡ Some x
  entry_stands m within = get-entries m name ∙ found (entries m) (entries_sorted m) within

-- ---- what is kept

-- each head of the one is a head of the other
abbrev HasHeadsOf : (old new : Repository) → Type 0
HasHeadsOf old new = (head : List ℕ × Digest) → Contains (heads_of old) head → Contains (heads_of new) head

head_there : (r : Repository) (name : List ℕ) (b : Branch) (head : List ℕ × Digest) → get r.branches name ≡ Some b → (name, b.head) ≡ head
    → Contains (heads_of r) head
head_there r name b head stands is =
    subst (Contains (heads_of r)) is
    (Contains-map (λ (e : List ℕ × Branch). (e.0, e.1.head)) (entries r.branches) (name, b) (get_entries r.branches name b stands))

head_again : (old new : Repository) → HaveSameReferences old new → (name : List ℕ) (b : Branch) → get old.branches name ≡ Some b
    → Contains (heads_of new) (name, b.head)
head_again old new same name b stood =
    let there = map_cases (λ (x : Branch). x.head) (get new.branches name) b.head (same.heads name ∙ ap (option_map (λ (x : Branch). x.head)) stood) in
    head_there new name there.0 (name, b.head) there.1 (ap (λ (id : Digest). (name, id)) there.2)

heads_stay : (old new : Repository) → HaveSameReferences old new → HasHeadsOf old new
heads_stay old new same head within =
    let was = Contains-from_map (λ (e : List ℕ × Branch). (e.0, e.1.head)) (entries old.branches) head within in
    subst (Contains (heads_of new)) was.2
    (head_again old new same was.0.0 was.0.1 (entry_stands was.0.0 was.0.1 old.branches was.1))

-- the same heads keep the same commits
kept_by_heads : (graph : Graph) (heads others : List (List ℕ × Digest)) (tags : List Digest) (rules : Option RulesValue) (now : ℕ) (id : Digest)
    → ((head : List ℕ × Digest) → Contains heads head → Contains others head) → ((head : List ℕ × Digest) → Contains others head → Contains heads head)
    → IsKeptBy graph heads tags rules now id → IsKeptBy graph others tags rules now id
kept_by_heads graph heads others tags None now id more fewer kept = tt
kept_by_heads graph heads others tags (Some rules) now id more fewer (inl head) = inl (head.0, more (head.0, id) head.1)
kept_by_heads graph heads others tags (Some rules) now id more fewer (inr (inl tagged)) = inr (inl tagged)
kept_by_heads graph heads others tags (Some rules) now id more fewer (inr (inr (inl followed))) =
    inr (inr (inl (followed.0, more followed.0 followed.1, followed.2)))
kept_by_heads graph heads others tags (Some rules) now id more fewer (inr (inr (inr young))) =
    inr (inr (inr (record { apart = λ head within. young.apart head (fewer head within); dated = young.dated })))

HaveSameReferences-back : (old new : Repository) → HaveSameReferences old new → HaveSameReferences new old
HaveSameReferences-back old new same = record {
  heads = λ name. sym (same.heads name);
  tags = sym same.tags;
  commits = sym same.commits;
  maps = sym same.maps;
  expired = sym same.expired;
  notes = sym same.notes;
}

kept_again : (old new : Repository) (now : ℕ) (id : Digest) → HaveSameReferences old new → IsKeptIn new now id → IsKeptIn old now id
kept_again old new now id same kept =
    kept_by_heads old.commits (heads_of new) (heads_of old) (tagged_of old) old.notes.retention now id
    (heads_stay new old (HaveSameReferences-back old new same)) (heads_stay old new same)
    (subst (λ graph. IsKeptBy graph (heads_of new) (tagged_of old) old.notes.retention now id) same.commits
    (subst (λ (tags : ByteMap Digest). IsKeptBy new.commits (heads_of new) (map (λ tag. tag.1) (entries tags)) old.notes.retention now id) same.tags
    (subst (λ (notes : Notes). IsKeptBy new.commits (heads_of new) (tagged_of new) notes.retention now id) same.notes kept)))

-- ---- what can expire

expirable_again : (old new : State) (now : ℕ) (one : RepositoryCommit) → SameReferences old new → IsExpirable old now one → IsExpirable new now one
expirable_again old new now one same may =
    by (get new.repositories one.repo) refl (subst (λ o. SameRepository o (get new.repositories one.repo)) may.stands (same one.repo))
  where
    by : (o : Option Repository) → get new.repositories one.repo ≡ o → SameRepository (Some may.repository) o → IsExpirable new now one
    by None is none = absurd none
    by (Some r) is have = record {
      repository = r;
      stands = is;
      live = (
        ap (λ graph. is_some (commit_of graph one.commit)) have.commits ∙ may.live.0,
        ap (λ (expired : ByteMap (Unit {0})). contains_key expired one.commit.0) have.expired ∙ may.live.1,
      );
      unkept = λ kept. may.unkept (kept_again may.repository r now one.commit have kept);
    }

SameRepository-back : (old new : Option Repository) → SameRepository old new → SameRepository new old
SameRepository-back None None same = tt
SameRepository-back None (Some new) same = absurd same
SameRepository-back (Some old) None same = absurd same
SameRepository-back (Some old) (Some new) same = HaveSameReferences-back old new same

expirable_both : (old new : State) (now : ℕ) (one : RepositoryCommit) → SameReferences old new → IsExpirable old now one ↔ IsExpirable new now one
expirable_both old new now one same = (
  expirable_again old new now one same,
  expirable_again new old now one (λ name. SameRepository-back (get old.repositories name) (get new.repositories name) (same name)),
)

may_expire_again : (old new : State) (now : ℕ) (commits : List RepositoryCommit)
    → ((one : RepositoryCommit) → IsExpirable old now one ↔ IsExpirable new now one) → MayExpire old now commits → MayExpire new now commits
may_expire_again old new now commits same may = record {
  distinct = may.distinct;
  all = λ one. (λ listed. (same one).0 ((may.all one).0 listed), λ can. (may.all one).1 ((same one).1 can));
}

module _ (state : State) (given : VersionsGiven) (seen history more : List HistoryEntry) (now : ℕ) where
  -- the same commits can expire where the version of the references is the same
  pub expirable_same : (one : RepositoryCommit) → seen ≡ history ++ more → IsLegal state seen
      → (count_versions given history).references ≡ (count_versions given seen).references
      → IsExpirable (replay state history) now one ↔ IsExpirable (replay state seen) now one
  expirable_same one is legal level =
      let same = references_same state given history more (subst (IsLegal state) is legal)
      (level ∙ ap (λ entries. (count_versions given entries).references) is) in
      expirable_both (replay state history) (replay state seen) now one
      (subst (λ entries. SameReferences (replay state history) (replay state entries)) (sym is) same)

  -- and the same lists
  pub may_expire_same : (commits : List RepositoryCommit) → seen ≡ history ++ more → IsLegal state seen
      → (count_versions given history).references ≡ (count_versions given seen).references
      → MayExpire (replay state history) now commits ↔ MayExpire (replay state seen) now commits
  may_expire_same commits is legal level = (
    may_expire_again (replay state history) (replay state seen) now commits (λ one. expirable_same one is legal level),
    may_expire_again (replay state seen) (replay state history) now commits
        (λ one. ((expirable_same one is legal level).1, (expirable_same one is legal level).0)),
  )
