-- What an admissible commit has: for the laws of new heads and new repositories.
use Rattle.std.proofs.Common.{◌≡◌, ◌⊎◌, ◌<◌, ◌^◌, inl, inr, ℕ, List, [], ◌∷◌, map, codes, Option, Some, None, IsSome, arith, refl, sym, ap, subst, ◌∙◌}
use Rattle.std.specs.FinMap.{contains_key, empty, entries, get, insert}
use Rattle.std.specs.List.{Contains}
use Rattle.lake_base.specs.Maps.{ByteMap}
use Rattle.lake_base.specs.Names.{repo_fault}
use Rattle.lake_values.specs.Ancestry.{commit_of, id_of}
use Rattle.lake_values.specs.Commit.{CommitRecordValue}
use Rattle.lake_values.specs.KeyMap.{KeyMapValue}
use Rattle.lake_values.proofs.OrderLemmas.{Contains-later}
use Rattle.lake_format.specs.Cutting.{files, metarange_of, ranges}
use Rattle.lake_format.specs.Spelling.{AreBytes, IsDigest, IsSpelledCommit, commit_spelling, range_spelling}
use Rattle.lake_format.specs.declared.cut.Cut.{Cut}
use Rattle.meta_range.specs.Files.{FitsTree}
use Rattle.meta_range.specs.Ranges.{TreeValue, first_file}
use Rattle.meta_range.proofs.RangesLemmas.{is_digest}
use Rattle.byte_map.proofs.ByteMapLemmas.{get_empty, get_inserted}
use Rattle.lake_model.specs.Commits.{Draft, IsAdmissible, bare_repository, first_draft, record_of}
use Rattle.lake_model.specs.Soundness.{IsSound}
use Rattle.pair_format.specs.PairSpelling.{IsRefName}
use Rattle.keeper.specs.Keepers.{KeptPairs, pairs_after}
use Rattle.core_state.specs.BranchStates.{BranchStateValue}
use Rattle.core_state.specs.Counts.{AreFew}
use Rattle.core_state.specs.FirstStates.{first_id, first_tree, founded_repository, fresh_lake}
use Rattle.core_state.specs.Index.{HasIndex}
use Rattle.core_state.specs.NewCommits.{NewCommit, commit_of_draft, with_new_commit}
use Rattle.core_state.specs.RepositoryStates.{RepositoryStateValue, repository_of}
use Rattle.core_state.specs.declared.file_place.FilePlace.{FilePlace}
use Rattle.core_state.specs.LakeStates.{LakeStateValue, state_of}
use Rattle.core_changes.specs.LakeChanges.{after_new_head, after_repository_create}
use Rattle.core_changes.proofs.FoundingLemmas.{one_file}
use Rattle.core_pairs.specs.PutWords.{bare_lake}
use Rattle.core_pairs.specs.PutWords.{create_repository_puts, new_head_puts}
use Rattle.core_pairs.specs.KeptPlaces.{HasNewPlaces, HasPlaces}
use Rattle.core_pairs.specs.LakePairs.{AreTokensApart, StandFor}
use Rattle.core_pairs.proofs.CountsLemmas.{changed_is, things, wide}
use Rattle.core_pairs.proofs.PlaceLemmas.{decide, get_other}
use Rattle.core_standing.proofs.FileLemmas.{same_file}
use Rattle.core_standing.proofs.PlaceLemmas.{IsNewIn, by_parts, new_in}
use Rattle.core_head_pairs.proofs.BytesLemmas.{files_bytes}
use Rattle.core_head_pairs.proofs.FoundedLemmas.{follow_founded}
use Rattle.core_head_pairs.proofs.HeadLemmas.{IsNewCommit, follow_head}
use Rattle.core_head_pairs.proofs.KeptFileLemmas.{file_same, its_commit, its_map}
use Rattle.core_head_pairs.proofs.PlacesKeptLemmas.{changed_trees, new_trees, places_added, places_stay, same_trees, tree_there}

-- the files of a map: the metarange, and then the ranges
abbrev its_ranges : Cut → KeyMapValue → List (List ℕ)
its_ranges cut objects = map range_spelling (ranges cut (entries objects))

files_are : (cut : Cut) (objects : KeyMapValue) → files cut objects ≡ metarange_of cut objects ∷ its_ranges cut objects
unfolding files
files_are cut objects = refl

-- ---- a new head

module _ (l : LakeStateValue) (q : List ℕ) (r : RepositoryStateValue) (draft : Draft) (new : NewCommit) (index : HasIndex l) (sound : IsSound (state_of l))
    (in_lake : get l.repositories q ≡ Some r) (admissible : IsAdmissible (state_of l) (repository_of r) draft)
    (is : new ≡ commit_of_draft l.cut r.commits draft) where
  fresh : IsNewIn l r new
  fresh = new_in l r draft new (by_parts l.cut r.commits draft new is) admissible

  abbrev first : List ℕ
  first = metarange_of l.cut draft.objects

  abbrev rest : List (List ℕ)
  rest = its_ranges l.cut draft.objects

  its_files : new.tree.files ≡ first ∷ rest
  its_files = (by_parts l.cut r.commits draft new is).files ∙ files_are l.cut draft.objects

  pub new_commit : IsSpelledCommit new.content → ((file : List ℕ) → Contains new.tree.files file → AreBytes file) → IsNewCommit l r new first rest
  new_commit content bytes = record {
    live = ap (λ (n : NewCommit). contains_key r.expired n.id.0) is ∙ admissible.live;
    content = content;
    id = subst (λ d. IsDigest d.0) (sym fresh.id) (is_digest (commit_spelling new.content));
    files = its_files;
    bytes = λ file among. bytes file (subst (λ fs. Contains fs file) (sym its_files) among);
    apart = λ file kept among are names.
        fresh.apart file kept
        (Contains-later (commit_spelling new.content) file new.tree.files (subst (λ fs. Contains fs file) (sym its_files) among)) are names;
    one = λ a b x y names.
        same_file new.tree.files fresh.files_apart a b (subst (λ fs. Contains fs a) (sym its_files) x) (subst (λ fs. Contains fs b) (sym its_files) y) names;
  }

  -- a tree that it takes the place of has its files
  old_tree : (old : TreeValue) → get r.trees new.id.0 ≡ Some old → new.tree.files ≡ old.files
  old_tree old at = by (commit_of r.commits new.id) refl (its_commit l index sound q r in_lake new.id.0 old at)
    where
      by : (o : Option CommitRecordValue) → commit_of r.commits new.id ≡ o → IsSome o → new.tree.files ≡ old.files
      by None none h = absurd cc
      by (Some commit) there h =
          fresh.cut
          ∙ ap (files l.cut) (sym (fresh.same_map commit there) ∙ its_map l index sound q r in_lake new.id.0 old at)
          ∙ sym (index.trees q r (id_of new.id.0) old in_lake at)

  pub head_places : (before after : ByteMap (Option FilePlace)) (name : List ℕ) → HasPlaces before l → HasNewPlaces before after new.tree
      → HasPlaces after (after_new_head q name new l)
  head_places before after name places added =
      let now = with_new_commit l.next_version name new r in
      let stands = changed_is l.repositories q (with_new_commit l.next_version name new) r in_lake in
      places_added before after l (after_new_head q name new l) new.tree
      (changed_trees l (after_new_head q name new l) q r (with_new_commit l.next_version name new r) in_lake stands
      (λ id tree at. by id tree at (decide id new.id.0)))
      (tree_there (after_new_head q name new l) q (with_new_commit l.next_version name new r) new.id.0 new.tree
      (ap (λ (all : ByteMap RepositoryStateValue). get all q) stands ∙ get_inserted l.repositories q (with_new_commit l.next_version name new r))
      (get_inserted r.trees new.id.0 new.tree))
      places added
    where
      by : (id : List ℕ) (tree : TreeValue) → get r.trees id ≡ Some tree → (id ≡ new.id.0) ⊎ (id ≡ new.id.0 → ⊥)
          → (other : TreeValue) × ((get (insert r.trees new.id.0 new.tree) id ≡ Some other) × (other.files ≡ tree.files))
      by id tree at (inl same) = (
        new.tree,
        (
          ap (get (insert r.trees new.id.0 new.tree)) same ∙ get_inserted r.trees new.id.0 new.tree,
          old_tree tree (ap (get r.trees) (sym same) ∙ at),
        ),
      )
      by id tree at (inr apart) = (tree, (get_other r.trees new.id.0 new.tree id apart ∙ at, refl))

  module _ (pairs : KeptPairs) (kept : ByteMap (Option FilePlace)) (name : List ℕ) (stand : StandFor pairs l) (apart : AreTokensApart l) (few : AreFew l)
      (places : HasPlaces kept l) (content : IsSpelledCommit new.content) (fits : FitsTree draft.objects) where
    bytes : (file : List ℕ) → Contains new.tree.files file → AreBytes file
    bytes file among =
        files_bytes l.cut draft.objects fits file (subst (λ fs. Contains fs file) (by_parts l.cut r.commits draft new is).files among)

    pub head_follows : IsSome (get r.branches name) → StandFor (pairs_after (new_head_puts q name new kept l) pairs) (after_new_head q name new l)
    head_follows h = by (get r.branches name) refl h
      where
        by : (o : Option BranchStateValue) → get r.branches name ≡ o → IsSome o
            → StandFor (pairs_after (new_head_puts q name new kept l) pairs) (after_new_head q name new l)
        by None none h = absurd cc
        by (Some b) in_it h =
            follow_head pairs l kept q name r b new first rest stand apart few index sound places in_lake in_it (new_commit content bytes)

-- ---- a new repository

module _ (l : LakeStateValue) (q branch : List ℕ) (date : ℕ) (none : get l.repositories q ≡ None) where
  pub repository_places : (before after : ByteMap (Option FilePlace)) → HasPlaces before l → HasNewPlaces before after (first_tree l.cut)
      → HasPlaces after (after_repository_create q branch date l)
  repository_places before after places added =
      let r = founded_repository l.cut date branch l.next_version l.next_token in
      places_added before after l (after_repository_create q branch date l) (first_tree l.cut)
      (new_trees l (after_repository_create q branch date l) q (founded_repository l.cut date branch l.next_version l.next_token) none refl)
      (tree_there (after_repository_create q branch date l) q (founded_repository l.cut date branch l.next_version l.next_token)
      (first_id l.cut date).0 (first_tree l.cut)
      (get_inserted l.repositories q (founded_repository l.cut date branch l.next_version l.next_token))
      (get_inserted empty (first_id l.cut date).0 (first_tree l.cut)))
      places added

  pub repository_follows : (pairs : KeptPairs) → StandFor pairs l → AreFew l → HasIndex l → IsSound (state_of l)
      → IsAdmissible (state_of l) (bare_repository date branch) (first_draft date) → repo_fault q ≡ None → IsRefName branch → date < 2 ^ 64
      → StandFor (pairs_after (create_repository_puts q branch date l) pairs) (after_repository_create q branch date l)
  repository_follows pairs stand few index sound admissible valid named dated =
      let w = wide l few in
      let number = w.number in
      follow_founded pairs l q branch date (things pairs l stand) w.version w.token (omega arith) none valid named dated
      (file_same l index sound (first_file (files l.cut empty) ∷ [])
      (λ file kept among are names.
      admissible.apart file kept
      (Contains-later (commit_spelling (record_of l.cut empty (first_draft date))) file (files l.cut empty)
      (subst (λ fs. Contains fs file) (sym (one_file l.cut)) among)) are names))

-- ---- the fresh lake

module _ (cut : Cut) where
  no_places : HasPlaces empty (bare_lake cut)
  no_places = record {
    named = λ name place is. absurd (let none = get_empty {X = Option FilePlace} name in cc);
    told = λ name place is. absurd (let none = get_empty {X = Option FilePlace} name in cc);
  }

  pub fresh_places : (kept : ByteMap (Option FilePlace)) → HasNewPlaces empty kept (first_tree cut) → HasPlaces kept (fresh_lake cut)
  fresh_places kept added =
      let m = after_repository_create (codes "quickstart") (codes "main") 0 (bare_lake cut) in
      places_stay kept (after_repository_create (codes "quickstart") (codes "main") 0 (bare_lake cut)) (fresh_lake cut)
      (same_trees (after_repository_create (codes "quickstart") (codes "main") 0 (bare_lake cut)) (fresh_lake cut) refl)
      (repository_places (bare_lake cut) (codes "quickstart") (codes "main") 0 (get_empty (codes "quickstart")) empty kept no_places added)
