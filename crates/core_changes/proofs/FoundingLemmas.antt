-- A new repository: the one file of its tree, what stands in its maps, and what it makes of a lake.
use Rattle.std.proofs.Common.{◌≡◌, ◌+◌, ℕ, Bool, true, false, cond, List, [], ◌∷◌, map, length, refl, sym, ap, subst, ◌∙◌, arith}
use Rattle.std.specs.Prelude.{Some, None}
use Rattle.std.specs.Option.{unwrap_or}
use Rattle.std.specs.Str.{bytes_eq}
use Rattle.std.specs.Cmp.Lexicographic.{same_text}
use Rattle.std.specs.FinMap.{empty, entries, get, insert, len-empty, len-entries}
use Rattle.lake_base.specs.Maps.{ByteMap, byte_order}
use Rattle.lake_base.specs.declared.digest.Digest.{Digest}
use Rattle.lake_values.specs.Entry.{EntryValue}
use Rattle.lake_values.specs.KeyMap.{KeyMapValue}
use Rattle.lake_format.specs.Cutting.{files, metarange_of, ranges, tree_id}
use Rattle.lake_format.specs.Spelling.{file_name, range_spelling}
use Rattle.lake_format.specs.declared.cut.Cut.{Cut}
use Rattle.lake_format.proofs.CutLemmas.{ranges_none}
use Rattle.meta_range.specs.Ranges.{first_file}
use Rattle.byte_map.specs.Values.{map_values}
use Rattle.byte_map.proofs.ByteMapLemmas.{get_empty, get_insert}
use Rattle.byte_map.proofs.ValuesLemmas.{map_values_empty, map_values_insert}
use Rattle.lake_model.specs.Commits.{after_repository_create as after_creation, new_repository}
use Rattle.lake_model.specs.State.{map_of}
use Rattle.lake_model.specs.Versions.{VersionsGiven, branch_version, settings_version, with_branch_version}
use Rattle.core_state.specs.BranchStates.{BranchStateValue, branch_of, new_branch}
use Rattle.core_state.specs.Counts.{HasVersions}
use Rattle.core_state.specs.FirstStates.{first_id, first_record, first_tree, founded_repository}
use Rattle.core_state.specs.RepositoryStates.{RepositoryStateValue, repository_of}
use Rattle.core_state.specs.LakeStates.{LakeStateValue, state_of}
use Rattle.core_changes.specs.FreshTokens.{AreTokensBelow, HasTokensBelow}
use Rattle.core_changes.specs.LakeChanges.{after_repository_create}
use Rattle.core_changes.proofs.ChangedLemmas.{all_inserted, none_inserted}
use Rattle.core_changes.proofs.CountLemmas.{AreVersionsOf, HasVersionsIn, branch_begins, version_elsewhere}
use Rattle.core_changes.proofs.StateLemmas.{new_seen, with_one_more}
use Rattle.core_changes.proofs.TokenLemmas.{below_later, new_below}

-- ---- the tree of the empty map

no_rows : {X : Type 0} (rows : List X) → length rows ≡ 0 → rows ≡ []
no_rows [] none = refl
no_rows (row ∷ rows) none = absurd (omega arith)

-- it has no ranges
pub no_ranges : (cut : Cut) → ranges cut (entries (empty {X = EntryValue} {R = byte_order})) ≡ []
no_ranges cut =
    ap (ranges cut) (no_rows _ (sym (len-entries (empty {X = EntryValue} {R = byte_order})) ∙ len-empty byte_order EntryValue)) ∙ ranges_none cut

-- it has one file
pub one_file : (cut : Cut) → files cut empty ≡ first_file (files cut empty) ∷ []
unfolding files
one_file cut = ap (λ ranges. metarange_of cut empty ∷ map range_spelling ranges) (no_ranges cut)

-- which is named as the tree is
pub file_named : (cut : Cut) → file_name (first_file (files cut empty)) ≡ tree_id cut empty
unfolding files tree_id
file_named cut = refl

-- ---- what it stands for

-- a map of one thing, seen by f
pub seen_alone : {X Y : Type 0} (f : X → Y) (k : List ℕ) (x : X) → map_values f (insert empty k x) ≡ insert empty k (f x)
seen_alone f k x = map_values_insert f empty k x ∙ ap (λ m. insert m k (f x)) (map_values_empty f)

module _ (cut : Cut) (date : ℕ) (branch : List ℕ) (version token : ℕ) where
  -- the maps of its commits
  maps_seen : map_values (λ tree. tree.map) (founded_repository cut date branch version token).trees ≡ insert empty (first_id cut date).0 empty
  maps_seen = seen_alone (λ tree. tree.map) (first_id cut date).0 (first_tree cut)

  -- the new repository of the one-thread lake
  pub founded_seen : repository_of (founded_repository cut date branch version token) ≡ new_repository cut date branch
  unfolding first_id first_record
  founded_seen =
      let id = first_id cut date in
      let branches = seen_alone branch_of branch (new_branch version id token) ∙ ap (insert empty branch) (new_seen version id token) in
      λ i. record (repository_of (founded_repository cut date branch version token)) { branches = branches i; maps = maps_seen i }

  empty_by : (test : Bool) (k : List ℕ) → unwrap_or (cond test (Some empty) (get {R = byte_order} (empty {X = KeyMapValue}) k)) empty ≡ empty
  empty_by true k = refl
  empty_by false k = ap (λ o. unwrap_or o empty) (get_empty k)

  -- each of its maps is empty
  pub empty_map : (id : Digest) → map_of (repository_of (founded_repository cut date branch version token)) id ≡ empty
  empty_map id =
      ap (λ (maps : ByteMap KeyMapValue). unwrap_or (get maps id.0) empty) maps_seen
      ∙ ap (λ o. unwrap_or o empty) (get_insert empty (first_id cut date).0 empty id.0)
      ∙ empty_by (bytes_eq id.0 (first_id cut date).0) id.0

-- ---- what stands in a map of one thing

-- a thing there is that one
pub record IsOnly {X : Type 0} (k : List ℕ) (x : X) (q : List ℕ) (y : X) : Type 0 where
  pub key : q ≡ k
  pub value : x ≡ y

module _ {X : Type 0} (k : List ℕ) (x : X) (q : List ℕ) (y : X) where
  only_by : (test : Bool) → bytes_eq q k ≡ test → cond test (Some x) (get {R = byte_order} empty q) ≡ Some y → IsOnly k x q y
  only_by true tie is = record { key = same_text q k (sym tie); value = cc }
  only_by false tie is = absurd (let none = get_empty {X = X} q in cc)

  pub only : get {R = byte_order} (insert empty k x) q ≡ Some y → IsOnly k x q y
  only is = only_by (bytes_eq q k) refl (sym (get_insert empty k x q) ∙ is)

-- ---- what it makes of a lake
module _ (l : LakeStateValue) (repo branch : List ℕ) (date : ℕ) where
  -- what stands in the lake is put under the name
  abbrev pub founded : RepositoryStateValue
  founded = founded_repository l.cut date branch l.next_version l.next_token

  -- the state
  pub created_seen : state_of (after_repository_create repo branch date l) ≡ with_one_more (after_creation repo branch date (state_of l))
  created_seen =
      let repositories =
      map_values_insert repository_of l.repositories repo founded
      ∙ ap (insert (state_of l).repositories repo) (founded_seen l.cut date branch l.next_version l.next_token) in
      λ i. record (with_one_more (state_of l)) { repositories = repositories i }

  -- its branch has the next version
  pub created_rises : (given : VersionsGiven) → get l.repositories repo ≡ None → HasVersions given l
      → AreVersionsOf (branch_version (with_branch_version repo branch given)) (settings_version given) (insert l.repositories repo founded)
  created_rises given none has = record {
    each = λ q r is.
        all_inserted (λ q r. HasVersionsIn (branch_version (with_branch_version repo branch given) q) (settings_version given q) r) l.repositories repo founded
        (λ q tie. branch_begins given repo branch q (settings_version given q) (record founded { branches = empty }) tie (record {
          branches = λ name b there. absurd (let nothing = get_empty {X = BranchStateValue} name in cc);
          settings = ap (settings_version given) (same_text q repo (sym tie)) ∙ has.unset repo none;
        }) (new_branch l.next_version (first_id l.cut date) l.next_token) has.next)
        (λ q r apart is. record {
          branches = λ name b there. version_elsewhere given repo branch q name apart ∙ has.branches q r name b is there;
          settings = has.settings q r is;
        }) q r is;
    unset = λ q nothing. has.unset q (none_inserted l.repositories repo founded q nothing);
  }

  -- its token is below the one after it
  pub created_below : AreTokensBelow l → AreTokensBelow (after_repository_create repo branch date l)
  created_below below = λ q r name b is there.
      all_inserted (λ q r. (name : List ℕ) (b : BranchStateValue) → get r.branches name ≡ Some b → HasTokensBelow (l.next_token + 1) b)
      l.repositories repo founded
      (λ q tie name b there.
      subst (HasTokensBelow (l.next_token + 1)) (only branch (new_branch l.next_version (first_id l.cut date) l.next_token) name b there).value
      (new_below l.next_version (first_id l.cut date) l.next_token))
      (λ q r apart is name b there. below_later l.next_token b (below q r name b is there))
      q r is name b there
