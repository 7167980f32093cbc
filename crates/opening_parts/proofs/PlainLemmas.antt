-- A lake before its commits join: it has none, and no names, and nothing has happened in it.
use Rattle.std.proofs.Common.{◌≡◌, ◌⊎◌, inl, inr, ℕ, Bool, true, false, cond, List, [], ◌∷◌, Option, Some, None, refl, sym, ap, subst, ◌∙◌}
use Rattle.std.specs.FinMap.{empty, get, insert}
use Rattle.std.specs.Option.{option_and_then, option_map_or}
use Rattle.lake_base.specs.Maps.{ByteMap}
use Rattle.lake_values.specs.declared.entry.Change.{Change}
use Rattle.lake_values.specs.declared.settings.Note.{Note}
use Rattle.lake_format.specs.declared.cut.Cut.{Cut}
use Rattle.byte_map.specs.Values.{some_values}
use Rattle.byte_map.proofs.ByteMapLemmas.{get_empty}
use Rattle.byte_map.proofs.ValuesLemmas.{get_some_values}
use Rattle.lake_model.specs.NoteChanges.{with_note}
use Rattle.lake_model.specs.Parts.{changed_at}
use Rattle.pair_format.specs.declared.stored.Stored.{Stored}
use Rattle.pair_format.specs.declared.stored.Stored.TheVariants as stored
use Rattle.pair_trees.specs.Things.{Things}
use Rattle.core_state.specs.FilePlaces.{FilePlaceValue}
use Rattle.core_state.specs.NameIndexes.{NameIndexValue, bytes_in, empty_index}
use Rattle.core_state.specs.RepositoryStates.{RepositoryStateValue}
use Rattle.core_state.specs.LakeStates.{LakeStateValue, lake_value}
use Rattle.core_state.specs.declared.lake.LakeState.{LakeState}
use Rattle.core_changes.specs.LakeChanges.{in_repository}
use Rattle.core_pairs.proofs.PlaceLemmas.{found}
use Rattle.core_filling.specs.Filling.{bare_branch, bare_repository}
use Rattle.core_filling.specs.Parts.{with_token_change}
use Rattle.opening_parts.specs.Filled.{branched_lake, counted_lake, lake_before}
use Rattle.opening_parts.specs.Fillings.{Holder, from_last, holder_in, setting_in, with_base, with_branch_of, with_change_of, with_rest, with_setting}

-- what is put is the new one, or was there
module _ {X : Type 0} (m : ByteMap X) (name : List ℕ) (x : X) (P : List ℕ → X → Type 0) (new : P name x)
    (old : (n : List ℕ) (y : X) → get m n ≡ Some y → P n y) where
  pub each_put : (n : List ℕ) (y : X) → get (insert m name x) n ≡ Some y → P n y
  each_put n y there = by (found m name x n y there)
    where
      by : ((n ≡ name) × (x ≡ y)) ⊎ ((n ≡ name → ⊥) × (get m n ≡ Some y)) → P n y
      by (inl (named, one)) = subst (P n) one (subst (λ n. P n x) (sym named) new)
      by (inr (other, was)) = old n y was

-- a repository has no commits
pub record HasNoCommits (r : RepositoryStateValue) : Type 0 where
  pub commits : r.commits ≡ empty
  pub trees : r.trees ≡ empty
  pub expired : r.expired ≡ empty

pub record IsPlain (cut : Cut) (l : LakeStateValue) : Type 0 where
  pub tickets : l.tickets ≡ empty
  pub stopped : l.stopped ≡ false
  pub entries : l.entries ≡ 0
  pub references : l.references ≡ 0
  pub cut_is : l.cut ≡ cut
  pub names : l.names ≡ empty_index
  pub none : (repo : List ℕ) (r : RepositoryStateValue) → get l.repositories repo ≡ Some r → HasNoCommits r

module _ (cut : Cut) where
  -- with other repositories that have no commits
  others : (l : LakeStateValue) (all : ByteMap RepositoryStateValue) → IsPlain cut l
      → ((repo : List ℕ) (r : RepositoryStateValue) → get all repo ≡ Some r → HasNoCommits r) → IsPlain cut (record l { repositories = all })
  others l all plain none = record {
    tickets = plain.tickets;
    stopped = plain.stopped;
    entries = plain.entries;
    references = plain.references;
    cut_is = plain.cut_is;
    names = plain.names;
    none = none;
  }

  put_plain : (l : LakeStateValue) (repo : List ℕ) (r : RepositoryStateValue) → IsPlain cut l → HasNoCommits r
      → IsPlain cut (record l { repositories = insert l.repositories repo r })
  put_plain l repo r plain none =
      others l (insert l.repositories repo r) plain (each_put l.repositories repo r (λ n x. HasNoCommits x) none plain.none)

  changed_plain : (l : LakeStateValue) (repo : List ℕ) (change : RepositoryStateValue → RepositoryStateValue)
      → ((r : RepositoryStateValue) → HasNoCommits r → HasNoCommits (change r)) → IsPlain cut l → IsPlain cut (in_repository repo change l)
  changed_plain l repo change keeps plain = by (get l.repositories repo) refl
    where
      by : (o : Option RepositoryStateValue) → get l.repositories repo ≡ o
          → IsPlain cut (record l { repositories = option_map_or (λ x. insert l.repositories repo (change x)) o l.repositories })
      by None none = plain
      by (Some r) there = put_plain l repo (change r) plain (keeps r (plain.none repo r there))

  pub first_plain : (counts : ℕ × ℕ × ℕ) → IsPlain cut (counted_lake cut counts)
  first_plain counts = record {
    tickets = refl;
    stopped = refl;
    entries = refl;
    references = refl;
    cut_is = refl;
    names = refl;
    none = λ repo r there. let nothing = get_empty {X = RepositoryStateValue} repo in absurd cc;
  }

  base_plain : (t : Option Stored) (l : LakeStateValue) → IsPlain cut l → IsPlain cut (with_base t l)
  base_plain (Some (stored.Repository repo created default_branch settings)) l plain =
      put_plain l repo (bare_repository created default_branch settings) plain (record { commits = refl; trees = refl; expired = refl })
  base_plain (Some (stored.Gone number)) l plain = record {
    tickets = plain.tickets;
    stopped = plain.stopped;
    entries = plain.entries;
    references = plain.references;
    cut_is = plain.cut_is;
    names = plain.names;
    none = plain.none;
  }
  base_plain None l plain = plain
  base_plain (Some x) l plain = plain

  branch_plain : (t : Option Stored) (l : LakeStateValue) → IsPlain cut l → IsPlain cut (with_branch_of t l)
  branch_plain (Some (stored.Branch repo branch version head staging sealed)) l plain =
      changed_plain l repo (λ r. record r { branches = insert r.branches branch (bare_branch version head staging sealed) })
      (λ r none. record { commits = none.commits; trees = none.trees; expired = none.expired }) plain
  branch_plain None l plain = plain
  branch_plain (Some x) l plain = plain

  setting_plain : (repo : List ℕ) (o : Option Note) (l : LakeStateValue) → IsPlain cut l → IsPlain cut (with_setting repo o l)
  setting_plain repo None l plain = plain
  setting_plain repo (Some note) l plain =
      changed_plain l repo (λ r. record r { notes = with_note note r.notes })
      (λ r none. record { commits = none.commits; trees = none.trees; expired = none.expired }) plain

  change_plain : (o : Option Holder) (token : ℕ) (path : List ℕ) (change : Change) (l : LakeStateValue) → IsPlain cut l
      → IsPlain cut (with_change_of o token path change l)
  change_plain None token path change l plain = plain
  change_plain (Some (repo, branch)) token path change l plain =
      changed_plain l repo (λ r. record r { branches = changed_at branch (with_token_change token path change) r.branches })
      (λ r none. record { commits = none.commits; trees = none.trees; expired = none.expired }) plain

  rest_plain : (holders : ℕ → Option Holder) (t : Option Stored) (l : LakeStateValue) → IsPlain cut l → IsPlain cut (with_rest holders t l)
  rest_plain holders (Some (stored.Tag repo tag commit)) l plain =
      changed_plain l repo (λ r. record r { tags = insert r.tags tag commit })
      (λ r none. record { commits = none.commits; trees = none.trees; expired = none.expired }) plain
  rest_plain holders (Some (stored.Note repo name text)) l plain = setting_plain repo (setting_in name text) l plain
  rest_plain holders (Some (stored.Staged token path change)) l plain = change_plain (holders token) token path change l plain
  rest_plain holders None l plain = plain
  rest_plain holders (Some x) l plain = plain

  each_plain : (f : Option Stored → LakeStateValue → LakeStateValue) → ((t : Option Stored) (l : LakeStateValue) → IsPlain cut l → IsPlain cut (f t l))
      → (ts : Things) (l : LakeStateValue) → IsPlain cut l → IsPlain cut (from_last f ts l)
  each_plain f keeps [] l plain = plain
  each_plain f keeps (t ∷ ts) l plain = keeps t (from_last f ts l) (each_plain f keeps ts l plain)

  pub before_plain : (counts : ℕ × ℕ × ℕ) (things : Things) → IsPlain cut (lake_before cut counts things)
  before_plain counts things =
      each_plain (with_rest (holder_in things)) (rest_plain (holder_in things)) things (branched_lake cut counts things)
      (each_plain with_branch_of branch_plain things (from_last with_base things (counted_lake cut counts))
      (each_plain with_base base_plain things (counted_lake cut counts) (first_plain counts)))

  -- so is what came of the steps, one after the other
  pub steps_plain : (counts : ℕ × ℕ × ℕ) (ts us vs : Things) (holders : ℕ → Option Holder) (first based branched last : LakeStateValue)
      → first ≡ counted_lake cut counts → based ≡ from_last with_base ts first → branched ≡ from_last with_branch_of us based
      → last ≡ from_last (with_rest holders) vs branched → IsPlain cut last
  steps_plain counts ts us vs holders first based branched last a b c d =
      subst (IsPlain cut) (sym d) (each_plain (with_rest holders) (rest_plain holders) vs branched
      (subst (IsPlain cut) (sym c) (each_plain with_branch_of branch_plain us based
      (subst (IsPlain cut) (sym b) (each_plain with_base base_plain ts first (subst (IsPlain cut) (sym a) (first_plain counts)))))))

  -- its index has no place
  pub no_place : (l : LakeState) → IsPlain cut (lake_value l) → (name : List ℕ) (place : FilePlaceValue) → get l.names.files name ≡ Some (Some place) → ⊥
  unfolding lake_value
  no_place l plain name place at =
      let told : get (some_values bytes_in l.names.files) name ≡ Some place.bytes =
      get_some_values bytes_in l.names.files name ∙ ap (option_and_then bytes_in) at in
      let none : get (some_values bytes_in l.names.files) name ≡ None =
      ap (λ (n : NameIndexValue). get n.files name) plain.names ∙ get_empty {X = List ℕ} name in
      absurd cc
