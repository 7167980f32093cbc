-- What each thing that pairs spell makes of a lake, by its kind.
use Rattle.std.specs.Prelude.{ℕ, Bool, List, [], ◌∷◌, ◌++◌, Option, Some, None, Result, Ok, Err, option_and_then, if◌then◌else◌}
use Rattle.std.specs.FinMap.{insert}
use Rattle.std.specs.Option.{option_to_list}
use Rattle.lake_base.specs.declared.digest.Digest.{Digest}
use Rattle.lake_values.specs.Commit.{CommitRecordValue}
use Rattle.lake_values.specs.declared.entry.Change.{Change}
use Rattle.lake_values.specs.declared.settings.Note.{Note}
use Rattle.lake_values.specs.declared.settings.NoteName.{NoteName}
use Rattle.lake_format.specs.declared.cut.Cut.{Cut}
use Rattle.branch_record.specs.Record.{is_among}
use Rattle.meta_range.specs.Ranges.{TreeValue}
use Rattle.meta_range.specs.declared.fault.TreeFault.{TreeFault}
use Rattle.lake_model.specs.NoteChanges.{with_note}
use Rattle.pair_format.specs.declared.stored.Stored.{Stored}
use Rattle.pair_format.specs.declared.stored.Stored.TheVariants as stored
use Rattle.pair_trees.specs.PairTrees.{tree_named}
use Rattle.pair_trees.specs.SettingTexts.{data_of, setting_of}
use Rattle.pair_trees.specs.Things.{Things}
use Rattle.core_state.specs.LakeStates.{LakeStateValue}
use Rattle.core_changes.specs.LakeChanges.{in_branch, in_repository}
use Rattle.core_filling.specs.Filling.{CommitRead, bare_branch, with_branch, with_repository}
use Rattle.core_filling.specs.Parts.{with_token_change}

-- what a function makes of something by each of these, the last of them first
abbrev pub from_last : {T X : Type 0} → (T → X → X) → List T → X → X
from_last f [] x = x
from_last f (t ∷ ts) x = f t (from_last f ts x)

-- ---- repositories, and numbers that are gone

abbrev pub with_gone : ℕ → LakeStateValue → LakeStateValue
with_gone number l = record l { gone = insert l.gone number tt }

abbrev pub with_base : Option Stored → LakeStateValue → LakeStateValue
with_base (Some (stored.Repository repo created default_branch settings)) l = with_repository repo created default_branch settings l
with_base (Some (stored.Gone number)) l = with_gone number l
with_base _ l = l

-- ---- branches

abbrev pub with_branch_of : Option Stored → LakeStateValue → LakeStateValue
with_branch_of (Some (stored.Branch repo branch version head staging sealed)) l =
    with_branch repo branch (bare_branch version head staging sealed) l
with_branch_of _ l = l

-- the repository and the branch that name a token
abbrev pub Holder : Type 0
Holder = List ℕ × List ℕ

-- which branch names a token: this one, or the one that was told
abbrev pub holder_with : ℕ → Option Stored → Option Holder → Option Holder
holder_with token (Some (stored.Branch repo branch version head staging sealed)) told =
    if is_among (staging ∷ sealed) token then Some (repo, branch) else told
holder_with token _ told = told

-- the first branch that names a token
abbrev pub holder_in : Things → ℕ → Option Holder
holder_in things token = from_last (holder_with token) things None

-- ---- tags, settings, and changes under tokens

-- the setting of a name that a text reads as
abbrev pub setting_in : NoteName → List ℕ → Option Note
setting_in name text = option_and_then (setting_of name) (data_of text)

abbrev pub with_setting : List ℕ → Option Note → LakeStateValue → LakeStateValue
with_setting repo None l = l
with_setting repo (Some note) l = in_repository repo (λ r. record r { notes = with_note note r.notes }) l

abbrev pub with_tag : List ℕ → List ℕ → Digest → LakeStateValue → LakeStateValue
with_tag repo tag commit l = in_repository repo (λ r. record r { tags = insert r.tags tag commit }) l

abbrev pub with_change_of : Option Holder → ℕ → List ℕ → Change → LakeStateValue → LakeStateValue
with_change_of None token path change l = l
with_change_of (Some (repo, branch)) token path change l = in_branch repo branch (with_token_change token path change) l

-- with the branch that is told of each token
abbrev pub with_rest : (ℕ → Option Holder) → Option Stored → LakeStateValue → LakeStateValue
with_rest holders (Some (stored.Tag repo tag commit)) l = with_tag repo tag commit l
with_rest holders (Some (stored.Note repo name text)) l = with_setting repo (setting_in name text) l
with_rest holders (Some (stored.Staged token path change)) l = with_change_of (holders token) token path change l
with_rest holders _ l = l

-- ---- commits

-- a commit with its tree, where that is read
abbrev pub read_with : List ℕ → Bool → CommitRecordValue → Result TreeValue TreeFault → Option CommitRead
read_with repo expired commit (Ok tree) = Some (record { repo = repo; content = commit; tree = tree; expired = expired })
read_with repo expired commit (Err fault) = None

-- the commit that a thing is, with the tree that these pairs spell
abbrev pub read_in : Cut → Things → Option Stored → Option CommitRead
read_in cut things (Some (stored.Commit repo id expired commit)) = read_with repo expired commit (tree_named cut things commit)
read_in cut things _ = None

abbrev pub with_read_of : Cut → Things → Option Stored → List CommitRead → List CommitRead
with_read_of cut things thing reads = reads ++ option_to_list (read_in cut things thing)

-- the commits that are there, with their trees, the last first
abbrev pub reads_of : Cut → Things → List CommitRead
reads_of cut things = from_last (with_read_of cut things) things []
