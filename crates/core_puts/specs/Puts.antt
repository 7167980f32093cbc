-- The puts by which each change of a lake is kept, made of what the lake is before it. Where a branch or a repository
-- isn't there, there are none.
use Rattle.std.specs.Prelude.{◌+◌, ℕ, Bool, false, not, List, [], ◌∷◌, ◌++◌, map, filter, Option, Some, None, option_and_then, if◌then◌else◌}
use Rattle.std.specs.Option.{option_map_or}
use Rattle.std.specs.List.{flat_map}
use Rattle.std.specs.FinMap.{empty, get, keys}
use Rattle.lake_base.specs.Maps.{ByteMap}
use Rattle.lake_base.specs.declared.digest.Digest.{Digest}
use Rattle.lake_values.specs.Commit.{CommitRecordValue}
use Rattle.lake_values.specs.Reset.{drops_path}
use Rattle.lake_values.specs.declared.commit.ResetWhat.{ResetWhat}
use Rattle.lake_values.specs.declared.commit.ResetWhat.TheVariants.{All}
use Rattle.lake_values.specs.declared.entry.Change.{Change}
use Rattle.lake_values.specs.declared.settings.Note.{Note}
use Rattle.lake_values.specs.declared.settings.Note.TheVariants as setting
use Rattle.lake_values.specs.declared.settings.NoteName.{NoteName}
use Rattle.branch_record.specs.Tokens.{TokenMap, changes_under}
use Rattle.lake_format.specs.Cutting.{files}
use Rattle.lake_format.specs.Spelling.{file_name}
use Rattle.hook_rules.specs.HookForms.{hooks_text, protection_text}
use Rattle.pair_format.specs.declared.key.OwnedKey.{OwnedKey}
use Rattle.pair_format.specs.declared.key.OwnedKey.TheVariants as key
use Rattle.pair_format.specs.declared.stored.Stored.{Stored}
use Rattle.pair_format.specs.declared.stored.Stored.TheVariants as stored
use Rattle.pair_format.specs.PairSpelling.{key_of, key_spelling, value_spelling}
use Rattle.keeper.specs.declared.put.Put.{Put}
use Rattle.core_state.specs.BranchStates.{BranchStateValue, new_branch, tokens_of, with_fresh}
use Rattle.core_state.specs.NewCommits.{NewCommit, with_new_head}
use Rattle.core_state.specs.RepositoryStates.{RepositoryStateValue}
use Rattle.core_state.specs.declared.file_place.FilePlace.{FilePlace}
use Rattle.core_state.specs.LakeStates.{LakeStateValue}
use Rattle.core_state.specs.FirstStates.{first_id, first_record, founded_repository}

-- ---- puts

-- by which something is stored
unfoldable pub spelled_put : Stored → Put
spelled_put s = record { key = key_spelling (key_of s); value = Some (value_spelling s) }

-- by which nothing stands under a key
unfoldable pub removed_put : OwnedKey → Put
removed_put k = record { key = key_spelling k; value = None }

-- of the counts of a lake
abbrev pub counts_put : LakeStateValue → Put
counts_put l = spelled_put (stored.Counts l.next_number l.next_version l.next_token)

-- of a branch
abbrev pub branch_put : List ℕ → List ℕ → BranchStateValue → Put
branch_put repo name b = spelled_put (stored.Branch repo name b.version b.head b.staging b.sealed)

-- of a repository
abbrev pub repository_put : List ℕ → RepositoryStateValue → Put
repository_put repo r = spelled_put (stored.Repository repo r.created r.default_branch r.settings)

-- of a commit, which isn't expired
abbrev pub commit_put : List ℕ → Digest → CommitRecordValue → Put
commit_put repo id commit = spelled_put (stored.Commit repo id false commit)

-- of a metarange, under its name
abbrev pub metarange_put : List ℕ → Put
metarange_put bytes = spelled_put (stored.MetaRange (file_name bytes) bytes)

-- of a range, under its name
abbrev pub range_put : List ℕ → Put
range_put bytes = spelled_put (stored.Range (file_name bytes) bytes)

-- of the files of a tree: the metarange, and then the ranges in order
abbrev pub file_puts : List (List ℕ) → List Put
file_puts [] = []
file_puts (metarange ∷ ranges) = metarange_put metarange ∷ map range_put ranges

-- ---- numbers, and the changes of a branch

-- the branch of a name, where it is there
abbrev pub branch_at : List ℕ → List ℕ → LakeStateValue → Option BranchStateValue
branch_at repo name l = option_and_then (λ r. get r.branches name) (get l.repositories repo)

-- a number is given out
abbrev pub ticket_puts : LakeStateValue → List Put
ticket_puts l = counts_put (record l { next_number = l.next_number + 1 }) ∷ []

-- a change is staged
abbrev pub stage_puts : List ℕ → List ℕ → List ℕ → Change → LakeStateValue → List Put
stage_puts repo name path change l =
    option_map_or (λ b. spelled_put (stored.Staged b.staging path change) ∷ []) (branch_at repo name l) []

-- the removals of the changes at those of these paths, under a token, that a reset drops
unfoldable pub removals_at : ResetWhat → ℕ → List (List ℕ) → List Put
removals_at what token paths = map (λ path. removed_put (key.Staged token path)) (filter (drops_path what) paths)

-- the same of each change under a token, in order of path
abbrev pub removals_under : ResetWhat → TokenMap → ℕ → List Put
removals_under what tokens token = removals_at what token (keys (changes_under tokens token))

-- the same of each token of a branch: the staging token, then the sealed ones, newest first
abbrev pub removals_of : ResetWhat → BranchStateValue → List Put
removals_of what b = flat_map (removals_under what b.tokens) (tokens_of b)

-- changes are dropped
abbrev pub reset_puts : List ℕ → List ℕ → ResetWhat → LakeStateValue → List Put
reset_puts repo name what l =
    option_map_or (λ b. removals_of what b ++ branch_put repo name (record b { version = l.next_version })
    ∷ counts_put (record l { next_version = l.next_version + 1 }) ∷ []) (branch_at repo name l) []

-- staged changes are sealed
abbrev pub seal_puts : List ℕ → List ℕ → LakeStateValue → List Put
seal_puts repo name l =
    option_map_or (λ b. branch_put repo name (record (with_fresh l.next_token b) { version = l.next_version })
    ∷ counts_put (record l { next_version = l.next_version + 1; next_token = l.next_token + 1 }) ∷ [])
    (branch_at repo name l) []

-- ---- names

-- A repository is made at a date: it, its default branch, its first commit and the files of that one's tree, and the
-- counts.
abbrev pub create_repository_puts : List ℕ → List ℕ → ℕ → LakeStateValue → List Put
create_repository_puts repo branch date l =
    repository_put repo (founded_repository l.cut date branch l.next_version l.next_token)
    ∷ branch_put repo branch (new_branch l.next_version (first_id l.cut date) l.next_token)
    ∷ commit_put repo (first_id l.cut date) (first_record l.cut date)
    ∷ (file_puts (files l.cut empty)
    ++ counts_put (record l { next_version = l.next_version + 1; next_token = l.next_token + 1 }) ∷ [])

-- a branch is made
abbrev pub create_branch_puts : List ℕ → List ℕ → Digest → LakeStateValue → List Put
create_branch_puts repo name commit l =
    branch_put repo name (new_branch l.next_version commit l.next_token)
    ∷ counts_put (record l { next_version = l.next_version + 1; next_token = l.next_token + 1 }) ∷ []

-- a branch goes
abbrev pub delete_branch_puts : List ℕ → List ℕ → LakeStateValue → List Put
delete_branch_puts repo name l =
    option_map_or (λ b. removed_put (key.Branch repo name) ∷ removals_of All b) (branch_at repo name l) []

-- where a file is kept
abbrev pub kept_place : ByteMap (Option FilePlace) → List ℕ → Option FilePlace
kept_place kept file = option_and_then (λ place. place) (get kept (file_name file).0)

-- whether it is kept as a metarange, and whether as a range
abbrev pub is_kept_metarange : ByteMap (Option FilePlace) → List ℕ → Bool
is_kept_metarange kept file = option_map_or (λ place. place.is_metarange) (kept_place kept file) false

abbrev pub is_kept_range : ByteMap (Option FilePlace) → List ℕ → Bool
is_kept_range kept file = option_map_or (λ place. not place.is_metarange) (kept_place kept file) false

-- of the files of a tree that aren't kept as such yet: the metarange, and then the ranges in order
abbrev pub new_file_puts : ByteMap (Option FilePlace) → List (List ℕ) → List Put
new_file_puts kept [] = []
new_file_puts kept (metarange ∷ ranges) =
    (if is_kept_metarange kept metarange then [] else metarange_put metarange ∷ [])
    ++ map range_put (filter (λ range. not (is_kept_range kept range)) ranges)

-- the removals of each change under a sealed token of a branch, newest token first
abbrev pub sealed_removals : BranchStateValue → List Put
sealed_removals b = flat_map (removals_under All b.tokens) b.sealed

-- A new commit becomes the head of a branch: it, the files of its tree that aren't kept yet, what was sealed goes, the
-- branch, and the counts.
abbrev pub new_head_puts : List ℕ → List ℕ → NewCommit → ByteMap (Option FilePlace) → LakeStateValue → List Put
new_head_puts repo name new kept l =
    option_map_or (λ b. commit_put repo new.id new.content
    ∷ (new_file_puts kept new.tree.files ++ (sealed_removals b
    ++ branch_put repo name (with_new_head l.next_version new.id b)
    ∷ counts_put (record l { next_version = l.next_version + 1 }) ∷ []))) (branch_at repo name l) []

-- a tag names a commit
abbrev pub create_tag_puts : List ℕ → List ℕ → Digest → List Put
create_tag_puts repo name commit = spelled_put (stored.Tag repo name commit) ∷ []

-- a tag goes
abbrev pub delete_tag_puts : List ℕ → List ℕ → List Put
delete_tag_puts repo name = removed_put (key.Tag repo name) ∷ []

-- ---- settings

-- a setting that has a text: retention has none yet
abbrev pub HasText : Note → Type 0
HasText (setting.Retention rules) = ⊥
HasText (setting.Protection patterns) = Unit {0}
HasText (setting.Hooks rules) = Unit {0}

-- the text of a setting
abbrev pub note_text : Note → List ℕ
note_text (setting.Retention rules) = []
note_text (setting.Protection patterns) = protection_text patterns
note_text (setting.Hooks rules) = hooks_text rules

-- of a setting: its text, or its removal
abbrev pub note_put : List ℕ → NoteName → Option Note → Put
note_put repo name None = removed_put (key.Note repo name)
note_put repo name (Some note) = spelled_put (stored.Note repo name (note_text note))

-- a setting is set, or deleted where no new one is given
abbrev pub set_note_puts : List ℕ → NoteName → Option Note → LakeStateValue → List Put
set_note_puts repo name note l =
    option_map_or (λ r. note_put repo name note ∷ repository_put repo (record r { settings = l.next_version })
    ∷ counts_put (record l { next_version = l.next_version + 1 }) ∷ []) (get l.repositories repo) []
