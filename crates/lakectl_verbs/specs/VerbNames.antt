-- The names of commands (this project's profile): a noun alone, or a noun and a verb.
use Rattle.std.specs.Prelude.{ℕ, List, codes, if◌then◌else◌, Option, Some, None}
use Rattle.std.specs.Str.{bytes_eq}
use Rattle.lakectl_verbs.specs.declared.verb.Verb.{Verb}
use Rattle.lakectl_verbs.specs.declared.verb.Verb.TheVariants.{RepoCreate, RepoList, BranchCreate, BranchList, BranchShow, BranchDelete, BranchReset}
use Rattle.lakectl_verbs.specs.declared.verb.Verb.TheVariants.{BranchRevert, TagCreate, TagList, TagShow, TagDelete, Commit, Log, Merge, CherryPick}
use Rattle.lakectl_verbs.specs.declared.verb.Verb.TheVariants.{FsLs, FsStat, FsCat, FsUpload, FsDownload, FsRm, FsStage}

-- the command of a noun without a verb
abbrev pub lone_verb : List ℕ → Option Verb
lone_verb noun =
    if bytes_eq noun (codes "commit") then Some Commit
    else if bytes_eq noun (codes "log") then Some Log
    else if bytes_eq noun (codes "merge") then Some Merge
    else if bytes_eq noun (codes "cherry-pick") then Some CherryPick
    else None

abbrev pub repo_verb : List ℕ → Option Verb
repo_verb verb =
    if bytes_eq verb (codes "create") then Some RepoCreate
    else if bytes_eq verb (codes "list") then Some RepoList
    else None

abbrev pub branch_verb : List ℕ → Option Verb
branch_verb verb =
    if bytes_eq verb (codes "create") then Some BranchCreate
    else if bytes_eq verb (codes "list") then Some BranchList
    else if bytes_eq verb (codes "show") then Some BranchShow
    else if bytes_eq verb (codes "delete") then Some BranchDelete
    else if bytes_eq verb (codes "reset") then Some BranchReset
    else if bytes_eq verb (codes "revert") then Some BranchRevert
    else None

abbrev pub tag_verb : List ℕ → Option Verb
tag_verb verb =
    if bytes_eq verb (codes "create") then Some TagCreate
    else if bytes_eq verb (codes "list") then Some TagList
    else if bytes_eq verb (codes "show") then Some TagShow
    else if bytes_eq verb (codes "delete") then Some TagDelete
    else None

abbrev pub fs_verb : List ℕ → Option Verb
fs_verb verb =
    if bytes_eq verb (codes "ls") then Some FsLs
    else if bytes_eq verb (codes "stat") then Some FsStat
    else if bytes_eq verb (codes "cat") then Some FsCat
    else if bytes_eq verb (codes "upload") then Some FsUpload
    else if bytes_eq verb (codes "download") then Some FsDownload
    else if bytes_eq verb (codes "rm") then Some FsRm
    else if bytes_eq verb (codes "stage") then Some FsStage
    else None

-- the command of a noun with a verb
abbrev pub verb_under : (noun verb : List ℕ) → Option Verb
verb_under noun verb =
    if bytes_eq noun (codes "repo") then repo_verb verb
    else if bytes_eq noun (codes "branch") then branch_verb verb
    else if bytes_eq noun (codes "tag") then tag_verb verb
    else if bytes_eq noun (codes "fs") then fs_verb verb
    else None
