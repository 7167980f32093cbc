-- THE TABLE OF VERBS (this project's profile): the arguments of each, in their order.
use Rattle.std.specs.Prelude.{List, [], ◌∷◌, codes}
use Rattle.lakectl_verbs.specs.declared.verb.Verb.{Verb}
use Rattle.lakectl_verbs.specs.declared.verb.Verb.TheVariants as verb
use Rattle.lakectl_verbs.specs.declared.argument.Kind.TheVariants.{Any, Number, Meta}
use Rattle.lakectl_verbs.specs.declared.argument.UriParts.TheVariants as uri
use Rattle.lakectl_verbs.specs.ArgumentForms.{ArgumentForm, positional, uri_of, uri_named, source_uri}
use Rattle.lakectl_verbs.specs.ArgumentForms.{long, needed_long, short, needed_short, long_or_short, flag}

-- the arguments of a verb
abbrev pub arguments_of : Verb → List ArgumentForm
arguments_of verb.RepoCreate = uri_of uri.Repo ∷ positional (codes "namespace") ∷ []
arguments_of verb.RepoList = long (codes "after") Any ∷ long (codes "amount") Number ∷ []
arguments_of verb.BranchCreate = uri_of uri.Ref ∷ source_uri ∷ []
arguments_of verb.BranchList = uri_of uri.Repo ∷ long (codes "after") Any ∷ long (codes "amount") Number ∷ []
arguments_of verb.BranchShow = uri_of uri.Ref ∷ []
arguments_of verb.BranchDelete = uri_of uri.Ref ∷ []
arguments_of verb.BranchReset = uri_of uri.Ref ∷ long (codes "object") Any ∷ long (codes "prefix") Any ∷ []
arguments_of verb.BranchRevert = uri_of uri.Ref ∷ positional (codes "ref") ∷ long_or_short (codes "parent-number") Number ∷ []
arguments_of verb.TagCreate = uri_of uri.Ref ∷ uri_named (codes "other") uri.Ref ∷ []
arguments_of verb.TagList = uri_of uri.Repo ∷ []
arguments_of verb.TagShow = uri_of uri.Ref ∷ []
arguments_of verb.TagDelete = uri_of uri.Ref ∷ []
arguments_of verb.Commit = uri_of uri.Ref ∷ needed_short (codes "message") ∷ long (codes "meta") Meta ∷ []
arguments_of verb.Log = uri_of uri.Ref ∷ long (codes "amount") Number ∷ long (codes "after") Any ∷ long (codes "since") Any ∷ []
arguments_of verb.Merge =
    uri_of uri.Ref
    ∷ uri_named (codes "other") uri.Ref
    ∷ long (codes "strategy") Any
    ∷ short (codes "message")
    ∷ long (codes "meta") Meta ∷ []
arguments_of verb.CherryPick = uri_of uri.Ref ∷ uri_named (codes "other") uri.Ref ∷ long_or_short (codes "parent-number") Number ∷ []
arguments_of verb.FsLs = uri_of uri.Prefix ∷ long (codes "after") Any ∷ long (codes "amount") Number ∷ flag (codes "recursive") ∷ []
arguments_of verb.FsStat = uri_of uri.Path ∷ []
arguments_of verb.FsCat = uri_of uri.Path ∷ []
arguments_of verb.FsUpload = uri_of uri.Path ∷ long (codes "text") Any ∷ long (codes "source") Any ∷ []
arguments_of verb.FsDownload = uri_of uri.Path ∷ positional (codes "file") ∷ []
arguments_of verb.FsRm = uri_of uri.Path ∷ []
arguments_of verb.FsStage =
    uri_of uri.Path
    ∷ needed_long (codes "location") Any
    ∷ needed_long (codes "size") Number
    ∷ needed_long (codes "checksum") Any
    ∷ long (codes "mtime") Number
    ∷ long (codes "content-type") Any
    ∷ long (codes "meta") Meta ∷ []
