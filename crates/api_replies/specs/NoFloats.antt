-- The forms hold no floats, so that each has one text.
use Rattle.std.specs.Prelude.{◌≡◌, ℕ, false, ◌||◌, List, [], ◌∷◌, map, refl}
use Rattle.std.proofs.Common.{ap, ◌∙◌}
use Rattle.serde_json.specs.Data.{Data}
use Rattle.serde_json.specs.View.{items_of}
use Rattle.serde_json.specs.Written.{has_float, items_have_float, members_have_float}
use Rattle.lake_base.specs.declared.digest.Digest.{Digest}
use Rattle.lake_pages.specs.declared.listing.Item.{Item}
use Rattle.lake_pages.specs.declared.listing.Item.TheVariants as item
use Rattle.lake_model.specs.declared.reply.RepoInfo.{RepoInfo}
use Rattle.lake_values.specs.Entry.{EntryValue}
use Rattle.lake_calls.specs.declared.reply.KnownCommit.{KnownCommit}
use Rattle.lake_calls.specs.declared.reply.NamedCommit.{NamedCommit}
use Rattle.api_replies.specs.ReplyForms.{fields, pair_field, id_form, statistics_form, item_form, commit_form, reference_form, repository_form}

pub pairs_no_float : (pairs : List (List ℕ × List ℕ)) → members_have_float (fields (map pair_field pairs)) ≡ false
pairs_no_float [] = refl
pairs_no_float (pair ∷ pairs) = pairs_no_float pairs

pub id_no_float : (id : Digest) → has_float (id_form id) ≡ false
id_no_float id = refl

ids_no_float : (ids : List Digest) → items_have_float (items_of (map id_form ids)) ≡ false
ids_no_float [] = refl
ids_no_float (id ∷ ids) = ids_no_float ids

pub statistics_no_float : (path : List ℕ) (entry : EntryValue) → has_float (statistics_form path entry) ≡ false
statistics_no_float path entry = rw (pairs_no_float entry.metadata)

pub item_no_float : (one : Item) → has_float (item_form one) ≡ false
item_no_float (item.Object path entry) = statistics_no_float path entry
item_no_float (item.Prefix prefix) = refl

pub commit_no_float : (commit : KnownCommit) → has_float (commit_form commit) ≡ false
commit_no_float commit = rw (pairs_no_float commit.«record».metadata, ids_no_float commit.«record».parents)

pub reference_no_float : (named : NamedCommit) → has_float (reference_form named) ≡ false
reference_no_float named = refl

pub repository_no_float : (repository : RepoInfo) → has_float (repository_form repository) ≡ false
repository_no_float repository = refl
