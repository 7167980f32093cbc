-- THE JSON FORMS of what clients are told (this project's profile). The keys of an object stand in byte order.
use Rattle.std.specs.Prelude.{ℕ, ◌-◌, Bool, List, [], ◌∷◌, map, length, codes, if◌then◌else◌, slice_get, Option}
use Rattle.std.specs.Option.{option_map_or}
use Rattle.hex.specs.Hex.{encode_lower}
use Rattle.serde_json.specs.Data.{Data, boolean, number, unsigned, string, array, object, Members, no_members, member}
use Rattle.serde_json.specs.View.{items_of}
use Rattle.lake_base.specs.declared.digest.Digest.{Digest}
use Rattle.lake_format.specs.Spelling.{own_address}
use Rattle.lake_values.specs.Entry.{EntryValue}
use Rattle.lake_values.specs.declared.entry.Place.{Place}
use Rattle.lake_values.specs.declared.entry.Place.TheVariants.{Own, External}
use Rattle.lake_pages.specs.declared.listing.Item.{Item}
use Rattle.lake_pages.specs.declared.listing.Item.TheVariants as item
use Rattle.lake_model.specs.declared.reply.RepoInfo.{RepoInfo}
use Rattle.lake_calls.specs.declared.reply.KnownCommit.{KnownCommit}
use Rattle.lake_calls.specs.declared.reply.NamedCommit.{NamedCommit}

-- these keys, each with its value
abbrev pub fields : List (List ℕ × Data) → Members
fields [] = no_members
fields (field ∷ more) = member field.0 field.1 (fields more)

-- an object of these fields, and an array of these values
abbrev pub object_form : List (List ℕ × Data) → Data
object_form list = object (fields list)

abbrev pub array_form : List Data → Data
array_form values = array (items_of values)

abbrev pub number_form : ℕ → Data
number_form n = number (unsigned n)

-- an id as text: 64 lower-case hex digits
abbrev pub id_text : Digest → List ℕ
id_text id = encode_lower id.0

abbrev pub id_form : Digest → Data
id_form id = string (id_text id)

-- ---- objects

-- the checksum of an own object is its SHA-256 in hex, that of an object outside what was given for it
abbrev pub checksum_text : Place → List ℕ
checksum_text (Own n digest) = id_text digest
checksum_text (External at checksum) = checksum

-- the address of an own object is lake://objects/ and its number as 16 hex digits
abbrev pub address_text : Place → List ℕ
address_text (Own n digest) = own_address n
address_text (External at checksum) = at

-- each pair of metadata is a field
abbrev pub pair_field : List ℕ × List ℕ → List ℕ × Data
pair_field pair = (pair.0, string pair.1)

abbrev pub metadata_form : List (List ℕ × List ℕ) → Data
metadata_form pairs = object_form (map pair_field pairs)

abbrev pub statistics_form : (path : List ℕ) → EntryValue → Data
statistics_form path entry = object_form (
    (codes "checksum", string (checksum_text entry.place))
    ∷ (codes "content_type", string entry.content_type)
    ∷ (codes "metadata", metadata_form entry.metadata)
    ∷ (codes "mtime", number_form entry.mtime)
    ∷ (codes "path", string path)
    ∷ (codes "path_type", string (codes "object"))
    ∷ (codes "physical_address", string (address_text entry.place))
    ∷ (codes "size_bytes", number_form entry.size)
    ∷ [])

abbrev pub prefix_form : List ℕ → Data
prefix_form prefix = object_form (
    (codes "path", string prefix)
    ∷ (codes "path_type", string (codes "common_prefix"))
    ∷ [])

abbrev pub item_form : Item → Data
item_form (item.Object path entry) = statistics_form path entry
item_form (item.Prefix prefix) = prefix_form prefix

-- ---- commits, references and repositories

abbrev pub commit_form : KnownCommit → Data
commit_form commit = object_form (
    (codes "committer", string commit.«record».committer)
    ∷ (codes "creation_date", number_form commit.«record».date)
    ∷ (codes "generation", number_form commit.«record».generation)
    ∷ (codes "id", string (id_text commit.id))
    ∷ (codes "message", string commit.«record».message)
    ∷ (codes "meta_range_id", string (id_text commit.«record».meta_range))
    ∷ (codes "metadata", metadata_form commit.«record».metadata)
    ∷ (codes "parents", array_form (map id_form commit.«record».parents))
    ∷ [])

abbrev pub reference_form : NamedCommit → Data
reference_form named = object_form (
    (codes "commit_id", string (id_text named.commit))
    ∷ (codes "id", string named.name)
    ∷ [])

abbrev pub repository_form : RepoInfo → Data
repository_form repository = object_form (
    (codes "creation_date", number_form repository.created)
    ∷ (codes "default_branch", string repository.default_branch)
    ∷ (codes "id", string repository.name)
    ∷ [])

-- the commit that a merge made
abbrev pub merged_form : Digest → Data
merged_form id = object_form ((codes "reference", string (id_text id)) ∷ [])

-- ---- lists

-- where the next page begins: the last name that is listed, where there is more, else nothing
abbrev pub next_offset : {X : Type 0} → (X → List ℕ) → (has_more : Bool) → List X → List ℕ
next_offset name has_more values = if has_more then option_map_or name (slice_get values (length values - 1)) [] else []

-- what is told of a page: whether more is left, how many it may have, where the next one begins, how many it has
abbrev pub pagination_form : (offset : List ℕ) (has_more : Bool) (count : ℕ) → Data
pagination_form offset has_more count = object_form (
    (codes "has_more", boolean has_more)
    ∷ (codes "max_per_page", number_form 1000)
    ∷ (codes "next_offset", string offset)
    ∷ (codes "results", number_form count)
    ∷ [])

-- a page of values
abbrev pub page_form : (offset : List ℕ) (has_more : Bool) → List Data → Data
page_form offset has_more results = object_form (
    (codes "pagination", pagination_form offset has_more (length results))
    ∷ (codes "results", array_form results)
    ∷ [])

-- the page of values that each have a form and a name
abbrev pub list_form : {X : Type 0} → (form : X → Data) (name : X → List ℕ) (has_more : Bool) → List X → Data
list_form form name has_more values = page_form (next_offset name has_more values) has_more (map form values)

-- ---- refusals

abbrev pub fault_form : (message : List ℕ) → Data
fault_form message = object_form ((codes "message", string message) ∷ [])
