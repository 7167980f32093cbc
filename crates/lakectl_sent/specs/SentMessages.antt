-- WHAT EACH COMMAND SENDS (this project's profile): a method, a path, a query and a body.
use Rattle.std.specs.Prelude.{ℕ, ◌==◌, ◌||◌, Bool, false, is_some, if◌then◌else◌, List, [], ◌∷◌, ◌++◌, length, map, fold, codes}
use Rattle.std.specs.Prelude.{Option, Some, None, option_map, option_and_then, unwrap_or, Result, Ok, Err, Vec}
use Rattle.std.specs.Char.{is_ascii_alphanumeric}
use Rattle.std.specs.Fmt.{decimal}
use Rattle.std.specs.Global.{Global}
use Rattle.std.specs.List.{flat_map, list_any}
use Rattle.std.specs.Option.{option_map_or}
use Rattle.std.specs.Str.{bytes_eq}
use Rattle.percent_encoding.specs.Percent.{percent_encode_byte}
use Rattle.form_urlencoded.specs.Form.{append_pair}
use Rattle.serde_json.specs.Data.{Data, number, unsigned, string, object, Members, no_members, put}
use Rattle.serde_json.specs.Written.{compact_text}
use Rattle.lakectl_verbs.specs.declared.fault.UsageFault.{UsageFault}
use Rattle.lakectl_verbs.specs.declared.fault.UsageFault.TheVariants as fault
use Rattle.lakectl_verbs.specs.declared.verb.Verb.{Verb}
use Rattle.lakectl_verbs.specs.declared.verb.Verb.TheVariants as verb
use Rattle.lakectl_verbs.specs.UsageSteps.{in_turn}
use Rattle.lakectl_verbs.specs.VerbCommands.{GivenValue}
use Rattle.lakectl_verbs.specs.ReadWords.{text_in}
use Rattle.lakectl_sent.specs.declared.place.Place.{Place}
use Rattle.lakectl_sent.specs.declared.body.Carried.{Carried}
use Rattle.lakectl_sent.specs.declared.body.Carried.TheVariants.{Nothing, Json, Bytes}
use Rattle.lakectl_sent.specs.UriPlaces.{PlaceValue, places_of, place_number, are_of_one, place_seen}
use Rattle.lakectl_sent.specs.OptionValues.{number_of, metadata_of, first_bad}

-- ---- faults

-- the places of the URIs; else the fault of URIs
abbrev pub uris_of : List GivenValue → Result (List PlaceValue) UsageFault
uris_of values = of_one (places_of values)
  where
    of_one : Option (List PlaceValue) → Result (List PlaceValue) UsageFault
    of_one None = Err fault.Uri
    of_one (Some places) = if are_of_one places then Ok places else Err fault.Uri

-- each value is of its kind; else the fault of the first that isn't
abbrev pub check_of : List GivenValue → Result (Unit {0}) UsageFault
check_of values = bad (first_bad values)
  where
    bad : Option (List ℕ) → Result (Unit {0}) UsageFault
    bad None = Ok tt
    bad (Some name) = Err (fault.Value name)

-- ---- the method

abbrev pub method_of : Verb → List ℕ
method_of verb.RepoCreate = codes "POST"
method_of verb.RepoList = codes "GET"
method_of verb.BranchCreate = codes "POST"
method_of verb.BranchList = codes "GET"
method_of verb.BranchShow = codes "GET"
method_of verb.BranchDelete = codes "DELETE"
method_of verb.BranchReset = codes "PUT"
method_of verb.BranchRevert = codes "POST"
method_of verb.TagCreate = codes "POST"
method_of verb.TagList = codes "GET"
method_of verb.TagShow = codes "GET"
method_of verb.TagDelete = codes "DELETE"
method_of verb.Commit = codes "POST"
method_of verb.Log = codes "GET"
method_of verb.Merge = codes "POST"
method_of verb.CherryPick = codes "POST"
method_of verb.FsLs = codes "GET"
method_of verb.FsStat = codes "GET"
method_of verb.FsCat = codes "GET"
method_of verb.FsUpload = codes "POST"
method_of verb.FsDownload = codes "GET"
method_of verb.FsRm = codes "DELETE"
method_of verb.FsStage = codes "PUT"

-- ---- the path

-- the segments of the path below `/api/v1/repositories`; `at` is where the first URI points, `other` where the second does
abbrev pub segments_of : Verb → (at other : PlaceValue) → List (List ℕ)
segments_of verb.RepoCreate at other = []
segments_of verb.RepoList at other = []
segments_of verb.BranchCreate at other = at.repo ∷ codes "branches" ∷ []
segments_of verb.BranchList at other = at.repo ∷ codes "branches" ∷ []
segments_of verb.BranchShow at other = at.repo ∷ codes "branches" ∷ at.reference ∷ []
segments_of verb.BranchDelete at other = at.repo ∷ codes "branches" ∷ at.reference ∷ []
segments_of verb.BranchReset at other = at.repo ∷ codes "branches" ∷ at.reference ∷ []
segments_of verb.BranchRevert at other = at.repo ∷ codes "branches" ∷ at.reference ∷ codes "revert" ∷ []
segments_of verb.TagCreate at other = at.repo ∷ codes "tags" ∷ []
segments_of verb.TagList at other = at.repo ∷ codes "tags" ∷ []
segments_of verb.TagShow at other = at.repo ∷ codes "tags" ∷ at.reference ∷ []
segments_of verb.TagDelete at other = at.repo ∷ codes "tags" ∷ at.reference ∷ []
segments_of verb.Commit at other = at.repo ∷ codes "branches" ∷ at.reference ∷ codes "commits" ∷ []
segments_of verb.Log at other = at.repo ∷ codes "refs" ∷ at.reference ∷ codes "commits" ∷ []
segments_of verb.Merge at other = at.repo ∷ codes "refs" ∷ at.reference ∷ codes "merge" ∷ other.reference ∷ []
segments_of verb.CherryPick at other = at.repo ∷ codes "branches" ∷ other.reference ∷ codes "cherry-pick" ∷ []
segments_of verb.FsLs at other = at.repo ∷ codes "refs" ∷ at.reference ∷ codes "objects" ∷ codes "ls" ∷ []
segments_of verb.FsStat at other = at.repo ∷ codes "refs" ∷ at.reference ∷ codes "objects" ∷ codes "stat" ∷ []
segments_of verb.FsCat at other = at.repo ∷ codes "refs" ∷ at.reference ∷ codes "objects" ∷ []
segments_of verb.FsUpload at other = at.repo ∷ codes "branches" ∷ at.reference ∷ codes "objects" ∷ []
segments_of verb.FsDownload at other = at.repo ∷ codes "refs" ∷ at.reference ∷ codes "objects" ∷ []
segments_of verb.FsRm at other = at.repo ∷ codes "branches" ∷ at.reference ∷ codes "objects" ∷ []
segments_of verb.FsStage at other = at.repo ∷ codes "branches" ∷ at.reference ∷ codes "objects" ∷ []

-- a byte that stands for itself in a segment: a letter or a digit of ASCII, or one of `-._~`
abbrev pub is_kept : ℕ → Bool
is_kept byte = is_ascii_alphanumeric byte || byte == 45 || byte == 46 || byte == 95 || byte == 126

abbrev pub escaped_byte : ℕ → List ℕ
escaped_byte byte = if is_kept byte then byte ∷ [] else percent_encode_byte byte

-- a segment, percent-escaped
abbrev pub escaped : List ℕ → List ℕ
escaped segment = flat_map escaped_byte segment

-- a segment behind its slash
abbrev pub behind_slash : List ℕ → List ℕ
behind_slash segment = codes "/" ++ escaped segment

abbrev pub path_text : List (List ℕ) → List ℕ
path_text segments = codes "/api/v1/repositories" ++ flat_map behind_slash segments

-- ---- the query

-- the number of an option in its plain form, where it is given
abbrev pub plain_number : List GivenValue → (name : List ℕ) → Option (List ℕ)
plain_number values name = option_map decimal (option_and_then number_of (text_in values name))

-- a flag is given
abbrev pub is_set : List GivenValue → (name : List ℕ) → Bool
is_set values name = option_map_or (λ text. bytes_eq text (codes "true")) (text_in values name) false

-- the keys of the query in their order, each with its value where it is sent
abbrev pub query_of : Verb → (at : PlaceValue) → List GivenValue → List (List ℕ × Option (List ℕ))
query_of verb.RepoList at values = (codes "after", text_in values (codes "after")) ∷ (codes "amount", plain_number values (codes "amount")) ∷ []
query_of verb.BranchList at values = (codes "after", text_in values (codes "after")) ∷ (codes "amount", plain_number values (codes "amount")) ∷ []
query_of verb.Log at values =
    (codes "after", text_in values (codes "after"))
    ∷ (codes "amount", plain_number values (codes "amount"))
    ∷ (codes "since", text_in values (codes "since"))
    ∷ []
query_of verb.FsLs at values =
    (codes "prefix", Some at.path)
    ∷ (codes "after", text_in values (codes "after"))
    ∷ (codes "amount", plain_number values (codes "amount"))
    ∷ (codes "delimiter", if is_set values (codes "recursive") then None else Some (codes "/"))
    ∷ []
query_of verb.FsStat at values = (codes "path", Some at.path) ∷ []
query_of verb.FsCat at values = (codes "path", Some at.path) ∷ []
query_of verb.FsUpload at values = (codes "path", Some at.path) ∷ []
query_of verb.FsDownload at values = (codes "path", Some at.path) ∷ []
query_of verb.FsRm at values = (codes "path", Some at.path) ∷ []
query_of verb.FsStage at values = (codes "path", Some at.path) ∷ []
query_of other at values = []

-- the form with one key more, where it is sent
abbrev pub with_key : List ℕ → List ℕ × Option (List ℕ) → List ℕ
with_key form key = option_map_or (λ value. append_pair form key.0 value) key.1 form

-- the same with the keys of a page: where it begins, and how long it is
abbrev pub page_keys : List ℕ → List GivenValue → List ℕ
page_keys form values = with_key (with_key form (codes "after", text_in values (codes "after"))) (codes "amount", plain_number values (codes "amount"))

-- the text of a query (URL Standard, section 5)
abbrev pub query_text : List (List ℕ × Option (List ℕ)) → List ℕ
query_text keys = fold with_key [] keys

-- the path, and the query behind it where there is one
abbrev pub target_text : (path query : List ℕ) → List ℕ
target_text path query = if length query == 0 then path else path ++ codes "?" ++ query

abbrev pub target_of : Verb → (at other : PlaceValue) → List GivenValue → List ℕ
target_of v at other values = target_text (path_text (segments_of v at other)) (query_text (query_of v at values))

-- ---- the body

-- the text, the number or the metadata of an option as JSON, where it is given
abbrev pub text_form : List GivenValue → (name : List ℕ) → Option Data
text_form values name = option_map string (text_in values name)

abbrev pub number_form : List GivenValue → (name : List ℕ) → Option Data
number_form values name = option_map (λ n. number (unsigned n)) (option_and_then number_of (text_in values name))

abbrev pub metadata_form : List GivenValue → Option Data
metadata_form values = option_map object (option_and_then metadata_of (text_in values (codes "meta")))

-- the path and the type of a reset: of a branch, of an object, or of all below a prefix
abbrev pub reset_path : List GivenValue → Option (List ℕ)
reset_path values = if is_some (text_in values (codes "object")) then text_in values (codes "object") else text_in values (codes "prefix")

abbrev pub reset_type : List GivenValue → List ℕ
reset_type values =
    if is_some (text_in values (codes "object")) then codes "object"
    else if is_some (text_in values (codes "prefix")) then codes "common_prefix"
    else codes "reset"

-- the fields of the body, each with its value where it is sent
abbrev pub fields_of : Verb → (at other : PlaceValue) → List GivenValue → List (List ℕ × Option Data)
fields_of verb.RepoCreate at other values = (codes "name", Some (string at.repo)) ∷ (codes "storage_namespace", text_form values (codes "namespace")) ∷ []
fields_of verb.BranchCreate at other values = (codes "name", Some (string at.reference)) ∷ (codes "source", Some (string other.reference)) ∷ []
fields_of verb.BranchReset at other values = (codes "path", option_map string (reset_path values)) ∷ (codes "type", Some (string (reset_type values))) ∷ []
fields_of verb.BranchRevert at other values =
    (codes "parent_number", number_form values (codes "parent-number")) ∷ (codes "ref", text_form values (codes "ref")) ∷ []
fields_of verb.TagCreate at other values = (codes "id", Some (string at.reference)) ∷ (codes "ref", Some (string other.reference)) ∷ []
fields_of verb.Commit at other values = (codes "message", text_form values (codes "message")) ∷ (codes "metadata", metadata_form values) ∷ []
fields_of verb.Merge at other values =
    (codes "message", text_form values (codes "message"))
    ∷ (codes "metadata", metadata_form values)
    ∷ (codes "strategy", text_form values (codes "strategy"))
    ∷ []
fields_of verb.CherryPick at other values =
    (codes "parent_number", number_form values (codes "parent-number")) ∷ (codes "ref", Some (string at.reference)) ∷ []
fields_of verb.FsStage at other values =
    (codes "checksum", text_form values (codes "checksum"))
    ∷ (codes "content_type", text_form values (codes "content-type"))
    ∷ (codes "metadata", metadata_form values)
    ∷ (codes "mtime", number_form values (codes "mtime"))
    ∷ (codes "physical_address", text_form values (codes "location"))
    ∷ (codes "size_bytes", number_form values (codes "size"))
    ∷ []
fields_of v at other values = []

-- an object with one field more, where it is sent; its keys stand in byte order
abbrev pub with_field : Members → List ℕ × Option Data → Members
with_field members field = option_map_or (λ value. put field.0 value members) field.1 members

abbrev pub object_of : List (List ℕ × Option Data) → Members
object_of fields = fold with_field no_members fields

-- JSON is compact
abbrev pub json_body : List (List ℕ × Option Data) → List ℕ
json_body fields = compact_text (object (object_of fields))

-- what the request carries: nothing, an object of JSON, or bytes
abbrev pub carried_by : Verb → Carried
carried_by verb.RepoCreate = Json
carried_by verb.BranchCreate = Json
carried_by verb.BranchReset = Json
carried_by verb.BranchRevert = Json
carried_by verb.TagCreate = Json
carried_by verb.Commit = Json
carried_by verb.Merge = Json
carried_by verb.CherryPick = Json
carried_by verb.FsUpload = Bytes
carried_by verb.FsStage = Json
carried_by other = Nothing

-- the content type of what is carried
abbrev pub type_of : Carried → Option (List ℕ)
type_of Nothing = None
type_of Json = Some (codes "application/json")
type_of Bytes = Some (codes "application/octet-stream")

-- the body; that of a file is put in later
abbrev pub body_of : Verb → (at other : PlaceValue) → List GivenValue → List ℕ
body_of v at other values = carried (carried_by v)
  where
    carried : Carried → List ℕ
    carried Nothing = []
    carried Json = json_body (fields_of v at other values)
    carried Bytes = unwrap_or (text_in values (codes "text")) []

-- ---- messages

-- what is sent: the content type is there where something is carried
pub record MessageValue : Type 0 where
  pub method : List ℕ
  pub target : List ℕ
  pub content_type : Option (List ℕ)
  pub body : List ℕ

abbrev pub message_of : Verb → List PlaceValue → List GivenValue → MessageValue
message_of v places values = record {
  method = method_of v;
  target = target_of v (place_number places 0) (place_number places 1) values;
  content_type = type_of (carried_by v);
  body = body_of v (place_number places 0) (place_number places 1) values;
}

-- WHAT A COMMAND SENDS, or the first fault of its URIs and values
abbrev pub sent_by : Verb → List GivenValue → Result (List PlaceValue × MessageValue) UsageFault
sent_by v values = in_turn (uris_of values) (λ places. in_turn (check_of values) (λ _. Ok (places, message_of v places values)))

-- ---- what contracts see

abbrev pub places_seen : Vec Place Global → List PlaceValue
places_seen places = map place_seen places.items
