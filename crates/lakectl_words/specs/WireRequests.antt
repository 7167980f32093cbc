-- THE REQUEST OF A LINE OF WORDS, and its bytes (this project's profile).
use Rattle.std.specs.Prelude.{ℕ, ◌==◌, Bool, true, if◌then◌else◌, List, [], ◌∷◌, ◌++◌, length, map, codes}
use Rattle.std.specs.Prelude.{Option, Some, None, option_map, option_and_then, Result, Ok, Err}
use Rattle.std.specs.Fmt.{decimal}
use Rattle.std.specs.List.{flat_map}
use Rattle.std.specs.Str.{bytes_eq}
use Rattle.http_wire.specs.declared.message.Field.{Field}
use Rattle.http_wire.specs.declared.message.Request.{Request}
use Rattle.http_wire.specs.declared.message.Reply.{Reply}
use Rattle.lakectl_verbs.specs.declared.fault.UsageFault.{UsageFault}
use Rattle.lakectl_verbs.specs.declared.verb.Verb.{Verb}
use Rattle.lakectl_verbs.specs.declared.verb.Verb.TheVariants as verb
use Rattle.lakectl_verbs.specs.UsageSteps.{in_turn}
use Rattle.lakectl_verbs.specs.VerbCommands.{GivenValue}
use Rattle.lakectl_verbs.specs.ReadWords.{GivenWords, read_of, text_in}
use Rattle.lakectl_sent.specs.UriPlaces.{PlaceValue, place_number}
use Rattle.lakectl_sent.specs.SentMessages.{MessageValue, sent_by}
use Rattle.lakectl_shown.specs.declared.layout.Layout.{Layout}
use Rattle.lakectl_shown.specs.declared.layout.Layout.TheVariants as layout
use Rattle.lakectl_words.specs.declared.call.WireCall.{WireCall}

-- ---- the request

abbrev pub field_of : (name value : List ℕ) → Field
field_of name value = record { name = name; value = value }

-- the user, where one is given
abbrev pub user_fields : Option (List ℕ) → List Field
user_fields None = []
user_fields (Some name) = field_of (codes "Lake-User") name ∷ []

-- what is told of the body, where something is carried: by POST and PUT
abbrev pub carried_fields : (content_type : Option (List ℕ)) → (body : List ℕ) → List Field
carried_fields None body = []
carried_fields (Some content_type) body =
    field_of (codes "Content-Type") content_type ∷ field_of (codes "Content-Length") (decimal (length body)) ∷ []

-- the fields of the head, in their order
abbrev pub fields_for : (user content_type : Option (List ℕ)) → (body : List ℕ) → List Field
fields_for user content_type body =
    field_of (codes "Host") (codes "localhost") ∷ (user_fields user ++ carried_fields content_type body ++ field_of (codes "Connection") (codes "close") ∷ [])

abbrev pub request_for : (user : Option (List ℕ)) → MessageValue → Request
request_for user message = record {
  method = message.method;
  target = message.target;
  fields = fields_for user message.content_type message.body;
  body = message.body;
  close = true;
}

-- ---- the call

-- the file whose bytes are the body
abbrev pub body_file_of : Verb → List GivenValue → Option (List ℕ)
body_file_of verb.FsUpload values = text_in values (codes "source")
body_file_of other values = None

-- the file that the body of the reply is written to
abbrev pub save_of : Verb → List GivenValue → Option (List ℕ)
save_of verb.FsDownload values = text_in values (codes "file")
save_of other values = None

-- how the reply is shown; `at` is where the first URI points
abbrev pub layout_of : Verb → (at : PlaceValue) → Layout
layout_of verb.RepoCreate at = layout.RepoCreate
layout_of verb.RepoList at = layout.RepoList
layout_of verb.BranchCreate at = layout.BranchCreate at.reference
layout_of verb.BranchList at = layout.BranchList
layout_of verb.BranchShow at = layout.BranchShow
layout_of verb.BranchDelete at = layout.BranchDelete
layout_of verb.BranchReset at = layout.BranchReset
layout_of verb.BranchRevert at = layout.BranchRevert
layout_of verb.TagCreate at = layout.TagCreate
layout_of verb.TagList at = layout.TagList
layout_of verb.TagShow at = layout.TagShow
layout_of verb.TagDelete at = layout.TagDelete
layout_of verb.Commit at = layout.Commit
layout_of verb.Log at = layout.Log
layout_of verb.Merge at = layout.Merge
layout_of verb.CherryPick at = layout.CherryPick
layout_of verb.FsLs at = layout.FsLs
layout_of verb.FsStat at = layout.FsStat
layout_of verb.FsCat at = layout.FsCat
layout_of verb.FsUpload at = layout.FsUpload
layout_of verb.FsDownload at = layout.FsDownload
layout_of verb.FsRm at = layout.FsRm
layout_of verb.FsStage at = layout.FsStage

abbrev pub call_for : GivenWords → List PlaceValue × MessageValue → WireCall
call_for given sent = record {
  request = request_for given.user sent.1;
  body_file = body_file_of given.verb given.values;
  save = save_of given.verb given.values;
  layout = layout_of given.verb (place_number sent.0 0);
}

-- THE CALL OF A LINE OF WORDS, or the first fault of the words
abbrev pub call_of : List (List ℕ) → Result WireCall UsageFault
call_of words = in_turn (read_of words) (λ given. in_turn (sent_by given.verb given.values) (λ sent. Ok (call_for given sent)))

-- ---- what the program puts in

-- the field, with this value where it has the name
abbrev pub with_value : (name value : List ℕ) → Field → Field
with_value name value field = if bytes_eq field.name name then field_of field.name value else field

-- the request for this host
abbrev pub addressed : (host : List ℕ) → Request → Request
addressed host request = record request { fields = map (with_value (codes "Host") host) request.fields }

-- the request with the bytes of a file as its body
abbrev pub carrying : (body : List ℕ) → Request → Request
carrying body request = record request {
  fields = map (with_value (codes "Content-Length") (decimal (length body))) request.fields;
  body = body;
}

-- WHAT A LINE OF WORDS SENDS to a host, where files are these: nothing where the words are a usage fault, or the file that they name isn't there
abbrev pub sent : (host : List ℕ) → (words : List (List ℕ)) → (files : List ℕ → Option (List ℕ)) → Option Request
sent host words files = of_call (call_of words)
  where
    with_file : Request → Option (List ℕ) → Option Request
    with_file request None = Some request
    with_file request (Some name) = option_map (λ bytes. carrying bytes request) (files name)

    of_call : Result WireCall UsageFault → Option Request
    of_call (Err fault) = None
    of_call (Ok call) = option_map (addressed host) (with_file call.request call.body_file)

-- ---- the bytes

abbrev pub field_text : Field → List ℕ
field_text field = field.name ++ codes ": " ++ field.value ++ codes "\r\n"

-- all that is sent before the body
abbrev pub head_text : Request → List ℕ
head_text request =
    request.method ++ codes " " ++ request.target ++ codes " HTTP/1.1\r\n" ++ flat_map field_text request.fields ++ codes "\r\n"

-- THE BYTES OF A REQUEST
abbrev pub request_text : Request → List ℕ
request_text request = head_text request ++ request.body
