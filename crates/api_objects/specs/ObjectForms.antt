-- What the requests of objects ask, or the first refusal of their form.
use Rattle.std.specs.Prelude.{◌==◌, ℕ, Bool, false, not, nat_eq, nat_lt, nat_le, List, length, codes, if◌then◌else◌}
use Rattle.std.specs.Prelude.{Option, Result, Ok, Err}
use Rattle.std.specs.List.{starts_with}
use Rattle.std.specs.Option.{unwrap_or}
use Rattle.serde_json.specs.Data.{Data}
use Rattle.http_wire.specs.declared.message.Field.{Field}
use Rattle.lake_pages.specs.declared.listing.PageQuery.{PageQuery}
use Rattle.lake_calls.specs.Calls.{ExpressionValue, LinkCall, UploadCall}
use Rattle.lake_calls.specs.declared.objects.CopyCall.{CopyCall}
use Rattle.lake_calls.specs.declared.objects.DeleteCall.{DeleteCall}
use Rattle.lake_calls.specs.declared.objects.ListCall.{ListCall}
use Rattle.lake_calls.specs.declared.objects.ObjectCall.{ObjectCall}
use Rattle.lake_calls.specs.declared.objects.ObjectCall.TheVariants as object
use Rattle.lake_calls.specs.declared.objects.ReadCall.{ReadCall}
use Rattle.lake_calls.specs.declared.reply.FormRefusal.{FormRefusal}
use Rattle.lake_calls.specs.declared.reply.FormRefusal.TheVariants.{BadBody}
use Rattle.api_routes.specs.declared.routes.ObjectRoute.{ObjectRoute}
use Rattle.api_routes.specs.declared.routes.ObjectRoute.TheVariants as route
use Rattle.api_routes.specs.ExpressionTexts.{expression_at}
use Rattle.api_routes.specs.FormNames.{checked, path_of}
use Rattle.api_routes.specs.FormSteps.{in_turn}
use Rattle.api_routes.specs.PathSegments.{repo_segment, ref_name_segment, expression_segment}
use Rattle.api_routes.specs.Queries.{amount_of, path_at_key, text_or_empty}
use Rattle.api_routes.specs.RouteTable.{FoundValue}
use Rattle.api_bodies.specs.Bodies.{object_of_body, text_field, needed_text, short_text, whole_field, needed_whole, where_given}
use Rattle.api_bodies.specs.HeadFields.{content_type_of}
use Rattle.api_bodies.specs.MetadataFields.{metadata_of}
use Rattle.api_objects.specs.CallSteps.{made}

-- the body of an upload: at most 67,108,864 bytes, as they are
abbrev pub upload_body : (body : List ℕ) → Result (List ℕ) FormRefusal
upload_body body = if nat_lt 67108864 (length body) then Err BadBody else Ok body

-- segments: r, b; query: `path`; content type; body
abbrev pub upload_call : FoundValue → (query : List ℕ) → List Field → (body : List ℕ) → Result UploadCall FormRefusal
upload_call found query fields body =
    in_turn (repo_segment (codes "r") found.repo) (λ r.
    in_turn (ref_name_segment (codes "b") found.second) (λ b.
    in_turn (path_at_key (codes "path") query) (λ path.
    in_turn (content_type_of fields) (λ type.
    in_turn (upload_body body) (λ bytes.
    Ok (record { repo = r; branch = b; path = path; content_type = type; body = bytes }))))))

-- an address outside: 1 to 2,048 bytes, which don't begin as those of own objects do
abbrev pub is_address : List ℕ → Bool
is_address text =
    if length text == 0 then false
    else if nat_lt 2048 (length text) then false
    else not (starts_with nat_eq text (codes "lake://"))

-- the field `physical_address`
abbrev pub address_of : Data → Result (List ℕ) FormRefusal
address_of given =
    in_turn (needed_text (codes "physical_address") given) (λ text. checked (is_address text) (codes "physical_address") text)

-- the field `checksum`, of at most 128 bytes
abbrev pub checksum_of : Data → Result (List ℕ) FormRefusal
checksum_of given = in_turn (needed_text (codes "checksum") given) (λ text. checked (nat_le (length text) 128) (codes "checksum") text)

-- the field `content_type`, of at most 255 bytes, and `application/octet-stream` without it
abbrev pub linked_type_of : Data → Result (List ℕ) FormRefusal
linked_type_of given =
    in_turn (short_text (codes "content_type") 255 given) (λ text. Ok (unwrap_or text (codes "application/octet-stream")))

-- segments: r, b; query: `path`; body: `physical_address`, `checksum`, `size_bytes`, `mtime`, `content_type`, `metadata`
abbrev pub link_call : FoundValue → (query body : List ℕ) → Result LinkCall FormRefusal
link_call found query body =
    in_turn (repo_segment (codes "r") found.repo) (λ r.
    in_turn (ref_name_segment (codes "b") found.second) (λ b.
    in_turn (path_at_key (codes "path") query) (λ path.
    in_turn (object_of_body body) (λ given.
    in_turn (address_of given) (λ address.
    in_turn (checksum_of given) (λ checksum.
    in_turn (needed_whole (codes "size_bytes") given) (λ size.
    in_turn (whole_field (codes "mtime") given) (λ mtime.
    in_turn (linked_type_of given) (λ type.
    in_turn (metadata_of given) (λ metadata.
    Ok (record {
      repo = r;
      branch = b;
      path = path;
      address = address;
      checksum = checksum;
      size = size;
      mtime = mtime;
      content_type = type;
      metadata = metadata;
    })))))))))))

-- segments: r, b; query: `path`
abbrev pub delete_call : FoundValue → (query : List ℕ) → Result DeleteCall FormRefusal
delete_call found query =
    in_turn (repo_segment (codes "r") found.repo) (λ r.
    in_turn (ref_name_segment (codes "b") found.second) (λ b.
    in_turn (path_at_key (codes "path") query) (λ path.
    Ok (record { repo = r; branch = b; path = path }))))

-- the field `src_ref`: without it the source is the branch itself
abbrev pub source_of : Data → Result (Option ExpressionValue) FormRefusal
source_of given = in_turn (text_field (codes "src_ref") given) (where_given (expression_at (codes "src_ref")))

-- segments: r, b; query: `dest_path`; body: `src_path`, `src_ref`
abbrev pub copy_call : FoundValue → (query body : List ℕ) → Result CopyCall FormRefusal
copy_call found query body =
    in_turn (repo_segment (codes "r") found.repo) (λ r.
    in_turn (ref_name_segment (codes "b") found.second) (λ b.
    in_turn (path_at_key (codes "dest_path") query) (λ path.
    in_turn (object_of_body body) (λ given.
    in_turn (needed_text (codes "src_path") given) (λ text.
    in_turn (path_of (codes "src_path") text) (λ source_path.
    in_turn (source_of given) (λ source.
    Ok (record { repo = r; branch = b; path = path; source_path = source_path; source = source }))))))))

-- segments: r, ref; query: `path`
abbrev pub look_call : FoundValue → (query : List ℕ) → Result ReadCall FormRefusal
look_call found query =
    in_turn (repo_segment (codes "r") found.repo) (λ r.
    in_turn (expression_segment (codes "ref") found.second) (λ e.
    in_turn (path_at_key (codes "path") query) (λ path.
    Ok (record { repo = r; at = e; path = path }))))

-- query: `prefix`, `after`, `amount`, `delimiter`
abbrev pub page_query : (query : List ℕ) → Result PageQuery FormRefusal
page_query query =
    in_turn (text_or_empty (codes "prefix") query) (λ prefix.
    in_turn (text_or_empty (codes "after") query) (λ after.
    in_turn (amount_of query) (λ amount.
    in_turn (text_or_empty (codes "delimiter") query) (λ delimiter.
    Ok (record { prefix = prefix; after = after; amount = amount; delimiter = delimiter })))))

-- segments: r, ref; query: as above
abbrev pub list_call : FoundValue → (query : List ℕ) → Result ListCall FormRefusal
list_call found query =
    in_turn (repo_segment (codes "r") found.repo) (λ r.
    in_turn (expression_segment (codes "ref") found.second) (λ e.
    in_turn (page_query query) (λ page.
    Ok (record { repo = r; at = e; query = page }))))

-- the call of a route
abbrev pub object_call : ObjectRoute → FoundValue → (query : List ℕ) → List Field → (body : List ℕ) → Result ObjectCall FormRefusal
object_call route.Upload found query fields body = made object.Upload (upload_call found query fields body)
object_call route.Link found query fields body = made object.Link (link_call found query body)
object_call route.Delete found query fields body = made object.Delete (delete_call found query)
object_call route.Copy found query fields body = made object.Copy (copy_call found query body)
object_call route.Read found query fields body = made object.Read (look_call found query)
object_call route.Stat found query fields body = made object.Stat (look_call found query)
object_call route.List found query fields body = made object.List (list_call found query)
