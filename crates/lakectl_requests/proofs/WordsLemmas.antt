-- What words can bring into a request.
use Rattle.std.proofs.Common.{◌≡◌, ◌≤◌, ◌<◌, ◌^◌, ℕ, Bool, true, false, nat_lt, List, [], ◌∷◌, ◌++◌, length, map, All, codes, Option, Some, None, IfSome}
use Rattle.std.proofs.Common.{Result, Ok, Err, IsTrue, refl, sym, ap, subst, true≢false, ◌∙◌, arith, if◌then◌else◌}
use Rattle.std.specs.Fmt.{decimal}
use Rattle.std.specs.List.{list_all}
use Rattle.std.specs.Option.{option_map}
use Rattle.std.specs.Str.{bytes_eq}
use Rattle.std.proofs.lemmas.Bool.Decides.{nat_tests}
use Rattle.std.proofs.lemmas.List.Elements.{All-append, All-cons, All-nil}
use Rattle.httparse.specs.Grammar.{is_token, is_token_byte, trim_ows, IsToken}
use Rattle.http_wire.specs.declared.message.Field.{Field}
use Rattle.http_wire.specs.declared.message.Request.{Request}
use Rattle.http_wire.specs.MessageFields.{closes, length_within, body_length}
use Rattle.http_wire.proofs.LineLemmas.{and_parts, all_from_test}
use Rattle.lakectl_verbs.specs.declared.fault.UsageFault.{UsageFault}
use Rattle.lakectl_verbs.specs.declared.fault.UsageFault.TheVariants as fault
use Rattle.lakectl_verbs.specs.declared.verb.Verb.{Verb}
use Rattle.lakectl_verbs.specs.declared.verb.Verb.TheVariants as verb
use Rattle.lakectl_verbs.specs.UsageSteps.{in_turn}
use Rattle.lakectl_verbs.specs.VerbCommands.{GivenValue}
use Rattle.lakectl_verbs.specs.ReadWords.{GivenWords, is_user, named_user, user_of, verb_of, values_of, allowed, read_of}
use Rattle.lakectl_sent.specs.declared.body.Carried.{Carried}
use Rattle.lakectl_sent.specs.declared.body.Carried.TheVariants.{Nothing, Json, Bytes}
use Rattle.lakectl_sent.specs.UriPlaces.{PlaceValue, place_number}
use Rattle.lakectl_sent.specs.SentMessages.{uris_of, check_of, method_of, carried_by, type_of, body_of, MessageValue, message_of, sent_by}
use Rattle.lakectl_words.specs.declared.call.WireCall.{WireCall}
use Rattle.lakectl_words.specs.WireRequests.{field_of, user_fields, carried_fields, body_file_of, call_for, call_of, with_value, addressed, carrying, sent}
use Rattle.lakectl_requests.specs.SentReadings.{IsFieldValue}
use Rattle.lakectl_requests.proofs.ValueLemmas.{visible_plain, number_plain, number_stated}
use Rattle.lakectl_requests.proofs.TargetLemmas.{IsVisible, target_visible, target_some}
use Rattle.lakectl_requests.proofs.TextLemmas.{IsPlainField, IsPlainRequest}

-- ---- steps that went well

ok_is : {X E : Type 0} (a b : X) (x y : Result X E) → x ≡ Ok a → y ≡ Ok b → x ≡ y → a ≡ b
ok_is a b x y is other same = cc

some_is : {X : Type 0} (a b : X) (x y : Option X) → x ≡ Some a → y ≡ Some b → x ≡ y → a ≡ b
some_is a b x y is other same = cc

err_ok : {X E : Type 0} (a : X) (e : E) (x y : Result X E) → x ≡ Err e → y ≡ Ok a → x ≡ y → ⊥
err_ok a e x y is other same = cc

none_some : {X : Type 0} (a : X) (x y : Option X) → x ≡ None → y ≡ Some a → x ≡ y → ⊥
none_some a x y is other same = cc

first_went : {X Y : Type 0} (r : Result X UsageFault) (next : X → Result Y UsageFault) (y : Y) → in_turn r next ≡ Ok y
    → (x : X) × (r ≡ Ok x) × (next x ≡ Ok y)
first_went (Ok x) next y is = (x, refl, is)
first_went (Err f) next y is = absurd (err_ok y f _ _ refl refl is)

-- ---- the user

user_tests : (a b c : Bool) → (if a then false else if b then false else c) ≡ true → c ≡ true
user_tests true b c is = absurd (true≢false (sym is))
user_tests false true c is = absurd (true≢false (sym is))
user_tests false false c is = is

user_plain : (words : List (List ℕ)) (user : Option (List ℕ) × List (List ℕ)) → user_of words ≡ Ok user → IfSome user.0 IsFieldValue
user_plain [] user is = subst (λ (o : Option (List ℕ) × List (List ℕ)). IfSome o.0 IsFieldValue) (ok_is (None, []) user _ _ refl refl is) tt
user_plain (first ∷ words) user is = flag (bytes_eq first (codes "--user")) is
  where
    named : (words : List (List ℕ)) → named_user words ≡ Ok user → IfSome user.0 IsFieldValue
    named [] is = absurd (err_ok user fault.Words _ _ refl refl is)
    named (name ∷ words) is = taken (is_user name) refl is
      where
        taken : (b : Bool) → is_user name ≡ b → (if b then Ok (Some name, words) else Err (fault.Value (codes "user"))) ≡ Ok user
            → IfSome user.0 IsFieldValue
        taken true tests is =
            subst (λ (o : Option (List ℕ) × List (List ℕ)). IfSome o.0 IsFieldValue) (ok_is (Some name, words) user _ _ refl refl is)
            (visible_plain name (user_tests _ _ _ tests))
        taken false tests is = absurd (err_ok user (fault.Value (codes "user")) _ _ refl refl is)

    flag : (b : Bool) → (if b then named_user words else Ok (None, first ∷ words)) ≡ Ok user → IfSome user.0 IsFieldValue
    flag true is = named words is
    flag false is =
        subst (λ (o : Option (List ℕ) × List (List ℕ)). IfSome o.0 IsFieldValue) (ok_is (None, first ∷ words) user _ _ refl refl is) tt

given_plain : (words : List (List ℕ)) (given : GivenWords) → read_of words ≡ Ok given → IfSome given.user IsFieldValue
given_plain words given is =
    let user = first_went {X = Option (List ℕ) × List (List ℕ)} (user_of words) _ given is in
    let found = first_went {X = Verb × List (List ℕ)} (verb_of user.0.1) _ given user.2 in
    let values = first_went {X = List GivenValue} (values_of found.0.0 found.0.1) _ given found.2 in
    let ready = first_went {X = List GivenValue} (allowed found.0.0 values.0) _ given values.2 in
    subst (λ (g : GivenWords). IfSome g.user IsFieldValue)
    (ok_is (record { user = user.0.0; verb = found.0.0; values = ready.0 }) given _ _ refl refl ready.2) (user_plain words user.0 user.1)

-- ---- verbs

-- the method is a token; where no type is told, nothing is carried; and where a file is, a type is told
record VerbFacts (v : Verb) (at other : PlaceValue) (values : List GivenValue) : Type 0 where
  token : is_token (method_of v) ≡ true
  bare : type_of (carried_by v) ≡ None → body_of v at other values ≡ []
  filed : (name : List ℕ) → body_file_of v values ≡ Some name → (kind : List ℕ) × (type_of (carried_by v) ≡ Some kind)

told : (kind : List ℕ) (body : List ℕ) (o : Option (List ℕ)) → o ≡ Some kind → o ≡ None → body ≡ []
told kind body o some none = absurd (none_some kind _ _ refl refl (sym none ∙ some))

unfiled : (name kind : List ℕ) (o p : Option (List ℕ)) → o ≡ None → o ≡ Some name → (kind : List ℕ) × (p ≡ Some kind)
unfiled name kind o p none some = absurd (none_some name _ _ refl refl (sym none ∙ some))

verb_facts : (v : Verb) (at other : PlaceValue) (values : List GivenValue) → VerbFacts v at other values
unfolding is_token_byte
verb_facts verb.RepoCreate at other values = record { token = refl; bare = told _ _ _ refl; filed = λ name is. (codes "application/json", refl) }
verb_facts verb.RepoList at other values = record { token = refl; bare = λ _. refl; filed = λ name is. unfiled name [] _ _ refl is }
verb_facts verb.BranchCreate at other values = record { token = refl; bare = told _ _ _ refl; filed = λ name is. (codes "application/json", refl) }
verb_facts verb.BranchList at other values = record { token = refl; bare = λ _. refl; filed = λ name is. unfiled name [] _ _ refl is }
verb_facts verb.BranchShow at other values = record { token = refl; bare = λ _. refl; filed = λ name is. unfiled name [] _ _ refl is }
verb_facts verb.BranchDelete at other values = record { token = refl; bare = λ _. refl; filed = λ name is. unfiled name [] _ _ refl is }
verb_facts verb.BranchReset at other values = record { token = refl; bare = told _ _ _ refl; filed = λ name is. (codes "application/json", refl) }
verb_facts verb.BranchRevert at other values = record { token = refl; bare = told _ _ _ refl; filed = λ name is. (codes "application/json", refl) }
verb_facts verb.TagCreate at other values = record { token = refl; bare = told _ _ _ refl; filed = λ name is. (codes "application/json", refl) }
verb_facts verb.TagList at other values = record { token = refl; bare = λ _. refl; filed = λ name is. unfiled name [] _ _ refl is }
verb_facts verb.TagShow at other values = record { token = refl; bare = λ _. refl; filed = λ name is. unfiled name [] _ _ refl is }
verb_facts verb.TagDelete at other values = record { token = refl; bare = λ _. refl; filed = λ name is. unfiled name [] _ _ refl is }
verb_facts verb.Commit at other values = record { token = refl; bare = told _ _ _ refl; filed = λ name is. (codes "application/json", refl) }
verb_facts verb.Log at other values = record { token = refl; bare = λ _. refl; filed = λ name is. unfiled name [] _ _ refl is }
verb_facts verb.Merge at other values = record { token = refl; bare = told _ _ _ refl; filed = λ name is. (codes "application/json", refl) }
verb_facts verb.CherryPick at other values = record { token = refl; bare = told _ _ _ refl; filed = λ name is. (codes "application/json", refl) }
verb_facts verb.FsLs at other values = record { token = refl; bare = λ _. refl; filed = λ name is. unfiled name [] _ _ refl is }
verb_facts verb.FsStat at other values = record { token = refl; bare = λ _. refl; filed = λ name is. unfiled name [] _ _ refl is }
verb_facts verb.FsCat at other values = record { token = refl; bare = λ _. refl; filed = λ name is. unfiled name [] _ _ refl is }
verb_facts verb.FsUpload at other values = record { token = refl; bare = told _ _ _ refl; filed = λ name is. (codes "application/octet-stream", refl) }
verb_facts verb.FsDownload at other values = record { token = refl; bare = λ _. refl; filed = λ name is. unfiled name [] _ _ refl is }
verb_facts verb.FsRm at other values = record { token = refl; bare = λ _. refl; filed = λ name is. unfiled name [] _ _ refl is }
verb_facts verb.FsStage at other values = record { token = refl; bare = told _ _ _ refl; filed = λ name is. (codes "application/json", refl) }

token_is : (text : List ℕ) → is_token text ≡ true → IsToken text
token_is text is =
    let parts = and_parts (nat_lt 0 (length text)) (list_all is_token_byte text) is in
    (grind (arith, nat_tests, parts.0), all_from_test is_token_byte (λ b. IsTrue (is_token_byte b)) (λ b holds. holds) text parts.1)

type_plain : (carried : Carried) → IfSome (type_of carried) IsFieldValue
type_plain Nothing = tt
type_plain Json = visible_plain (codes "application/json") refl
type_plain Bytes = visible_plain (codes "application/octet-stream") refl

-- ---- requests of words

abbrev pub made_fields : (host : List ℕ) → (user kind : Option (List ℕ)) → (body : List ℕ) → List Field
made_fields host user kind body =
    field_of (codes "Host") host ∷ (user_fields user ++ carried_fields kind body ++ field_of (codes "Connection") (codes "close") ∷ [])

-- a request of words for this host, with this user and this type of what is carried
pub record IsMade (host : List ℕ) (user kind : Option (List ℕ)) (request : Request) : Type 0 where
  pub method : IsToken request.method
  pub some : 0 < length request.target
  pub target : All IsVisible request.target
  pub fields : request.fields ≡ made_fields host user kind request.body
  pub named : IfSome user IsFieldValue
  pub told : IfSome kind IsFieldValue
  pub bare : kind ≡ None → request.body ≡ []
  pub close : request.close ≡ true

-- its call: where a file is its body, a type is told
pub record IsMadeCall (call : WireCall) : Type 0 where
  pub user : Option (List ℕ)
  pub kind : Option (List ℕ)
  pub made : IsMade (codes "localhost") user kind call.request
  pub filed : (name : List ℕ) → call.body_file ≡ Some name → (type : List ℕ) × (kind ≡ Some type)

made_for : (given : GivenWords) (places : List PlaceValue) → IfSome given.user IsFieldValue
    → IsMadeCall (call_for given (places, message_of given.verb places given.values))
made_for given places plain =
    let at : PlaceValue = place_number places 0 in
    let other : PlaceValue = place_number places 1 in
    let facts = verb_facts given.verb at other given.values in
    record {
      user = given.user;
      kind = type_of (carried_by given.verb);
      made = record {
        method = token_is (method_of given.verb) facts.token;
        some = target_some given.verb at other given.values;
        target = target_visible given.verb at other given.values;
        fields = refl;
        named = plain;
        told = type_plain (carried_by given.verb);
        bare = facts.bare;
        close = refl;
      };
      filed = facts.filed;
    }

pub made_call : (words : List (List ℕ)) (call : WireCall) → call_of words ≡ Ok call → IsMadeCall call
made_call words call is =
    let given = first_went {X = GivenWords} (read_of words) _ call is in
    let message = first_went {X = List PlaceValue × MessageValue} (sent_by given.0.verb given.0.values) _ call given.2 in
    let places = first_went {X = List PlaceValue} (uris_of given.0.values) _ message.0 message.1 in
    let checked = first_went {X = Unit {0}} (check_of given.0.values) _ message.0 places.2 in
    let sends = ok_is (places.0, message_of given.0.verb places.0 given.0.values) message.0 _ _ refl refl checked.2 in
    let calls = ok_is (call_for given.0 message.0) call _ _ refl refl message.2 in
    subst IsMadeCall (ap (call_for given.0) sends ∙ calls) (made_for given.0 places.0 (given_plain words given.0 given.1))

-- ---- what is put in

addressed_fields : (old host : List ℕ) (user kind : Option (List ℕ)) (body : List ℕ)
    → map (with_value (codes "Host") host) (made_fields old user kind body) ≡ made_fields host user kind body
addressed_fields old host None None body = refl
addressed_fields old host None (Some type) body = refl
addressed_fields old host (Some name) None body = refl
addressed_fields old host (Some name) (Some type) body = refl

addressed_made : (old host : List ℕ) (user kind : Option (List ℕ)) (r : Request) → IsMade old user kind r → IsMade host user kind (addressed host r)
addressed_made old host user kind r is = record {
  method = is.method;
  some = is.some;
  target = is.target;
  fields = ap (map (with_value (codes "Host") host)) is.fields ∙ addressed_fields old host user kind r.body;
  named = is.named;
  told = is.told;
  bare = is.bare;
  close = is.close;
}

carrying_fields : (host : List ℕ) (user : Option (List ℕ)) (type old body : List ℕ)
    → map (with_value (codes "Content-Length") (decimal (length body))) (made_fields host user (Some type) old)
    ≡ made_fields host user (Some type) body
carrying_fields host None type old body = refl
carrying_fields host (Some name) type old body = refl

carrying_made : (host : List ℕ) (user kind : Option (List ℕ)) (type body : List ℕ) (r : Request) → kind ≡ Some type → IsMade host user kind r
    → IsMade host user kind (carrying body r)
carrying_made host user kind type body r told is = record {
  method = is.method;
  some = is.some;
  target = is.target;
  fields = ap (map (with_value (codes "Content-Length") (decimal (length body)))) is.fields
      ∙ ap (λ (k : Option (List ℕ)). map (with_value (codes "Content-Length") (decimal (length body))) (made_fields host user k r.body)) told
      ∙ carrying_fields host user type r.body body ∙ ap (λ (k : Option (List ℕ)). made_fields host user k body) (sym told);
  named = is.named;
  told = is.told;
  bare = λ none. absurd (none_some type _ _ refl refl (sym none ∙ told));
  close = is.close;
}

-- what is sent
pub record IsMadeFor (host : List ℕ) (request : Request) : Type 0 where
  pub user : Option (List ℕ)
  pub kind : Option (List ℕ)
  pub made : IsMade host user kind request

module _ (host : List ℕ) (words : List (List ℕ)) (files : List ℕ → Option (List ℕ)) (request : Request) where
  abbrev with_file : Request → Option (List ℕ) → Option Request
  with_file r None = Some r
  with_file r (Some name) = option_map (λ bytes. carrying bytes r) (files name)

  abbrev of_call : Result WireCall UsageFault → Option Request
  of_call (Err f) = None
  of_call (Ok call) = option_map (addressed host) (with_file call.request call.body_file)

  of_bytes : (call : WireCall) (is : IsMadeCall call) (type : List ℕ) → is.kind ≡ Some type → (bytes : Option (List ℕ))
      → option_map (addressed host) (option_map (λ (b : List ℕ). carrying b call.request) bytes) ≡ Some request → IsMadeFor host request
  of_bytes call is type told None sends = absurd (none_some request _ _ refl refl sends)
  of_bytes call is type told (Some bytes) sends =
      subst (IsMadeFor host) (some_is (addressed host (carrying bytes call.request)) request _ _ refl refl sends)
      (record {
        user = is.user;
        kind = is.kind;
        made = addressed_made (codes "localhost") host is.user is.kind (carrying bytes call.request)
            (carrying_made (codes "localhost") is.user is.kind type bytes call.request told is.made);
      })

  of_file : (call : WireCall) → IsMadeCall call → (file : Option (List ℕ)) → call.body_file ≡ file
      → option_map (addressed host) (with_file call.request file) ≡ Some request → IsMadeFor host request
  of_file call is None none sends =
      subst (IsMadeFor host) (some_is (addressed host call.request) request _ _ refl refl sends)
      (record {
        user = is.user;
        kind = is.kind;
        made = addressed_made (codes "localhost") host is.user is.kind call.request is.made;
      })
  of_file call is (Some name) some sends = let told = is.filed name some in of_bytes call is told.0 told.1 (files name) sends

  of_result : (result : Result WireCall UsageFault) → call_of words ≡ result → of_call result ≡ Some request → IsMadeFor host request
  of_result (Err f) called sends = absurd (none_some request _ _ refl refl sends)
  of_result (Ok call) called sends = of_file call (made_call words call called) call.body_file refl sends

  pub made_sent : sent host words files ≡ Some request → IsMadeFor host request
  made_sent sends = of_result (call_of words) refl sends

-- ---- such a request reads back

user_all : (user : Option (List ℕ)) → IfSome user IsFieldValue → All IsPlainField (user_fields user)
unfolding is_token_byte
user_all None plain = All-nil IsPlainField
user_all (Some name) plain =
    All-cons IsPlainField (field_of (codes "Lake-User") name) [] (record { name = token_is (codes "Lake-User") refl; value = plain }) (All-nil IsPlainField)

carried_all : (kind : Option (List ℕ)) (body : List ℕ) → IfSome kind IsFieldValue → length body < 10 ^ 19 → All IsPlainField (carried_fields kind body)
unfolding is_token_byte
carried_all None body plain short = All-nil IsPlainField
carried_all (Some type) body plain short =
    let size : Field = field_of (codes "Content-Length") (decimal (length body)) in
    All-cons IsPlainField (field_of (codes "Content-Type") type) (size ∷ []) (record { name = token_is (codes "Content-Type") refl; value = plain })
    (All-cons IsPlainField size [] (record { name = token_is (codes "Content-Length") refl; value = number_plain (length body) short })
    (All-nil IsPlainField))

fields_all : (host : List ℕ) (user kind : Option (List ℕ)) (body : List ℕ) → IsFieldValue host → IfSome user IsFieldValue → IfSome kind IsFieldValue
    → length body < 10 ^ 19 → All IsPlainField (made_fields host user kind body)
unfolding is_token_byte
fields_all host user kind body plain named told short =
    let last : Field = field_of (codes "Connection") (codes "close") in
    All-cons IsPlainField (field_of (codes "Host") host) (user_fields user ++ carried_fields kind body ++ last ∷ [])
    (record { name = token_is (codes "Host") refl; value = plain })
    (All-append IsPlainField (user_fields user ++ carried_fields kind body) (last ∷ [])
    (All-append IsPlainField (user_fields user) (carried_fields kind body) (user_all user named) (carried_all kind body told short))
    (All-cons IsPlainField last [] (record { name = token_is (codes "Connection") refl; value = visible_plain (codes "close") refl }) (All-nil IsPlainField)))

few_fields : (host : List ℕ) (user kind : Option (List ℕ)) (body : List ℕ) → length (made_fields host user kind body) ≤ 64
few_fields host None None body = omega arith
few_fields host None (Some type) body = omega arith
few_fields host (Some name) None body = omega arith
few_fields host (Some name) (Some type) body = omega arith

sized_fields : (host : List ℕ) (user kind : Option (List ℕ)) (body : List ℕ) → (kind ≡ None → body ≡ []) → length body < 10 ^ 19
    → body_length (Some 67108864) (made_fields host user kind body) ≡ length_within (Some 67108864) (Some (length body))
sized_fields host None None body bare short = ap (λ (l : List ℕ). length_within (Some 67108864) (Some (length l))) (sym (bare refl))
sized_fields host (Some name) None body bare short = ap (λ (l : List ℕ). length_within (Some 67108864) (Some (length l))) (sym (bare refl))
sized_fields host None (Some type) body bare short = ap (length_within (Some 67108864)) (number_stated (length body) short)
sized_fields host (Some name) (Some type) body bare short = ap (length_within (Some 67108864)) (number_stated (length body) short)

closing_fields : (host : List ℕ) (user kind : Option (List ℕ)) (body : List ℕ) → closes 1 (made_fields host user kind body) ≡ true
unfolding trim_ows
closing_fields host None None body = refl
closing_fields host None (Some type) body = refl
closing_fields host (Some name) None body = refl
closing_fields host (Some name) (Some type) body = refl

pub made_plain : (host : List ℕ) (user kind : Option (List ℕ)) (r : Request) → IsMade host user kind r → IsFieldValue host → length r.body < 10 ^ 19
    → IsPlainRequest r
made_plain host user kind r is plain short = record {
  method = is.method;
  some = is.some;
  target = is.target;
  fields = subst (All IsPlainField) (sym is.fields) (fields_all host user kind r.body plain is.named is.told short);
  few = omega (arith, ap length is.fields, few_fields host user kind r.body);
  sized = ap (body_length (Some 67108864)) is.fields ∙ sized_fields host user kind r.body is.bare short;
  close = ap (closes 1) is.fields ∙ closing_fields host user kind r.body ∙ sym is.close;
}
