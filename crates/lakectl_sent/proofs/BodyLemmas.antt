-- The objects that are sent hold no floats, so that each has one text.
use Rattle.std.proofs.Common.{◌≡◌, ◌||◌, ◌==◌, ℕ, Bool, true, false, List, [], ◌∷◌, codes, Option, Some, None, refl, true≢false, if◌then◌else◌}
use Rattle.std.specs.List.{fold, slice_split}
use Rattle.std.proofs.Common.{Ordering, Less, Equal, Greater}
use Rattle.std.specs.Ordering.{nat_cmp, match_ordering}
use Rattle.std.specs.Cmp.Lexicographic.{slice_cmp}
use Rattle.std.specs.Option.{option_map, option_and_then}
use Rattle.serde_json.specs.Data.{Data, string, number, unsigned, object, Members, no_members, member, put}
use Rattle.serde_json.specs.Written.{has_float, members_have_float}
use Rattle.lakectl_verbs.specs.declared.verb.Verb.{Verb}
use Rattle.lakectl_verbs.specs.declared.verb.Verb.TheVariants as verb
use Rattle.lakectl_verbs.specs.VerbCommands.{GivenValue}
use Rattle.lakectl_verbs.specs.ReadWords.{text_in}
use Rattle.lakectl_sent.specs.UriPlaces.{PlaceValue}
use Rattle.lakectl_sent.specs.OptionValues.{with_pair, with_piece, with_pieces, metadata_of}
use Rattle.lakectl_sent.specs.SentMessages.{with_field, object_of, fields_of, metadata_form}
use Rattle.lakectl_verbs.specs.Cuts.{cut}

either : (a b : Bool) → a ≡ false → b ≡ false → (a || b) ≡ false
either a b absent none = rw absent none

parts : (a b : Bool) → (a || b) ≡ false → (a ≡ false) × (b ≡ false)
parts true b none = absurd (true≢false none)
parts false b none = (refl, none)

put_at : (o : Ordering) (k l : List ℕ) (d e : Data) (ms : Members) → has_float d ≡ false → has_float e ≡ false → members_have_float ms ≡ false
    → members_have_float (put k d ms) ≡ false
    → members_have_float (match_ordering o (member k d (member l e ms)) (member l d ms) (member l e (put k d ms))) ≡ false
put_at Less k l d e ms absent none rest more = either (has_float d) _ absent (either (has_float e) _ none rest)
put_at Equal k l d e ms absent none rest more = either (has_float d) _ absent rest
put_at Greater k l d e ms absent none rest more = either (has_float e) _ none more

-- a member that is no float makes none
pub put_no_float : (k : List ℕ) (d : Data) (ms : Members) → has_float d ≡ false → members_have_float ms ≡ false → members_have_float (put k d ms) ≡ false
put_no_float k d no_members absent rest = either (has_float d) false absent refl
put_no_float k d (member l e ms) absent rest =
    let both = parts (has_float e) (members_have_float ms) rest in
    put_at (slice_cmp nat_cmp k l) k l d e ms absent both.0 both.1 (put_no_float k d ms absent both.1)

-- a value that isn't sent, or has no float
abbrev pub NoFloat : Option Data → Type 0
NoFloat None = Unit {0}
NoFloat (Some d) = has_float d ≡ false

abbrev NoFloats : List (List ℕ × Option Data) → Type 0
NoFloats [] = Unit {0}
NoFloats (field ∷ fields) = NoFloat field.1 × NoFloats fields

field_no_float : (ms : Members) (k : List ℕ) (o : Option Data) → NoFloat o → members_have_float ms ≡ false → members_have_float (with_field ms (k, o)) ≡ false
field_no_float ms k None absent rest = rest
field_no_float ms k (Some d) absent rest = put_no_float k d ms absent rest

fields_no_float : (ms : Members) (fields : List (List ℕ × Option Data)) → NoFloats fields → members_have_float ms ≡ false
    → members_have_float (fold with_field ms fields) ≡ false
fields_no_float ms [] absent rest = rest
fields_no_float ms (field ∷ fields) absent rest = fields_no_float (with_field ms field) fields absent.1 (field_no_float ms field.0 field.1 absent.0 rest)

pub text_no_float : (o : Option (List ℕ)) → NoFloat (option_map string o)
text_no_float None = tt
text_no_float (Some text) = refl

pub number_no_float : (o : Option ℕ) → NoFloat (option_map (λ n. number (unsigned n)) o)
number_no_float None = tt
number_no_float (Some n) = refl

-- ---- metadata

abbrev NoFloatIn : Option Members → Type 0
NoFloatIn None = Unit {0}
NoFloatIn (Some ms) = members_have_float ms ≡ false

pair_no_float : (ms : Members) (pair : List ℕ × List ℕ) (empty there : Bool) → members_have_float ms ≡ false
    → NoFloatIn (if empty then None else if there then None else Some (put pair.0 (string pair.1) ms))
pair_no_float ms pair true there rest = tt
pair_no_float ms pair false true rest = tt
pair_no_float ms pair false false rest = put_no_float pair.0 (string pair.1) ms refl rest

piece_no_float : (ms : Members) (o : Option (List ℕ × List ℕ)) → members_have_float ms ≡ false → NoFloatIn (option_and_then (with_pair ms) o)
piece_no_float ms None rest = tt
piece_no_float ms (Some pair) rest = pair_no_float ms pair _ _ rest

pieces_then : (o : Option Members) (f : Members → Option Members) → NoFloatIn o → ((ms : Members) → members_have_float ms ≡ false → NoFloatIn (f ms))
    → NoFloatIn (option_and_then f o)
pieces_then None f absent next = tt
pieces_then (Some ms) f absent next = next ms absent

pieces_no_float : (ms : Members) (pieces : List (List ℕ)) → members_have_float ms ≡ false → NoFloatIn (with_pieces ms pieces)
pieces_no_float ms [] rest = rest
pieces_no_float ms (piece ∷ pieces) rest =
    pieces_then (with_piece ms piece) (λ next. with_pieces next pieces) (piece_no_float ms (cut 61 piece) rest)
    (λ next absent. pieces_no_float next pieces absent)

object_no_float : (o : Option Members) → NoFloatIn o → NoFloat (option_map object o)
object_no_float None absent = tt
object_no_float (Some ms) absent = absent

given_no_float : (o : Option (List ℕ)) → NoFloatIn (option_and_then metadata_of o)
given_no_float None = tt
given_no_float (Some text) = pieces_no_float no_members (slice_split (λ byte. byte == 44) text) refl

pub metadata_no_float : (values : List GivenValue) → NoFloat (metadata_form values)
metadata_no_float values = object_no_float (option_and_then metadata_of (text_in values (codes "meta"))) (given_no_float (text_in values (codes "meta")))

-- ---- bodies

fields_no : (v : Verb) (at other : PlaceValue) (values : List GivenValue) → NoFloats (fields_of v at other values)
fields_no verb.RepoCreate at other values = (refl, (text_no_float _, tt))
fields_no verb.BranchCreate at other values = (refl, (refl, tt))
fields_no verb.BranchReset at other values = (text_no_float _, (refl, tt))
fields_no verb.BranchRevert at other values = (number_no_float _, (text_no_float _, tt))
fields_no verb.TagCreate at other values = (refl, (refl, tt))
fields_no verb.Commit at other values = (text_no_float _, (metadata_no_float values, tt))
fields_no verb.Merge at other values = (text_no_float _, (metadata_no_float values, (text_no_float _, tt)))
fields_no verb.CherryPick at other values = (number_no_float _, (refl, tt))
fields_no verb.FsStage at other values =
    (text_no_float _, (text_no_float _, (metadata_no_float values, (number_no_float _, (text_no_float _, (number_no_float _, tt))))))
fields_no verb.RepoList at other values = tt
fields_no verb.BranchList at other values = tt
fields_no verb.BranchShow at other values = tt
fields_no verb.BranchDelete at other values = tt
fields_no verb.TagList at other values = tt
fields_no verb.TagShow at other values = tt
fields_no verb.TagDelete at other values = tt
fields_no verb.Log at other values = tt
fields_no verb.FsLs at other values = tt
fields_no verb.FsStat at other values = tt
fields_no verb.FsCat at other values = tt
fields_no verb.FsUpload at other values = tt
fields_no verb.FsDownload at other values = tt
fields_no verb.FsRm at other values = tt

-- the object that a verb sends has no float
pub sent_no_float : (v : Verb) (at other : PlaceValue) (values : List GivenValue) → members_have_float (object_of (fields_of v at other values)) ≡ false
sent_no_float v at other values = fields_no_float no_members (fields_of v at other values) (fields_no v at other values) refl
