-- WHICH COMMAND A LINE OF WORDS IS, and in which order its faults come (this project's profile).
use Rattle.std.specs.Prelude.{ℕ, ◌==◌, ◌&&◌, Bool, false, not, nat_le, nat_lt, is_some, if◌then◌else◌, List, [], ◌∷◌, length, map, codes, Option, Some, None}
use Rattle.std.specs.Prelude.{option_map, ok_or, Result, Ok, Err}
use Rattle.std.specs.Borrow.{Bor}
use Rattle.std.specs.List.{find, list_all}
use Rattle.std.specs.Str.{bytes_eq}
use Rattle.lakectl_verbs.specs.declared.verb.Verb.{Verb}
use Rattle.lakectl_verbs.specs.declared.verb.Verb.TheVariants.{BranchReset, FsUpload}
use Rattle.lakectl_verbs.specs.declared.fault.UsageFault.{UsageFault}
use Rattle.lakectl_verbs.specs.declared.fault.UsageFault.TheVariants as fault
use Rattle.lakectl_verbs.specs.declared.read.Value.{Value}
use Rattle.lakectl_verbs.specs.declared.read.Given.{Given}
use Rattle.lakectl_verbs.specs.UsageSteps.{in_turn}
use Rattle.lakectl_verbs.specs.ArgumentForms.{ArgumentForm, form_of}
use Rattle.lakectl_verbs.specs.VerbNames.{lone_verb, verb_under}
use Rattle.lakectl_verbs.specs.VerbCommands.{GivenValue, is_taken, values_given, words_seen}

-- a visible byte of ASCII
abbrev pub is_visible : ℕ → Bool
is_visible byte = nat_le 33 byte && nat_le byte 126

-- the name of a user: 1 to 128 such bytes
abbrev pub is_user : List ℕ → Bool
is_user name =
    if length name == 0 then false
    else if nat_lt 128 (length name) then false
    else list_all is_visible name

-- the user that follows `--user`, and the words behind it
abbrev pub named_user : List (List ℕ) → Result (Option (List ℕ) × List (List ℕ)) UsageFault
named_user [] = Err fault.Words
named_user (name ∷ words) = if is_user name then Ok (Some name, words) else Err (fault.Value (codes "user"))

-- the user, where the words begin with one, and the words behind it
abbrev pub user_of : List (List ℕ) → Result (Option (List ℕ) × List (List ℕ)) UsageFault
user_of [] = Ok (None, [])
user_of (first ∷ words) = if bytes_eq first (codes "--user") then named_user words else Ok (None, first ∷ words)

-- the command of a noun with its verb, which stands next
abbrev pub verb_behind : (noun : List ℕ) → List (List ℕ) → Result (Verb × List (List ℕ)) UsageFault
verb_behind noun [] = Err fault.Unknown
verb_behind noun (verb ∷ words) = in_turn (ok_or (verb_under noun verb) fault.Unknown) (λ found. Ok (found, words))

-- the command, and the words behind its name
abbrev pub verb_of : List (List ℕ) → Result (Verb × List (List ℕ)) UsageFault
verb_of [] = Err fault.NoCommand
verb_of (noun ∷ words) = lone (lone_verb noun)
  where
    lone : Option Verb → Result (Verb × List (List ℕ)) UsageFault
    lone None = verb_behind noun words
    lone (Some verb) = Ok (verb, words)

-- the values that the words give, where the verb's simple command takes them
abbrev pub values_of : Verb → List (List ℕ) → Result (List GivenValue) UsageFault
values_of verb words = if is_taken verb words then Ok (values_given verb words) else Err fault.Words

-- the value of this name
abbrev pub text_in : List GivenValue → (name : List ℕ) → Option (List ℕ)
text_in values name = option_map (λ value. value.1) (find (λ value. bytes_eq value.0.name name) values)

-- the value of this name is given
abbrev pub is_given : List GivenValue → (name : List ℕ) → Bool
is_given values name = is_some (text_in values name)

-- Options are given that exclude each other: a reset of an object and of a prefix; or an upload has both a text and a file, or none.
abbrev pub exclude : Verb → List GivenValue → Bool
exclude BranchReset values = is_given values (codes "object") && is_given values (codes "prefix")
exclude FsUpload values = if is_given values (codes "text") then is_given values (codes "source") else not (is_given values (codes "source"))
exclude verb values = false

-- a command: its user, its verb and the values that are given
pub record GivenWords : Type 0 where
  pub user : Option (List ℕ)
  pub verb : Verb
  pub values : List GivenValue

-- the values, where no two exclude each other
abbrev pub allowed : Verb → List GivenValue → Result (List GivenValue) UsageFault
allowed verb values = if exclude verb values then Err fault.Words else Ok values

-- WHICH COMMAND THE WORDS ARE, or their first fault
abbrev pub read_of : List (List ℕ) → Result GivenWords UsageFault
read_of words =
    in_turn (user_of words) (λ user. in_turn (verb_of user.1) (λ verb. in_turn (values_of verb.0 verb.1) (λ values.
    in_turn (allowed verb.0 values) (λ values. Ok (record { user = user.0; verb = verb.0; values = values })))))

-- ---- what contracts see

abbrev pub user_seen : Option (Bor (List ℕ)) × Bor (List (Bor (List ℕ))) → Option (List ℕ) × List (List ℕ)
user_seen found = (option_map (λ name. name.now) found.0, words_seen found.1.now)

abbrev pub verb_seen : Verb × Bor (List (Bor (List ℕ))) → Verb × List (List ℕ)
verb_seen found = (found.0, words_seen found.1.now)

abbrev pub value_seen : Value → GivenValue
value_seen value = (form_of value.argument.now, value.text.now)

abbrev pub given_seen : Given → GivenWords
given_seen given = record {
  user = option_map (λ name. name.now) given.user;
  verb = given.verb;
  values = map value_seen given.values.items;
}
