-- The command of `clap` that a verb's line of the table makes, and what it takes of words, in `clap`'s own words.
use Rattle.std.specs.Prelude.{ℕ, ◌≡◌, ◌⊎◌, Bool, true, false, fold, map, List, codes, length, ◌==◌, Option, Some, option_map, Result, Ok, Err}
use Rattle.std.specs.Borrow.{Bor}
use Rattle.std.specs.List.{filter_map}
use Rattle.clap.specs.Words.{App, Rule, new_app, new_rule, with_rule, matches_of, first_of, fault_of, first_value, found_of}
use Rattle.clap.specs.declared.parser.matches.ArgMatches.{ArgMatches}
use Rattle.clap.specs.declared.builder.action.ArgAction.TheVariants.{Set, SetTrue}
use Rattle.lakectl_verbs.specs.declared.argument.Shape.{Shape}
use Rattle.lakectl_verbs.specs.declared.argument.Shape.TheVariants.{Positional, Long, Short, LongOrShort, Flag}
use Rattle.lakectl_verbs.specs.declared.verb.Verb.{Verb}
use Rattle.lakectl_verbs.specs.declared.fault.UsageFault.{UsageFault}
use Rattle.lakectl_verbs.specs.declared.fault.UsageFault.TheVariants.{Words, NoMemory}
use Rattle.lakectl_verbs.specs.ArgumentForms.{ArgumentForm}
use Rattle.lakectl_verbs.specs.VerbTable.{arguments_of}

-- an argument that is written so; `m` is the letter of each short form
abbrev pub written : Shape → (name : List ℕ) → Rule → Rule
written Positional name rule = record rule { action = Some Set }
written Long name rule = record rule { long = Some name; action = Some Set }
written Short name rule = record rule { short = Some 109; action = Some Set }
written LongOrShort name rule = record rule { long = Some name; short = Some 109; action = Some Set }
written Flag name rule = record rule { long = Some name; action = Some SetTrue }

-- an argument of the table as one of `clap`
abbrev pub rule_of_form : ArgumentForm → Rule
rule_of_form form = written form.shape form.name (record (new_rule form.name) { required = form.needed })

-- a command without arguments: the words begin with the first argument, and `--help` is a word like others
abbrev pub bare_command : App
bare_command = let app = new_app (codes "lakectl") in record app { top = record app.top { no_binary_name = true; disable_help_flag = true } }

-- the simple command of these arguments
abbrev pub simple_command : List ArgumentForm → App
simple_command forms = fold with_rule bare_command (map rule_of_form forms)

abbrev pub command_for : Verb → App
command_for verb = simple_command (arguments_of verb)

-- the verb's command takes the words: `clap` finds no fault
abbrev pub is_taken : Verb → List (List ℕ) → Bool
is_taken verb words = length (fault_of (command_for verb) words) == 0

abbrev pub words_seen : List (Bor (List ℕ)) → List (List ℕ)
words_seen words = map (λ word. word.now) words

-- a value that is given, with its argument
abbrev pub GivenValue : Type 0
GivenValue = ArgumentForm × List ℕ

-- the value that was found for an argument, where one was
abbrev pub value_found : (List ℕ → Option (List ℕ)) → ArgumentForm → Option GivenValue
value_found found form = option_map (λ text. (form, text)) (found form.name)

-- the value that the words give to the verb's argument of this name, where they do
abbrev pub value_given : Verb → List (List ℕ) → (name : List ℕ) → Option (List ℕ)
value_given verb words name = first_of name (matches_of (command_for verb) words)

-- the values that the words give to the arguments of the verb, in the table's order
abbrev pub values_given : Verb → List (List ℕ) → List GivenValue
values_given verb words = filter_map (value_found (value_given verb words)) (arguments_of verb)

-- What a parse of words by the verb's command answers: the values that are given, where it takes the words; else the fault of words.
abbrev pub TakenSo : Verb → List (List ℕ) → Result ArgMatches UsageFault → Type 0
TakenSo verb words (Ok matches) =
    (is_taken verb words ≡ true) × ((name : List ℕ) → first_value (found_of matches) name ≡ value_given verb words name)
TakenSo verb words (Err fault) = (fault ≡ NoMemory) ⊎ ((fault ≡ Words) × (is_taken verb words ≡ false))
