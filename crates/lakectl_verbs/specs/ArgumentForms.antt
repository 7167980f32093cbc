-- The arguments of verbs, as the table of verbs writes them.
use Rattle.std.specs.Prelude.{ℕ, List, Bool, true, false, codes}
use Rattle.lakectl_verbs.specs.declared.argument.Argument.{Argument}
use Rattle.lakectl_verbs.specs.declared.argument.Shape.{Shape}
use Rattle.lakectl_verbs.specs.declared.argument.Shape.TheVariants.{Positional, Long, Short, LongOrShort, Flag}
use Rattle.lakectl_verbs.specs.declared.argument.Kind.{Kind}
use Rattle.lakectl_verbs.specs.declared.argument.Kind.TheVariants.{Any, Uri}
use Rattle.lakectl_verbs.specs.declared.argument.UriParts.{UriParts}
use Rattle.lakectl_verbs.specs.declared.argument.UriParts.TheVariants.{Ref}

-- an argument as contracts see it: its name, how it is written, whether the words must give it, and what its value is
pub record ArgumentForm : Type 0 where
  pub name : List ℕ
  pub shape : Shape
  pub needed : Bool
  pub kind : Kind

abbrev pub form_of : Argument → ArgumentForm
form_of argument = record { name = argument.name.now; shape = argument.shape; needed = argument.needed; kind = argument.kind }

-- a word in its place
abbrev pub positional : List ℕ → ArgumentForm
positional name = record { name = name; shape = Positional; needed = true; kind = Any }

-- a URI in its place
abbrev pub uri_named : List ℕ → UriParts → ArgumentForm
uri_named name parts = record { name = name; shape = Positional; needed = true; kind = Uri parts }

abbrev pub uri_of : UriParts → ArgumentForm
uri_of parts = uri_named (codes "uri") parts

-- `--source URI`
abbrev pub source_uri : ArgumentForm
source_uri = record { name = codes "source"; shape = Long; needed = true; kind = Uri Ref }

-- `--name VALUE`
abbrev pub long : List ℕ → Kind → ArgumentForm
long name kind = record { name = name; shape = Long; needed = false; kind = kind }

abbrev pub needed_long : List ℕ → Kind → ArgumentForm
needed_long name kind = record { name = name; shape = Long; needed = true; kind = kind }

-- `-m VALUE`
abbrev pub short : List ℕ → ArgumentForm
short name = record { name = name; shape = Short; needed = false; kind = Any }

abbrev pub needed_short : List ℕ → ArgumentForm
needed_short name = record { name = name; shape = Short; needed = true; kind = Any }

-- `--name VALUE` or `-m VALUE`
abbrev pub long_or_short : List ℕ → Kind → ArgumentForm
long_or_short name kind = record { name = name; shape = LongOrShort; needed = false; kind = kind }

-- `--name`
abbrev pub flag : List ℕ → ArgumentForm
flag name = record { name = name; shape = Flag; needed = false; kind = Any }
