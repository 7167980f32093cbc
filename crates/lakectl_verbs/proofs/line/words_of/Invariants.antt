-- The words so far, and those of the rest. Each step takes a byte.
use Rattle.std.proofs.Common.{◌≡◌, ◌++◌, length}
use denote.Shadow.{shadow}
use denote.Text.{Utf8}
use Rattle.lakectl_verbs.specs.LineForms.{words_of}
use Rattle.lakectl_verbs.proofs.line.words_of.Given as goal

abbrev pub invariant-loop-word : goal.invariant-loop-word
invariant-loop-word l = record { text : shadow (Utf8 l.rest); words : l.words.items ++ words_of l.rest ≡ words_of l.fn.line }

abbrev pub decreases-loop-word : goal.decreases-loop-word
decreases-loop-word l = length l.rest
