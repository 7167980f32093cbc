-- The texts so far are the words so far.
use Rattle.std.proofs.Common.{◌≡◌, take}
use Rattle.lakectl_verbs.specs.VerbCommands.{words_seen}
use Rattle.lakectl_words.proofs.call.texts_of.Given as goal

abbrev pub invariant-loop-word : goal.invariant-loop-word
invariant-loop-word l = words_seen l.texts.items ≡ take l.word-index l.words
