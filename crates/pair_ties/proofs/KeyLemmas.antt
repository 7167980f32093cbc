-- Whether a pair has a key.
use Rattle.std.proofs.Common.{◌≡◌, ◌↔◌, ℕ, ◌<◌, true, false, List, [], length, get_or, Some, Result, Ok, Err, IsTrue, MatchResult, refl, sym, ap, ◌∙◌}
use Rattle.std.specs.List.{slice_get}
use Rattle.std.specs.Result.{is_ok}
use Rattle.std.proofs.lemmas.Option.{get_or_from_slice_get, slice_get-get_or}
use Rattle.lake_base.specs.Maps.{IsAt, IsGap}
use Rattle.keeper.specs.Keepers.{entries_of}
use Rattle.pair_format.specs.declared.key.OwnedKey.{OwnedKey}
use Rattle.pair_format.specs.declared.pair.Pair.{Pair}
use Rattle.pair_format.specs.PairSpelling.{key_spelling}
use Rattle.pair_trees.proofs.SpelledLemmas.{key_at, no_key}
use Rattle.pair_ties.specs.BrokenPairs.{HasPair}

blank : Pair
blank = record { key = []; value = [] }

-- what a search for the bytes of a key tells
pub told_pair : (pairs : List Pair) (k : OwnedKey) (bytes : List ℕ) → bytes ≡ key_spelling k → (place : Result ℕ ℕ)
    → MatchResult place (IsAt (entries_of pairs) bytes) (IsGap (entries_of pairs) bytes) → IsTrue (is_ok place) ↔ HasPair pairs k
told_pair pairs k bytes spelled (Err at) gap =
    (λ e. absurd (no e), λ has. absurd (no_key pairs bytes at gap has.1.0 (pair has.0) (here has) (sym spelled)))
  where
    no : false ≡ true → ⊥
    no e = cc

    pair : List ℕ → Pair
    pair value = record { key = key_spelling k; value = value }

    here : (has : HasPair pairs k) → slice_get pairs has.1.0 ≡ Some (pair has.0)
    here has = slice_get-get_or pairs has.1.0 (pair has.0) has.1.1 ∙ ap (λ p. Some p) has.1.2
told_pair pairs k bytes spelled (Ok at) found = (λ e. there, λ has. refl)
  where
    within : at < length pairs
    within = (key_at pairs bytes at found).within

    own : Pair
    own = get_or pairs at blank

    last : slice_get pairs at ≡ Some own
    last = slice_get-get_or pairs at blank within

    same : own.key ≡ key_spelling k
    same = (key_at pairs bytes at found).same own last ∙ spelled

    there : HasPair pairs k
    there =
        let whole : own ≡ record { key = key_spelling k; value = own.value } = λ i. record { key = same i; value = own.value } in
        (own.value, (at, within, get_or_from_slice_get pairs at own (record { key = key_spelling k; value = own.value }) last ∙ whole))
