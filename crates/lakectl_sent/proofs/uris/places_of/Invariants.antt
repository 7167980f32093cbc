-- The places so far, and those of the values that are left.
use Rattle.std.proofs.Common.{◌≡◌, ◌++◌, drop, map}
use Rattle.std.specs.Option.{option_map}
use Rattle.lakectl_verbs.specs.ReadWords.{value_seen}
use Rattle.lakectl_sent.specs.UriPlaces.{places_of, place_seen}
use Rattle.lakectl_sent.proofs.uris.places_of.Given as goal

abbrev pub invariant-loop-value : goal.invariant-loop-value
invariant-loop-value l =
    option_map (λ more. map place_seen l.places.items ++ more) (places_of (map value_seen (drop l.value-index l.values)))
    ≡ places_of (map value_seen l.fn.values)
