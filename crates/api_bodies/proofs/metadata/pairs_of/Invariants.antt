use Rattle.std.proofs.Common.{◌≡◌, []}
use Rattle.serde_json.specs.View.{members_view}
use Rattle.api_bodies.specs.MetadataFields.{metadata_from}
use Rattle.api_bodies.proofs.metadata.pairs_of.Given as goal

-- the members that are left make with the pairs so far what all make
abbrev pub invariant-loop-key : goal.invariant-loop-key
invariant-loop-key l = metadata_from l.pairs (members_view l.key-iterator) ≡ metadata_from [] (members_view l.members.entries)
