-- The keys that are left tell what all tell.
use Rattle.std.proofs.Common.{◌≡◌, map, drop}
use Rattle.std.specs.List.{list_all}
use Rattle.serde_json.specs.View.{view}
use Rattle.lakectl_shown.specs.ShownForms.{has_key, key_seen}
use Rattle.lakectl_shown.specs.ShownReplies.{is_of}
use Rattle.lakectl_shown.proofs.json.is_of.Given as goal

abbrev pub invariant-loop-key : goal.invariant-loop-key
invariant-loop-key l = list_all (has_key (view l.fn.value)) (map key_seen (drop l.key-index l.key-items)) ≡ is_of l.fn.form (view l.fn.value)
