-- The bytes so far, and those of the pieces that are left.
use Rattle.std.proofs.Common.{◌≡◌, ◌++◌, map, drop}
use Rattle.std.specs.List.{flat_map}
use Rattle.serde_json.specs.View.{view}
use Rattle.lakectl_shown.specs.ShownForms.{piece_bytes, piece_seen}
use Rattle.lakectl_shown.specs.ShownReplies.{text_as}
use Rattle.lakectl_shown.proofs.json.text_as.Given as goal

abbrev pub invariant-loop-piece : goal.invariant-loop-piece
invariant-loop-piece l =
    l.out.items ++ flat_map (piece_bytes (view l.fn.value)) (map piece_seen (drop l.piece-index l.piece-items)) ≡ text_as l.fn.form (view l.fn.value)
