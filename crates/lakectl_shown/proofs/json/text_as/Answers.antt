use Rattle.std.proofs.Common.{ℕ, List, ◌++◌, ◌∙◌, ap}
use Rattle.std.specs.List.{flat_map}
use Rattle.serde_json.specs.View.{view}
use Rattle.lakectl_shown.specs.ShownForms.{PieceForm, piece_bytes}
use Rattle.lakectl_shown.specs.FormTables.{pieces_of}
use Rattle.lakectl_shown.proofs.FormLemmas.{piece_step, pieces_done}
use Rattle.lakectl_shown.proofs.json.text_as.Goals as goal

pub loop-piece-init : goal.loop-piece-init
loop-piece-init c =
    ap (λ (pieces : List PieceForm). c.new-out.result.items ++ flat_map (piece_bytes (view c.args.value.now)) pieces) c.pieces-piece-items.ensures
    ∙ ap (λ (out : List ℕ). out ++ flat_map (piece_bytes (view c.args.value.now)) (pieces_of c.args.form)) c.new-out.ensures.items

pub loop-piece-preserved : goal.loop-piece-preserved
loop-piece-preserved c =
    piece_step (view c.args.value.now) c.pieces-piece-items.result.now c.loop-piece.piece-index _ c.loop-piece.out.items _ _ c.loop-piece-test.true
    c.in_ok-push_piece.ensures c.loop-piece.invariant

pub returns : goal.returns
returns c =
    pieces_done (view c.args.value.now) c.pieces-piece-items.result.now c.loop-piece.piece-index c.loop-piece.out.items _ c.loop-piece-test.false
    c.loop-piece.invariant
