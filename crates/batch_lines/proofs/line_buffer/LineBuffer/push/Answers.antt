use Rattle.std.proofs.Common.{◌≤◌, ◌++◌, ◌∷◌, [], ℕ, List, length, sym, ◌∙◌, ap, arith, length-append}
use Rattle.std.proofs.lemmas.List.{take_all, take-append-le}
use Rattle.batch_lines.specs.Feeding.{line_room}
use Rattle.batch_lines.proofs.line_buffer.LineBuffer.push.Goals as goal

pub returns-then-len-lt-LINE_ROOM : goal.returns-then-len-lt-LINE_ROOM
returns-then-len-lt-LINE_ROOM c =
    let kept = c.args.self.now in
    let long : length (kept ++ c.args.byte ∷ []) ≤ line_room = omega (arith, length-append kept (c.args.byte ∷ []), ap length c.self.view_is) in
    c.push_reserved.ensures.items ∙ ap (λ (l : List ℕ). l ++ c.args.byte ∷ []) c.self.view_is ∙ sym (take_all line_room (kept ++ c.args.byte ∷ []) long)

pub returns-else-len-lt-LINE_ROOM : goal.returns-else-len-lt-LINE_ROOM
returns-else-len-lt-LINE_ROOM c =
    let kept = c.args.self.now in
    let full : line_room ≤ length kept = omega (arith, ap length c.self.view_is) in
    let long : length kept ≤ line_room = omega (arith, ap length c.self.view_is) in
    sym (take-append-le line_room kept (c.args.byte ∷ []) full ∙ take_all line_room kept long)
