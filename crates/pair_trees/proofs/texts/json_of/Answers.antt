use Rattle.std.proofs.Common.{◌≡◌, Bool, true, false}
use Rattle.serde_json.specs.View.{view}
use Rattle.pair_trees.proofs.TextsLemmas.{reads, unread}
use Rattle.pair_trees.proofs.texts.json_of.Goals as goal

pub returns-in-Ok : goal.returns-in-Ok
returns-in-Ok c = reads c.args.text.now (view c.in-Ok.value) c.in-Ok.ensures.ok.0 c.in-Ok.ensures.ok.1

pub returns-else-is_memory : goal.returns-else-is_memory
returns-else-is_memory c =
    let other = c.if-is_memory.false in
    let told = c.is_memory.ensures in
    unread c.args.text.now (c.in-Err.ensures.err (λ memory. by (told.1 memory) other))
  where
    by : {b : Bool} → b ≡ true → b ≡ false → ⊥
    by x y = cc
