use Rattle.std.proofs.Common.{◌∷◌, ◌++◌, [], ap, sym, ◌∙◌, length-append, arith}
use Rattle.std.proofs.lemmas.List.{take_all, take-append-le}
use Rattle.key_merge.proofs.walk.list.Goals as goal

pub returns-in_ok-push : goal.returns-in_ok-push
returns-in_ok-push c =
    let paths = c.args.paths.now.items in
    let path = c.args.path.now in
    c.in_ok-push.ensures.items ∙ ap (λ p. paths ++ p ∷ []) c.in_ok-copy.ensures.equal
    ∙ sym (take_all 100 (paths ++ path ∷ []) (omega (arith, length-append paths (path ∷ []))))

pub returns-else-len-lt-LISTED : goal.returns-else-len-lt-LISTED
returns-else-len-lt-LISTED c =
    let paths = c.args.paths.now.items in
    let path = c.args.path.now in
    sym (take-append-le 100 paths (path ∷ []) (omega arith) ∙ take_all 100 paths (omega arith))
