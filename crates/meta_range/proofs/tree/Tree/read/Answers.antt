use Rattle.std.proofs.Common.{◌≡◌, ap, option_copied, sym, subst, ◌∙◌}
use Rattle.std.proofs.lemmas.Result.{err_from_is_err_and}
use Rattle.meta_range.specs.Files.{bytes_named}
use Rattle.meta_range.specs.TreeReading.{Fails, IsTreeWith, tree_from, tree_with}
use Rattle.meta_range.proofs.ReadingLemmas.{of_one_list, tree_again}
use Rattle.meta_range.proofs.tree.Tree.read.Goals as goal

pub returns-clause-found : goal.returns-clause-found
returns-clause-found c =
    let name = c.args.name.now in
    let given = c.in_ok-given.given in
    let cut = c.args.cut.now in
    let tree = c.in_ok-tree.tree in
    of_one_list name c.args.files.now cut tree
    (subst (λ files. IsTreeWith name (bytes_named name files) files cut tree) (c.in_ok-given.ensures ∙ c.in_ok-lent.ensures)
    (subst (λ metarange. IsTreeWith name metarange given cut tree) c.named-metarange.ensures c.in_ok-tree.ensures.found))

pub returns-clause-only : goal.returns-clause-only
returns-clause-only c = λ objects fits named given.
    let name = c.args.name.now in
    let cut = c.args.cut.now in
    let same : tree_from name c.args.files.now cut ≡ tree_with name (option_copied c.named-metarange.result) c.in_ok-given.given cut =
    ap (λ files. tree_from name files cut) (sym (c.in_ok-given.ensures ∙ c.in_ok-lent.ensures))
    ∙ ap (λ metarange. tree_with name metarange c.in_ok-given.given cut) (sym c.named-metarange.ensures) in
    sym (tree_again name c.args.files.now cut objects fits named given) ∙ same ∙ c.in_ok-tree.ensures.reads

pub returns-in_err-tree-clause-only : goal.returns-in_err-tree-clause-only
returns-in_err-tree-clause-only c = λ objects fits named given.
    let name = c.args.name.now in
    let cut = c.args.cut.now in
    let p = err_from_is_err_and c.from_residual-in_err-tree.result c.from_residual-in_err-tree.ensures.1 in
    let fault = c.in_err-tree.field-0.0 in
    let same : tree_with name (option_copied c.named-metarange.result) c.in_ok-given.given cut ≡ tree_from name c.args.files.now cut =
    ap (λ metarange. tree_with name metarange c.in_ok-given.given cut) c.named-metarange.ensures
    ∙ ap (λ files. tree_from name files cut) (c.in_ok-given.ensures ∙ c.in_ok-lent.ensures) in
    rw (p.1, p.2)
    (subst (Fails fault) (same ∙ tree_again name c.args.files.now cut objects fits named given) c.in_err-tree.ensures.reads)
