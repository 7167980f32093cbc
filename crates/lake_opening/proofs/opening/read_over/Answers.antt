use Rattle.std.proofs.Common.{ap, sym, subst, ◌∙◌, length}
use Rattle.core_state.specs.LakeStates.{lake_value}
use Rattle.core_opening.specs.Opening.{IsWholeLake}
use Rattle.lake_opening.proofs.OpeningLemmas.{some_loaded}
use Rattle.lake_opening.proofs.opening.read_over.Goals as goal

pub returns : goal.returns
returns g c =
    let pairs = c.in_ok-pairs.pairs in
    let loaded = c.in_ok-pairs.ensures in
    let present = c.in_ok-present.present in
    let whole = subst (λ ps. IsWholeLake c.args.cut ps present) c.as_slice.ensures.value c.in_ok-present.ensures in (
      pairs.items,
      record {
        loaded = record { all = loaded.pairs; ascend = loaded.ascending };
        keeper = record { kept = loaded.kept; calls = loaded.calls; successes = loaded.successes; quiet = loaded.cause.quiet };
        some = λ _. whole;
        stands =
            c.law_of_read_lakes.ensures c.args.cut pairs.items (lake_value present) whole.whole.tied loaded.ascending c.requires whole.read whole.index;
        none = λ none. absurd cc;
        there = some_loaded pairs.items _ c.is_empty.result c.is_empty.ensures c.if-is_empty.false
            (ap length (sym c.as_slice.ensures.value) ∙ c.as_slice.ensures.len);
      },
    )
