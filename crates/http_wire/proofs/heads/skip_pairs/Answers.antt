use Rattle.std.proofs.Common.{◌≡◌, ◌+◌, ◌∙◌, true, sym, ap, subst, length, ℕ, List}
use Rattle.http_wire.specs.MessageHeads.{begins_pair}
use Rattle.http_wire.specs.HeadSearch.{IsSearch, IsGiven}
use Rattle.http_wire.proofs.SearchLemmas.{skip_search, skip_total, skip_given}
use Rattle.http_wire.proofs.heads.skip_pairs.Goals as goal

pub loop-search-preserved : goal.loop-search-preserved
loop-search-preserved c =
    let pair : begins_pair c.loop-search.buffer ≡ true = ap begins_pair (sym c.held.ensures.same) ∙ sym c.begins_pair.ensures ∙ c.if-begins_pair.true in
    record {
      search = subst (λ (l : List ℕ). IsSearch (record { skipped = c.loop-search.search.skipped + 2; passed = 0 }) l) (sym c.skip.ensures)
          (skip_search c.loop-search.buffer c.loop-search.search.skipped c.loop-search-test.true);
      total = ap (λ (l : List ℕ). c.loop-search.search.skipped + 2 + length l) c.skip.ensures
          ∙ skip_total c.loop-search.buffer c.loop-search.search.skipped _ pair c.loop-search.invariant.total;
      given = λ given was. subst (λ (l : List ℕ). IsGiven given (record { skipped = c.loop-search.search.skipped + 2; passed = 0 }) l) (sym c.skip.ensures)
          (skip_given given c.loop-search.buffer c.loop-search.search pair (c.loop-search.invariant.given given was));
    }
