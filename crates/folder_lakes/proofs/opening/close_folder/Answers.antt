use Rattle.core_puts.specs.KeeperViews.{KeeperView}
use Rattle.folder_lakes.proofs.FolderLemmas.{begins, counted, left, went_out}
use Rattle.folder_lakes.proofs.opening.close_folder.Goals as goal

pub returns : goal.returns
returns g c =
    let view : KeeperView g.row.D-Pairs.Denot = record {
      kept = g.D.Pairs.Keeper.kept;
      faults = g.D.Pairs.Keeper.faults;
      calls = g.D.Pairs.Keeper.calls;
      successes = g.D.Pairs.Keeper.successes;
    } in
    let closed = c.close-closed.result in
    let holds = c.close-closed.ensures.stands in
    record {
      show = record { kept = g.D.Pairs.Keeper.kept c.into_keeper.result; faults = g.D.Pairs.Keeper.faults c.into_keeper.result };
      back = record { keepers = c.back.ensures.keepers; stores = c.back.ensures.stores };
      faults = c.back.ensures.faults;
      history = closed.history;
      begins = λ k d within. begins view closed _ (c.close-closed.ensures.found k d within);
      counted = λ k d within. counted view closed (c.law_of_store_faults.ensures.rose view closed holds)
          (c.law_of_store_faults.ensures.same view closed holds) c.into_keeper.result c.into_keeper.ensures _ (c.close-closed.ensures.found k d within);
      left = record {
        opened = closed.opened;
        present = closed.present;
        from = λ k d within. went_out view closed _ (c.close-closed.ensures.found k d within);
        stands = holds.stands;
        pairs = left view closed c.into_keeper.result c.into_keeper.ensures
            (c.law_of_kept_pairs.ensures.all view closed holds);
      };
    }
