use Rattle.std.proofs.Common.{map}
use Rattle.std.proofs.lemmas.List.Sorted.{All-permutation, Contains-permutation, IsPermutation-map, IsPermutation-sym}
use Rattle.std.proofs.lemmas.Result.{on_ok_weaker}
use Rattle.core_filling.specs.Filling.{IsNamed, commit_read}
use Rattle.core_filling.proofs.PlacesLemmas.{places_among}
use Rattle.core_filling.proofs.commits.put_commits.Goals as goal

pub put_sorted-requires : goal.put_sorted-requires
put_sorted-requires c =
    All-permutation IsNamed c.args.commits.items c.sort_by_key.new.self.items c.in_ok-sort_by_key.ensures.permutation c.requires

pub returns-clause-lake : goal.returns-clause-lake
returns-clause-lake c =
    on_ok_weaker c.put_sorted.result (λ is. (
      map commit_read c.sort_by_key.new.self.items,
      (IsPermutation-map commit_read c.args.commits.items c.sort_by_key.new.self.items c.in_ok-sort_by_key.ensures.permutation, is),
    )) c.put_sorted.ensures.lake

pub returns-clause-places : goal.returns-clause-places
returns-clause-places c =
    let sorted = c.sort_by_key.new.self.items in
    let all = IsPermutation-sym (map commit_read c.args.commits.items) (map commit_read sorted)
    (IsPermutation-map commit_read c.args.commits.items sorted c.in_ok-sort_by_key.ensures.permutation) in
    on_ok_weaker c.put_sorted.result
    (places_among (map commit_read sorted) (map commit_read c.args.commits.items)
    (λ commit has. Contains-permutation (map commit_read sorted) (map commit_read c.args.commits.items) commit all has)
    c.args.lake.now.names.files c.put_sorted.new.lake.names.files)
    c.put_sorted.ensures.places
