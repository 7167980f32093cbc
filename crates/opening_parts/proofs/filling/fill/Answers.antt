use Rattle.std.proofs.Common.{◌≡◌, ◌⊎◌, inl, inr, List, Some, map, subst}
use Rattle.std.specs.BTreeMap.{get as tree_get}
use Rattle.std.specs.FinMap.{get}
use Rattle.std.specs.Ordering.{nat_cmp}
use Rattle.core_state.specs.LakeStates.{lake_value}
use Rattle.core_filling.specs.Filling.{CommitRead, commit_read}
use Rattle.core_filling.specs.NewPlaces.{IsPlaceAmong}
use Rattle.opening_parts.specs.Fillings.{reads_of}
use Rattle.opening_parts.proofs.PlainLemmas.{no_place, steps_plain}
use Rattle.opening_parts.proofs.filling.fill.Goals as goal

pub returns-clause-places : goal.returns-clause-places
returns-clause-places c name place at = by (c.in_ok-put_commits.ensures.places name place at)
  where
    by : (get c.put_others.new.lake.names.files name ≡ Some (Some place)) ⊎ IsPlaceAmong (map commit_read c.in_ok-commits.commits.items) name place
        → IsPlaceAmong (reads_of c.args.cut c.args.things.items) name place
    by (inl before) =
        absurd (no_place c.args.cut c.put_others.new.lake
        (steps_plain c.args.cut c.args.counts c.as_slice.result.now c.as_slice-2.result.now c.args.things.items
        (tree_get nat_cmp c.put_branches.new.holders) (lake_value c.counted_lake-lake.result) (lake_value c.put_bases.new.lake)
        (lake_value c.put_branches.new.lake) (lake_value c.put_others.new.lake) c.counted_lake-lake.ensures c.in_ok-put_bases.ensures
        c.in_ok-put_branches.ensures.lake c.in_ok-commits.ensures.lake) name place before)
    by (inr among) = subst (λ (reads : List CommitRead). IsPlaceAmong reads name place) c.in_ok-commits.ensures.reads among
