use Rattle.fresh_lakes.proofs.FreshLemmas.{none_noted_of}
use Rattle.fresh_lakes.proofs.fresh.close_lone_lake.Goals as goal

pub returns : goal.returns
returns g c = record {
  none = none_noted_of c.args.seat c.args.room.items c.push_reserved.new.self.items c.close.result c.law_of_sure_lakes.ensures c.requires.room.none c.push_reserved.ensures.items
      c.close.ensures.found;
}
