use Rattle.std.proofs.Common.{List, Some, map, subst, sym, ap, ◌∙◌}
use Rattle.std.specs.List.{Contains}
use Rattle.std.proofs.lemmas.List.Elements.{All-pop}
use Rattle.core_state.specs.LakeStates.{lake_value}
use Rattle.core_filling.specs.declared.commits.ReadCommit.{ReadCommit}
use Rattle.core_filling.specs.Filling.{IsNamed, commit_read, with_commits}
use Rattle.core_filling.proofs.FillingLemmas.{all_read, last_first}
use Rattle.core_filling.proofs.PlacesLemmas.{places_more, places_none}
use Rattle.core_filling.proofs.commits.put_sorted.Goals as goal

pub loop-read-init : goal.loop-read-init
loop-read-init c = record {
  named = c.requires;
  among = all_read c.args.commits.items;
  same = λ i. with_commits (map commit_read c.args.commits.items) (lake_value c.args.lake.now);
  places = places_none (map commit_read c.args.commits.items) c.args.lake.now.names.files;
}

pub put_read-requires : goal.put_read-requires
put_read-requires c =
    (All-pop IsNamed c.loop-read.commits.items c.pop.new.self.items (Some c.in-Some.read) c.in-Some.ensures.items c.loop-read.invariant.named).1

pub loop-read-preserved : goal.loop-read-preserved
loop-read-preserved c =
    let rest = c.pop.new.self.items in
    let read = c.in-Some.read in
    let all = map commit_read c.args.commits.items in
    let among = All-pop (λ read. Contains all (commit_read read)) c.loop-read.commits.items rest (Some read) c.in-Some.ensures.items
    c.loop-read.invariant.among in
    record {
      named = (All-pop IsNamed c.loop-read.commits.items rest (Some read) c.in-Some.ensures.items c.loop-read.invariant.named).0;
      among = among.0;
      same =
          ap (with_commits (map commit_read rest)) c.in_ok-put_read.ensures.lake
          ∙ sym (last_first rest read (lake_value c.loop-read.lake))
          ∙ ap (λ (commits : List ReadCommit). with_commits (map commit_read commits) (lake_value c.loop-read.lake)) (sym c.in-Some.ensures.items)
          ∙ c.loop-read.invariant.same;
      places =
          places_more all (commit_read read) among.1 c.args.lake.now.names.files c.loop-read.lake.names.files c.put_read.new.lake.names.files
          c.loop-read.invariant.places c.in_ok-put_read.ensures.places;
    }
