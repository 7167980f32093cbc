use Rattle.std.proofs.Common.{◌≡◌, None, sym, ap, set, subst, ◌∙◌}
use Rattle.lake_values.specs.KeyMap.{HasPathKeys}
use Rattle.lake_base.specs.Maps.{HasAscendingKeys}
use Rattle.lake_base.specs.Names.{path_fault}
use Rattle.lake_base.proofs.MapsLemmas.{put_at, put_gap, ascends_put, all_put}
use Rattle.lake_values.proofs.sorted.put_at.Goals as goal

pub returns-in-Ok-clause-put : goal.returns-in-Ok-clause-put
returns-in-Ok-clause-put g c =
    let old = c.args.items.now.items in
    ap (set old c.in-Ok.at) c.replace-old.ensures.after
    ∙ sym (put_at old c.args.path c.args.value c.in-Ok.at c.requires.ascend (rw (← c.as_slice.ensures.value) c.in-Ok.ensures))

pub returns-in-Ok-clause-ascend : goal.returns-in-Ok-clause-ascend
returns-in-Ok-clause-ascend g c =
    subst HasAscendingKeys (sym (returns-in-Ok-clause-put g c)) (ascends_put c.args.items.now.items c.args.path c.args.value c.requires.ascend)

pub returns-in_ok-insert-in-Err-clause-put : goal.returns-in_ok-insert-in-Err-clause-put
returns-in_ok-insert-in-Err-clause-put g c =
    let old = c.args.items.now.items in
    c.in_ok-insert-in-Err.ensures.items ∙ sym (put_gap old c.args.path c.args.value c.in-Err.at (rw (← c.as_slice.ensures.value) c.in-Err.ensures))

pub returns-in_ok-insert-in-Err-clause-ascend : goal.returns-in_ok-insert-in-Err-clause-ascend
returns-in_ok-insert-in-Err-clause-ascend g c =
    subst HasAscendingKeys (sym (returns-in_ok-insert-in-Err-clause-put g c)) (ascends_put c.args.items.now.items c.args.path c.args.value c.requires.ascend)

pub returns-in-Ok-clause-paths : goal.returns-in-Ok-clause-paths
returns-in-Ok-clause-paths g c = subst HasPathKeys (sym (returns-in-Ok-clause-put g c))
    (all_put (λ key. path_fault key ≡ None) c.args.path c.args.value c.args.items.now.items c.as_slice-path.ensures.valid c.requires.paths)

pub returns-in_ok-insert-in-Err-clause-paths : goal.returns-in_ok-insert-in-Err-clause-paths
returns-in_ok-insert-in-Err-clause-paths g c = subst HasPathKeys (sym (returns-in_ok-insert-in-Err-clause-put g c))
    (all_put (λ key. path_fault key ≡ None) c.args.path c.args.value c.args.items.now.items c.as_slice-path.ensures.valid c.requires.paths)
