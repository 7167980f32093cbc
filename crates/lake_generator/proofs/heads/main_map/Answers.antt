use Rattle.std.proofs.Common.{ap, sym, ◌∙◌}
use Rattle.std.specs.FinMap.{len}
use Rattle.lake_format.specs.Spelling.{file_name}
use Rattle.meta_range.specs.Ranges.{TreeValue, first_file}
use Rattle.core_readings.specs.Preparations.{prepared_value}
use Rattle.lake_generator.proofs.HeadLemmas.{main_of, seat_stays, starved}
use Rattle.lake_generator.proofs.heads.main_map.Goals as goal

pub no_memory-requires : goal.no_memory-requires
no_memory-requires g c =
    starved _ c.args.seat.now c.prepare.new.seat c.in_ok-repo.repo c.in_ok-branch.branch c.in_ok-repo.ensures c.in_ok-branch.ensures c.requires.main
    c.in-Err.fault c.in-Err.ensures.step

pub returns-in-Ok-clause-map : goal.returns-in-Ok-clause-map
returns-in-Ok-clause-map g c =
    let p = prepared_value c.in-Ok.prepared in
    main_of _ c.args.seat.now c.prepare.new.seat c.in_ok-repo.repo c.in_ok-branch.branch c.in_ok-repo.ensures c.in_ok-branch.ensures c.requires.main
    p c.paths_of.result c.name.result c.in-Ok.ensures.step (c.paths_of.ensures ∙ ap (λ (t : TreeValue). len t.map) c.deref.ensures)
    (c.name.ensures ∙ ap (λ (t : TreeValue). file_name (first_file t.files)) c.deref-in-Ok.ensures
    ∙ ap (λ files. file_name (first_file files)) c.in-Ok.ensures.tree ∙ sym (c.law_of_names.ensures.first p.cut p.objects))

pub returns-in-Ok-clause-same : goal.returns-in-Ok-clause-same
returns-in-Ok-clause-same g c = seat_stays _ c.args.seat.now c.prepare.new.seat _ c.requires.main c.in-Ok.ensures.step

pub returns-clause-same : goal.returns-clause-same
returns-clause-same g c = seat_stays _ c.args.seat.now c.prepare.new.seat _ c.requires.main c.in-Err.ensures.step
