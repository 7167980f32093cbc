use Rattle.lake_generator.proofs.GenerateLemmas.{told_by, told_so}
use Rattle.lake_generator.proofs.run.told_at.Goals as goal

pub returns-in-Err : goal.returns-in-Err
returns-in-Err g c = c.in-Err.ensures.runs (c.close_lone_lake.ensures.none c.run_lines.ensures.main.alone)

pub returns-in-Ok-last_head : goal.returns-in-Ok-last_head
returns-in-Ok-last_head g c =
    let asked = c.args.asked in
    let counts = c.in-Ok.counts in
    let runs = c.in-Ok.ensures.runs c.last_head.ensures.none in
    let head = c.in-Ok-last_head.ensures.head in
    told_by asked (λ text. text.items) c.told_of_counts.result _ runs.lines
    (λ text is. told_so asked counts c.run_lines.new.lines.seat c.in-Ok-last_head.paths c.in-Ok-last_head.id text runs head is)
    c.told_of_counts.ensures
