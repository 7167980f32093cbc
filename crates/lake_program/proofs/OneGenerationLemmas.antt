-- The generator tells the same of the same lines.
use Rattle.std.proofs.Common.{◌≡◌, ◌||◌, ℕ, Bool, true, false, List, [], ◌∷◌, Some, Ok, Err, codes, refl, sym, ap, subst, ◌∙◌, inl}
use Rattle.std.specs.FinMap.{empty, get}
use Rattle.lake_base.specs.declared.digest.Digest.{Digest}
use Rattle.lake_base.specs.declared.outside.Trouble.TheVariants as trouble
use Rattle.lakectl_commands.specs.HeldFiles.{HeldFiles}
use Rattle.batch_lines.specs.ServedLines.{AreServed, LineEffect, LineReply, any_failed, any_starved, effect_of}
use Rattle.lake_model.specs.History.{replay}
use Rattle.lake_model.specs.Soundness.{fresh}
use Rattle.lake_model.specs.State.{Branch, Repository, State}
use Rattle.lake_model.specs.declared.history.HistoryEntry.{HistoryEntry}
use Rattle.fresh_lakes.specs.FreshLakes.{usual_cut}
use Rattle.folder_batch.specs.BatchWords.{BatchView, CommandView, IsBegun, IsTimed, LineEnds}
use Rattle.program_words.specs.declared.batch.Timing.TheVariants.{At}
use Rattle.program_words.specs.declared.generator.Generator.{Generator}
use Rattle.batch_laws.specs.LikeRuns.{AreOneRun, WentWell}
use Rattle.batch_laws.proofs.OneRunLemmas.{only_run}
use Rattle.lake_generator.specs.Counting.{any_failure, heads_done, is_failure, uploads_done}
use Rattle.lake_generator.specs.Generated.{IsTold}
use Rattle.lake_generator.specs.GeneratedLines.{generated_lines}
use Rattle.lake_generator.specs.MainHead.{HasMain, IsMainMap}
use Rattle.lake_generator.specs.Report.{told_text}
use Rattle.lake_program.specs.OneGenerations.{HasOneText}

-- ---- no file failed at a line that didn't fail

neither : (a b : Bool) → (a || b) ≡ false → (a ≡ false) × (b ≡ false)
neither false b e = (refl, e)
neither true b e = absurd cc

no_file_failed : (reply : LineReply) → is_failure (effect_of reply) ≡ false → (effect_of reply).failed ≡ false
no_file_failed (Ok shown) fine = refl
no_file_failed (Err trouble.NoMemory) fine = refl
no_file_failed (Err trouble.Failed) fine = absurd cc

none_failed : (lines : List (List ℕ)) (first last : CommandView) (effects : List LineEffect) → AreServed LineEnds lines first effects last
    → any_failure effects ≡ false → any_failed effects ≡ false
none_failed [] first last [] run fine = refl
none_failed [] first last (effect ∷ effects) run fine = absurd run
none_failed (line ∷ lines) first last [] run fine = absurd run
none_failed (line ∷ lines) first last (effect ∷ effects) (next, is, rest) fine =
    let parts = neither (is_failure effect) (any_failure effects) fine in
    let here : effect.failed ≡ false =
    subst (λ (e : LineEffect). is_failure e ≡ false → e.failed ≡ false) (sym is.comes) (no_file_failed is.reply) parts.0 in
    ap (λ b. b || any_failed effects) here ∙ none_failed lines next last effects rest parts.1

-- ---- main's head

some_is : {X : Type 0} {x y : X} → Some x ≡ Some y → x ≡ y
some_is e = cc

one_main : (state : State) (f : Repository → Branch → ℕ) (g : Repository → Branch → Digest) (paths others : ℕ) (id other : Digest)
    → HasMain state (λ r b. (paths ≡ f r b) × (id ≡ g r b)) → HasMain state (λ r b. (others ≡ f r b) × (other ≡ g r b))
    → (paths ≡ others) × (id ≡ other)
one_main state f g paths others id other (r, at, (b, head, is)) (r2, at2, (b2, head2, is2)) = by (some_is (sym at ∙ at2))
  where
    by : r ≡ r2 → (paths ≡ others) × (id ≡ other)
    by same =
        let heads : b ≡ b2 = some_is (sym head ∙ (ap (λ (q : Repository). get q.branches (codes "main")) same ∙ head2)) in
        (is.0 ∙ (ap (λ (q : Repository). f q b) same ∙ ap (f r2) heads) ∙ sym is2.0, is.1 ∙ (ap (λ (q : Repository). g q b) same ∙ ap (g r2) heads) ∙ sym is2.1)

-- ---- both runs

-- a batch that has no files, on which the lines work
abbrev no_files : HeldFiles
no_files = empty

abbrev bare : BatchView
bare = record { left = Some []; written = Some []; sink_faults = 0; readings = Some []; files = Some no_files }

module _ (asked : Generator) (text : List ℕ) (told : IsTold asked text) where
  begun : IsBegun bare told.lines.run.begin
  begun = record { seat = told.lines.run.fresh.seat; store = told.lines.run.fresh.store; files = told.lines.run.fresh.files }

  timed : IsTimed (At 0) bare bare told.lines.run.begin told.lines.run.end
  timed = (refl, told.lines.run.still)

  well : any_starved told.lines.effects ≡ false → WentWell told.lines.effects told.lines.run.end
  well memory = record {
    memory = memory;
    files = none_failed (generated_lines asked.number asked.objects) told.lines.run.begin told.lines.run.end told.lines.effects told.lines.run.each
        told.lines.fine;
    objects = told.lines.run.calm;
    pairs = told.lines.run.pairs;
  }

pub one_generation : (asked : Generator) → HasOneText asked
one_generation asked text other_text told other is =
    let lines = generated_lines asked.number asked.objects in
    let one : AreOneRun told.lines.effects other.lines.effects told.lines.run.begin told.lines.run.end other.lines.run.begin other.lines.run.end =
    only_run (At 0) lines bare bare told.lines.run.begin told.lines.effects told.lines.run.end told.lines.run.each (begun asked text told)
    (timed asked text told) (At 0) bare bare other.lines.run.begin other.lines.run.end other.lines.effects other.lines.run.each no_files
    (begun asked other_text other) (timed asked other_text other) refl refl (inl (0, refl, refl)) (well asked text told is.memory)
    (well asked other_text other is.other_memory) is.apart in
    let state = replay (fresh usual_cut) other.lines.run.end.lake.seat.seen in
    let here : IsMainMap state told.paths told.id =
    subst (λ (l : List HistoryEntry). IsMainMap (replay (fresh usual_cut) l) told.paths told.id) one.history told.head in
    let main = one_main state _ _ told.paths other.paths told.id other.id here other.head in
    told.is
    ∙ (ap (λ (effects : List LineEffect). told_text (uploads_done lines effects) (heads_done lines effects) told.paths told.id) one.lines
    ∙ ap (λ paths. told_text (uploads_done lines other.lines.effects) (heads_done lines other.lines.effects) paths told.id) main.0
    ∙ ap (λ (id : Digest). told_text (uploads_done lines other.lines.effects) (heads_done lines other.lines.effects) other.paths id) main.1)
    ∙ sym other.is
