-- What a lake hands out for a new head, drafted.
use Rattle.std.proofs.Common.{◌≡◌, Option, refl, sym, ap, subst}
use Rattle.std.specs.Prelude.{Result, Ok, Err, IfSome}
use Rattle.meta_range.specs.Ranges.{TreeValue}
use Rattle.lake_model.specs.declared.fault.StepFault.{StepFault}
use Rattle.lake_model.specs.declared.reply.Sides.{Sides}
use Rattle.lake_model.specs.Preparing.{PreparedValue, prepare_reply}
use Rattle.lake_model.specs.Refusals.{Gives}
use Rattle.lake_model.specs.Soundness.{IsSound}
use Rattle.lake_model.specs.State.{State}
use Rattle.lake_model.specs.Versions.{AreBelowNext, VersionsGiven}
use Rattle.lake_laws.proofs.SoundnessLemmas.{IsSound-replay}
use Rattle.core_puts.specs.KeeperViews.{KeeperView}
use Rattle.core_readings.specs.Preparations.{HasSides}
use Rattle.core_state.specs.Counts.{versions_of}
use Rattle.core_state.specs.LakeStates.{lake_value, state_of}
use Rattle.lake_core.specs.Lakes.{LakeValue, state, versions}
use Rattle.shared_lake.specs.SeatSteps.{Finds, IsRead, LakeSeat}
use Rattle.head_drafts.specs.Drafts.{DraftedMap, IsDraft, drafted_map}
use Rattle.head_drafts.specs.HeadDrafts.{IsHeadReply, IsReadingReply, sides_of, strategy_of}
use Rattle.head_drafts.specs.declared.fault.DraftFault.{DraftFault}
use Rattle.head_drafts.specs.declared.fault.DraftFault.TheVariants.{NoMemory}
use Rattle.head_drafts.specs.declared.fault.HeadFault.{HeadFault}
use Rattle.head_drafts.specs.declared.fault.HeadFault.TheVariants.{Step, Draft}
use Rattle.head_drafts.specs.declared.heads.HeadDraft.{HeadDraft}
use Rattle.head_drafts.proofs.ReadingLemmas.{reading_reply, refuses_as}
use Rattle.head_drafts.proofs.ReadyLemmas.{drafted, handed_there, refused_draft, refused_step, some_sides}
use Rattle.head_drafts.proofs.WaitingLemmas.{below_after, waits}
use Rattle.head_steps.specs.NewHeads.{IsDraftedIn, NewHead, early_refusal}

-- what a reading tells of the lake that it found, it tells of what follows from that
pub reads_as : {K : Type 0} (view : KeeperView K) (old new : LakeSeat) (Answers Others : LakeValue K → Type 0) → IsRead view old new Answers
    → ((l : LakeValue K) → Finds view old l → Answers l → Others l) → IsRead view old new Others
reads_as view old new Answers Others read follows =
    record { found = read.found; finds = read.finds; answer = follows read.found read.finds read.answer; seat = read.seat; own = read.own }

-- ---- in a state

-- the map that is drafted for a new head
abbrev pub map_for : NewHead → PreparedValue → DraftedMap
map_for head p = drafted_map (strategy_of head.kind) p head.branch head.about.metadata

module _ (head : NewHead) (state : State) (given : VersionsGiven) where
  abbrev reply : Result PreparedValue StepFault
  reply = prepare_reply state given head.repo head.branch (sides_of head.kind)

  told : (answer : Result HeadDraft HeadFault) → IsHeadReply reply (map_for head) answer → IsReadingReply (early_refusal head state) answer
  told answer is = reading_reply (map_for head) (early_refusal head state) reply answer (refuses_as state given head.repo head.branch head.kind head.about) is

  pub none_handed : (fault : StepFault) → Gives {X = PreparedValue} (Err fault) reply → IsDraftedIn head state given (Err (Step fault))
  none_handed fault gives = record {
    reading = told (Err (Step fault)) (refused_step reply (map_for head) fault gives);
    version = tt;
    settings = tt;
    waits = tt;
  }

  pub none_drafted : (p : PreparedValue) (fault : DraftFault) → reply ≡ Ok p → IsDraft p.cut (map_for head p) (Err fault)
      → IsDraftedIn head state given (Err (Draft fault))
  none_drafted p fault is made = record {
    reading = told (Err (Draft fault)) (refused_draft reply (map_for head) p fault is made);
    version = tt;
    settings = tt;
    waits = tt;
  }

  pub none_copied : IsDraftedIn head state given (Err (Draft NoMemory))
  none_copied = record { reading = tt; version = tt; settings = tt; waits = tt }

  pub one_drafted : (p : PreparedValue) (tree : TreeValue) → IsSound state → AreBelowNext given → IfSome (sides_of head.kind) (HasSides state head.repo)
      → reply ≡ Ok p → IsDraft p.cut (map_for head p) (Ok tree)
      → IsDraftedIn head state given (Ok (record { version = p.version; settings = p.settings; tree = tree }))
  one_drafted p tree sound below sides is made =
      let there = handed_there state given head.repo head.branch (sides_of head.kind) p is in
      record {
        reading = told (Ok (record { version = p.version; settings = p.settings; tree = tree }))
            (drafted reply (map_for head) p (record { version = p.version; settings = p.settings; tree = tree }) is
            (record { version = refl; settings = refl; draft = made }));
        version = ap (λ (q : PreparedValue). q.version) (sym there.same);
        settings = ap (λ (q : PreparedValue). q.settings) (sym there.same);
        waits = waits state given head.repo head.branch head.kind head.about p tree is
            (some_sides (HasSides state head.repo) (sides_of head.kind) sides) sound below made;
      }

-- ---- of a lake that a seat found

module _ {K : Type 0} (view : KeeperView K) (old new : LakeSeat) (head : NewHead) (sides : Option Sides) (same : sides ≡ sides_of head.kind) where
  abbrev pub Replies : Result PreparedValue StepFault → LakeValue K → Type 0
  Replies answer l = Gives answer (prepare_reply (state l) (versions l) head.repo head.branch sides)

  abbrev Drafts : Result HeadDraft HeadFault → LakeValue K → Type 0
  Drafts result l = IsDraftedIn head (state l) (versions l) result

  as_asked : (l : LakeValue K) (answer : Result PreparedValue StepFault) → Replies answer l → Gives answer (reply head (state l) (versions l))
  as_asked l answer gives = subst (λ s. Gives answer (prepare_reply (state l) (versions l) head.repo head.branch s)) same gives

  pub not_handed : (fault : StepFault) → IsRead view old new (Replies (Err fault)) → IsRead view old new (Drafts (Err (Step fault)))
  not_handed fault read = reads_as view old new (Replies (Err fault)) (Drafts (Err (Step fault))) read
      (λ l finds gives. none_handed head (state l) (versions l) fault (as_asked l (Err fault) gives))

  pub not_drafted : (p : PreparedValue) (fault : DraftFault) → IsRead view old new (Replies (Ok p)) → IsDraft p.cut (map_for head p) (Err fault)
      → IsRead view old new (Drafts (Err (Draft fault)))
  not_drafted p fault read made = reads_as view old new (Replies (Ok p)) (Drafts (Err (Draft fault))) read
      (λ l finds gives. none_drafted head (state l) (versions l) p fault (sym (as_asked l (Ok p) gives)) made)

  pub not_copied : (p : PreparedValue) → IsRead view old new (Replies (Ok p)) → IsRead view old new (Drafts (Err (Draft NoMemory)))
  not_copied p read = reads_as view old new (Replies (Ok p)) (Drafts (Err (Draft NoMemory))) read
      (λ l finds gives. none_copied head (state l) (versions l))

  pub was_drafted : (p : PreparedValue) (tree : TreeValue)
      → ((found : LakeValue K) → Finds view old found → IfSome (sides_of head.kind) (HasSides (state found) head.repo))
      → IsRead view old new (Replies (Ok p)) → IsDraft p.cut (map_for head p) (Ok tree)
      → IsRead view old new (Drafts (Ok (record { version = p.version; settings = p.settings; tree = tree })))
  was_drafted p tree sides_there read made =
      reads_as view old new (Replies (Ok p)) (Drafts (Ok (record { version = p.version; settings = p.settings; tree = tree }))) read
      (λ l finds gives.
      let stands = finds.holds.stands in
      one_drafted head (state l) (versions l) p tree
      (IsSound-replay (state_of (lake_value l.opened)) l.history stands.sound stands.legal)
      (below_after (versions_of (lake_value l.opened)) l.history stands.versions_below) (sides_there l finds) (sym (as_asked l (Ok p) gives)) made)
