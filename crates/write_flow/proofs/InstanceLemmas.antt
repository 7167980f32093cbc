-- The calls that are served by a guarded change of a branch.
use Rattle.std.proofs.Common.{◌≡◌, ℕ, List, [], ◌∷◌, ◌++◌, Option, Some, None, refl, sym, ap, subst}
use Rattle.std.specs.Option.{option_or}
use Rattle.lake_values.specs.Entry.{EntryValue}
use Rattle.lake_values.specs.declared.entry.Change.{Change}
use Rattle.lake_values.specs.declared.entry.Change.TheVariants as change
use Rattle.lake_model.specs.declared.history.CopySource.{CopySource}
use Rattle.lake_model.specs.declared.history.Operation.{Operation}
use Rattle.lake_model.specs.declared.history.Operation.TheVariants.{Copy, Stage}
use Rattle.lake_model.specs.State.{State}
use Rattle.lake_calls.specs.Calls.{LinkCall}
use Rattle.lake_calls.specs.CallExceptions.{CallMet}
use Rattle.lake_calls.specs.CallRefusals.{StepPasses}
use Rattle.lake_calls.specs.Courses.{CallPoint, Fixed, Looks, Makes, call_course, copied_from, link_entry, nothing_fixed}
use Rattle.lake_calls.specs.DoneReplies.{IsDone}
use Rattle.lake_calls.specs.declared.call.Call.{Call}
use Rattle.lake_calls.specs.declared.call.Call.TheVariants.{Objects}
use Rattle.lake_calls.specs.declared.objects.CopyCall.{CopyCall}
use Rattle.lake_calls.specs.declared.objects.DeleteCall.{DeleteCall}
use Rattle.lake_calls.specs.declared.objects.ObjectCall.TheVariants as object
use Rattle.lake_calls.specs.declared.reply.Done.{Done as DoneReply}
use Rattle.lake_calls.specs.declared.reply.Done.TheVariants as done
use Rattle.flow_steps.specs.FlowTries.{copying, staging}
use Rattle.write_flow.specs.WriteFlows.{IsCopyTold}
use Rattle.write_flow.proofs.ServingLemmas.{Serves}

-- ---- what is told of a change, with what was put

pub told_without : (copied : Option EntryValue) (what told : DoneReply) → (copied ≡ None) × (what ≡ told) → (option_or copied None ≡ None) × (what ≡ told)
told_without copied what told is = (ap (λ o. option_or o None) is.0, is.1)

pub told_with : (put : EntryValue) (copied : Option EntryValue) (what told : DoneReply) → (copied ≡ None) × (what ≡ told)
    → (option_or copied (Some put) ≡ Some put) × (what ≡ told)
told_with put copied what told is = (ap (λ o. option_or o (Some put)) is.0, is.1)

-- ---- a change that is staged

module _ (call : Call) (moment : ℕ) (front : List CallPoint) (repo branch path : List ℕ) (put : Change) (fixed : Fixed)
    (course : call_course call moment fixed ≡ front ++ Looks repo branch ∷ Makes (Stage repo branch path put) ∷ []) (what : DoneReply)
    (done : (s : State) (met : CallMet) → IsDone call moment fixed met s what) (Tells : Option EntryValue → DoneReply → Type 0) (tells : Tells None what) where
  abbrev MadeBy : State → Option EntryValue → Operation → Type 0
  MadeBy s entry operation = (fixed : Fixed) × (call_course call moment fixed ≡ front ++ Looks repo branch ∷ Makes operation ∷ []) × StepPasses s call operation
      × ((met : CallMet) → (done : DoneReply) × IsDone call moment fixed met s done × Tells entry done)

  pub stages : Serves call moment front repo branch (staging repo branch path put) Tells
  stages = record {
    early = λ s. refl;
    guards = λ given. refl;
    some = Stage repo branch path put;
    some_fixed = fixed;
    some_course = course;
    some_causes = λ s. refl;
    some_plain = λ s. refl;
    some_guard = refl;
    makes = λ s entry operation late makes.
        subst (λ o. MadeBy s entry o) (sym makes.1)
        (subst (λ told. MadeBy s told (Stage repo branch path put)) (sym makes.0)
        (fixed, course, record { none = late; no_clash = refl; worth = tt; fixes = tt }, λ met. (what, done s met, tells)));
  }

-- an object is deleted
pub deletes : (c : DeleteCall) (moment : ℕ)
    → Serves (Objects (object.Delete c)) moment [] c.repo c.branch (staging c.repo c.branch c.path change.Delete)
    (λ entry told. (entry ≡ None) × (told ≡ done.ObjectDeleted))
deletes c moment = stages (Objects (object.Delete c)) moment [] c.repo c.branch c.path change.Delete nothing_fixed refl done.ObjectDeleted (λ s met. refl)
    (λ entry told. (entry ≡ None) × (told ≡ done.ObjectDeleted)) (refl, refl)

-- an object outside is linked
pub links : (c : LinkCall) (moment : ℕ)
    → Serves (Objects (object.Link c)) moment [] c.repo c.branch (staging c.repo c.branch c.path (change.Put (link_entry c moment)))
    (λ entry told. (entry ≡ None) × (told ≡ done.Linked (record { path = c.path; entry = link_entry c moment })))
links c moment = stages (Objects (object.Link c)) moment [] c.repo c.branch c.path (change.Put (link_entry c moment)) nothing_fixed refl
    (done.Linked (record { path = c.path; entry = link_entry c moment })) (λ s met. refl)
    (λ entry told. (entry ≡ None) × (told ≡ done.Linked (record { path = c.path; entry = link_entry c moment }))) (refl, refl)

-- ---- an entry that is copied

abbrev CopyTells : CopyCall → Option EntryValue → DoneReply → Type 0
CopyTells c = IsCopyTold c.path

abbrev copy_fixed : CopySource → EntryValue → Fixed
copy_fixed source entry = record nothing_fixed { source = source; entry = entry }

abbrev CopyMade : CopyCall → ℕ → State → Option EntryValue → Operation → Type 0
CopyMade c moment s entry operation = (fixed : Fixed)
    × (call_course (Objects (object.Copy c)) moment fixed ≡ Looks c.repo c.branch ∷ Makes operation ∷ []) × StepPasses s (Objects (object.Copy c)) operation
    × ((met : CallMet) → (done : DoneReply) × IsDone (Objects (object.Copy c)) moment fixed met s done × CopyTells c entry done)

pub copies : (c : CopyCall) (moment : ℕ)
    → Serves (Objects (object.Copy c)) moment [] c.repo c.branch (copying c.repo c.branch c.path (copied_from c).e c.source_path) (CopyTells c)
copies c moment = record {
  early = λ s. refl;
  guards = λ given. refl;
  some = Copy c.repo c.branch c.path nothing_fixed.source c.source_path nothing_fixed.entry;
  some_fixed = nothing_fixed;
  some_course = refl;
  some_causes = λ s. refl;
  some_plain = λ s. refl;
  some_guard = refl;
  makes = λ s entry operation late makes.
      subst (λ o. CopyMade c moment s entry o) (sym makes.5)
      (subst (λ told. CopyMade c moment s told (Copy c.repo c.branch c.path makes.0 c.source_path makes.1)) (sym makes.4) (
        copy_fixed makes.0 makes.1,
        refl,
        record { none = late; no_clash = refl; worth = tt; fixes = (makes.2, makes.3) },
        λ met. (done.Copied (record { path = c.path; entry = makes.1 }), refl, (makes.1, refl, refl)),
      ));
}

pub copied_told : (path : List ℕ) (copied : Option EntryValue) (what : DoneReply) → IsCopyTold path copied what → IsCopyTold path (option_or copied None) what
copied_told path copied what tells = (tells.0, ap (λ o. option_or o None) tells.1, tells.2)
