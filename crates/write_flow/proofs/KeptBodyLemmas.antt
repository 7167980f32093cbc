-- Bodies stay fitting in a call that uploads nothing.
use Rattle.std.proofs.Common.{◌≡◌, ◌≢◌, ℕ, List, Option, Some, None, refl, sym}
use Rattle.lake_values.specs.Entry.{EntryValue}
use Rattle.lake_values.specs.declared.entry.Place.{Place}
use Rattle.lake_values.specs.declared.entry.Place.TheVariants.{External, Own}
use Rattle.lake_model.specs.Uncommitted.{own_number}
use Rattle.block_store.specs.Blocks.{HeldObjects}
use Rattle.shared_lake.specs.SeatSteps.{LakeSeat}
use Rattle.lake_calls.specs.Calls.{LinkCall, UploadCall}
use Rattle.lake_calls.specs.Courses.{link_entry}
use Rattle.lake_calls.specs.Requests.{Asks}
use Rattle.lake_calls.specs.declared.call.Call.{Call}
use Rattle.lake_calls.specs.declared.call.Call.TheVariants.{Objects}
use Rattle.lake_calls.specs.declared.objects.ObjectCall.TheVariants as object
use Rattle.lake_calls.specs.declared.reply.Done.{Done as DoneReply}
use Rattle.flow_steps.specs.declared.answer.FlowAnswer.{FlowAnswer}
use Rattle.flow_steps.specs.FlowAnswers.{BlockCounts, asked_at}
use Rattle.body_laws.specs.BodiesKept.{KeepsFitting}
use Rattle.body_laws.proofs.FlowBodyLemmas.{fits_unchanged}
use Rattle.write_flow.specs.declared.answer.Done.{Done}
use Rattle.write_flow.specs.declared.answer.FlowFault.{FlowFault}
use Rattle.write_flow.specs.WriteFlows.{IsAnswer}

pub keeps_fitting : (old new : LakeSeat) (number : ℕ) (call : Call) (moment : ℕ) (Tells : Option EntryValue → DoneReply → Type 0)
    (blocks : BlockCounts) (changed : ℕ) (answer : FlowAnswer Done FlowFault) (held : Option HeldObjects)
    → IsAnswer old new number call moment Tells blocks changed answer → ((u : UploadCall) → Asks call ≢ Asks (Objects (object.Upload u)))
    → KeepsFitting old new held held
keeps_fitting old new number call moment Tells blocks changed answer held is none =
    fits_unchanged old new number (asked_at call moment) is.met is.told answer.position answer.edge held held is.flow none refl

-- a call that links an entry of an object outside
pub link_of : (repo branch path : List ℕ) (entry : EntryValue) (moment : ℕ) → own_number entry.place ≡ None
    → (c : LinkCall) × (c.repo ≡ repo) × (c.branch ≡ branch) × (c.path ≡ path) × (link_entry c moment ≡ entry)
link_of repo branch path entry moment outside = by_place entry.place refl outside
  where
    by_place : (place : Place) → entry.place ≡ place → own_number place ≡ None
        → (c : LinkCall) × (c.repo ≡ repo) × (c.branch ≡ branch) × (c.path ≡ path) × (link_entry c moment ≡ entry)
    by_place (Own number digest) at none = absurd cc
    by_place (External address checksum) at none = (
      record {
        repo = repo;
        branch = branch;
        path = path;
        address = address;
        checksum = checksum;
        size = entry.size;
        mtime = Some entry.mtime;
        content_type = entry.content_type;
        metadata = entry.metadata;
      },
      refl,
      refl,
      refl,
      λ i. record entry { place = sym at i },
    )
