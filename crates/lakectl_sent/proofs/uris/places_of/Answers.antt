use Rattle.std.proofs.Common.{ap, sym, ◌∙◌}
use Rattle.std.specs.Option.{option_map}
use Rattle.lakectl_sent.specs.UriPlaces.{place_seen}
use Rattle.lakectl_sent.proofs.LoopLemmas.{other_step, uri_step, uri_bad, places_done}
use Rattle.lakectl_sent.proofs.uris.places_of.Goals as goal
use Rattle.lakectl_sent.proofs.uris.places_of.Goals.{in-Uri+in-Some+in_ok-push, in_default}

pub loop-value-preserved : goal.loop-value-preserved
loop-value-preserved c =
    elim c.match-value.branch [
      | in-Uri+in-Some+in_ok-push w ↦
          rw w.places-is
          (uri_step c.args.values.now c.loop-value.value-index _ c.loop-value.places.items _ c.loop-value-test.true c.loop-value.invariant _ w.in-Some.place _
          w.in-Uri.is (sym w.place_of.ensures ∙ ap (option_map place_seen) w.in-Some.is) w.in_ok-push.ensures.items)
      | in_default w ↦
          rw w.places-is
          (other_step c.args.values.now c.loop-value.value-index _ c.loop-value.places.items _ c.loop-value-test.true
          c.loop-value.invariant w.in_default.not-Uri)
    ]

pub returns-in_default-place_of : goal.returns-in_default-place_of
returns-in_default-place_of c =
    uri_bad c.args.values.now c.loop-value.value-index _ c.loop-value.places.items _ c.loop-value-test.true c.loop-value.invariant _ c.in-Uri.is
    (sym c.place_of.ensures ∙ ap (option_map place_seen) c.in_default-place_of.is)

pub returns : goal.returns
returns c = places_done c.args.values.now c.loop-value.value-index c.loop-value.places.items _ c.loop-value-test.false c.loop-value.invariant
