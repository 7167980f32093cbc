-- The one-seat course of a call has one value, whatever was met, but for contents that clash.
use Rattle.std.proofs.Common.{◌≡◌, ℕ, Bool, true, false, List, [], ◌∷◌, ◌++◌, length, refl, ap, sym, ◌∙◌, subst}
use Rattle.std.specs.Prelude.{Option, Some, None, if◌then◌else◌}
use mathlib.Core.Logic.{inl, inr}
use Rattle.lake_base.specs.Digest.{sha256}
use Rattle.lake_values.specs.Body.{Fits, HasDigest}
use Rattle.lake_values.specs.Entry.{EntryValue}
use Rattle.lake_values.specs.declared.entry.Place.{Place}
use Rattle.lake_values.specs.declared.entry.Place.TheVariants.{Own, External}
use Rattle.call_placement.specs.Rules.{Caller, Rules}
use Rattle.call_placement.specs.Served.{IsServed}
use Rattle.call_placement.specs.Alone.{AreOwn, DoneAlone, EndsAlone, GoesAlone, IsDetermined, IsPlain, RefusedAlone}
use Rattle.call_placement.proofs.AloneLemmas.{goes_alone}
use Rattle.call_placement.proofs.OneValueLemmas.{one_value}
use Rattle.lake_model.specs.declared.history.HistoryEntry.{HistoryEntry}
use Rattle.lake_model.specs.declared.history.Operation.{Operation}
use Rattle.lake_model.specs.State.{State}
use Rattle.lake_calls.specs.CallExceptions.{CallMet, IsException}
use Rattle.lake_calls.specs.Courses.{CallPoint, Answers, Finds, Fixed, Looks, Makes, Prepares, ResolvesParent, ResolvesSource}
use Rattle.lake_calls.specs.DoneReplies.{IsDone, IsObject, is_upload}
use Rattle.lake_calls.specs.LakeRules.{AskedRefused, IsAnswerOf, lake_rules}
use Rattle.lake_calls.specs.NoClashes.{AreOneButForClash, TellsClash}
use Rattle.lake_calls.specs.Requests.{Asks, CallRequest}
use Rattle.lake_calls.specs.declared.call.Call.{Call}
use Rattle.lake_calls.specs.declared.call.Call.TheVariants.{Objects}
use Rattle.lake_calls.specs.declared.objects.ObjectCall.TheVariants as object
use Rattle.lake_calls.specs.declared.objects.ReadCall.{ReadCall}
use Rattle.lake_calls.specs.declared.reply.CallReply.{CallReply}
use Rattle.lake_calls.specs.declared.reply.CallReply.TheVariants as reply
use Rattle.lake_calls.specs.declared.reply.Done.{Done}
use Rattle.lake_calls.specs.declared.reply.Done.TheVariants as done
use Rattle.lake_calls.specs.declared.reply.Refusal.TheVariants as refusal
use Rattle.lake_calls.proofs.DeterminedLemmas.{alike_at, courses_alike, no_front, one_answer}
use Rattle.lake_calls.proofs.RuleLemmas.{lawful}
use Rattle.lake_calls.proofs.ShownLemmas.{is_of_clash}
use Rattle.seat_laws.specs.LikeReplies.{AreLikeBodies, AreLikeReplies, GiveBodies, Same, TellClashes}
use Rattle.seat_laws.specs.Troubles.{is_trouble}

-- ---- a reply as far as it is one

-- a reply without an object's bytes
abbrev bare : CallReply → CallReply
bare (reply.Done (done.Object content_type body)) = reply.Done (done.Object content_type [])
bare told = told

-- the bytes of an object, if it gives them
abbrev body_of : CallReply → List ℕ
body_of (reply.Done (done.Object content_type body)) = body
body_of told = []

abbrev gives_body : CallReply → Bool
gives_body (reply.Done (done.Object content_type body)) = true
gives_body told = false

-- what is one of a reply that tells of no clash: all but the bytes, and of these their length and their SHA-256
record Seen : Type 0 where
  pub told : CallReply
  pub size : ℕ
  pub digest : List ℕ

abbrev view : CallReply → Seen
view told = record { told = bare told; size = length (body_of told); digest = sha256 (body_of told) }

abbrev unless : Bool → CallReply → Option Seen
unless clash told = if clash then None else Some (view told)

abbrev seen : CallReply → Option Seen
seen told = unless (is_of_clash told) told

of_clash : (told : CallReply) → is_of_clash told ≡ true → TellsClash told
of_clash (reply.Refused (refusal.NameClash name)) is = (name, refl)
of_clash told is = absurd (cc (is))

seen_same : (told other : CallReply) → AreOneButForClash told other → seen told ≡ seen other
seen_same told other (inl one) = ap seen one
seen_same told other (inr both) = ap seen both.0.1 ∙ sym (ap seen both.1.1)

bare_same : (told : CallReply) → gives_body told ≡ false → bare told ≡ told
bare_same (reply.Done (done.Object content_type body)) is = absurd (cc (is))
bare_same told is = refl

gives : (told : CallReply) → gives_body told ≡ true
    → (content_type : List ℕ) × (body : List ℕ) × (told ≡ reply.Done (done.Object content_type body))
gives (reply.Done (done.Object content_type body)) is = (content_type, body, refl)
gives told is = absurd (cc (is))

-- two that are seen alike give bytes both, or neither
bare_gives : (told : CallReply) → gives_body (bare told) ≡ gives_body told
bare_gives (reply.Done (done.Object content_type body)) = refl
bare_gives told = refl

abbrev type_of : CallReply → List ℕ
type_of (reply.Done (done.Object content_type body)) = content_type
type_of told = []

view_like : (told other : CallReply) (x y : Bool) → gives_body told ≡ x → gives_body other ≡ y → view told ≡ view other → AreLikeReplies told other
view_like told other false false a b same =
    Same (sym (bare_same told a) ∙ (ap (λ (s : Seen). s.told) same ∙ bare_same other b))
view_like told other true false a b same =
    let both = sym a ∙ (sym (bare_gives told) ∙ (ap (λ (s : Seen). gives_body s.told) same ∙ (bare_gives other ∙ b))) in absurd (cc (both))
view_like told other false true a b same =
    let both = sym a ∙ (sym (bare_gives told) ∙ (ap (λ (s : Seen). gives_body s.told) same ∙ (bare_gives other ∙ b))) in absurd (cc (both))
view_like told other true true a b same =
    let one = gives told a in
    let two = gives other b in
    let views : view (reply.Done (done.Object one.0 one.1)) ≡ view (reply.Done (done.Object two.0 two.1)) =
    sym (ap view one.2) ∙ (same ∙ ap view two.2) in
    let types : one.0 ≡ two.0 = ap (λ (s : Seen). type_of s.told) views in
    GiveBodies one.0 one.1 two.1 one.2 (two.2 ∙ ap (λ t. reply.Done (done.Object t two.1)) (sym types))
    (record { size = ap (λ (s : Seen). s.size) views; digest = ap (λ (s : Seen). s.digest) views })

seen_kinds : (x y : Bool) (told other : CallReply) → is_of_clash told ≡ x → is_of_clash other ≡ y → seen told ≡ seen other → AreLikeReplies told other
seen_kinds true true told other a b same = TellClashes (of_clash told a) (of_clash other b)
seen_kinds true false told other a b same =
    let none : None ≡ Some (view other) = sym (ap (λ c. unless c told) a) ∙ (same ∙ ap (λ c. unless c other) b) in absurd (cc (none))
seen_kinds false true told other a b same =
    let none : Some (view told) ≡ None = sym (ap (λ c. unless c told) a) ∙ (same ∙ ap (λ c. unless c other) b) in absurd (cc (none))
seen_kinds false false told other a b same =
    let one : Some (view told) ≡ Some (view other) = sym (ap (λ c. unless c told) a) ∙ (same ∙ ap (λ c. unless c other) b) in
    let views : view told ≡ view other = cc (one) in
    view_like told other (gives_body told) (gives_body other) refl refl views

seen_like : (told other : CallReply) → seen told ≡ seen other → AreLikeReplies told other
seen_like told other same = seen_kinds (is_of_clash told) (is_of_clash other) told other refl refl same

-- ---- the rules of the lake's calls, by what is seen of replies, whatever was met

abbrev like_rules : Rules HistoryEntry State Operation CallRequest Fixed CallPoint (Unit {0}) (Option Seen)
like_rules = record {
  maker = lake_rules.maker;
  accepted = lake_rules.accepted;
  faulted = lake_rules.faulted;
  after = lake_rules.after;
  is_shut = lake_rules.is_shut;
  form = λ request. None;
  course = lake_rules.course;
  makes = lake_rules.makes;
  passes = lake_rules.passes;
  refuses = λ by request point state some. (told : CallReply) × AskedRefused request.asked point state told × (some ≡ seen told);
  answers = λ by request any course state some.
      (met : CallMet) × (told : CallReply) × IsAnswerOf request.asked request.moment met course state told × (some ≡ seen told);
  excepts = λ by request left any opened from found some. ⊥;
  excepts_behind = λ by request any opened from found some. ⊥;
  store_fails = λ any some. ⊥;
  is_no_memory = λ some. ⊥;
  owed = lake_rules.owed;
  is_done = λ some. true;
}

-- ---- what is told of a course

-- bodies that fit one entry are alike
same_digest : (place : Place) (body other : List ℕ) → HasDigest place body → HasDigest place other → sha256 body ≡ sha256 other
same_digest (Own number digest) body other a b = a ∙ sym b
same_digest (External at checksum) body other a b = absurd a

like_bodies : (entry : EntryValue) (body other : List ℕ) → Fits entry body → Fits entry other → AreLikeBodies body other
like_bodies entry body other a b = record { size = a.size ∙ sym b.size; digest = same_digest entry.place body other a.digest b.digest }

one_object : (c : ReadCall) (met other_met : CallMet) (state : State) (x y : Done) → IsObject c met state x → IsObject c other_met state y
    → seen (reply.Done x) ≡ seen (reply.Done y)
one_object c met other_met state x y a b =
    let entry : a.0 ≡ b.0 = cc (a.2, b.2) in
    let type : a.0.content_type ≡ b.0.content_type = ap (λ (e : EntryValue). e.content_type) entry in
    let like = like_bodies b.0 a.1 b.1 (subst (λ e. Fits e a.1) entry a.4) b.4 in
    let views : view (reply.Done (done.Object a.0.content_type a.1)) ≡ view (reply.Done (done.Object b.0.content_type b.1)) =
    λ i. record { told = reply.Done (done.Object (type i) []); size = like.size i; digest = like.digest i } in
    ap (λ d. seen (reply.Done d)) a.5 ∙ (ap Some views ∙ sym (ap (λ d. seen (reply.Done d)) b.5))

-- whether a call reads an object's bytes
abbrev reads_object : Call → Bool
reads_object (Objects (object.Read c)) = true
reads_object call = false

-- what other calls are told depends on nothing that they met
other_met : (call : Call) (moment : ℕ) (fixed : Fixed) (met other : CallMet) (state : State) (told : Done) → reads_object call ≡ false
    → IsDone call moment fixed met state told → IsDone call moment fixed other state told
other_met (Objects (object.Read c)) moment fixed met other state told is done = absurd (cc (is))
other_met call moment fixed met other state told is done = done

one_seen : (call : Call) (reads : Bool) (moment : ℕ) (met other : CallMet) (course : List CallPoint) (state : State) (x y : CallReply)
    → reads_object call ≡ reads
    → IsAnswerOf (Asks call) moment met course state x → IsAnswerOf (Asks call) moment other course state y → seen x ≡ seen y
one_seen (Objects (object.Read c)) true moment met other course state x y is a b =
    ap seen a.4 ∙ (one_object c met other state a.2 b.2 a.3 b.3 ∙ sym (ap seen b.4))
one_seen call true moment met other course state x y is a b = absurd (cc (is))
one_seen call false moment met other course state x y is a b =
    ap seen (one_answer call moment met course state x y a (b.0, b.1, b.2, other_met call moment b.0 other met state b.2 is b.3, b.4))

like_determined : (call : Call) (moment : ℕ) → IsDetermined like_rules (record { asked = Asks call; moment = moment })
like_determined call moment = record {
  one_point = λ by f g passed p q later rest state one two a b.
      (alike_at call _ _ passed p q later rest (courses_alike call moment f g) one two).one state a b;
  not_both = λ by f g passed p q later rest state some one two a b.
      (alike_at call _ _ passed p q later rest (courses_alike call moment f g) one two).apart state b.0 a b.1;
  one_refusal = λ by f g passed p q later rest state some other one two a b.
      a.2 ∙ (seen_same a.0 b.0 ((alike_at call _ _ passed p q later rest (courses_alike call moment f g) one two).like state a.0 b.0 a.1 b.1) ∙ sym b.2);
  no_front = λ f g next later is. no_front call moment f g next later is;
  one_answer = λ by any course state some other a b.
      a.3 ∙ (one_seen call (reads_object call) moment a.0 b.0 course state a.1 b.1 refl a.2 b.2 ∙ sym b.3);
}

-- ---- a call that is told of no trouble goes the one-seat course

no_trouble : (told other : CallReply) → told ≡ other → is_trouble other ≡ true → is_trouble told ≡ false → ⊥
no_trouble told other is trouble calm = let both = sym calm ∙ (ap is_trouble is ∙ trouble) in absurd (cc (both))

not_excepted : (seat : ℕ) (uploads : Bool) (left : List CallPoint) (met : CallMet) (opened : State) (from : ℕ) (found : List HistoryEntry)
    (told : CallReply) → is_trouble told ≡ false → IsException seat uploads left met opened from found told → ⊥
not_excepted seat uploads [] met opened from found told calm (inl is) = no_trouble told _ is.1 refl calm
not_excepted seat uploads [] met opened from found told calm (inr is) = no_trouble told _ is.1 refl calm
not_excepted seat uploads (Finds c ∷ points) met opened from found told calm (inl is) = no_trouble told _ is.1 refl calm
not_excepted seat uploads (Finds c ∷ points) met opened from found told calm (inr (inl is)) = no_trouble told _ is.1 refl calm
not_excepted seat uploads (Finds c ∷ points) met opened from found told calm (inr (inr (inl is))) = no_trouble told _ is.1 refl calm
not_excepted seat uploads (Finds c ∷ points) met opened from found told calm (inr (inr (inr is))) = no_trouble told _ is.1 refl calm
not_excepted seat uploads (Answers ∷ points) met opened from found told calm (inl is) = no_trouble told _ is.1 refl calm
not_excepted seat uploads (Answers ∷ points) met opened from found told calm (inr is) = no_trouble told _ is.1 refl calm
not_excepted seat uploads (ResolvesSource id ∷ points) met opened from found told calm (inl is) = no_trouble told _ is.1 refl calm
not_excepted seat uploads (ResolvesSource id ∷ points) met opened from found told calm (inr is) = no_trouble told _ is.1 refl calm
not_excepted seat uploads (ResolvesParent a b m ∷ points) met opened from found told calm (inl is) = no_trouble told _ is.1 refl calm
not_excepted seat uploads (ResolvesParent a b m ∷ points) met opened from found told calm (inr is) = no_trouble told _ is.1 refl calm
not_excepted seat uploads (Looks r b ∷ points) met opened from found told calm (inl is) = no_trouble told _ is.1 refl calm
not_excepted seat uploads (Looks r b ∷ points) met opened from found told calm (inr is) = no_trouble told _ is.1 refl calm
not_excepted seat uploads (Prepares r b k a ∷ points) met opened from found told calm (inl is) = no_trouble told _ is.1 refl calm
not_excepted seat uploads (Prepares r b k a ∷ points) met opened from found told calm (inr is) = no_trouble told _ is.1 refl calm
not_excepted seat uploads (Makes o ∷ points) met opened from found told calm (inl is) = no_trouble told _ is.1 refl calm
not_excepted seat uploads (Makes o ∷ points) met opened from found told calm (inr is) = no_trouble told _ is.1 refl calm

module _ (call : Call) (moment : ℕ) (opened : State) (by : Caller) (before : List HistoryEntry) where
  abbrev request : CallRequest
  request = record { asked = Asks call; moment = moment }

  plain : (met : CallMet) (told : CallReply) → is_trouble told ≡ false → IsPlain lake_rules opened by before request met told
  plain met told calm = record {
    memory = λ is. no_trouble told _ is refl calm;
    store = λ fails. no_trouble told _ fails.1 refl calm;
    cause = λ left added some own excepts.
        not_excepted by.seat (is_upload call) left met opened (length before) (before ++ added) told calm excepts;
    late_cause = λ added own never. never;
  }

  like_end : (met : CallMet) (course passed left : List CallPoint) (state : State) (told : CallReply) (more : List HistoryEntry)
      → EndsAlone lake_rules by request met course passed left state told more
      → EndsAlone like_rules by request tt course passed left state (seen told) more
  like_end met course passed left state told more (DoneAlone last is passes answers added) = DoneAlone last is passes (met, told, answers, refl) added
  like_end met course passed left state told more (RefusedAlone point later is refuses added) =
      RefusedAlone point later is (told, refuses, refl) added

  goes_like : (met : CallMet) (told : CallReply) (added : List HistoryEntry)
      → GoesAlone lake_rules opened by before request met told added → GoesAlone like_rules opened by before request tt (seen told) added
  goes_like met told added goes = record {
    fixed = goes.fixed;
    passed = goes.passed;
    left = goes.left;
    course = goes.course;
    points = goes.points;
    more = goes.more;
    added_is = goes.added_is;
    ended = like_end met _ goes.passed goes.left _ told goes.more goes.ended;
  }

  goes_served : (added : List HistoryEntry) (met : CallMet) (told : CallReply) (position edge : ℕ)
      → IsServed lake_rules opened by before (before ++ added) request met told position edge → AreOwn lake_rules by added
      → is_trouble told ≡ false → GoesAlone lake_rules opened by before request met told added
  goes_served added met told position edge served own calm =
      goes_alone lake_rules lawful opened by before (before ++ added) added request met told position edge served (plain met told calm) refl own

  goes_like_served : (added : List HistoryEntry) (met : CallMet) (told : CallReply) (position edge : ℕ)
      → IsServed lake_rules opened by before (before ++ added) request met told position edge → AreOwn lake_rules by added
      → is_trouble told ≡ false → GoesAlone like_rules opened by before request tt (seen told) added
  goes_like_served added met told position edge served own calm =
      goes_like met told added (goes_served added met told position edge served own calm)

-- SO IT IS TOLD THE SAME, and adds the same
pub like_calls : (call : Call) (moment : ℕ) (opened : State) (by : Caller) (before added more : List HistoryEntry) (met other_met : CallMet)
    (told other : CallReply) (position other_position edge other_edge : ℕ)
    → IsServed lake_rules opened by before (before ++ added) (record { asked = Asks call; moment = moment }) met told position edge
    → IsServed lake_rules opened by before (before ++ more) (record { asked = Asks call; moment = moment }) other_met other other_position other_edge
    → AreOwn lake_rules by added → AreOwn lake_rules by more → is_trouble told ≡ false → is_trouble other ≡ false
    → AreLikeReplies told other × (added ≡ more)
like_calls call moment opened by before added more met other_met told other position other_position edge other_edge a b own other_own calm other_calm =
    let one = one_value like_rules (record { asked = Asks call; moment = moment }) (like_determined call moment) opened by before tt (seen told) (seen other)
    added more (goes_like_served call moment opened by before added met told position edge a own calm)
    (goes_like_served call moment opened by before more other_met other other_position other_edge b other_own other_calm) in
    (seen_like told other one.0, one.1)
