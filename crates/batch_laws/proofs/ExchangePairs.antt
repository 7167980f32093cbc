-- Two exchanges of one request.
use Rattle.std.proofs.Common.{◌≡◌, ℕ, true, false, List, [], ◌∷◌, ◌++◌, Option, Some, IfSome, Err, All, sym, ap, subst, ◌∙◌}
use Rattle.std.proofs.lemmas.List.Elements.{All-head}
use Rattle.http_wire.specs.ReplyText.{reply_text}
use Rattle.http_wire.specs.declared.fault.WireFault.{WireFault}
use Rattle.http_wire.specs.declared.message.Reply.{Reply}
use Rattle.http_wire.specs.declared.message.Request.{Request}
use Rattle.lake_model.specs.declared.history.HistoryEntry.{HistoryEntry}
use Rattle.lake_model.specs.State.{State}
use Rattle.lake_calls.specs.declared.reply.CallReply.{CallReply}
use Rattle.lake_calls.specs.declared.reply.CallReply.TheVariants as reply
use Rattle.seat_laws.specs.Troubles.{is_trouble}
use Rattle.lake_batch.specs.CommandWords.{SessionItem, item_text}
use Rattle.lake_batch.specs.CommandWords.{closes_behind, reply_to_fault, told_text}
use Rattle.lakectl_requests.specs.SentReadings.{read_back}
use Rattle.lake_batch.specs.CommandWords.{Answered, AnsweredUnwritten, Exchanges, LakeView, ServesItems, Starved, Unread, UnservedUnwritten}
use Rattle.seat_laws.proofs.ClashLemmas.{one_told}
use Rattle.seat_laws.specs.Clashes.{NoneClashes}
use Rattle.batch_laws.specs.ToldReplies.{told_to}
use Rattle.batch_laws.proofs.LoneSeats.{IsLone, ServedBy, like_items, seen_still, served_by}

-- ---- readings

-- these readings were taken, where they are told
abbrev pub TakesNext : (taken : List ℕ) → (old now : Option (List ℕ)) → Type 0
TakesNext taken old now = IfSome now (λ readings. (before : List ℕ) × (old ≡ Some before) × (readings ≡ before ++ taken))

-- where two take one, it is the same
abbrev pub OneMoment : (old now other other_now : Option (List ℕ)) → Type 0
OneMoment old now other other_now =
    (moment other_moment : ℕ) → TakesNext (moment ∷ []) old now → TakesNext (other_moment ∷ []) other other_now → moment ≡ other_moment

-- a reply tells of no trouble, and each of these does
abbrev pub IsCalm : CallReply → Type 0
IsCalm told = is_trouble told ≡ false

abbrev pub AreCalm : List CallReply → Type 0
AreCalm told = All IsCalm told

never_calm : AreCalm (reply.NoMemory ∷ []) → ⊥
never_calm calm = let never : true ≡ false = All-head IsCalm reply.NoMemory [] calm in absurd (cc (never))

-- ---- two exchanges

-- they left the same: what their seats have seen, what was written; and they took the same readings
pub record AreLikeExchanges (old now other other_now : LakeView) (written other_written : List ℕ) : Type 0 where
  pub seen : now.seat.seen ≡ other_now.seat.seen
  pub taken : List ℕ
  pub takes : TakesNext taken old.readings now.readings
  pub other_takes : TakesNext taken other.readings other_now.readings
  pub text : written ≡ other_written

module _ (opened : State) (request : Request) (old now other other_now : LakeView) (lone : IsLone opened old.seat)
    (other_lone : IsLone opened other.seat) (seen : old.seat.seen ≡ other.seat.seen)
    (one_moment : OneMoment old.readings now.readings other.readings other_now.readings) (written other_written : List ℕ) where
  answered : (item again : SessionItem) → item.request ≡ request → again.request ≡ request → (serves : ServesItems old now (item ∷ []))
      → (serves_again : ServesItems other other_now (again ∷ [])) → Some written ≡ Some (item_text 1 item) → Some other_written ≡ Some (item_text 1 again)
      → is_trouble item.told ≡ false → is_trouble again.told ≡ false → NoneClashes (item.told ∷ []) (again.told ∷ [])
      → AreLikeExchanges old now other other_now written other_written
  answered item again is so serves serves_again text text_again calm still apart =
      let requests : item.request ≡ again.request = is ∙ sym so in
      let moments : item.moment ≡ again.moment = one_moment item.moment again.moment serves.moment serves_again.moment in
      let like = like_items opened old.seat.seen serves.goes.added serves_again.goes.added item again requests moments
      (served_by opened old now item lone serves)
      (subst (λ (l : List HistoryEntry). ServedBy opened l serves_again.goes.added again) (sym seen)
      (served_by opened other other_now again other_lone serves_again)) calm still in
      let tolds : item.told ≡ again.told = one_told item.told again.told apart like.0 in
      let texts : item_text 1 item ≡ item_text 1 again = λ i. told_text (closes_behind 1 (requests i)) (tolds i) in
      let one : written ≡ item_text 1 item = cc (text) in
      let two : other_written ≡ item_text 1 again = cc (text_again) in
      record {
        seen = serves.goes.seen ∙ ((λ i. seen i ++ like.1 i) ∙ sym serves_again.goes.seen);
        taken = item.moment ∷ [];
        takes = serves.moment;
        other_takes = subst (λ (m : ℕ). TakesNext (m ∷ []) other.readings other_now.readings) (sym moments) serves_again.moment;
        text = one ∙ (texts ∙ sym two);
      }

  unread : (fault again : WireFault) (sent sent_again : Reply) → read_back request [] ≡ Err fault → read_back request [] ≡ Err again
      → reply_to_fault fault ≡ Some sent → reply_to_fault again ≡ Some sent_again → ServesItems old now [] → ServesItems other other_now []
      → Some written ≡ Some (reply_text sent) → Some other_written ≡ Some (reply_text sent_again)
      → AreLikeExchanges old now other other_now written other_written
  unread fault again sent sent_again is so replies replies_again serves serves_again text text_again =
      let faults : fault ≡ again = cc (is, so) in
      let both : Some sent ≡ Some sent_again = sym replies ∙ (ap reply_to_fault faults ∙ replies_again) in
      let sents : sent ≡ sent_again = cc (both) in
      let one : written ≡ reply_text sent = cc (text) in
      let two : other_written ≡ reply_text sent_again = cc (text_again) in
      record {
        seen = seen_still opened old now lone serves ∙ (seen ∙ sym (seen_still opened other other_now other_lone serves_again));
        taken = [];
        takes = serves.moment;
        other_takes = serves_again.moment;
        text = one ∙ (ap reply_text sents ∙ sym two);
      }

  pub like_exchanges : (e : Exchanges request old now (Some written)) (d : Exchanges request other other_now (Some other_written))
      → AreCalm (told_to request old now (Some written) e) → AreCalm (told_to request other other_now (Some other_written) d)
      → NoneClashes (told_to request old now (Some written) e) (told_to request other other_now (Some other_written) d)
      → AreLikeExchanges old now other other_now written other_written
  like_exchanges (Answered item is read serves text) (Answered again so read_again serves_again text_again) calm still apart =
      answered item again is so serves serves_again text text_again (All-head IsCalm item.told [] calm)
      (All-head IsCalm again.told [] still) apart
  like_exchanges (Answered item is read serves text) (Unread fault sent so replies serves_again text_again) calm still apart =
      let never = sym read ∙ so in absurd (cc (never))
  like_exchanges (Unread fault sent so replies serves text) (Answered item is read serves_again text_again) calm still apart =
      let never = sym read ∙ so in absurd (cc (never))
  like_exchanges (Unread fault sent is replies serves text) (Unread again sent_again so replies_again serves_again text_again) calm still apart =
      unread fault again sent sent_again is so replies replies_again serves serves_again text text_again
  like_exchanges (Starved serves text) d calm still apart = absurd (never_calm calm)
  like_exchanges (AnsweredUnwritten item is read serves none) d calm still apart = absurd (cc (none))
  like_exchanges (UnservedUnwritten serves none) d calm still apart = absurd (cc (none))
  like_exchanges e (Starved serves text) calm still apart = absurd (never_calm still)
  like_exchanges e (AnsweredUnwritten item is read serves none) calm still apart = absurd (cc (none))
  like_exchanges e (UnservedUnwritten serves none) calm still apart = absurd (cc (none))

  -- so do those of requests that are one
  pub like_requests : (again : Request) → request ≡ again → (e : Exchanges request old now (Some written))
      → AreCalm (told_to request old now (Some written) e) → (d : Exchanges again other other_now (Some other_written))
      → AreCalm (told_to again other other_now (Some other_written) d)
      → NoneClashes (told_to request old now (Some written) e) (told_to again other other_now (Some other_written) d)
      → AreLikeExchanges old now other other_now written other_written
  like_requests again same e calm =
      subst (λ (r : Request). (d : Exchanges r other other_now (Some other_written)) → AreCalm (told_to r other other_now (Some other_written) d)
      → NoneClashes (told_to request old now (Some written) e) (told_to r other other_now (Some other_written) d)
      → AreLikeExchanges old now other other_now written other_written) same (λ d still apart. like_exchanges e d calm still apart)
