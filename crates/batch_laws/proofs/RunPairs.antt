-- Two servings of the same lines.
use Rattle.std.proofs.Common.{◌≡◌, ℕ, Bool, true, false, List, [], ◌∷◌, ◌++◌, Option, Some, IfSome, Ok, Err, refl, sym, ap, subst, ◌∙◌}
use Rattle.std.proofs.Common.{append_assoc, append-nil}
use Rattle.std.specs.Prelude.{◌||◌}
use Rattle.std.proofs.lemmas.List.{append_cancel_left}
use Rattle.lake_base.specs.declared.outside.Trouble.TheVariants as trouble
use Rattle.call_placement.proofs.AloneLemmas.{all_front, all_rest}
use Rattle.lake_model.specs.State.{State}
use Rattle.lakectl_commands.specs.HeldFiles.{HeldFiles}
use Rattle.lake_batch.specs.CommandWords.{CommandView, LineEnds}
use Rattle.batch_lines.specs.ServedLines.{AreServed, IsLineServed, LineEffect, LineReply, any_failed, any_starved, effect_of}
use Rattle.lake_batch.proofs.SeatLemmas.{Grew, pass_lines}
use Rattle.seat_laws.proofs.ClashLemmas.{front_apart, rest_apart}
use Rattle.seat_laws.specs.Clashes.{NoneClashes}
use Rattle.seat_laws.specs.LikeMoments.{Agree}
use Rattle.batch_laws.specs.ToldReplies.{told_in, told_to_line}
use Rattle.batch_laws.proofs.CommandPairs.{like_lines}
use Rattle.batch_laws.proofs.ExchangePairs.{AreCalm, IsCalm, OneMoment, TakesNext}
use Rattle.batch_laws.proofs.LoneSeats.{IsLone, lone_further}

pub neither : (x y : Bool) → (x || y) ≡ false → (x ≡ false) × (y ≡ false)
neither true y is = absurd (cc (is))
neither false y is = (refl, is)

-- ---- readings

rest_agrees : (taken more others : List ℕ) → Agree (taken ++ more) (taken ++ others) → Agree more others
rest_agrees [] more others agree = agree
rest_agrees (m ∷ taken) more others agree = rest_agrees taken more others agree.1

-- of readings that a line took and the later lines took
module _ (old now end : Option (List ℕ)) (before taken : List ℕ) (begins : old ≡ Some before) (ends : end ≡ Some (before ++ taken)) (grew : Grew now end) where
  abbrev parted : (mid : List ℕ) × (more : List ℕ) × (now ≡ Some mid) × (before ++ taken ≡ mid ++ more)
  parted = subst (λ (e : Option (List ℕ)). IfSome e (λ readings. (mid : List ℕ) × (more : List ℕ) × (now ≡ Some mid) × (readings ≡ mid ++ more))) ends grew

  taken_first : (first : List ℕ) → TakesNext first old now → (parted.0 ≡ before ++ first) × (taken ≡ first ++ parted.1)
  taken_first first takes =
      let here : (b : List ℕ) × (old ≡ Some b) × (parted.0 ≡ b ++ first) =
      subst (λ (n : Option (List ℕ)). IfSome n (λ readings. (b : List ℕ) × (old ≡ Some b) × (readings ≡ b ++ first))) parted.2 takes in
      let both : Some here.0 ≡ Some before = sym here.1 ∙ begins in
      let same : here.0 ≡ before = cc (both) in
      let mid : parted.0 ≡ before ++ first = here.2 ∙ ap (λ (l : List ℕ). l ++ first) same in (
        mid,
        append_cancel_left before taken (first ++ parted.1)
            (parted.3 ∙ (ap (λ (l : List ℕ). l ++ parted.1) mid ∙ append_assoc before first parted.1)),
      )

same_first : (m n : ℕ) (taken others more later : List ℕ) → Agree taken others → taken ≡ m ∷ more → others ≡ n ∷ later → m ≡ n
same_first m n taken others more later agree is so =
    let both : Agree (m ∷ more) (n ∷ later) = subst (λ (l : List ℕ). Agree (m ∷ more) l) so (subst (λ (l : List ℕ). Agree l others) is agree) in both.0

-- ---- a line

-- an effect in which nothing failed is of something shown
abbrev pub Calms : LineReply → Type 0
Calms answer = ((effect_of answer).starved ≡ false) × ((effect_of answer).failed ≡ false)

-- what two servings of a line left the same
record AreLikeEnds (old now other other_now : CommandView) (answer other_answer : LineReply) : Type 0 where
  pub files : HeldFiles
  pub told : now.files ≡ Some files
  pub tells : other_now.files ≡ Some files
  pub seen : now.lake.seat.seen ≡ other_now.lake.seat.seen
  pub taken : List ℕ
  pub takes : TakesNext taken old.lake.readings now.lake.readings
  pub other_takes : TakesNext taken other.lake.readings other_now.lake.readings
  pub answers : answer ≡ other_answer

module _ (opened : State) (old now other other_now : CommandView) (lone : IsLone opened old.lake.seat) (other_lone : IsLone opened other.lake.seat)
    (seen : old.lake.seat.seen ≡ other.lake.seat.seen) (files : HeldFiles) (told : old.files ≡ Some files) (tells : other.files ≡ Some files)
    (one_moment : OneMoment old.lake.readings now.lake.readings other.lake.readings other_now.lake.readings) (bytes : List ℕ) where
  like_ends : (answer other_answer : LineReply) (one : LineEnds bytes old now answer) (two : LineEnds bytes other other_now other_answer)
      → Calms answer → Calms other_answer → AreCalm (told_to_line bytes old now answer one) → AreCalm (told_to_line bytes other other_now other_answer two)
      → NoneClashes (told_to_line bytes old now answer one) (told_to_line bytes other other_now other_answer two)
      → AreLikeEnds old now other other_now answer other_answer
  like_ends (Ok shown) (Ok other_shown) one two calms stills calm still apart =
      let like = like_lines opened old now other other_now lone other_lone seen files told tells one_moment shown other_shown bytes one two calm still apart in
      record {
        files = like.files;
        told = like.told;
        tells = like.tells;
        seen = like.seen;
        taken = like.taken;
        takes = like.takes;
        other_takes = like.other_takes;
        answers = ap Ok like.showings;
      }
  like_ends (Err trouble.NoMemory) other_answer one two calms stills calm still apart = let never = calms.0 in absurd (cc (never))
  like_ends (Err trouble.Failed) other_answer one two calms stills calm still apart = let never = calms.1 in absurd (cc (never))
  like_ends (Ok shown) (Err trouble.NoMemory) one two calms stills calm still apart = let never = stills.0 in absurd (cc (never))
  like_ends (Ok shown) (Err trouble.Failed) one two calms stills calm still apart = let never = stills.1 in absurd (cc (never))

pub calms_of : (effect : LineEffect) (effects : List LineEffect) (answer : LineReply) → effect ≡ effect_of answer → any_starved (effect ∷ effects) ≡ false
    → any_failed (effect ∷ effects) ≡ false
    → Calms answer × (any_starved effects ≡ false) × (any_failed effects ≡ false)
calms_of effect effects answer is starved failed =
    let a = neither effect.starved (any_starved effects) starved in
    let b = neither effect.failed (any_failed effects) failed in
    ((ap (λ (e : LineEffect). e.starved) (sym is) ∙ a.0, ap (λ (e : LineEffect). e.failed) (sym is) ∙ b.0), a.1, b.1)

-- what one line left of a lone seat
pub lone_behind : (opened : State) (bytes : List ℕ) (old now : CommandView) (effect : LineEffect) → IsLineServed LineEnds bytes old effect now
    → IsLone opened old.lake.seat → IsLone opened now.lake.seat
lone_behind opened bytes old now effect is lone =
    lone_further opened old.lake.seat now.lake.seat (pass_lines (bytes ∷ []) old now (effect ∷ []) (now, is, refl)).goes lone

-- ---- all lines

-- they came to the same, and took these readings, which are the same
pub record ComeAlike (effects others : List LineEffect) (end other_end : CommandView) (taken other_taken : List ℕ) : Type 0 where
  pub lines : effects ≡ others
  pub files : end.files ≡ other_end.files
  pub history : end.lake.seat.seen ≡ other_end.lake.seat.seen
  pub readings : taken ≡ other_taken

pub like_runs : (opened : State) (lines : List (List ℕ)) (one end other other_end : CommandView) (effects others : List LineEffect)
    (run : AreServed LineEnds lines one effects end) (other_run : AreServed LineEnds lines other others other_end)
    → IsLone opened one.lake.seat → IsLone opened other.lake.seat → one.lake.seat.seen ≡ other.lake.seat.seen
    → (files : HeldFiles) → one.files ≡ Some files → other.files ≡ Some files
    → (before taken other_before other_taken : List ℕ) → one.lake.readings ≡ Some before → end.lake.readings ≡ Some (before ++ taken)
    → other.lake.readings ≡ Some other_before → other_end.lake.readings ≡ Some (other_before ++ other_taken) → Agree taken other_taken
    → any_starved effects ≡ false → any_failed effects ≡ false → any_starved others ≡ false → any_failed others ≡ false
    → AreCalm (told_in lines one effects end run) → AreCalm (told_in lines other others other_end other_run)
    → NoneClashes (told_in lines one effects end run) (told_in lines other others other_end other_run)
    → ComeAlike effects others end other_end taken other_taken
like_runs opened [] one end other other_end [] [] run other_run lone other_lone seen files told tells before taken other_before other_taken begins ends
    other_begins other_ends agree starved failed other_starved other_failed calm still apart =
    let none : Some (before ++ taken) ≡ Some (before ++ []) =
    sym ends ∙ (ap (λ (v : CommandView). v.lake.readings) run ∙ (begins ∙ ap Some (sym (append-nil before)))) in
    let other_none : Some (other_before ++ other_taken) ≡ Some (other_before ++ []) =
    sym other_ends ∙ (ap (λ (v : CommandView). v.lake.readings) other_run ∙ (other_begins ∙ ap Some (sym (append-nil other_before)))) in
    let a : before ++ taken ≡ before ++ [] = cc (none) in
    let b : other_before ++ other_taken ≡ other_before ++ [] = cc (other_none) in
    record {
      lines = refl;
      files = ap (λ (v : CommandView). v.files) run ∙ (told ∙ (sym tells ∙ sym (ap (λ (v : CommandView). v.files) other_run)));
      history = ap (λ (v : CommandView). v.lake.seat.seen) run ∙ (seen ∙ sym (ap (λ (v : CommandView). v.lake.seat.seen) other_run));
      readings = append_cancel_left before taken [] a ∙ sym (append_cancel_left other_before other_taken [] b);
    }
like_runs opened [] one end other other_end (effect ∷ effects) others run other_run lone other_lone seen files told tells before taken other_before
    other_taken begins ends other_begins other_ends agree starved failed other_starved other_failed calm still apart = absurd run
like_runs opened [] one end other other_end [] (effect ∷ others) run other_run lone other_lone seen files told tells before taken other_before
    other_taken begins ends other_begins other_ends agree starved failed other_starved other_failed calm still apart = absurd other_run
like_runs opened (bytes ∷ lines) one end other other_end [] others run other_run lone other_lone seen files told tells before taken other_before
    other_taken begins ends other_begins other_ends agree starved failed other_starved other_failed calm still apart = absurd run
like_runs opened (bytes ∷ lines) one end other other_end (effect ∷ effects) [] run other_run lone other_lone seen files told tells before taken
    other_before other_taken begins ends other_begins other_ends agree starved failed other_starved other_failed calm still apart = absurd other_run
like_runs opened (bytes ∷ lines) one end other other_end (effect ∷ effects) (again ∷ others) (next, is, rest) (other_next, so, other_rest) lone other_lone
    seen files told tells before taken other_before other_taken begins ends other_begins other_ends agree starved failed other_starved other_failed calm
    still apart =
    let here = told_to_line bytes one next is.reply is.gives in
    let later = told_in lines next effects end rest in
    let other_here = told_to_line bytes other other_next so.reply so.gives in
    let other_later = told_in lines other_next others other_end other_rest in
    let grew = (pass_lines lines next end effects rest).grew in
    let other_grew = (pass_lines lines other_next other_end others other_rest).grew in
    let a = parted one.lake.readings next.lake.readings end.lake.readings before taken begins ends grew in
    let b = parted other.lake.readings other_next.lake.readings other_end.lake.readings other_before other_taken other_begins other_ends other_grew in
    let moment : OneMoment one.lake.readings next.lake.readings other.lake.readings other_next.lake.readings = λ m n takes other_takes.
    same_first m n taken other_taken a.1 b.1 agree
    (taken_first one.lake.readings next.lake.readings end.lake.readings before taken begins ends grew (m ∷ []) takes).1
    (taken_first other.lake.readings other_next.lake.readings other_end.lake.readings other_before other_taken other_begins other_ends other_grew (n ∷ [])
    other_takes).1 in
    let sound = calms_of effect effects is.reply is.comes starved failed in
    let other_sound = calms_of again others so.reply so.comes other_starved other_failed in
    let like = like_ends opened one next other other_next lone other_lone seen files told tells moment bytes is.reply so.reply is.gives so.gives sound.0
    other_sound.0 (all_front IsCalm here later calm) (all_front IsCalm other_here other_later still) (front_apart here later other_here other_later apart) in
    let first = taken_first one.lake.readings next.lake.readings end.lake.readings before taken begins ends grew like.taken like.takes in
    let other_first = taken_first other.lake.readings other_next.lake.readings other_end.lake.readings other_before other_taken other_begins other_ends
    other_grew like.taken like.other_takes in
    let agrees = rest_agrees like.taken a.1 b.1 (subst (λ (l : List ℕ). Agree (like.taken ++ a.1) l) other_first.1
    (subst (λ (l : List ℕ). Agree l other_taken) first.1 agree)) in
    let one_run = like_runs opened lines next end other_next other_end effects others rest other_rest (lone_behind opened bytes one next effect is lone)
    (lone_behind opened bytes other other_next again so other_lone) like.seen like.files like.told like.tells a.0 a.1 b.0 b.1 a.2 (ends ∙ ap Some a.3)
    b.2 (other_ends ∙ ap Some b.3) agrees sound.1 sound.2 other_sound.1 other_sound.2 (all_rest IsCalm here later calm)
    (all_rest IsCalm other_here other_later still) (rest_apart here later other_here other_later apart) in
    let effects_here : effect ≡ again = is.comes ∙ (ap effect_of like.answers ∙ sym so.comes) in
    record {
      lines = λ i. effects_here i ∷ one_run.lines i;
      files = one_run.files;
      history = one_run.history;
      readings = first.1 ∙ (ap (λ (l : List ℕ). like.taken ++ l) one_run.readings ∙ sym other_first.1);
    }
