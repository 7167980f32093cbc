-- A call that met nothing has no exception, and calls between two moments with the same counts count nothing.
use Rattle.std.proofs.Common.{◌≡◌, ◌<◌, ◌≤◌, ◌&&◌, ℕ, Bool, true, cond, not, List, [], ◌∷◌, length, refl, ap, sym, ◌∙◌, subst, arith}
use Rattle.std.specs.Prelude.{◌==◌, All, drop, take}
use Rattle.std.specs.List.{filter}
use Rattle.std.proofs.lemmas.Bool.{eq-eqb}
use Rattle.std.proofs.lemmas.List.{length-drop, take_all}
use Rattle.std.proofs.lemmas.List.Elements.{All-cons, All-head, All-nil, All-tail}
use mathlib.Core.Logic.{inl, inr}
use Rattle.lake_values.specs.Entry.{EntryValue}
use Rattle.lake_model.specs.declared.history.HistoryEntry.{HistoryEntry}
use Rattle.lake_model.specs.History.{replay}
use Rattle.lake_model.specs.State.{State}
use Rattle.lake_laws.specs.VersionGivers.{count_of, of_other_seat}
use Rattle.lake_calls.specs.CallExceptions.{CallMet, FindOthers, FindsOwn, HasBlockFault, HasMissedEnough, HasTriedEnough}
use Rattle.lake_calls.specs.CallExceptions.{IsException, IsReadException, gives_guarded}
use Rattle.lake_calls.specs.Courses.{CallPoint, Answers, Finds, ResolvesSource, ResolvesParent, Looks, Prepares, Makes}
use Rattle.lake_calls.specs.NothingMet.{GaveFew, MeetsNothing}
use Rattle.lake_calls.specs.OutsideCounts.{AreMet, AreStill, CountedNothing, NoneFell, OutsideCounts, counts_before, counts_now}
use Rattle.lake_calls.specs.declared.objects.ReadCall.{ReadCall}
use Rattle.lake_calls.specs.declared.reply.CallReply.{CallReply}

-- ---- exceptions

module _ (seat : ℕ) (uploads : Bool) (met : CallMet) (opened : State) (from : ℕ) (seen : List HistoryEntry) (told : CallReply) where
  tried_too_few : (left : List CallPoint) → GaveFew seat left from seen → HasTriedEnough seat left met from seen → ⊥
  tried_too_few left few tried =
      absurd (let less = few tried.guard tried.guarded in let ten = tried.entries in omega (arith, less, ten))

  no_fault : (left : List CallPoint) → MeetsNothing left met opened seen → HasBlockFault uploads left met → ⊥
  no_fault left nothing fault = nothing.counted.blocks fault.counted

  read_met : (c : ReadCall) (points : List CallPoint) → MeetsNothing (Finds c ∷ points) met opened seen
      → IsReadException c met opened from seen told → ⊥
  read_met c points nothing (inl is) =
      nothing.counted.misses (λ counting. let ten = is.0.counted counting in omega (arith, ten))
  read_met c points nothing (inr (inl is)) = nothing.counted.blocks is.0
  read_met c points nothing (inr (inr (inl is))) = nothing.counted.misses is.0.counted
  read_met c points nothing (inr (inr (inr is))) = nothing.fits c points refl is.0

  pub none_met : (left : List CallPoint) → MeetsNothing left met opened seen → GaveFew seat left from seen
      → IsException seat uploads left met opened from seen told → ⊥
  none_met [] nothing few (inl is) = tried_too_few [] few is.0
  none_met [] nothing few (inr is) = no_fault [] nothing is.0
  none_met (Finds c ∷ points) nothing few is = read_met c points nothing is
  none_met (Answers ∷ points) nothing few (inl is) = tried_too_few _ few is.0
  none_met (Answers ∷ points) nothing few (inr is) = no_fault _ nothing is.0
  none_met (ResolvesSource id ∷ points) nothing few (inl is) = tried_too_few _ few is.0
  none_met (ResolvesSource id ∷ points) nothing few (inr is) = no_fault _ nothing is.0
  none_met (ResolvesParent a b m ∷ points) nothing few (inl is) = tried_too_few _ few is.0
  none_met (ResolvesParent a b m ∷ points) nothing few (inr is) = no_fault _ nothing is.0
  none_met (Looks r b ∷ points) nothing few (inl is) = tried_too_few _ few is.0
  none_met (Looks r b ∷ points) nothing few (inr is) = no_fault _ nothing is.0
  none_met (Prepares r b k a ∷ points) nothing few (inl is) = tried_too_few _ few is.0
  none_met (Prepares r b k a ∷ points) nothing few (inr is) = no_fault _ nothing is.0
  none_met (Makes o ∷ points) nothing few (inl is) = tried_too_few _ few is.0
  none_met (Makes o ∷ points) nothing few (inr is) = no_fault _ nothing is.0

-- ---- one seat

-- of own entries none is another seat's
no_others : (seat : ℕ) (test : HistoryEntry → Bool) (entries : List HistoryEntry) → All (λ (e : HistoryEntry). e.by.seat ≡ seat) entries
    → count_of (of_other_seat seat test) entries ≡ 0
no_others seat test entries own = ap length (none entries own)
  where
    none : (entries : List HistoryEntry) → All (λ (e : HistoryEntry). e.by.seat ≡ seat) entries → filter (of_other_seat seat test) entries ≡ []
    none [] own = refl
    none (entry ∷ entries) own =
        let same : (entry.by.seat == seat) ≡ true =
        eq-eqb entry.by.seat seat (All-head (λ (e : HistoryEntry). e.by.seat ≡ seat) entry entries own) in
        let rest = none entries (All-tail (λ (e : HistoryEntry). e.by.seat ≡ seat) entry entries own) in
        λ i. cond (not (same i) && test entry) (entry ∷ rest i) (rest i)

pub never_tried : (seat : ℕ) (left : List CallPoint) (met : CallMet) (from : ℕ) (seen : List HistoryEntry)
    → All (λ (e : HistoryEntry). e.by.seat ≡ seat) (drop from seen) → HasTriedEnough seat left met from seen → ⊥
never_tried seat left met from seen own tried =
    absurd (let none = no_others seat (gives_guarded tried.guard) (drop from seen) own in
    let ten = tried.entries in omega (arith, none, ten))

-- one state shows one entry
found_one : (c : ReadCall) (state : State) (one other : EntryValue) → FindsOwn c state one → FindsOwn c state other → other ≡ one
found_one c state one other is so = let both = sym so ∙ is in cc (both)

module _ (c : ReadCall) (opened : State) (from : ℕ) (seen : List HistoryEntry) (past : length seen ≤ from) where
  -- a position behind the beginning shows the whole
  at_end : (at : ℕ) (entry : EntryValue) → from ≤ at → FindsOwn c (replay opened (take at seen)) entry → FindsOwn c (replay opened seen) entry
  at_end at entry le finds = subst (λ s. FindsOwn c (replay opened s) entry) (take_all at seen (omega (arith, le, past))) finds

  no_other : (at : ℕ) (one : EntryValue) (later : List ℕ) → from ≤ at → FindsOwn c (replay opened seen) one
      → length later ≡ 10 → FindOthers c opened seen at one later → ⊥
  no_other at one [] le finds ten others = absurd (omega (arith, ten))
  no_other at one (next ∷ later) le finds ten others =
      let on : at ≤ next = others.0 in
      others.4 (found_one c (replay opened seen) one others.2 finds (at_end next others.2 (omega (arith, le, on)) others.3))

pub never_missed : (c : ReadCall) (met : CallMet) (opened : State) (from : ℕ) (seen : List HistoryEntry) → drop from seen ≡ []
    → HasMissedEnough c met opened from seen → ⊥
never_missed c met opened from seen none missed =
    let counted = sym (length-drop from seen) ∙ ap length none in
    let past : length seen ≤ from = omega (arith, counted) in
    no_other c opened from seen past missed.first missed.entry missed.later missed.begins
    (at_end c opened from seen past missed.first missed.entry missed.begins missed.found) missed.eleven missed.others

-- ---- counts

-- a count that rose between two moments at which it stands the same
still_one : (old before now new : ℕ) → old ≤ before → now ≤ new → new ≡ old → new < 18446744073709551615
    → (now < 18446744073709551615 → before < now) → ⊥
still_one old before now new begins ends same counting rose =
    absurd (let risen = rose (omega (arith, ends, counting)) in omega (arith, begins, ends, same, risen))

-- what lies between them
ends_at : (old : OutsideCounts) (mets : List CallMet) (new : OutsideCounts) → AreMet old mets new → NoneFell old new
ends_at old [] new met = met
ends_at old (one ∷ mets) new met =
    let rest = ends_at (counts_now one) mets new met.2 in record {
      store_faults = let a = met.0.store_faults in let b = met.1.store_faults in let d = rest.store_faults in omega (arith, a, b, d);
      block_faults = let a = met.0.block_faults in let b = met.1.block_faults in let d = rest.block_faults in omega (arith, a, b, d);
      misses = let a = met.0.misses in let b = met.1.misses in let d = rest.misses in omega (arith, a, b, d);
    }

-- between a later moment and the last they stand the same too
still_later : (old before now new : ℕ) → old ≤ before → before ≤ now → now ≤ new → new ≡ old → new ≡ now
still_later old before now new a b d same = omega (arith, a, b, d, same)

still_behind : (old : OutsideCounts) (one : CallMet) (new : OutsideCounts) → NoneFell old (counts_before one)
    → NoneFell (counts_before one) (counts_now one) → NoneFell (counts_now one) new → AreStill old new → AreStill (counts_now one) new
still_behind old one new a b d still = record {
  store_faults = record {
    same = still_later old.store_faults _ _ new.store_faults a.store_faults b.store_faults d.store_faults still.store_faults.same;
    counting = still.store_faults.counting;
  };
  block_faults = record {
    same = still_later old.block_faults _ _ new.block_faults a.block_faults b.block_faults d.block_faults still.block_faults.same;
    counting = still.block_faults.counting;
  };
  misses = record {
    same = still_later old.misses _ _ new.misses a.misses b.misses d.misses still.misses.same;
    counting = still.misses.counting;
  };
}

still_call : (old : OutsideCounts) (one : CallMet) (new : OutsideCounts) → NoneFell old (counts_before one) → NoneFell (counts_now one) new
    → AreStill old new → CountedNothing one
still_call old one new a d still = record {
  store = still_one old.store_faults _ _ new.store_faults a.store_faults d.store_faults still.store_faults.same still.store_faults.counting;
  blocks = still_one old.block_faults _ _ new.block_faults a.block_faults d.block_faults still.block_faults.same still.block_faults.counting;
  misses = still_one old.misses _ _ new.misses a.misses d.misses still.misses.same still.misses.counting;
}

pub none_counted : (old : OutsideCounts) (mets : List CallMet) (new : OutsideCounts) → AreMet old mets new → AreStill old new
    → All CountedNothing mets
none_counted old [] new met still = All-nil CountedNothing
none_counted old (one ∷ mets) new met still =
    let rest = ends_at (counts_now one) mets new met.2 in
    All-cons CountedNothing one mets (still_call old one new met.0 rest still)
    (none_counted (counts_now one) mets new met.2 (still_behind old one new met.0 met.1 rest still))
