-- A seat, the store of objects and the clock over the lines of a batch.
use Rattle.std.proofs.Common.{◌≡◌, ◌<◌, ◌≤◌, ◌+◌, ◌++◌, ◌∷◌, [], ℕ, List, Option, Some, None, IfSome, length, Result, Ok, Err}
use Rattle.std.proofs.Common.{refl, sym, ◌∙◌, ap, subst, append_assoc, append-nil, length-append, true≢false, arith}
use Rattle.lake_base.specs.Outside.{last_count}
use Rattle.lake_base.specs.declared.outside.Trouble.{Trouble}
use Rattle.http_wire.specs.declared.message.Request.{Request}
use Rattle.shared_lake.specs.SeatSteps.{LakeSeat}
use Rattle.body_laws.specs.BodiesKept.{KeepsFitting}
use Rattle.lakectl_shown.specs.declared.showing.Shown.{Shown}
use Rattle.lakectl_verbs.specs.declared.line.LineWords.{LineWords}
use Rattle.lakectl_verbs.specs.declared.line.LineWords.TheVariants as line
use Rattle.lakectl_verbs.specs.LineForms.{line_of}
use Rattle.lakectl_session.specs.Exchanges.{Exchanges, GoesThrough, KeepsTelling, LakeView, ServesItems, SessionItem, moments}
use Rattle.lakectl_session.proofs.CommandLemmas.{fits_at_first, fits_further, goes_twice, moments_long, stays}
pub use Rattle.lakectl_session.proofs.CommandLemmas.{starved_text}
pub use Rattle.lakectl_session.proofs.LongLines.{told_by_fronts}
use Rattle.lakectl_session.specs.Exchanges.{Answered, Unread, Starved, AnsweredUnwritten, UnservedUnwritten}
use Rattle.lakectl_session.specs.ServedCommands.{CommandView, CommandShows, CommandStops, LineEnds, LineShows, LineStops}
use Rattle.lakectl_session.specs.ServedCommands.{Usage, NoFile, Sent, Unsent, Behind}
use Rattle.batch_lines.specs.ServedLines.{AreServed, LineEffect}

-- readings grew: where they are told now they were told, and begin so
abbrev pub Grew : (old now : Option (List ℕ)) → Type 0
Grew old now = IfSome now (λ readings. (before more : List ℕ) × (old ≡ Some before) × (readings ≡ before ++ more))

-- so many readings were taken at most: where they were told, and may be counted, they are told now
abbrev pub TellsOn : (most : ℕ) → (old now : Option (List ℕ)) → Type 0
TellsOn most old now = IfSome old (λ before. length before + most < last_count
    → (readings : List ℕ) × (now ≡ Some readings) × (length readings ≤ length before + most))

-- between two moments nothing but sessions of the seat took place, which took so many readings at most
pub record Passes (most : ℕ) (old now : LakeView) : Type 0 where
  pub grew : Grew old.readings now.readings
  pub tells : TellsOn most old.readings now.readings
  pub goes : GoesThrough old.seat now.seat
  pub fits : KeepsFitting old.seat now.seat old.store.held now.store.held

-- ---- the clock

grew_same : (readings : Option (List ℕ)) → Grew readings readings
grew_same None = tt
grew_same (Some readings) = (readings, [], refl, sym (append-nil readings))

grew_twice : (old mid now : Option (List ℕ)) → Grew old mid → Grew mid now → Grew old now
grew_twice old mid None first next = tt
grew_twice old None (Some readings) first (before, more, told, is) = absurd cc
grew_twice old (Some middle) (Some readings) (before, more, told, is) (middle_before, later, middle_told, now_is) =
    let one : middle_before ≡ middle = cc in
    (before, more ++ later, told, now_is ∙ ap (λ (l : List ℕ). l ++ later) (one ∙ is) ∙ append_assoc before more later)

grew_by : (old now : Option (List ℕ)) (more : List ℕ) → IfSome now (λ readings. (before : List ℕ) × (old ≡ Some before) × (readings ≡ before ++ more))
    → Grew old now
grew_by old None more is = tt
grew_by old (Some readings) more (before, told, is) = (before, more, told, is)

tells_same : (most : ℕ) (readings : Option (List ℕ)) → TellsOn most readings readings
tells_same most None = tt
tells_same most (Some readings) = λ few. (readings, refl, omega arith)

tells_twice : (one other : ℕ) (old mid now : Option (List ℕ)) → TellsOn one old mid → TellsOn other mid now → TellsOn (one + other) old now
tells_twice one other None mid now first next = tt
tells_twice one other (Some before) mid now first next = λ few.
    let middle : (readings : List ℕ) × (mid ≡ Some readings) × (length readings ≤ length before + one) = first (omega (arith, few)) in
    let from : TellsOn other (Some middle.0) now = subst (λ (m : Option (List ℕ)). TellsOn other m now) middle.1 next in
    let last : (readings : List ℕ) × (now ≡ Some readings) × (length readings ≤ length middle.0 + other) = from (omega (arith, few, middle.2)) in
    (last.0, last.1, omega (arith, last.2, middle.2))

-- one item takes one reading, and none takes none
tells_by : (old now : Option (List ℕ)) (items : List SessionItem) → length items ≤ 1
    → IfSome now (λ readings. (before : List ℕ) × (old ≡ Some before) × (readings ≡ before ++ moments items))
    → KeepsTelling (length items) old now → TellsOn 1 old now
tells_by None now items one is kept = tt
tells_by (Some before) None items one is kept = λ few.
    let fewer : length before + length items < last_count = omega (arith, few, one) in
    absurd (true≢false (sym (kept fewer)))
tells_by (Some before) (Some readings) items one (was, told, whole) kept = λ few.
    let same : was ≡ before = cc (sym told) in
    let long : length readings ≡ length was + length (moments items) = ap length whole ∙ length-append was (moments items) in
    (readings, refl, omega (arith, long, ap length same, moments_long items, one))

-- ---- all of it

pass_same : (most : ℕ) (view : LakeView) → Passes most view view
pass_same most view = record {
  grew = grew_same view.readings;
  tells = tells_same most view.readings;
  goes = stays view.seat;
  fits = fits_at_first view.seat view.store.held;
}

pass_none : (most : ℕ) (old now : LakeView) → now ≡ old → Passes most old now
pass_none most old now same = subst (Passes most old) (sym same) (pass_same most old)

pass_twice : (one other : ℕ) (old mid now : LakeView) → Passes one old mid → Passes other mid now → Passes (one + other) old now
pass_twice one other old mid now first next = record {
  grew = grew_twice old.readings mid.readings now.readings first.grew next.grew;
  tells = tells_twice one other old.readings mid.readings now.readings first.tells next.tells;
  goes = goes_twice old.seat mid.seat now.seat first.goes next.goes;
  fits = fits_further old.seat mid.seat now.seat old.store.held mid.store.held now.store.held (ap (λ (s : LakeSeat). s.alone) first.goes.seat)
      (ap (λ (s : LakeSeat). s.origin) first.goes.seat) first.fits next.fits;
}

pass_items : (old now : LakeView) (items : List SessionItem) → length items ≤ 1 → ServesItems old now items → Passes 1 old now
pass_items old now items one serves = record {
  grew = grew_by old.readings now.readings (moments items) serves.moment;
  tells = tells_by old.readings now.readings items one serves.moment serves.kept;
  goes = serves.goes;
  fits = serves.fitting;
}

pass_exchange : (request : Request) (old now : LakeView) (written : Option (List ℕ)) → Exchanges request old now written → Passes 1 old now
pass_exchange request old now written (Answered item is read serves text) = pass_items old now (item ∷ []) (omega arith) serves
pass_exchange request old now written (Unread fault reply is replies serves text) = pass_items old now [] (omega arith) serves
pass_exchange request old now written (Starved serves text) = pass_items old now [] (omega arith) serves
pass_exchange request old now written (AnsweredUnwritten item is read serves text) = pass_items old now (item ∷ []) (omega arith) serves
pass_exchange request old now written (UnservedUnwritten serves text) = pass_items old now [] (omega arith) serves

module _ (old now : CommandView) where
  unchanged : (most : ℕ) → now ≡ old → Passes most old.lake now.lake
  unchanged most same = pass_none most old.lake now.lake (ap (λ (v : CommandView). v.lake) same)

  pub pass_shown : (host : List ℕ) (words : List (List ℕ)) (shown : Shown) → CommandShows host words old now shown → Passes 1 old.lake now.lake
  pass_shown host words shown (Usage fault is same shows) = unchanged 1 same
  pass_shown host words shown (NoFile call name is names missing same shows) = unchanged 1 same
  pass_shown host words shown (Sent call request written reply is sent exchanged read shows saved) =
      pass_exchange request old.lake now.lake (Some written) exchanged

  pub pass_stopped : (host : List ℕ) (words : List (List ℕ)) (trouble : Trouble) → CommandStops host words old now trouble → Passes 1 old.lake now.lake
  pass_stopped host words trouble (Unsent same named) = unchanged 1 same
  pass_stopped host words trouble (Behind call request written is sent exchanged saved named) = pass_exchange request old.lake now.lake written exchanged

  line_shows : (shown : Shown) (words : LineWords) → LineShows words old now shown → Passes 1 old.lake now.lake
  line_shows shown line.Skipped is = unchanged 1 is.0
  line_shows shown line.Bad is = unchanged 1 is.0
  line_shows shown (line.Words words) is = pass_shown _ words shown is

  line_stops : (trouble : Trouble) (words : LineWords) → LineStops words old now trouble → Passes 1 old.lake now.lake
  line_stops trouble line.Skipped is = unchanged 1 is.0
  line_stops trouble line.Bad is = unchanged 1 is.0
  line_stops trouble (line.Words words) is = pass_stopped _ words trouble is

  pass_line : (line : List ℕ) (reply : Result Shown Trouble) → LineEnds line old now reply → Passes 1 old.lake now.lake
  pass_line line (Ok shown) ends = line_shows shown (line_of line) ends
  pass_line line (Err trouble) ends = line_stops trouble (line_of line) ends

-- the lines of a batch, each of which takes at most one reading
pub pass_lines : (lines : List (List ℕ)) (first last : CommandView) (effects : List LineEffect) → AreServed LineEnds lines first effects last
    → Passes (length lines) first.lake last.lake
pass_lines [] first last [] are = unchanged first last 0 are
pass_lines [] first last (effect ∷ effects) are = absurd are
pass_lines (line ∷ lines) first last [] are = absurd are
pass_lines (line ∷ lines) first last (effect ∷ effects) (next, is, rest) =
    let all : 1 + length lines ≡ length (line ∷ lines) = omega arith in
    subst (λ (n : ℕ). Passes n first.lake last.lake) all
    (pass_twice 1 (length lines) first.lake next.lake last.lake (pass_line first next line is.reply is.gives) (pass_lines lines next last effects rest))
