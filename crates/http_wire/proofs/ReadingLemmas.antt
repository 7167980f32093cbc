-- What is read, piece by piece, of a source that tells its bytes.
use Rattle.std.proofs.Common.{◌≡◌, ◌≤◌, ◌<◌, ◌+◌, ◌-◌, ◌==◌, ℕ, zero, suc, Bool, true, false, List, [], ◌∷◌, ◌++◌, length, take, drop, Option, Some, None}
use Rattle.std.proofs.Common.{IfSome, Result, Ok, Err, refl, sym, ap, subst, ◌∙◌, arith, append_assoc, slice_range, true≢false, if◌then◌else◌}
use Rattle.std.proofs.lemmas.List.{append-nil, length-append, length-drop, length-take-le, take-append-drop, take-append-le, drop-append-le}
use Rattle.std.proofs.lemmas.List.{drop-take, take_all}
use Rattle.std.proofs.lemmas.Bool.Decides.{nat_tests}
use Rattle.std.specs.List.{copy_within}
use Rattle.lake_base.specs.Outside.{Reads}
use Rattle.http_wire.specs.declared.fault.WireFault.{WireFault}
use Rattle.http_wire.specs.declared.fault.WireFault.TheVariants.{Ended, Truncated, HeadTooLong, BadHead, Chunked, BadLength, BodyTooLong, ReadFault, NoMemory}
use Rattle.http_wire.specs.declared.heads.Look.TheVariants.{Head, Part, TooLong}
use Rattle.http_wire.specs.declared.heads.Search.{Search}
use Rattle.http_wire.specs.Filling.{Filled, Gave, Grown, IsFillFault}
use Rattle.http_wire.specs.MessageHeads.{begins_pair, ends_empty, unended, opening}
use Rattle.http_wire.specs.Messages.{end_fault}
use Rattle.http_wire.proofs.HeadLemmas.{opening_headed}
use Rattle.http_wire.specs.HeadSearch.{pairs, IsHeadEnd, IsSearch, IsGiven, Shows, EndsIn, IsHeadRead, IsHeadAnswer, Reaches}

-- of a source that tells its bytes, one fact gives another
pub told : (o : Option (List ℕ)) (P Q : List ℕ → Type 0) → ((left : List ℕ) → P left → Q left) → IfSome o P → IfSome o Q
told None P Q f p = tt
told (Some left) P Q f p = f left p

take_past : (a x : List ℕ) (n k : ℕ) → k ≡ length a + n → take k (a ++ x) ≡ a ++ take n x
take_past [] x n k e = ap (λ (i : ℕ). take i x) (let f : k ≡ n = omega (arith, e) in f)
take_past (b ∷ a) x n zero e = absurd (omega (arith, e))
take_past (b ∷ a) x n (suc k) e = ap (λ (l : List ℕ). b ∷ l) (take_past a x n k (omega (arith, e)))

-- what is held once a read wrote behind it
pub filled_range : (d after post : List ℕ) (start end n : ℕ) → start ≤ end → end ≤ length d → n ≤ length after
    → slice_range (take end d ++ (after ++ post)) start (end + n) ≡ slice_range d start end ++ take n after
filled_range d after post start end n h within some =
    let m : ℕ = end - start in
    let e : start + m ≡ end = omega (arith, h) in
    let len : length (take end d) ≡ end = length-take-le end d within in
    let long : length (take m (drop start d)) ≡ m = length-take-le m (drop start d) (omega (arith, length-drop start d, h, within)) in
    let front : drop start (take end d ++ (after ++ post)) ≡ take m (drop start d) ++ (after ++ post) =
    drop-append-le start (take end d) (after ++ post) (omega (arith, h, len))
    ∙ ap (λ (l : List ℕ). l ++ (after ++ post)) (ap (λ (i : ℕ). drop start (take i d)) (sym e) ∙ drop-take start m d) in
    ap (take (end + n - start)) front
    ∙ take_past (take m (drop start d)) (after ++ post) n (end + n - start) (omega (arith, long, h))
    ∙ ap (λ (l : List ℕ). take m (drop start d) ++ l) (take-append-le n after post some)

-- what a read wrote stands behind what was held
module _ (before d room : List ℕ) (start end n : ℕ) (h : start ≤ end) (within : end < length d) (long : length room ≡ length d) (some : end + n ≤ length d)
    (was : slice_range d start end ≡ before) (front : take end room ≡ take end d) (held : List ℕ) (held_is : held ≡ slice_range room start (end + n)) where
  behind_before : held ≡ before ++ take n (drop end room)
  behind_before =
      let parts : room ≡ take end d ++ (drop end room ++ []) =
      sym (take-append-drop end room) ∙ ap (λ (l : List ℕ). l ++ drop end room) front
      ∙ ap (λ (l : List ℕ). take end d ++ l) (sym (append-nil (drop end room))) in
      held_is ∙ ap (λ (l : List ℕ). slice_range l start (end + n)) parts
      ∙ filled_range d (drop end room) [] start end n h (omega (arith, within)) (omega (arith, some, long, length-drop end room))
      ∙ ap (λ (l : List ℕ). l ++ take n (drop end room)) was

  pub filled_from : (left : List ℕ) (now : Option (List ℕ)) → Reads left now (drop end d) (drop end room) n → Filled before held now n left
  filled_from left now reads = record {
    held = behind_before ∙ ap (λ (l : List ℕ). before ++ l) reads.front;
    rest = reads.rest;
    enough = reads.enough;
    end = λ none. reads.end none (omega (arith, within, length-drop end d));
  }

  pub grown_from : Grown before held n
  grown_from = record {
    more = take n (drop end room);
    behind = behind_before;
    count = length-take-le n (drop end room) (omega (arith, some, long, length-drop end room));
  }

-- the search stays where it is while more comes
pub search_more : (search : Search) (w held : List ℕ) (n : ℕ) → IsSearch search w → Grown w held n → IsSearch search held
search_more search w held n was grown = record {
  within = omega (arith, was.within, ap length grown.behind, length-append w grown.more);
  limit = was.limit;
  none = λ k below. subst (λ (l : List ℕ). ends_empty (take k l) ≡ false) (sym grown.behind)
      (subst (λ (l : List ℕ). ends_empty l ≡ false) (sym (take-append-le k w grown.more (omega (arith, was.within, below)))) (was.none k below));
}

pub grown_length : (w held : List ℕ) (n : ℕ) → Grown w held n → length held ≡ length w + n
grown_length w held n grown = omega (arith, ap length grown.behind, length-append w grown.more, grown.count)

-- what is read of the bytes that a source gave, step by step
module _ (before had : List ℕ) (P Q : (given rest : List ℕ) → Type 0) (now : Option (List ℕ)) (was : Gave before had now P) where
  -- more of the rest was given
  pub gave_on : (more rest : List ℕ) (after : Option (List ℕ)) → more ++ rest ≡ was.rest → after ≡ Some rest → Q ((before ++ was.more) ++ more) rest
      → Gave before had after Q
  gave_on more rest after gave left read = record {
    more = was.more ++ more;
    rest = rest;
    gave = append_assoc was.more more rest ∙ ap (λ (l : List ℕ). was.more ++ l) gave ∙ was.gave;
    left_is = left;
    read = subst (λ (l : List ℕ). Q l rest) (append_assoc before was.more more) read;
  }

  -- nothing more was given
  pub gave_still : (after : Option (List ℕ)) → after ≡ now → ((given rest : List ℕ) → P given rest → Q given rest) → Gave before had after Q
  gave_still after same so = record {
    more = was.more;
    rest = was.rest;
    gave = was.gave;
    left_is = same ∙ was.left_is;
    read = so (before ++ was.more) was.rest was.read;
  }

  pub gave_as : ((given rest : List ℕ) → P given rest → Q given rest) → Gave before had now Q
  gave_as so = gave_still now refl so

  -- a call went on behind these bytes
  pub gave_then : (held : List ℕ) (R : (given rest : List ℕ) → Type 0) (after : Option (List ℕ)) → IfSome now (λ left. Gave held left after R)
      → ((given rest more last : List ℕ) → P given rest → R (held ++ more) last → Q (given ++ more) last) → Gave before had after Q
  gave_then held R after goes both =
      let next : Gave held was.rest after R = subst (λ (o : Option (List ℕ)). IfSome o (λ left. Gave held left after R)) was.left_is goes in
      let read : Q ((before ++ was.more) ++ next.more) next.rest = both (before ++ was.more) was.rest next.more next.rest was.read next.read in
      gave_on next.more next.rest after next.gave next.left_is read

-- nothing was given yet
pub gave_none : (before : List ℕ) (P : (given rest : List ℕ) → Type 0) (o : Option (List ℕ)) → ((rest : List ℕ) → P before rest)
    → IfSome o (λ left. Gave before left o P)
gave_none before P None read = tt
gave_none before P (Some left) read = record {
  more = [];
  rest = left;
  gave = refl;
  left_is = refl;
  read = subst (λ (l : List ℕ). P l left) (sym (append-nil before)) (read left);
}

-- ---- a first read, where nothing is held

not_zero : (n : ℕ) → (suc n == 0) ≡ false
not_zero n = grind (arith, nat_tests)

opening_none : opening [] ≡ unended []
unfolding opening
opening_none = refl

-- nothing is held
pub none_held : (before held : List ℕ) (empty : Bool) → held ≡ before → empty ≡ (length held == 0) → empty ≡ true → before ≡ []
none_held [] held empty same is none = refl
none_held (b ∷ before) held empty same is none =
    absurd (true≢false (sym none ∙ is ∙ ap (λ (l : List ℕ). length l == 0) same ∙ not_zero (length before)))

module _ (before held : List ℕ) where
  -- nothing had to be read
  pub some_kept : (o : Option (List ℕ)) → IfSome o (λ left. Gave before left o (λ given rest. given ≡ before))
  some_kept o = gave_none before (λ given rest. given ≡ before) o (λ rest. refl)

  -- bytes came
  pub some_came : (left : List ℕ) (now : Option (List ℕ)) (n : ℕ) → Filled before held now n left → Gave before left now (λ given rest. given ≡ held)
  some_came left now n fill = record {
    more = take n left;
    rest = drop n left;
    gave = take-append-drop n left;
    left_is = fill.rest;
    read = sym fill.held;
  }

  -- the source ended
  pub some_ended : (left : List ℕ) (now : Option (List ℕ)) (n : ℕ) → before ≡ [] → n ≡ 0 → Filled before held now n left
      → IsHeadAnswer before left held now (Err Ended)
  unfolding IsHeadRead
  some_ended left now n empty none fill = record {
    more = [];
    rest = left;
    gave = refl;
    left_is = fill.rest ∙ ap (λ (i : ℕ). Some (drop i left)) none;
    read = (([], ap opening (append-nil before ∙ empty) ∙ opening_none, refl), fill.end none);
  }

  -- the read was refused
  pub some_fault : (o after : Option (List ℕ)) (fault : WireFault) → before ≡ [] → IsFillFault o after fault
      → IfSome o (λ left. IsHeadAnswer before left held after (Err fault))
  unfolding IsHeadRead
  some_fault o after ReadFault empty same =
      subst (λ (now : Option (List ℕ)). IfSome o (λ left. IsHeadAnswer before left held now (Err ReadFault))) (sym same)
      (gave_none before (λ given rest. IsHeadRead given held rest (Err ReadFault)) o (λ rest. ([], ap opening empty ∙ opening_none)))
  some_fault o after NoMemory empty same =
      subst (λ (now : Option (List ℕ)). IfSome o (λ left. IsHeadAnswer before left held now (Err NoMemory))) (sym same)
      (gave_none before (λ given rest. IsHeadRead given held rest (Err NoMemory)) o (λ rest. tt))
  some_fault o after Ended empty same = absurd same
  some_fault o after (Truncated n) empty same = absurd same
  some_fault o after HeadTooLong empty same = absurd same
  some_fault o after BadHead empty same = absurd same
  some_fault o after Chunked empty same = absurd same
  some_fault o after BadLength empty same = absurd same
  some_fault o after (BodyTooLong n) empty same = absurd same

-- a head stands at the front of what came
pub front_answer : (before had held : List ℕ) (now : Option (List ℕ)) (n : ℕ) → n ≤ 16384 → IsHeadEnd held n → begins_pair held ≡ false
    → Gave before had now (λ given rest. given ≡ held) → IsHeadAnswer before had held now (Ok n)
unfolding IsHeadRead
front_answer before had held now n few end pair came =
    gave_as before had (λ given rest. given ≡ held) (λ given rest. IsHeadRead given held rest (Ok n)) now came
    (λ given rest is. record {
      within = end.within;
      opens = λ more. ap (λ (l : List ℕ). opening (l ++ more)) is ∙ opening_headed 0 held more n (omega (arith, few)) end (λ two. pair);
    })

-- a head was read on from what came
pub some_then : (before had held last : List ℕ) (now after : Option (List ℕ)) (answer : Result ℕ WireFault)
    → Gave before had now (λ given rest. given ≡ held) → IfSome now (λ left. IsHeadAnswer held left last after answer)
    → IsHeadAnswer before had last after answer
some_then before had held last now after answer came goes =
    gave_then before had (λ given rest. given ≡ held) (λ given rest. IsHeadRead given last rest answer) now came held
    (λ given rest. IsHeadRead given last rest answer) after goes
    (λ given rest more end is read. subst (λ (l : List ℕ). IsHeadRead (l ++ more) last end answer) (sym is) read)

pub reached_start : (buffer : List ℕ) (o : Option (List ℕ)) → IfSome o (λ left. Reaches buffer left (record { skipped = 0; passed = 0 }) buffer o)
reached_start buffer o =
    gave_none buffer (λ given rest. IsGiven given (record { skipped = 0; passed = 0 }) buffer) o (λ rest. record { count = 0; skipped = refl; whole = refl })

module _ (before had : List ℕ) (search next : Search) (w held : List ℕ) (now : Option (List ℕ)) (reached : Reaches before had search w now) where
  abbrev Come : (given rest : List ℕ) → Type 0
  Come given rest = IsGiven given search w

  -- a head came
  pub head_answer : (n : ℕ) → ((given : List ℕ) → IsGiven given search w → Shows given next held (Head n)) → IsHeadAnswer before had held now (Ok n)
  unfolding IsHeadRead
  head_answer n shows =
      gave_as before had Come (λ given rest. IsHeadRead given held rest (Ok n)) now reached
      (λ given rest come. let shown = shows given come in record { within = shown.0; opens = shown.1 })

  pub long_answer : ((given : List ℕ) → IsGiven given search w → Shows given next held TooLong) → IsHeadAnswer before had held now (Err HeadTooLong)
  unfolding IsHeadRead
  long_answer shows =
      gave_as before had Come (λ given rest. IsHeadRead given held rest (Err HeadTooLong)) now reached
      (λ given rest come. ap opening (sym (append-nil given)) ∙ shows given come [])

  module _ (shows : (given : List ℕ) → IsGiven given search w → Shows given next held Part) where
    module _ (more : List ℕ) (after : Option (List ℕ)) (n : ℕ) (fills : IfSome now (Filled held more after n)) where
      fill : Filled held more after n reached.rest
      fill = subst (λ (o : Option (List ℕ)). IfSome o (Filled held more after n)) reached.left_is fills

      -- more came behind a part
      pub part_more : Reaches before had next more after
      part_more =
          let come = (shows (before ++ reached.more) reached.read).0 in
          gave_on before had Come (λ given rest. IsGiven given next more) now reached (take n reached.rest) (drop n reached.rest) after
          (take-append-drop n reached.rest) fill.rest
          (record {
            count = come.count;
            skipped = come.skipped;
            whole = ap (λ (l : List ℕ). l ++ take n reached.rest) come.whole ∙ append_assoc (pairs come.count) held (take n reached.rest)
                ∙ ap (λ (l : List ℕ). pairs come.count ++ l) (sym fill.held);
          })

      -- nothing was left behind a part
      pub part_end : n ≡ 0 → Gave before had after (λ given rest. EndsIn given (end_fault more) × (rest ≡ []))
      part_end none =
          let ended : reached.rest ≡ [] = fill.end none in
          let same : more ≡ held = fill.held ∙ ap (λ (i : ℕ). held ++ take i reached.rest) none ∙ append-nil held in
          gave_on before had Come (λ given rest. EndsIn given (end_fault more) × (rest ≡ [])) now reached [] (drop n reached.rest) after
          (ap (λ (i : ℕ). drop i reached.rest) none) fill.rest (
            (held, ap opening (append-nil (before ++ reached.more)) ∙ (shows (before ++ reached.more) reached.read).1, ap end_fault same),
            ap (λ (i : ℕ). drop i reached.rest) none ∙ ended,
          )

    -- the read behind a part was refused
    pub part_fault : (more : List ℕ) (after : Option (List ℕ)) (fault : WireFault) → IsFillFault now after fault
        → IsHeadAnswer before had more after (Err fault)
    unfolding IsHeadRead
    part_fault more after ReadFault same =
        gave_still before had Come (λ given rest. IsHeadRead given more rest (Err ReadFault)) now reached after same
        (λ given rest come. (held, (shows given come).1))
    part_fault more after NoMemory same =
        gave_still before had Come (λ given rest. IsHeadRead given more rest (Err NoMemory)) now reached after same (λ given rest come. tt)
    part_fault more after Ended same = absurd same
    part_fault more after (Truncated n) same = absurd same
    part_fault more after HeadTooLong same = absurd same
    part_fault more after BadHead same = absurd same
    part_fault more after Chunked same = absurd same
    part_fault more after BadLength same = absurd same
    part_fault more after (BodyTooLong n) same = absurd same

-- the fault of an end is read
end_read : (given part held rest : List ℕ) → EndsIn given (end_fault part) × (rest ≡ []) → IsHeadRead given held rest (Err (end_fault part))
unfolding IsHeadRead
end_read given [] held rest ends = ends
end_read given (b ∷ part) held rest ends =
    let some : (length (b ∷ part) == 0) ≡ false = not_zero (length part) in
    let e : end_fault (b ∷ part) ≡ Truncated (length (b ∷ part)) = ap (λ (t : Bool). if t then Ended else Truncated (length (b ∷ part))) some in
    subst (λ (f : WireFault). EndsIn given f × (rest ≡ []) → IsHeadRead given held rest (Err f)) (sym e) (λ x. x) ends

pub end_answer : (before had part held : List ℕ) (now : Option (List ℕ)) (fault : WireFault) → fault ≡ end_fault part
    → Gave before had now (λ given rest. EndsIn given (end_fault part) × (rest ≡ [])) → IsHeadAnswer before had held now (Err fault)
end_answer before had part held now fault is ends =
    gave_as before had (λ given rest. EndsIn given (end_fault part) × (rest ≡ [])) (λ given rest. IsHeadRead given held rest (Err fault)) now ends
    (λ given rest end. subst (λ (f : WireFault). IsHeadRead given held rest (Err f)) (sym is) (end_read given part held rest end))

-- a part of a list that was made longer
pub range_longer : (xs more : List ℕ) (n start end : ℕ) → start ≤ end → end ≤ length xs → length xs ≤ n
    → slice_range (take n xs ++ more) start end ≡ slice_range xs start end
range_longer xs more n start end h within long =
    ap (λ (l : List ℕ). slice_range (l ++ more) start end) (take_all n xs long)
    ∙ ap (take (end - start)) (drop-append-le start xs more (omega (arith, h, within)))
    ∙ take-append-le (end - start) (drop start xs) more (omega (arith, h, within, length-drop start xs))

-- a part that was copied to the front
pub range_copied : (xs : List ℕ) (start end : ℕ) → end ≤ length xs → slice_range (copy_within xs start end 0) 0 (end - start) ≡ slice_range xs start end
range_copied xs start end h =
    let m : ℕ = end - start in
    let long : length (take m (drop start xs)) ≡ m = length-take-le m (drop start xs) (omega (arith, h, length-drop start xs)) in
    let from : m - 0 ≡ m = omega arith in
    ap (λ (i : ℕ). take i (take m (drop start xs) ++ drop (0 + m) xs)) from
    ∙ take-append-le m (take m (drop start xs)) (drop (0 + m) xs) (omega (arith, long)) ∙ take_all m (take m (drop start xs)) (omega (arith, long))
