-- The name at the front of an expression, and what the whole text then is.
use Rattle.std.proofs.Common.{◌≡◌, ℕ, zero, suc, ◌-◌, ◌+◌, ◌≤◌, Bool, true, false, not, cond, eqb, ltb, List, [], ◌∷◌, ◌++◌, length, take, drop, position}
use Rattle.std.proofs.Common.{Option, Some, None, option_map, Result, Err, refl, sym, ap, subst, ◌∙◌, append_assoc, inl, inr, arith}
use Rattle.std.proofs.lemmas.Bool.{cases_Bool, ne_eqb, ltb-false, le-ltb}
use Rattle.std.proofs.lemmas.List.{append-nil, length-append, take_at, drop_at}
use Rattle.std.specs.List.{AllByRecursion, position_or_len}
use Rattle.lake_base.specs.Names.{ref_fault, bad_byte, begins_ref, continues_ref}
use Rattle.lake_base.specs.declared.names.NameFault.{NameFault}
use Rattle.lake_base.specs.declared.names.NameFault.TheVariants.{Empty, TooLong, BadByte}
use Rattle.lake_base.proofs.NamesLemmas.{all_pass}
use Rattle.commit_graph.specs.declared.expression.Move.{Move}
use Rattle.commit_graph.specs.declared.expression.Move.TheVariants.{Back, Parent}
use Rattle.commit_graph.specs.Expressions.{RefExprValue, AreMoves, at_sign, NoAt, IsExpression, IsStray}
use Rattle.commit_graph.specs.declared.expression.ExprFault.{ExprFault}
use Rattle.commit_graph.specs.declared.expression.ExprFault.TheVariants.{Bad, NoMemory}
use Rattle.commit_graph.specs.Scanning.{BeginsLike, IsScanned, IsStopped, StopsMoves, read_move, tail_len, name_len}
use Rattle.commit_graph.proofs.ExpressionLemmas.{heads}

abbrev AllGoOn : List ℕ → Type 0
AllGoOn bytes = AllByRecursion (λ byte. continues_ref byte ≡ true) bytes

-- no name goes on
abbrev IsMarked : List ℕ → Type 0
IsMarked [] = Unit {0}
IsMarked (byte ∷ bytes) = continues_ref byte ≡ false

-- ---- the bytes behind the first of a name

record TailTaken (more : ℕ) (bytes : List ℕ) (n : ℕ) : Type 0 where
  pub front : List ℕ
  pub rest : List ℕ
  pub parts : bytes ≡ front ++ rest
  pub len : length front ≡ n
  pub few : n ≤ more
  pub each : AllGoOn front
  pub forced : (other z y : List ℕ) → AllGoOn other → length other ≤ more → IsMarked z → BeginsLike rest y → other ++ z ≡ front ++ y → (other ≡ front) × (z ≡ y)

no_more : (other z y : List ℕ) → length other ≤ 0 → other ++ z ≡ y → (other ≡ []) × (z ≡ y)
no_more [] z y few e = (refl, e)
no_more (c ∷ other) z y few e = absurd (omega arith)

nothing_left : (other z y : List ℕ) → y ≡ [] → other ++ z ≡ y → (other ≡ []) × (z ≡ y)
nothing_left [] z y none e = (refl, e)
nothing_left (c ∷ other) z y none e = absurd (cc (e ∙ none))

stops_here : (byte : ℕ) (other z y : List ℕ) → continues_ref byte ≡ false → AllGoOn other → (more : List ℕ) → y ≡ byte ∷ more → other ++ z ≡ y
    → (other ≡ []) × (z ≡ y)
stops_here byte [] z y nay each more is e = (refl, e)
stops_here byte (c ∷ other) z y nay each more is e =
    let same = (heads c byte (other ++ z) more (e ∙ is)).0 in
    absurd (cc (sym each.0 ∙ ap continues_ref same ∙ nay))

goes_on : (byte : ℕ) (front : List ℕ) (left : ℕ) (other z y : List ℕ) → continues_ref byte ≡ true → AllGoOn other → length other ≤ suc left → IsMarked z
    → other ++ z ≡ byte ∷ (front ++ y)
    → ((other : List ℕ) → AllGoOn other → length other ≤ left → other ++ z ≡ front ++ y → (other ≡ front) × (z ≡ y)) → (other ≡ byte ∷ front) × (z ≡ y)
goes_on byte front left [] z y so each few marked e rest = absurd (cc (sym (subst IsMarked e marked) ∙ so))
goes_on byte front left (c ∷ other) z y so each few marked e rest =
    let h = heads c byte (other ++ z) (front ++ y) e in
    let r = rest other each.1 (omega arith) h.1 in
    (ap (λ k. k ∷ other) h.0 ∙ ap (λ l. byte ∷ l) r.0, r.1)

tail_taken : (more : ℕ) (bytes : List ℕ) → TailTaken more bytes (tail_len more bytes)
unfolding tail_len
tail_taken zero bytes = record {
  front = [];
  rest = bytes;
  parts = refl;
  len = refl;
  few = omega arith;
  each = tt;
  forced = λ other z y each few marked like e. no_more other z y few e;
}
tail_taken (suc more) [] = record {
  front = [];
  rest = [];
  parts = refl;
  len = refl;
  few = omega arith;
  each = tt;
  forced = λ other z y each few marked like e. nothing_left other z y like e;
}
tail_taken (suc more) (byte ∷ bytes) =
    elim (cases_Bool (continues_ref byte)) [
      | inl so ↦
          let t = tail_taken more bytes in
          subst (TailTaken (suc more) (byte ∷ bytes)) (sym (ap (λ b. cond b (suc (tail_len more bytes)) 0) so)) (record {
            front = byte ∷ t.front;
            rest = t.rest;
            parts = ap (λ l. byte ∷ l) t.parts;
            len = ap suc t.len;
            few = omega (arith, t.few);
            each = (so, t.each);
            forced = λ other z y each few marked like e.
                goes_on byte t.front more other z y so each few marked e (λ o each few e. t.forced o z y each few marked like e);
          })
      | inr nay ↦ subst (TailTaken (suc more) (byte ∷ bytes)) (sym (ap (λ b. cond b (suc (tail_len more bytes)) 0) nay)) (record {
        front = [];
        rest = byte ∷ bytes;
        parts = refl;
        len = refl;
        few = omega arith;
        each = tt;
        forced = λ other z y each few marked like e. stops_here byte other z y nay each like.0 like.1 e;
      })
    ]

-- ---- names

-- a name: its first byte, and at most 254 others
abbrev pub IsName : List ℕ → Type 0
IsName [] = ⊥
IsName (byte ∷ bytes) = (begins_ref byte ≡ true) × AllGoOn bytes × (length bytes ≤ 254)

tests : (empty long : Bool) (r : Option NameFault) → cond empty (Some Empty) (cond long (Some TooLong) r) ≡ None → (long ≡ false) × (r ≡ None)
tests true long r e = absurd cc
tests false true r e = absurd cc
tests false false r e = (refl, e)

no_byte : (b : Bool) (o : Option ℕ) → cond b (option_map (λ at. BadByte (at + 1)) o) (Some (BadByte 0)) ≡ None → (b ≡ true) × (o ≡ None)
no_byte true None e = (refl, refl)
no_byte true (Some at) e = absurd cc
no_byte false o e = absurd cc

pub name_to : (name : List ℕ) → ref_fault name ≡ None → IsName name
name_to [] e = absurd cc
name_to (byte ∷ bytes) e =
    let t = tests (eqb (length (byte ∷ bytes)) 0) (ltb 255 (length (byte ∷ bytes))) (bad_byte begins_ref continues_ref (byte ∷ bytes)) e in
    let b = no_byte (begins_ref byte) (position (λ byte. not (continues_ref byte)) bytes) t.1 in
    let short : length (byte ∷ bytes) ≤ 255 = ltb-false _ _ t.0 in
    (b.0, all_pass continues_ref bytes b.1, omega arith)

whole_len : (bytes : List ℕ) → AllGoOn bytes → position_or_len (λ byte. not (continues_ref byte)) bytes ≡ length bytes
whole_len [] each = refl
whole_len (byte ∷ bytes) each =
    let more = whole_len bytes each.1 in
    ap (λ b. cond (not (not b)) (1 + position_or_len (λ byte. not (continues_ref byte)) bytes) 0) each.0 ∙ omega (arith, more)

none_stray : (bytes : List ℕ) → AllGoOn bytes → position (λ byte. not (continues_ref byte)) bytes ≡ None
none_stray bytes each =
    let at = position_or_len (λ byte. not (continues_ref byte)) bytes in
    let past : ltb at (length bytes) ≡ false = le-ltb _ _ (omega (arith, whole_len bytes each)) in
    ap (λ b. cond b (Some at) None) past

pub name_from : (byte : ℕ) (bytes : List ℕ) → begins_ref byte ≡ true → AllGoOn bytes → length bytes ≤ 254 → ref_fault (byte ∷ bytes) ≡ None
name_from byte bytes first each few =
    let some : eqb (length (byte ∷ bytes)) 0 ≡ false = ne_eqb (length (byte ∷ bytes)) 0 (λ none. omega arith) in
    let short : ltb 255 (length (byte ∷ bytes)) ≡ false = le-ltb _ _ (omega arith) in
    let stray : option_map (λ at. BadByte (at + 1)) (position (λ byte. not (continues_ref byte)) bytes) ≡ None =
    ap (option_map (λ at. BadByte (at + 1))) (none_stray bytes each) in
    ap (λ b. cond b (Some Empty) (cond (ltb 255 (length (byte ∷ bytes))) (Some TooLong) (bad_byte begins_ref continues_ref (byte ∷ bytes)))) some
    ∙ ap (λ b. cond b (Some TooLong) (bad_byte begins_ref continues_ref (byte ∷ bytes))) short
    ∙ ap (λ b. cond b (option_map (λ at. BadByte (at + 1)) (position (λ byte. not (continues_ref byte)) bytes)) (Some (BadByte 0))) first
    ∙ stray

pub record NameTaken (text : List ℕ) (n : ℕ) : Type 0 where
  pub name : List ℕ
  pub rest : List ℕ
  pub parts : text ≡ name ++ rest
  pub len : length name ≡ n
  pub named : ref_fault name ≡ None
  pub forced : (other z y : List ℕ) → ref_fault other ≡ None → IsMarked z → BeginsLike rest y → other ++ z ≡ name ++ y → (other ≡ name) × (z ≡ y)

name_taken : (byte : ℕ) (bytes : List ℕ) → begins_ref byte ≡ true → NameTaken (byte ∷ bytes) (suc (tail_len 254 bytes))
name_taken byte bytes first =
    let t = tail_taken 254 bytes in
    record {
      name = byte ∷ t.front;
      rest = t.rest;
      parts = ap (λ l. byte ∷ l) t.parts;
      len = ap suc t.len;
      named = name_from byte t.front first t.each (omega (arith, t.len, t.few));
      forced = λ other z y named marked like e. by other z y (name_to other named) marked like e;
    }
  where
    by : (other z y : List ℕ) → IsName other → IsMarked z → BeginsLike (tail_taken 254 bytes).rest y → other ++ z ≡ byte ∷ ((tail_taken 254 bytes).front ++ y)
        → (other ≡ byte ∷ (tail_taken 254 bytes).front) × (z ≡ y)
    by [] z y is marked like e = absurd is
    by (c ∷ other) z y is marked like e =
        let t = tail_taken 254 bytes in
        let h = heads c byte (other ++ z) (t.front ++ y) e in
        let r = t.forced other z y is.1 is.2 marked like h.1 in
        (ap (λ k. k ∷ other) h.0 ∙ ap (λ l. byte ∷ l) r.0, r.1)

-- a name at the front, where there is one
pub name_read : (text : List ℕ) → 1 ≤ name_len text → NameTaken text (name_len text)
unfolding name_len
name_read [] some = absurd (omega arith)
name_read (byte ∷ bytes) some =
    elim (cases_Bool (begins_ref byte)) [
      | inl so ↦ subst (NameTaken (byte ∷ bytes)) (sym (ap (λ b. cond b (suc (tail_len 254 bytes)) 0) so)) (name_taken byte bytes so)
      | inr nay ↦ absurd (let none : cond (begins_ref byte) (suc (tail_len 254 bytes)) 0 ≡ 0 = ap (λ b. cond b (suc (tail_len 254 bytes)) 0) nay in omega arith)
    ]

-- ---- the whole text

-- what follows the name of an expression
marked_tail : (at : Bool) (moves : List Move) (tail : List ℕ) → AreMoves moves tail → IsMarked (at_sign at ++ tail)
marked_tail true moves tail are = refl
marked_tail false [] tail are = subst IsMarked (sym are) tt
marked_tail false (Back n ∷ moves) tail are = subst IsMarked (sym are.2) refl
marked_tail false (Parent n ∷ moves) tail are = subst IsMarked (sym are.2) refl

no_at : (moves : List Move) (tail more : List ℕ) → AreMoves moves tail → tail ≡ 64 ∷ more → ⊥
no_at [] tail more are e = cc (sym are ∙ e)
no_at (Back n ∷ moves) tail more are e = let h = heads 126 64 (are.0 ++ are.1) more (sym are.2 ∙ e) in omega (arith, h.0)
no_at (Parent n ∷ moves) tail more are e = let h = heads 94 64 (are.0 ++ are.1) more (sym are.2 ∙ e) in omega (arith, h.0)

pub like_self : (bytes : List ℕ) → BeginsLike bytes bytes
like_self [] = refl
like_self (byte ∷ bytes) = (bytes, refl)

like_front : (front : List ℕ) (byte : ℕ) (r more : List ℕ) → BeginsLike (front ++ byte ∷ r) (front ++ byte ∷ more)
like_front [] byte r more = (more, refl)
like_front (f ∷ front) byte r more = (front ++ byte ∷ more, refl)

-- a name, and whether `@` follows it; every expression that begins so, and goes on like the rest, has both
pub record IsHeaded (text name : List ℕ) (at : Bool) (rest : List ℕ) : Type 0 where
  pub parts : text ≡ name ++ (at_sign at ++ rest)
  pub named : ref_fault name ≡ None
  pub forced : (e : RefExprValue) (y : List ℕ) → BeginsLike rest y → IsExpression e (name ++ (at_sign at ++ y))
      → (e.name ≡ name) × (e.at ≡ at) × AreMoves e.moves y

pub headed : (text : List ℕ) (n : ℕ) (t : NameTaken text n) (at : Bool) (rest : List ℕ) → t.rest ≡ at_sign at ++ rest → (at ≡ false → NoAt rest)
    → IsHeaded text t.name at rest
headed text n t at rest is plain = record {
  parts = t.parts ∙ ap (λ l. t.name ++ l) is;
  named = t.named;
  forced = λ e y like x.
      let f = t.forced e.name (at_sign e.at ++ x.tail) (at_sign at ++ y) x.named (marked_tail e.at e.moves x.tail x.moves)
      (subst (λ l. BeginsLike l (at_sign at ++ y)) (sym is) (like_at at rest y like)) (sym x.parts) in
      let g = same_at e.at at x.tail y e.moves x.moves (λ nay. plain_y at rest y like (plain nay)) f.1 in
      (f.0, g.0, subst (AreMoves e.moves) g.1 x.moves);
}
  where
    like_at : (at : Bool) (rest y : List ℕ) → BeginsLike rest y → BeginsLike (at_sign at ++ rest) (at_sign at ++ y)
    like_at true rest y like = (y, refl)
    like_at false rest y like = like

    plain_y : (at : Bool) (rest y : List ℕ) → BeginsLike rest y → NoAt rest → NoAt y
    plain_y at [] y like plain more e = cc (sym like ∙ e)
    plain_y at (byte ∷ rest) y like plain more e =
        let h = heads byte 64 like.0 more (sym like.1 ∙ e) in
        plain rest (ap (λ k. k ∷ rest) h.0)

    same_at : (a b : Bool) (tail y : List ℕ) (moves : List Move) → AreMoves moves tail → (b ≡ false → NoAt y) → at_sign a ++ tail ≡ at_sign b ++ y
        → (a ≡ b) × (tail ≡ y)
    same_at true true tail y moves are plain e = (refl, (heads 64 64 tail y e).1)
    same_at false false tail y moves are plain e = (refl, e)
    same_at true false tail y moves are plain e = absurd (plain refl tail (sym e))
    same_at false true tail y moves are plain e = absurd (no_at moves tail y are e)

module _ (text name : List ℕ) (at : Bool) (rest : List ℕ) (h : IsHeaded text name at rest) where
  abbrev whole : List Move → RefExprValue
  whole moves = record { name = name; at = at; moves = moves }

  pub found : (moves : List Move) → IsScanned rest moves [] → IsExpression (whole moves) text
  found moves s = record { tail = rest; parts = h.parts; named = h.named; moves = subst (AreMoves moves) (sym (s.parts ∙ append-nil s.front)) s.spelled }

  pub only : (moves : List Move) → IsScanned rest moves [] → (e : RefExprValue) → IsExpression e text → whole moves ≡ e
  only moves s e x =
      let f = h.forced e rest (like_self rest) (subst (IsExpression e) h.parts x) in
      let g = s.forced e.moves [] refl (subst (AreMoves e.moves) s.parts f.2) in
      let same : e.moves ≡ moves = g.1 ∙ ap (λ l. moves ++ l) (nothing g.0 g.2) ∙ append-nil moves in
      λ i. record { name = sym f.0 i; at = sym f.1 i; moves = sym same i }
    where
      nothing : (later : List Move) → AreMoves later [] → later ≡ []
      nothing [] are = refl
      nothing (m ∷ later) are = absurd (cc are.2)

  -- nothing goes on where no move stands
  no_moves : (later : List Move) (byte : ℕ) (r more : List ℕ) → read_move (byte ∷ r) ≡ None → AreMoves later (byte ∷ more) → ⊥
  unfolding read_move
  no_moves [] byte r more none are = cc are
  no_moves (Back n ∷ later) byte r more none are = let s = (heads byte 126 more (are.0 ++ are.1) are.2).0 in cc (sym (ap (λ b. read_move (b ∷ r)) s) ∙ none)
  no_moves (Parent n ∷ later) byte r more none are = let s = (heads byte 94 more (are.0 ++ are.1) are.2).0 in cc (sym (ap (λ b. read_move (b ∷ r)) s) ∙ none)

  none_goes_on : (moves : List Move) (byte : ℕ) (r : List ℕ) → (s : IsScanned rest moves (byte ∷ r)) → read_move (byte ∷ r) ≡ None
      → (e : RefExprValue) (more : List ℕ) → IsExpression e (name ++ (at_sign at ++ (s.front ++ byte ∷ more))) → ⊥
  none_goes_on moves byte r s none e more x =
      let like = subst (λ l. BeginsLike l (s.front ++ byte ∷ more)) (sym s.parts) (like_front s.front byte r more) in
      let f = h.forced e (s.front ++ byte ∷ more) like x in
      let g = s.forced e.moves (byte ∷ more) (more, refl) f.2 in
      no_moves g.0 byte r more none g.2

  stopped : (n place : ℕ) (moves : List Move) (left : List ℕ) → IsScanned rest moves left → read_move left ≡ None → 1 ≤ length left → place ≡ n - length left
      → n ≡ length text → IsStray text place
  stopped n place moves [] s none some at_is n_is = absurd (omega arith)
  stopped n place moves (byte ∷ r) s none some at_is n_is =
      let pre = name ++ (at_sign at ++ s.front) in
      let regroup : (z : List ℕ) → name ++ (at_sign at ++ (s.front ++ z)) ≡ pre ++ z =
      λ z. ap (λ l. name ++ l) (sym (append_assoc (at_sign at) s.front z)) ∙ sym (append_assoc name (at_sign at ++ s.front) z) in
      let split : text ≡ pre ++ (byte ∷ r) = h.parts ∙ ap (λ l. name ++ (at_sign at ++ l)) s.parts ∙ regroup (byte ∷ r) in
      let len : length pre ≡ place = omega (arith, ap length split, length-append pre (byte ∷ r)) in
      let upto : take place text ≡ pre = ap (take place) split ∙ take_at pre (byte ∷ r) place len in
      let one_more : text ≡ (pre ++ byte ∷ []) ++ r = split ∙ sym (append_assoc pre (byte ∷ []) r) in
      let len_more : length (pre ++ byte ∷ []) ≡ place + 1 = omega (arith, length-append pre (byte ∷ []), len) in
      let past : take (place + 1) text ≡ pre ++ byte ∷ [] = ap (take (place + 1)) one_more ∙ take_at (pre ++ byte ∷ []) r (place + 1) len_more in
      record {
        within = omega (arith, at_is, n_is);
        before = (whole moves, ([], record { tail = s.front; parts = ap (λ l. l ++ []) upto ∙ append-nil pre; named = h.named; moves = s.spelled }));
        stops = λ b. absurd (none_goes_on moves byte r s none b.0 b.1.0
            (subst (IsExpression b.0) (ap (λ l. l ++ b.1.0) past ∙ append_assoc pre (byte ∷ []) b.1.0 ∙ sym (regroup (byte ∷ b.1.0))) b.1.1));
        none = λ e x. none_goes_on moves byte r s none e r (subst (IsExpression e) (split ∙ sym (regroup (byte ∷ r))) x);
      }

  pub stray : (place : ℕ) → IsStopped (length text) rest place → IsStray text place
  stray place st = stopped (length text) place st.moves st.rest st.scanned st.no_move st.some st.at refl

-- where no name stands at the front, the first place is stray
pub no_name : (text : List ℕ) → name_len text ≡ 0 → IsStray text 0
unfolding name_len
no_name text none = record {
  within = omega arith;
  before = (record { name = 97 ∷ []; at = false; moves = [] }, (97 ∷ [], record { tail = []; parts = refl; named = refl; moves = refl }));
  stops = λ b. past text none b.0 b.1.0 b.1.1;
  none = λ e x. nowhere text none e x;
}
  where
    first_is : (byte : ℕ) (bytes : List ℕ) → cond (begins_ref byte) (suc (tail_len 254 bytes)) 0 ≡ 0 → begins_ref byte ≡ false
    first_is byte bytes none = by (begins_ref byte) none
      where
        by : (b : Bool) → cond b (suc (tail_len 254 bytes)) 0 ≡ 0 → b ≡ false
        by true e = absurd (omega arith)
        by false e = refl

    not_named : (byte : ℕ) (more name z : List ℕ) → begins_ref byte ≡ false → IsName name → byte ∷ more ≡ name ++ z → ⊥
    not_named byte more [] z nay is e = is
    not_named byte more (c ∷ name) z nay is e = cc (sym is.0 ∙ ap begins_ref (sym (heads byte c more (name ++ z) e).0) ∙ nay)

    nothing : (name z : List ℕ) → IsName name → [] ≡ name ++ z → ⊥
    nothing [] z is e = is
    nothing (c ∷ name) z is e = cc e

    nowhere : (text : List ℕ) → name_len text ≡ 0 → (e : RefExprValue) → IsExpression e text → ⊥
    nowhere [] none e x = nothing e.name (at_sign e.at ++ x.tail) (name_to e.name x.named) x.parts
    nowhere (byte ∷ bytes) none e x = not_named byte bytes e.name (at_sign e.at ++ x.tail) (first_is byte bytes none) (name_to e.name x.named) x.parts

    past : (text : List ℕ) → name_len text ≡ 0 → (e : RefExprValue) (more : List ℕ) → IsExpression e (take 1 text ++ more) → length text ≤ 0
    past [] none e more x = omega arith
    past (byte ∷ bytes) none e more x = absurd (not_named byte more e.name (at_sign e.at ++ x.tail) (first_is byte bytes none) (name_to e.name x.named) x.parts)

-- ---- what a reader has found

-- the front as long as the longest name, and what follows it
pub head_of : (text : List ℕ) (n : ℕ) (name after : List ℕ) (at : Bool) (rest : List ℕ) → n ≡ name_len text → (n ≡ 0 → ⊥) → name ≡ take n text
    → after ≡ drop n text → after ≡ at_sign at ++ rest → (at ≡ false → NoAt rest) → IsHeaded text name at rest
head_of text n name after at rest long some front back parts plain =
    let t = name_read text (omega (arith, long, some_of n some)) in
    let len : length t.name ≡ n = t.len ∙ sym long in
    let name_is : name ≡ t.name = front ∙ ap (take n) t.parts ∙ take_at t.name t.rest n len in
    let rest_is : t.rest ≡ at_sign at ++ rest = sym (drop_at t.name t.rest n len) ∙ sym (ap (drop n) t.parts) ∙ sym back ∙ parts in
    subst (λ l. IsHeaded text l at rest) (sym name_is) (headed text (name_len text) t at rest rest_is plain)
  where
    some_of : (n : ℕ) → (n ≡ 0 → ⊥) → 1 ≤ n
    some_of zero some = absurd (some refl)
    some_of (suc n) some = omega arith

-- the longest name is within the text
pub within : (text : List ℕ) (n : ℕ) → n ≡ name_len text → n ≤ length text
within text zero long = omega arith
within text (suc n) long = let t = name_read text (omega (arith, long)) in omega (arith, t.len, ap length t.parts, length-append t.name t.rest, long)

pub err_is : {X : Type 0} (a b : ExprFault) → ◌≡◌ {A = Result X ExprFault} (Err a) (Err b) → a ≡ b
err_is a b e = cc

pub bad_is : {X : Type 0} (a b : ℕ) → ◌≡◌ {A = Result X ExprFault} (Err (Bad a)) (Err (Bad b)) → a ≡ b
bad_is a b e = cc

module _ (text name : List ℕ) (at : Bool) (rest : List ℕ) (h : IsHeaded text name at rest) where
  -- where moves stop, no expression is meant
  pub err_only : (fault : ExprFault) → StopsMoves (length text) rest fault → (e : RefExprValue) → IsExpression e text → fault ≡ NoMemory
  err_only NoMemory stops e x = refl
  err_only (Bad place) stops e x = absurd ((stray text name at rest h place stops).none e x)

  pub err_bad : (fault : ExprFault) → StopsMoves (length text) rest fault → (place : ℕ) → fault ≡ Bad place → IsStray text place
  err_bad fault stops place is = stray text name at rest h place (subst (StopsMoves (length text) rest) is stops)

  -- the expression that was read is the one that was meant
  pub only_as : (front : List ℕ) (moves items : List Move) → front ≡ name → items ≡ moves → IsScanned rest moves [] → (e : RefExprValue) → IsExpression e text
      → ◌≡◌ {A = RefExprValue} (record { name = front; at = at; moves = items }) e
  only_as front moves items is same s e x = (λ i. record { name = is i; at = at; moves = same i }) ∙ only text name at rest h moves s e x
