-- The expression that a text is read as is the one that it is.
use Rattle.std.proofs.Common.{◌≡◌, ℕ, zero, suc, ◌-◌, ◌+◌, ◌≤◌, Bool, true, false, cond, eqb, ltb, List, [], ◌∷◌, ◌++◌, length, take, drop}
use Rattle.std.proofs.Common.{Option, Some, None, option_map, option_and_then, MatchOption, Result, Ok, Err}
use Rattle.std.proofs.Common.{refl, sym, ap, subst, ◌∙◌, append_assoc, inl, inr, arith}
use Rattle.std.proofs.lemmas.Bool.{cases_Bool, eqb-true, le-ltb}
use Rattle.std.proofs.lemmas.List.{append-nil}
use Rattle.commit_graph.specs.declared.expression.Move.{Move}
use Rattle.commit_graph.specs.Expressions.{RefExprValue, IsExpression, at_sign, NoAt}
use Rattle.commit_graph.specs.declared.expression.ExprFault.TheVariants.{Bad, NoMemory}
use Rattle.commit_graph.specs.Scanning.{read_move, name_len, IsScanned, IsStopped}
use Rattle.commit_graph.proofs.ExpressionLemmas.{scanned_more, scanned_none, move_read, shorter, heads}
use Rattle.commit_graph.proofs.ExpressionNameLemmas.{IsHeaded, head_of, no_name, found, only, err_only}
use Rattle.std.specs.Prelude.{ok_or}
use Rattle.lake_calls.specs.Calls.{ExpressionValue}
use Rattle.lake_calls.specs.declared.reply.FormRefusal.{FormRefusal}
use Rattle.lake_calls.specs.declared.reply.FormRefusal.TheVariants.{BadValue}
use Rattle.api_routes.specs.FormSteps.{in_turn}
use Rattle.api_routes.specs.ExpressionTexts.{expression_at, moves_of, with_moves, behind_name, expression_of}

-- moves can't go on
abbrev Stops : List ℕ → Type 0
Stops bytes = (n : ℕ) → (place : ℕ) × IsStopped n bytes place

scan : (most : ℕ) (bytes : List ℕ) (moves : List Move) (rest : List ℕ) → length rest ≤ most → IsScanned bytes moves rest
    → MatchOption (moves_of most rest) (Stops bytes) (λ later. IsScanned bytes (moves ++ later) [])
scan zero bytes moves [] small s = subst (λ l. IsScanned bytes l []) (sym (append-nil moves)) s
scan (suc most) bytes moves [] small s = subst (λ l. IsScanned bytes l []) (sym (append-nil moves)) s
scan zero bytes moves (byte ∷ rest) small s = absurd (omega arith)
scan (suc most) bytes moves (byte ∷ rest) small s =
    by (read_move (byte ∷ rest)) refl (λ now after less so_far. scan most bytes now after less so_far)
  where
    Scans : Type 0
    Scans = (now : List Move) (after : List ℕ) → length after ≤ most → IsScanned bytes now after
        → MatchOption (moves_of most after) (Stops bytes) (λ later. IsScanned bytes (now ++ later) [])

    joined : (one : Move) (o : Option (List Move)) → MatchOption o (Stops bytes) (λ later. IsScanned bytes ((moves ++ one ∷ []) ++ later) [])
        → MatchOption (option_map (λ ms. one ∷ ms) o) (Stops bytes) (λ later. IsScanned bytes (moves ++ later) [])
    joined one None st = st
    joined one (Some later) sc = subst (λ l. IsScanned bytes l []) (append_assoc moves (one ∷ []) later) sc

    by : (r : Option (Move × List ℕ)) → read_move (byte ∷ rest) ≡ r → Scans
        → MatchOption (option_and_then (λ front. option_map (λ ms. front.0 ∷ ms) (moves_of most front.1)) r) (Stops bytes)
        (λ later. IsScanned bytes (moves ++ later) [])
    by None e further = λ n. (n - length (byte ∷ rest), record { moves = moves; rest = byte ∷ rest; scanned = s; no_move = e; some = omega arith; at = refl })
    by (Some (one, after)) e further =
        let m = move_read (byte ∷ rest) one after e in
        joined one (moves_of most after)
        (further (moves ++ one ∷ []) after (omega (arith, shorter (byte ∷ rest) one after m, small)) (scanned_more bytes moves (byte ∷ rest) after one s m))

-- what a text is read as
abbrev IsMeant : List ℕ → Option RefExprValue → Type 0
IsMeant text o = MatchOption o ((e : RefExprValue) → IsExpression e text → ⊥) (λ x. IsExpression x text × ((e : RefExprValue) → IsExpression e text → x ≡ e))

module _ (text name : List ℕ) (at : Bool) (rest : List ℕ) (h : IsHeaded text name at rest) where
  meant_moves : IsMeant text (with_moves name at rest)
  meant_moves = by (moves_of (length rest) rest) (scan (length rest) rest [] rest (omega arith) (scanned_none rest))
    where
      by : (o : Option (List Move)) → MatchOption o (Stops rest) (λ later. IsScanned rest later [])
          → IsMeant text (option_map (λ moves. record { name = name; at = at; moves = moves }) o)
      by None st = λ e x. let s = st (length text) in cc (err_only text name at rest h (Bad s.0) s.1 e x)
      by (Some later) sc = (found text name at rest h later sc, only text name at rest h later sc)

-- what stands behind a name is read behind `@` or without it
abbrev chosen : (text : List ℕ) (byte : ℕ) (rest : List ℕ) → Bool → Option RefExprValue
chosen text byte rest so =
    cond so (with_moves (take (name_len text) text) true rest) (with_moves (take (name_len text) text) false (byte ∷ rest))

module _ (text : List ℕ) (some : name_len text ≡ 0 → ⊥) where
  meant_behind : (after : List ℕ) → after ≡ drop (name_len text) text → IsMeant text (behind_name (take (name_len text) text) after)
  meant_behind [] e =
      meant_moves text (take (name_len text) text) false []
      (head_of text (name_len text) (take (name_len text) text) [] false [] refl some refl e refl (λ _ more x. cc x))
  meant_behind (byte ∷ rest) e =
      elim (cases_Bool (eqb byte 64)) [
        | inl so ↦
            subst (λ (b : Bool). IsMeant text (chosen text byte rest b))
            (sym so) (meant_moves text (take (name_len text) text) true rest
            (head_of text (name_len text) (take (name_len text) text) (byte ∷ rest) true rest refl some refl e
            (ap (λ b. b ∷ rest) (eqb-true byte 64 so)) (λ nay. absurd cc)))
        | inr nay ↦
            subst (λ (b : Bool). IsMeant text (chosen text byte rest b))
            (sym nay) (meant_moves text (take (name_len text) text) false (byte ∷ rest)
            (head_of text (name_len text) (take (name_len text) text) (byte ∷ rest) false (byte ∷ rest) refl some refl e refl
            (λ _ more x. not_at (heads byte 64 rest more x).0 nay)))
      ]
    where
      not_at : {byte : ℕ} → byte ≡ 64 → eqb byte 64 ≡ false → ⊥
      not_at {byte} is nay = cc (sym (ap (λ b. eqb b 64) is) ∙ nay)

pub meant : (text : List ℕ) → IsMeant text (expression_of text)
meant text =
    elim (cases_Bool (eqb (name_len text) 0)) [
      | inl so ↦
          subst (λ (b : Bool). IsMeant text (cond b None (behind_name (take (name_len text) text) (drop (name_len text) text)))) (sym so)
          (no_name text (eqb-true (name_len text) 0 so)).none
      | inr nay ↦
          subst (λ (b : Bool). IsMeant text (cond b None (behind_name (take (name_len text) text) (drop (name_len text) text)))) (sym nay)
          (meant_behind text (λ is. zero_is is nay) (drop (name_len text) text) refl)
    ]
  where
    zero_is : {n : ℕ} → n ≡ 0 → eqb n 0 ≡ false → ⊥
    zero_is {n} is nay = cc (sym (ap (λ k. eqb k 0) is) ∙ nay)

-- a text that is an expression is read as it
pub expression_is : (e : RefExprValue) (text : List ℕ) → IsExpression e text → expression_of text ≡ Some e
expression_is e text x = by (expression_of text) (meant text)
  where
    by : (o : Option RefExprValue) → IsMeant text o → o ≡ Some e
    by None none = absurd (none e x)
    by (Some one) is = ap Some (is.1 e x)

-- and one that is none is read as none
pub expression_none : (text : List ℕ) → ((e : RefExprValue) → IsExpression e text → ⊥) → expression_of text ≡ None
expression_none text none = by (expression_of text) (meant text)
  where
    by : (o : Option RefExprValue) → IsMeant text o → o ≡ None
    by None is = refl
    by (Some one) is = absurd (none one is.0)

-- ---- where an expression is asked for

short : (text : List ℕ) → length text ≤ 67108864 → ltb 67108864 (length text) ≡ false
short text few = le-ltb 67108864 (length text) few

abbrev with_text : List ℕ → RefExprValue → Result ExpressionValue FormRefusal
with_text text e = Ok (record { e = e; text = text })

pub expression_at_is : (name text : List ℕ) (x : ExpressionValue) → length text ≤ 67108864 → x.text ≡ text → expression_of text ≡ Some x.e
    → expression_at name text ≡ Ok x
expression_at_is name text x few same e =
    ap (λ (b : Bool). cond b (Err (BadValue name)) (in_turn (ok_or (expression_of text) (BadValue name)) (with_text text))) (short text few)
    ∙ ap (λ (o : Option RefExprValue). in_turn (ok_or o (BadValue name)) (with_text text)) e
    ∙ ap (λ (t : List ℕ). with_text t x.e) (sym same)
