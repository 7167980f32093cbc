-- Graphs with one commit more, dates that aren't exceeded, and the entries of small maps.
use Rattle.std.proofs.Common.{◌≡◌, ◌≤◌, ◌∷◌, [], ℕ, Bool, true, false, cond, List, sym, ap, subst, ◌∙◌, arith}
use Rattle.std.proofs.lemmas.List.{nil_from_length}
use Rattle.std.specs.Prelude.{Option, Some, option_map}
use Rattle.std.specs.Option.{unwrap_or}
use Rattle.std.specs.FinMap.{entries, get, insert, empty, get-insert, get-empty, entries-insert, len-entries, len-empty}
use Rattle.std.specs.FinMap.Entries.{put}
use Rattle.std.specs.Ordering.{eq_by_cmp}
use Rattle.std.specs.Cmp.Lexicographic.{nat_list_cmp_total}
use Rattle.lake_base.specs.Maps.{byte_order}
use Rattle.lake_base.specs.declared.digest.Digest.{Digest}
use Rattle.lake_values.specs.Ancestry.{Graph, date}
use Rattle.lake_values.specs.Commit.{CommitRecordValue}

-- no commit is dated after this
abbrev pub AreDatedBy : ℕ → Graph → Type 0
AreDatedBy most graph = (id : Digest) → date graph id ≤ most

pub dated_empty : (most : ℕ) → AreDatedBy most empty
unfolding date
dated_empty most id = let e : unwrap_or (option_map (λ (c : CommitRecordValue). c.date) (get {R = byte_order} empty id.0)) 0 ≡ 0 =
    ap (λ (o : Option CommitRecordValue). unwrap_or (option_map (λ (c : CommitRecordValue). c.date) o) 0) (get-empty byte_order id.0) in omega (arith, e)

pub dated_more : (most : ℕ) (graph : Graph) (new : Digest) (c : CommitRecordValue) → c.date ≤ most → AreDatedBy most graph
    → AreDatedBy most (insert graph new.0 c)
unfolding date
dated_more most graph new c dated before id =
    let e =
    ap (λ (o : Option CommitRecordValue). unwrap_or (option_map (λ (c : CommitRecordValue). c.date) o) 0) (get-insert nat_list_cmp_total graph new.0 c id.0) in
    subst (λ n. n ≤ most) (sym e) (by (eq_by_cmp byte_order id.0 new.0))
  where
    by : (b : Bool) → unwrap_or (option_map (λ (c : CommitRecordValue). c.date) (cond b (Some c) (get graph id.0))) 0 ≤ most
    by true = dated
    by false = before id

-- the entries of the empty map, and of a map of one
pub entries_empty : {X : Type 0} → entries (empty {X = X} {R = byte_order}) ≡ []
entries_empty {X = X} = nil_from_length _ (sym (len-entries empty) ∙ len-empty byte_order X)

pub entries_one : {X : Type 0} (name : List ℕ) (v : X) → entries (insert {R = byte_order} empty name v) ≡ (name, v) ∷ []
entries_one name v = entries-insert nat_list_cmp_total empty name v ∙ ap (put byte_order name v) entries_empty
