use Rattle.std.proofs.Common.{◌≡◌, Bool, true, false, ap, sym, ◌∙◌}
use Rattle.lake_values.specs.Entry.{EntryValue}
use Rattle.pair_ties.proofs.FilesLemmas.{not_given, not_gone, not_live}
use Rattle.pair_ties.proofs.files.is_sound.Goals as goal

contra : {x : Bool} → x ≡ true → x ≡ false → ⊥
contra x y = cc

pub returns-then-not-is_given_number : goal.returns-then-not-is_given_number
returns-then-not-is_given_number c =
    not_given c.args.pairs.now c.args.live c.in-Own.number c.in-Own.digest c.args.entry.now.place
    (sym (ap (λ (e : EntryValue). e.place) c.entry.view_is) ∙ c.in-Own.is)
    (λ given. contra (c.is_given_number.ensures.1 given) c.if-not-is_given_number.true)

pub returns-then-not-live : goal.returns-then-not-live
returns-then-not-live c =
    not_live c.args.pairs.now c.args.live c.in-Own.number c.in-Own.digest c.args.entry.now.place
    (sym (ap (λ (e : EntryValue). e.place) c.entry.view_is) ∙ c.in-Own.is)
    (c.is_given_number.ensures.0 c.if-not-is_given_number.false) c.if-not-live.true

pub returns-in_ok-has-in-Own : goal.returns-in_ok-has-in-Own
returns-in_ok-has-in-Own c =
    not_gone c.args.pairs.now c.args.live c.in-Own.number c.in-Own.digest c.args.entry.now.place
    (sym (ap (λ (e : EntryValue). e.place) c.entry.view_is) ∙ c.in-Own.is)
    (c.is_given_number.ensures.0 c.if-not-is_given_number.false) c.if-not-live.false c.in_ok-has-in-Own.field-0 c.in_ok-has-in-Own.ensures
