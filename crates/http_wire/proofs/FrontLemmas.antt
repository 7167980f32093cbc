-- What is written follows what was written.
use Rattle.std.proofs.Common.{◌≡◌, List, ℕ, [], ◌++◌, Option, Some, None, IfSome, refl, sym, ◌∙◌, ap, subst, append_assoc}
use Rattle.std.proofs.lemmas.List.{append-nil}
use Rattle.http_wire.specs.SinkFronts.{IsPrefix, Wrote, WroteFirst, WroteFront, Shows}

pub front_of_self : (xs : List ℕ) → IsPrefix xs xs
front_of_self xs = ([], append-nil xs)

pub front_of_append : (xs ys : List ℕ) → IsPrefix xs (xs ++ ys)
front_of_append xs ys = (ys, refl)

pub front_trans : (a b c : List ℕ) → IsPrefix a b → IsPrefix b c → IsPrefix a c
front_trans a b c f g = (f.0 ++ g.0, sym (append_assoc a f.0 g.0) ∙ ap (λ (l : List ℕ). l ++ g.0) f.1 ∙ g.1)

-- behind the same front
pub front_after : (front a b : List ℕ) → IsPrefix a b → IsPrefix (front ++ a) (front ++ b)
front_after front a b f = (f.0, append_assoc front a f.0 ∙ ap (λ (l : List ℕ). front ++ l) f.1)

pub front_more : (a b more : List ℕ) → IsPrefix a b → IsPrefix a (b ++ more)
front_more a b more f = front_trans a b (b ++ more) f (front_of_append b more)

pub wrote_none : (written : Option (List ℕ)) → Wrote written written []
wrote_none None = tt
wrote_none (Some w) = ap Some (sym (append-nil w))

pub wrote_then : (a b c : Option (List ℕ)) (x y : List ℕ) → Wrote a b x → Wrote b c y → Wrote a c (x ++ y)
wrote_then None b c x y f g = tt
wrote_then (Some w) b c x y f g = subst (λ (o : Option (List ℕ)). IfSome o (λ v. c ≡ Some (v ++ y))) f g ∙ ap Some (append_assoc w x y)

pub wrote_as : (a b : Option (List ℕ)) (x y : List ℕ) → x ≡ y → Wrote a b x → Wrote a b y
wrote_as a b x y is wrote = subst (λ (l : List ℕ). Wrote a b l) is wrote

-- what was written first stays so
pub first_then : (a b c : Option (List ℕ)) (x y : List ℕ) → WroteFirst a b x → Wrote b c y → WroteFirst a c x
first_then a b c x y early wrote =
    (early.0 ++ y, wrote_as a c ((x ++ early.0) ++ y) (x ++ (early.0 ++ y)) (append_assoc x early.0 y) (wrote_then a b c (x ++ early.0) y early.1 wrote))

-- a front behind what was written whole
pub front_then : (a b c : Option (List ℕ)) (x y : List ℕ) → Wrote a b x → WroteFront b c y → WroteFront a c (x ++ y)
front_then a b c x y wrote part = record {
  out = x ++ part.out;
  front = front_after x part.out y part.front;
  wrote = wrote_then a b c x part.out wrote part.wrote;
}

pub front_as : (a b : Option (List ℕ)) (x y : List ℕ) → x ≡ y → WroteFront a b x → WroteFront a b y
front_as a b x y is part = record { out = part.out; front = subst (λ (l : List ℕ). IsPrefix part.out l) is part.front; wrote = part.wrote }

-- both were written, and nothing is pending
pub shows_written : (a b c : Option (List ℕ)) (pending text still : List ℕ) → still ≡ [] → Wrote a b pending → Wrote b c text → Shows a c pending text still
shows_written a b c pending text still none first second = record {
  out = pending ++ text;
  wrote = wrote_then a b c pending text first second;
  whole = ap (λ (l : List ℕ). (pending ++ text) ++ l) none ∙ append-nil (pending ++ text);
}

module _ (a b c : Option (List ℕ)) (pending text still more : List ℕ) (first : Shows a b pending text still) where
  -- one text and then the next
  pub shows_then : (last : List ℕ) → Shows b c still more last → Shows a c pending (text ++ more) last
  shows_then last second = record {
    out = first.out ++ second.out;
    wrote = wrote_then a b c first.out second.out first.wrote second.wrote;
    whole = append_assoc first.out second.out last ∙ ap (λ (l : List ℕ). first.out ++ l) second.whole ∙ sym (append_assoc first.out still more)
        ∙ ap (λ (l : List ℕ). l ++ more) first.whole ∙ append_assoc pending text more;
  }

  -- what is pending and some more was written in part
  pub shows_cut : WroteFront b c (still ++ more) → WroteFront a c (pending ++ (text ++ more))
  shows_cut part =
      front_as a c (first.out ++ (still ++ more)) (pending ++ (text ++ more))
      (sym (append_assoc first.out still more) ∙ ap (λ (l : List ℕ). l ++ more) first.whole ∙ append_assoc pending text more)
      (front_then a b c first.out (still ++ more) first.wrote part)

-- all that is pending was written
pub shows_flushed : (a b c : Option (List ℕ)) (pending text still : List ℕ) → Shows a b pending text still → Wrote b c still → Wrote a c (pending ++ text)
shows_flushed a b c pending text still first wrote =
    wrote_as a c (first.out ++ still) (pending ++ text) first.whole (wrote_then a b c first.out still first.wrote wrote)

-- nothing is pending, so that all was written
pub shows_all : (a b : Option (List ℕ)) (pending text still : List ℕ) → still ≡ [] → Shows a b pending text still → Wrote a b (pending ++ text)
shows_all a b pending text still none first =
    wrote_as a b first.out (pending ++ text) (sym (append-nil first.out) ∙ ap (λ (l : List ℕ). first.out ++ l) (sym none) ∙ first.whole) first.wrote
