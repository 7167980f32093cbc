-- The toy's rules have one value at each point, and tell what is done.
use Rattle.std.proofs.Common.{◌≡◌, ◌≢◌, ℕ, List, [], ◌∷◌, ◌++◌, Bool, true, false, refl, ap, sym, ◌∙◌, subst}
use Rattle.std.specs.Prelude.{◌⊎◌, None}
use mathlib.Core.Logic.{inl, inr}
use Rattle.call_placement.specs.Alone.{IsDetermined}
use Rattle.call_placement.specs.Placed.{TellsDone, TellsFault}
use Rattle.call_placement.specs.Examples.{ToyState, ToyRequest, ToyPoint, Takes, Looks, Puts, ToyReply, Stopped, upload_course, toy_makes, toy_passes}
use Rattle.call_placement.specs.Examples.{toy_refuses, toy_done, toy_rules}

-- where a point stands in the course of a number
abbrev At : ℕ → List ToyPoint → ToyPoint → Type 0
At n passed p =
    ((passed ≡ []) × (p ≡ Takes n)) ⊎ ((passed ≡ Takes n ∷ []) × (p ≡ Looks)) ⊎ ((passed ≡ Takes n ∷ Looks ∷ []) × (p ≡ Puts n))

at_point : (n : ℕ) (passed : List ToyPoint) (p : ToyPoint) (ps : List ToyPoint) → upload_course n ≡ passed ++ p ∷ ps → At n passed p
at_point n [] p ps is = inl (refl, cc (is))
at_point n (a ∷ []) p ps is = inr (inl (cc (is), cc (is)))
at_point n (a ∷ b ∷ []) p ps is = inr (inr (cc (is), cc (is)))
at_point n (a ∷ b ∷ c ∷ []) p ps is = absurd (cc (is))
at_point n (a ∷ b ∷ c ∷ d ∷ rest) p ps is = absurd (cc (is))

-- two points behind the same ones are one, unless both take a number
same_point : (m n : ℕ) (passed : List ToyPoint) (p q : ToyPoint) → At m passed p → At n passed q
    → ((p ≡ Takes m) × (q ≡ Takes n)) ⊎ (p ≡ q)
same_point m n passed p q (inl a) (inl b) = inl (a.1, b.1)
same_point m n passed p q (inl a) (inr (inl b)) = absurd (cc (a.0, b.0))
same_point m n passed p q (inl a) (inr (inr b)) = absurd (cc (a.0, b.0))
same_point m n passed p q (inr (inl a)) (inl b) = absurd (cc (a.0, b.0))
same_point m n passed p q (inr (inl a)) (inr (inl b)) = inr (a.1 ∙ sym b.1)
same_point m n passed p q (inr (inl a)) (inr (inr b)) = absurd (cc (a.0, b.0))
same_point m n passed p q (inr (inr a)) (inl b) = absurd (cc (a.0, b.0))
same_point m n passed p q (inr (inr a)) (inr (inl b)) = absurd (cc (a.0, b.0))
same_point m n passed p q (inr (inr a)) (inr (inr b)) = let same : m ≡ n = cc (a.0, b.0) in inr (a.1 ∙ (ap Puts same ∙ sym b.1))

one_point : (m n : ℕ) (p q : ToyPoint) (state : ToyState) → ((p ≡ Takes m) × (q ≡ Takes n)) ⊎ (p ≡ q) → toy_passes p state → toy_passes q state → p ≡ q
one_point m n p q state (inr is) a b = is
one_point m n p q state (inl is) a b =
    let one = subst (λ w. toy_passes w state) is.0 a in
    let two = subst (λ w. toy_passes w state) is.1 b in
    is.0 ∙ (ap Takes (one.1 ∙ sym two.1) ∙ sym is.1)

clash : (b : Bool) → b ≡ true → b ≡ false → ⊥
clash b one two = absurd (cc (one, two))

not_here : (p : ToyPoint) (state : ToyState) (reply : ToyReply) → toy_passes p state → toy_refuses p state reply → ⊥
not_here (Takes n) state reply a b = clash _ b.0 a.0
not_here Looks state reply a b = b
not_here (Puts n) state reply a b = clash _ b.0 a

not_both : (m n : ℕ) (p q : ToyPoint) (state : ToyState) (reply : ToyReply) → ((p ≡ Takes m) × (q ≡ Takes n)) ⊎ (p ≡ q)
    → toy_passes p state → toy_refuses q state reply → ⊥
not_both m n p q state reply (inr is) a b = not_here q state reply (subst (λ w. toy_passes w state) is a) b
not_both m n p q state reply (inl is) a b =
    let one = subst (λ w. toy_passes w state) is.0 a in
    let two = subst (λ w. toy_refuses w state reply) is.1 b in clash _ two.0 one.0

refusal : (p : ToyPoint) (state : ToyState) (reply : ToyReply) → toy_refuses p state reply → reply ≡ Stopped
refusal (Takes n) state reply b = b.1
refusal Looks state reply b = absurd b
refusal (Puts n) state reply b = b.1

pub determined : (request : ToyRequest) → IsDetermined toy_rules request
determined request = record {
  one_point = λ by m n passed p q ps qs state f g a b.
      one_point m n p q state (same_point m n passed p q (at_point m passed p ps f) (at_point n passed q qs g)) a b;
  not_both = λ by m n passed p q ps qs state reply f g a b.
      not_both m n p q state reply (same_point m n passed p q (at_point m passed p ps f) (at_point n passed q qs g)) a b;
  one_refusal = λ by m n passed p q ps qs state reply other f g a b. refusal p state reply a ∙ sym (refusal q state other b);
  no_front = λ m n q qs is. absurd (cc (is));
  one_answer = λ by met course state reply other a b. cc (a.1, a.2, b.1, b.2);
}

-- the last point of a course puts its body
puts_last : (n : ℕ) (front : List ToyPoint) (last : ToyPoint) → upload_course n ≡ front ++ last ∷ [] → toy_makes last ≢ None
puts_last n [] last is = absurd (cc (is))
puts_last n (a ∷ []) last is = absurd (cc (is))
puts_last n (a ∷ b ∷ []) last is = let puts : Puts n ≡ last = cc (is) in (λ none. absurd (cc (ap toy_makes puts, none)))
puts_last n (a ∷ b ∷ c ∷ []) last is = absurd (cc (is))
puts_last n (a ∷ b ∷ c ∷ d ∷ rest) last is = absurd (cc (is))

pub tells_done : TellsDone toy_rules
tells_done = record {
  answered = λ by request met course state reply a. ap toy_done a.2;
  refused = λ by request p state reply b. ap toy_done (refusal p state reply b);
  excepted = λ by request left met opened from seen reply a. ap toy_done a.1;
  excepted_behind = λ by request met opened from seen reply a. absurd a;
  failed = λ met reply a. ap toy_done a.1;
  starved = λ reply a. ap toy_done a;
  owes_nothing = λ request n. refl;
  last_makes = λ request n front last is. inl (puts_last n front last is);
}

pub tells_fault : TellsFault toy_rules
tells_fault = record {
  not_refused = λ by request point state met reply fails refuses. absurd (cc (fails.1, refusal point state reply refuses));
  not_excepted = λ by request left met opened from seen reply fails cause. absurd (cc (fails.1, cause.1));
  not_excepted_behind = λ by request met opened from seen reply fails cause. cause;
  not_starved = λ met reply fails want. absurd (cc (fails.1, want));
  no_note = λ by one other same. absurd (cc (ap (λ entry. entry.fault) same));
}
