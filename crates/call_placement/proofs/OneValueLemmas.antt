-- The one-seat course has one value.
use Rattle.std.proofs.Common.{◌≡◌, List, [], ◌∷◌, ◌++◌, refl, ap, sym, ◌∙◌, append_assoc, subst}
use Rattle.std.proofs.lemmas.List.{append-nil}
use Rattle.call_placement.specs.Rules.{Caller, Rules}
use Rattle.call_placement.specs.Points.{replay, made, entries_of}
use Rattle.call_placement.specs.Alone.{Pass, EndsAlone, DoneAlone, RefusedAlone, GoesAlone, IsDetermined}

module _ {A : Type 0} where
  -- a list behind another begins with something
  begins : (xs ys : List A) (y : A) (rest : List A) → ys ≡ y ∷ rest → (h : A) × (t : List A) × (xs ++ ys ≡ h ∷ t)
  begins [] ys y rest is = (y, rest, is)
  begins (x ∷ xs) ys y rest is = (x, xs ++ ys, refl)

module _ {Entry State Operation Request Fixed Point Met Reply : Type 0} (rules : Rules Entry State Operation Request Fixed Point Met Reply) where
  some_left : (by : Caller) (request : Request) (met : Met) (course passed left : List Point) (state : State) (reply : Reply) (added : List Entry)
      → EndsAlone rules by request met course passed left state reply added → (p : Point) × (rest : List Point) × (left ≡ p ∷ rest)
  some_left by request met course passed left state reply added (DoneAlone last left_is passes answers is) = (last, [], left_is)
  some_left by request met course passed left state reply added (RefusedAlone point later left_is refuses is) = (point, later, left_is)

  -- two ends behind the same points
  same_end : (request : Request) → IsDetermined rules request → (by : Caller) (met : Met) (f g : Fixed) (passed l m : List Point) (state : State)
      (reply other : Reply)
      (x y : List Entry)
      → rules.course request f ≡ passed ++ l → rules.course request g ≡ passed ++ m
      → EndsAlone rules by request met (rules.course request f) passed l state reply x
      → EndsAlone rules by request met (rules.course request g) passed m state other y → (reply ≡ other) × (x ≡ y)
  same_end request det by met f g passed l m state reply other x y f_is g_is (DoneAlone p l_is passes answers x_is) (DoneAlone q m_is passes' answers' y_is) =
      let one : rules.course request f ≡ passed ++ p ∷ [] = f_is ∙ ap (λ w. passed ++ w) l_is in
      let two : rules.course request g ≡ passed ++ q ∷ [] = g_is ∙ ap (λ w. passed ++ w) m_is in
      let point : p ≡ q = det.one_point by f g passed p q [] [] state one two passes passes' in
      let courses : rules.course request g ≡ rules.course request f = two ∙ (ap (λ w. passed ++ w ∷ []) (sym point) ∙ sym one) in (
        det.one_answer by met (rules.course request f) state reply other answers (subst (λ c. rules.answers by request met c state other) courses
            answers'),
        x_is ∙ (ap (λ w. made rules by (rules.makes w)) point ∙ sym y_is),
      )
  same_end request det by met f g passed l m state reply other x y f_is g_is (DoneAlone p l_is passes answers x_is) (RefusedAlone q later m_is refuses y_is) =
      absurd (det.not_both by f g passed p q [] later state other (f_is ∙ ap (λ w. passed ++ w) l_is)
      (g_is ∙ ap (λ w. passed ++ w) m_is) passes refuses)
  same_end request det by met f g passed l m state reply other x y f_is g_is (RefusedAlone p later l_is refuses x_is) (DoneAlone q m_is passes answers y_is) =
      absurd (det.not_both by g f passed q p [] later state reply (g_is ∙ ap (λ w. passed ++ w) m_is)
      (f_is ∙ ap (λ w. passed ++ w) l_is) passes refuses)
  same_end request det by met f g passed l m state reply other x y f_is g_is (RefusedAlone p later l_is refuses x_is)
      (RefusedAlone q later' m_is refuses' y_is) = (
        det.one_refusal by f g passed p q later later' state reply other (f_is ∙ ap (λ w. passed ++ w) l_is)
            (g_is ∙ ap (λ w. passed ++ w) m_is) refuses refuses',
        x_is ∙ sym y_is,
      )

  -- an end where the other goes on
  no_end : (request : Request) → IsDetermined rules request → (by : Caller) (met : Met) (f g : Fixed) (passed l : List Point) (q h : Point) (t : List Point)
      (state : State)
      (reply : Reply) (x : List Entry)
      → rules.course request f ≡ passed ++ l → rules.course request g ≡ passed ++ q ∷ (h ∷ t)
      → EndsAlone rules by request met (rules.course request f) passed l state reply x → rules.passes by request q state → ⊥
  no_end request det by met f g passed l q h t state reply x f_is g_is (DoneAlone p l_is passes answers x_is) goes =
      let one : rules.course request f ≡ passed ++ p ∷ [] = f_is ∙ ap (λ w. passed ++ w) l_is in
      let point : p ≡ q = det.one_point by f g passed p q [] (h ∷ t) state one g_is passes goes in
      let front : passed ++ q ∷ [] ≡ rules.course request f = ap (λ w. passed ++ w ∷ []) (sym point) ∙ sym one in
      det.no_front f g h t (g_is ∙ (sym (append_assoc passed (q ∷ []) (h ∷ t)) ∙ ap (λ w. w ++ h ∷ t) front))
  no_end request det by met f g passed l q h t state reply x f_is g_is (RefusedAlone p later l_is refuses x_is) goes =
      det.not_both by g f passed q p (h ∷ t) later state reply g_is (f_is ∙ ap (λ w. passed ++ w) l_is) goes refuses

  -- two walks, which have gone the same way so far
  same_walk : (request : Request) → IsDetermined rules request → (opened : State) (by : Caller) (met : Met) (f g : Fixed) (done ps qs l m : List Point)
      (seen : List Entry)
      (reply other : Reply) (x y : List Entry)
      → rules.course request f ≡ (done ++ ps) ++ l → rules.course request g ≡ (done ++ qs) ++ m
      → Pass rules opened by request ps seen → Pass rules opened by request qs seen
      → EndsAlone rules by request met (rules.course request f) (done ++ ps) l (replay rules opened (seen ++ entries_of rules by ps)) reply x
      → EndsAlone rules by request met (rules.course request g) (done ++ qs) m (replay rules opened (seen ++ entries_of rules by qs)) other y
      → (reply ≡ other) × (entries_of rules by ps ++ x ≡ entries_of rules by qs ++ y)
  same_walk request det opened by met f g done [] [] l m seen reply other x y f_is g_is one two e d =
      same_end request det by met f g (done ++ []) l m (replay rules opened (seen ++ [])) reply other x y f_is g_is e d
  same_walk request det opened by met f g done [] (q ∷ qs) l m seen reply other x y f_is g_is one two e d =
      let s = some_left by request met (rules.course request g) (done ++ q ∷ qs) m _ other y d in
      let b = begins qs m s.0 s.1 s.2 in
      absurd (no_end request det by met f g (done ++ []) l q b.0 b.1 (replay rules opened (seen ++ [])) reply x f_is
      (g_is ∙ (append_assoc done (q ∷ qs) m ∙ (ap (λ w. done ++ q ∷ w) b.2 ∙ ap (λ w. w ++ q ∷ (b.0 ∷ b.1)) (sym (append-nil done))))) e
      (subst (λ w. rules.passes by request q (replay rules opened w)) (sym (append-nil seen)) two.0))
  same_walk request det opened by met f g done (p ∷ ps) [] l m seen reply other x y f_is g_is one two e d =
      let s = some_left by request met (rules.course request f) (done ++ p ∷ ps) l _ reply x e in
      let b = begins ps l s.0 s.1 s.2 in
      absurd (no_end request det by met g f (done ++ []) m p b.0 b.1 (replay rules opened (seen ++ [])) other y g_is
      (f_is ∙ (append_assoc done (p ∷ ps) l ∙ (ap (λ w. done ++ p ∷ w) b.2 ∙ ap (λ w. w ++ p ∷ (b.0 ∷ b.1)) (sym (append-nil done))))) d
      (subst (λ w. rules.passes by request p (replay rules opened w)) (sym (append-nil seen)) one.0))
  same_walk request det opened by met f g done (p ∷ ps) (q ∷ qs) l m seen reply other x y f_is g_is one two e d =
      let a = made rules by (rules.makes p) in
      let point : q ≡ p = sym (det.one_point by f g done p q (ps ++ l) (qs ++ m) (replay rules opened seen)
      (f_is ∙ append_assoc done (p ∷ ps) l) (g_is ∙ append_assoc done (q ∷ qs) m) one.0 two.0) in
      let f_step : done ++ p ∷ ps ≡ (done ++ p ∷ []) ++ ps = sym (append_assoc done (p ∷ []) ps) in
      let g_step : done ++ q ∷ qs ≡ (done ++ p ∷ []) ++ qs = ap (λ w. done ++ w ∷ qs) point ∙ sym (append_assoc done (p ∷ []) qs) in
      let f_seen : seen ++ entries_of rules by (p ∷ ps) ≡ (seen ++ a) ++ entries_of rules by ps = sym (append_assoc seen a (entries_of rules by ps)) in
      let g_seen : seen ++ entries_of rules by (q ∷ qs) ≡ (seen ++ a) ++ entries_of rules by qs =
      ap (λ w. seen ++ (made rules by (rules.makes w) ++ entries_of rules by qs)) point ∙ sym (append_assoc seen a (entries_of rules by qs)) in
      let rest = same_walk request det opened by met f g (done ++ p ∷ []) ps qs l m (seen ++ a) reply other x y
      (f_is ∙ ap (λ w. w ++ l) f_step) (g_is ∙ ap (λ w. w ++ m) g_step)
      one.1 (subst (λ w. Pass rules opened by request qs (seen ++ made rules by (rules.makes w))) point two.1)
      (subst (λ w. EndsAlone rules by request met (rules.course request f) w l (replay rules opened ((seen ++ a) ++ entries_of rules by ps)) reply x) f_step
      (subst (λ w. EndsAlone rules by request met (rules.course request f) (done ++ p ∷ ps) l (replay rules opened w) reply x) f_seen e))
      (subst (λ w. EndsAlone rules by request met (rules.course request g) w m (replay rules opened ((seen ++ a) ++ entries_of rules by qs)) other y) g_step
      (subst (λ w. EndsAlone rules by request met (rules.course request g) (done ++ q ∷ qs) m (replay rules opened w) other y) g_seen d)) in (
        rest.0,
        append_assoc a (entries_of rules by ps) x ∙ (ap (λ w. a ++ w) rest.1
            ∙ (ap (λ w. made rules by (rules.makes w) ++ (entries_of rules by qs ++ y)) (sym point)
            ∙ sym (append_assoc (made rules by (rules.makes q)) (entries_of rules by qs) y))),
      )

  -- THE ONE-SEAT COURSE HAS ONE VALUE
  pub one_value : (request : Request) → IsDetermined rules request → (opened : State) (by : Caller) (seen : List Entry) (met : Met) (reply other : Reply)
      (added more : List Entry)
      → GoesAlone rules opened by seen request met reply added → GoesAlone rules opened by seen request met other more → (reply ≡ other) × (added ≡ more)
  one_value request det opened by seen met reply other added more a b =
      let same = same_walk request det opened by met a.fixed b.fixed [] a.passed b.passed a.left b.left seen reply other a.more b.more
      a.course b.course a.points b.points a.ended b.ended in
      (same.0, a.added_is ∙ (same.1 ∙ sym b.added_is))
