use Rattle.std.proofs.Common.{◌≡◌, ◌++◌, ℕ, List, [], ◌∷◌, Option, Some, None, ap, sym, ◌∙◌, append_assoc, Bor, rules}
use Rattle.std.specs.Option.{option_map}
use Rattle.std.proofs.lemmas.List.{append-nil}
use Rattle.lakectl_verbs.specs.LineForms.{word_step, step_seen, onto, words_of}
use Rattle.lakectl_verbs.proofs.LineLemmas.{words_step, words_none, step_shorter}
use Rattle.lakectl_verbs.proofs.line.words_of.Goals as goal

pub loop-word-preserved : goal.loop-word-preserved
loop-word-preserved c =
    let words : List (List ℕ) = c.loop-word.words.items in
    let rest : List ℕ = c.in-Some.behind.now in
    let step : words_of c.loop-word.rest.now ≡ words_of rest =
    words_step c.loop-word.rest.now _ (sym c.in-Some.ensures)
    ∙ ap (λ (word : Option (Bor (List ℕ))). onto (option_map (λ (w : Bor (List ℕ)). w.now) word) (words_of rest)) c.in_default-word.is in
    record { text = search rules; words = ap (λ (l : List (List ℕ)). words ++ l) (sym step) ∙ c.loop-word.invariant.words }

pub loop-word-preserved-in_ok-push : goal.loop-word-preserved-in_ok-push
loop-word-preserved-in_ok-push c =
    let words : List (List ℕ) = c.loop-word.words.items in
    let rest : List ℕ = c.in-Some.behind.now in
    let word : List ℕ = c.in-Some-word.word.now in
    let step : words_of c.loop-word.rest.now ≡ word ∷ words_of rest =
    words_step c.loop-word.rest.now _ (sym c.in-Some.ensures)
    ∙ ap (λ (word : Option (Bor (List ℕ))). onto (option_map (λ (w : Bor (List ℕ)). w.now) word) (words_of rest)) c.in-Some-word.is in
    let pushed : c.push.new.self.items ≡ words ++ word ∷ [] =
    c.in_ok-push.ensures.items ∙ ap (λ (w : List ℕ). words ++ w ∷ []) (c.of.ensures ∙ c.in_ok-from_str.ensures.ok) in
    record {
      text = search rules;
      words = ap (λ (l : List (List ℕ)). l ++ words_of rest) pushed ∙ append_assoc words (word ∷ []) (words_of rest)
          ∙ ap (λ (l : List (List ℕ)). words ++ l) (sym step) ∙ c.loop-word.invariant.words;
    }

pub returns : goal.returns
returns c =
    c.of-2.ensures ∙ sym (append-nil c.loop-word.words.items)
    ∙ ap (λ (l : List (List ℕ)). c.loop-word.words.items ++ l) (sym (words_none c.loop-word.rest.now (sym c.in_default.ensures)))
    ∙ c.loop-word.invariant.words
