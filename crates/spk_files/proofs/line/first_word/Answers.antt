use Rattle.std.proofs.Common.{◌≡◌, ℕ, ◌-◌, List, ◌∷◌, length, take, drop, Some, refl, sym, ap, ◌∙◌, rules, tests}
use Rattle.std.proofs.lemmas.Iterator.{YieldsList-from_slice}
use Rattle.std.proofs.lemmas.Iterator.Search.{position_from_yields_List}
use Rattle.std.specs.List.{position, position_or_len}
use Rattle.spk_files.specs.Lines.{is_blank, words_of}
use Rattle.spk_files.proofs.Places.{from_place, place_or_end}
use Rattle.spk_files.proofs.WordLaws.{is_in_word, no_words, word_from}
use Rattle.spk_files.proofs.line.first_word.Goals as goal

pub returns-in_err-start : goal.returns-in_err-start
returns-in_err-start c =
    rw c.from_residual.ensures (no_words c.args.text.now
    (sym c.in_err-start.was ∙ position_from_yields_List is_in_word _ _ _ c.position.ensures.ran (YieldsList-from_slice c.args.text.now cc) (λ x b q k. search (rules, tests))))

pub returns : goal.returns
returns c =
    let text : List ℕ = c.args.text.now in
    let rest : List ℕ = take (length text - c.in_ok-start.start) (drop c.in_ok-start.start text) in
    let start : Some c.in_ok-start.start ≡ position is_in_word text =
    sym c.in_ok-start.was ∙ position_from_yields_List is_in_word _ _ _ c.position.ensures.ran (YieldsList-from_slice text cc) (λ x b q k. search (rules, tests)) in
    let end : c.position-2.result ≡ position is_blank rest =
    position_from_yields_List is_blank _ _ _ c.position-2.ensures.ran (YieldsList-from_slice rest cc) (λ x b q k. search (rules, tests)) in
    let length_is : c.unwrap_or-end.result ≡ position_or_len is_blank rest = c.unwrap_or-end.ensures ∙ rw end (place_or_end is_blank rest) in
    word_from text c.in_ok-start.start start
    ∙ ap (λ rest. take (position_or_len is_blank rest) rest ∷ words_of (drop (position_or_len is_blank rest) rest)) (sym (from_place text c.in_ok-start.start))
    ∙ rw (c.split_at.ensures.front, c.split_at.ensures.back, length_is) refl
