-- The words of a line, replaced one after another.
use Rattle.std.proofs.Common.{◌≡◌, ℕ, ◌+◌, ◌<◌, ◌≤◌, false, List, [], ◌∷◌, ◌++◌, length, get_or, drop, Ok, Err, Result, refl, sym, ◌∙◌, ap, subst, append_assoc, append-nil}
use Rattle.std.proofs.lemmas.List.{drop_more, drop_all}
use Rattle.spk_num.specs.Results.{◌>>=◌, IsPlainOrMemory}
use Rattle.spk_num.proofs.ResultLaws.{then_value, then_fault}
use Rattle.spk_script.specs.declared.fault.LineFault.{LineFault}
use Rattle.spk_script.specs.declared.line_buffer.LineBuffer.{LineBuffer}
use Rattle.spk_script.specs.declared.words.Word.{Word}
use Rattle.spk_script.specs.Faults.{is_memory}
use Rattle.spk_script.specs.Values.{Environment}
use Rattle.spk_script.specs.Substitution.{substituted, cut_at_blanks, substituted_words, fitted, line_words}
use Rattle.spk_script.specs.LineBuffers.{OpenLine, Holds, IsExtended}
use Rattle.spk_script.proofs.Following.{plain_same}
use Rattle.spk_script.proofs.LineBuffers.{line_of, whole_word}

-- words before words
abbrev pub put_words : List (List ℕ) → Result (List (List ℕ)) LineFault → Result (List (List ℕ)) LineFault
put_words prefix rest = rest >>= λ following. Ok (prefix ++ following)

put_twice : (prefix words : List (List ℕ)) (rest : Result (List (List ℕ)) LineFault) →
    put_words prefix (put_words words rest) ≡ put_words (prefix ++ words) rest
unfolding ◌>>=◌
put_twice prefix words (Ok following) = ap Ok (sym (append_assoc prefix words following))
put_twice prefix words (Err fault) = refl

put_none : (rest : Result (List (List ℕ)) LineFault) → put_words [] rest ≡ rest
unfolding ◌>>=◌
put_none (Ok following) = refl
put_none (Err fault) = refl

-- the first word, and what is made of its text
abbrev then_words : Environment → Word → List Word → List ℕ → Result (List (List ℕ)) LineFault
then_words variables word words text = put_words (cut_at_blanks word.quoted text) (substituted_words variables words)

first_word : (variables : Environment) (word : Word) (words : List Word) (text : List ℕ) → substituted variables word.text ≡ Ok text →
    substituted_words variables (word ∷ words) ≡ then_words variables word words text
unfolding substituted_words
first_word variables word words text is = then_value (substituted variables word.text) (then_words variables word words) text is

first_wrong : (variables : Environment) (word : Word) (words : List Word) (fault : LineFault) →
    substituted variables word.text ≡ Err fault → substituted_words variables (word ∷ words) ≡ Err fault
unfolding substituted_words
first_wrong variables word words fault is = then_fault (substituted variables word.text) (then_words variables word words) fault is

-- done words stand before those that are replaced from a place on
abbrev IsDone : Environment → Result (List (List ℕ)) LineFault → List (List ℕ) → List Word → Type 0
IsDone variables whole done left = whole ≡ put_words done (substituted_words variables left)

pub record HoldsDone (variables : Environment) (whole : Result (List (List ℕ)) LineFault) (line : LineBuffer) (left : List Word) : Type 0 where
  pub done : List (List ℕ)
  pub is : IsDone variables whole done left
  pub holds : Holds line (line_of done [])

pub no_words : (variables : Environment) (words : List Word) (line : LineBuffer) → Holds line (line_of [] []) →
    HoldsDone variables (substituted_words variables words) line (drop 0 words)
no_words variables words line holds = record { done = []; is = sym (put_none (substituted_words variables words)); holds = holds }

at_word : (variables : Environment) (whole : Result (List (List ℕ)) LineFault) (done : List (List ℕ)) (words : List Word) (i : ℕ) (word : Word) →
    i < length words → word ≡ get_or words i word → IsDone variables whole done (drop i words) →
    IsDone variables whole done (word ∷ drop (i + 1) words)
at_word variables whole done words i word within is so_far =
    let here : drop i words ≡ word ∷ drop (i + 1) words = drop_more words i word within ∙ ap (λ w. w ∷ drop (i + 1) words) (sym is) in
    so_far ∙ ap (λ rest. put_words done (substituted_words variables rest)) here

pub one_word_more : (variables : Environment) (whole : Result (List (List ℕ)) LineFault) (line now : LineBuffer) (words : List Word) (i : ℕ) →
    (word : Word) → i < length words → word ≡ get_or words i word → HoldsDone variables whole line (drop i words) →
    IsExtended variables word line now → HoldsDone variables whole now (drop (i + 1) words)
one_word_more variables whole line now words i word within is so_far extended =
    let left = drop (i + 1) words in
    let parts = cut_at_blanks word.quoted extended.text in
    record {
      done = so_far.done ++ parts;
      is = at_word variables whole so_far.done words i word within is so_far.is
          ∙ ap (put_words so_far.done) (first_word variables word left extended.text extended.is)
          ∙ put_twice so_far.done parts (substituted_words variables left);
      holds = subst (Holds now) (whole_word word.quoted so_far.done extended.text) (extended.holds (line_of so_far.done []) so_far.holds);
    }

pub word_is_wrong : (variables : Environment) (words : List Word) (line : LineBuffer) (i : ℕ) (word : Word) (fault : LineFault) →
    i < length words → word ≡ get_or words i word → HoldsDone variables (substituted_words variables words) line (drop i words) →
    (is_memory fault ≡ false → substituted variables word.text ≡ Err fault) → IsPlainOrMemory is_memory (line_words variables words) (Err fault)
unfolding ◌>>=◌ IsPlainOrMemory
word_is_wrong variables words line i word fault within is so_far wrong known =
    ap (λ all. all >>= fitted) (at_word variables (substituted_words variables words) so_far.done words i word within is so_far.is
    ∙ ap (put_words so_far.done) (first_wrong variables word (drop (i + 1) words) fault (wrong known)))

pub all_words : (variables : Environment) (words : List Word) (line : LineBuffer) (i : ℕ) (result : Result (List (List ℕ)) LineFault) →
    length words ≤ i → HoldsDone variables (substituted_words variables words) line (drop i words) →
    ((last : OpenLine) → Holds line last → last.text ≡ [] → result ≡ fitted last.words) →
    IsPlainOrMemory is_memory (line_words variables words) result
unfolding ◌>>=◌ substituted_words
all_words variables words line i result over so_far comes_to =
    let all : substituted_words variables words ≡ Ok so_far.done =
    so_far.is ∙ ap (λ rest. put_words so_far.done (substituted_words variables rest)) (drop_all i words over) ∙ ap Ok (append-nil so_far.done) in
    plain_same (line_words variables words) result
    (comes_to (line_of so_far.done []) so_far.holds refl ∙ sym (then_value (substituted_words variables words) fitted so_far.done all))
