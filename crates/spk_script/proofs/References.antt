-- Names in a text, replaced from the left.
use Rattle.std.proofs.Common.{◌≡◌, ℕ, ◌+◌, ◌<◌, ◌≢◌, Bool, true, false, List, [], ◌∷◌, ◌++◌, length, take, drop, Option, Some, None, Ok, Err, Bor, refl, sym, ◌∙◌, ap, subst, inl, inr, arith, append_assoc, append-nil, Result}
use Rattle.std.specs.Prelude.{◌↔◌, IfSome, IsSome}
use Rattle.std.specs.List.{position_or_len, before_first, after_first}
use Rattle.std.specs.Option.{ok_or}
use Rattle.std.specs.Str.{IsAscii, IsCharBoundary}
use Rattle.std.proofs.lemmas.Bool.{cases_Bool, ne_eqb}
use Rattle.std.proofs.lemmas.Str.{IsAscii-drop, IsCharBoundary-from_ascii}
use Rattle.std.proofs.lemmas.Str.Pattern.{IsSplitOnceResult, split_once_first}
use Rattle.spk_script.specs.declared.fault.LineFault.{LineFault}
use Rattle.spk_script.specs.declared.fault.LineFault.TheVariants.{UnknownVariable}
use Rattle.spk_num.specs.Results.{◌>>=◌, IsPlainOrMemory}
use Rattle.spk_script.specs.Faults.{is_memory}
use Rattle.spk_script.specs.Values.{Environment, variable_text}
use Rattle.spk_script.specs.declared.line_buffer.LineBuffer.{LineBuffer}
use Rattle.spk_script.specs.declared.words.Word.{Word}
use Rattle.spk_script.specs.LineBuffers.{OpenLine, ended, with_bare, with_part, Holds, IsExtended}
use Rattle.spk_script.specs.Substitution.{Dollar, Braces, put_text, substituted_after, substituted}
use Rattle.spk_script.specs.References.{is_dollar, is_closing, put_variable, BeginsWithName, SplitsName, BeginsWithVariable, IsWrongAfter}
use Rattle.spk_script.proofs.Firsts.{place_here, place_after, cut_here, cut_after, after_is_shorter}
use Rattle.spk_script.proofs.LineBuffers.{line_of, part_twice}
use Rattle.spk_num.proofs.ResultLaws.{then_value, then_fault, plain_is}

-- text before text
pub put_text_twice : (prefix text : List ℕ) (rest : Result (List ℕ) LineFault) →
    put_text prefix (put_text text rest) ≡ put_text (prefix ++ text) rest
unfolding ◌>>=◌
put_text_twice prefix text (Ok following) = ap Ok (sym (append_assoc prefix text following))
put_text_twice prefix text (Err fault) = refl

put_none : (rest : Result (List ℕ) LineFault) → put_text [] rest ≡ rest
unfolding ◌>>=◌
put_none (Ok following) = refl
put_none (Err fault) = refl

-- a text without a `$`
pub no_dollar : (variables : Environment) (text : List ℕ) → position_or_len is_dollar text ≡ length text →
    substituted variables text ≡ Ok text
unfolding ◌>>=◌ substituted_after
no_dollar variables [] is = refl
no_dollar variables (b ∷ text) is =
    elim (cases_Bool (is_dollar b)) [
      | inl dollar ↦ absurd (omega (arith, place_here is_dollar b text dollar))
      | inr other ↦ rw other (ap (put_text (b ∷ [])) (no_dollar variables text (omega (arith, place_after is_dollar b text other))))
    ]

-- the first `$` of a text
pub first_dollar : (variables : Environment) (text : List ℕ) → position_or_len is_dollar text < length text →
    substituted variables text ≡ put_text (before_first is_dollar text) (substituted_after variables Dollar (after_first is_dollar text))
unfolding substituted_after
first_dollar variables [] within = absurd (omega (arith, within))
first_dollar variables (b ∷ text) within =
    elim (cases_Bool (is_dollar b)) [
      | inl dollar ↦ let cut = cut_here is_dollar b text dollar in
          rw (cut.0, cut.1, dollar) (sym (put_none (substituted_after variables Dollar text)))
      | inr other ↦ let cut = cut_after is_dollar b text other in
          let following : position_or_len is_dollar text < length text = omega (arith, place_after is_dollar b text other) in
          rw (cut.0, cut.1, other) (ap (put_text (b ∷ [])) (first_dollar variables text following)
          ∙ put_text_twice (b ∷ []) (before_first is_dollar text) (substituted_after variables Dollar (after_first is_dollar text)))
    ]

-- a name in braces
pub braces_open : (variables : Environment) (name text : List ℕ) → position_or_len is_closing text ≡ length text →
    substituted_after variables (Braces name) text ≡ Err (UnknownVariable (name ++ text))
unfolding substituted_after
braces_open variables name [] is = ap (λ n. Err (UnknownVariable n)) (sym (append-nil name))
braces_open variables name (b ∷ text) is =
    elim (cases_Bool (is_closing b)) [
      | inl closing ↦ absurd (omega (arith, place_here is_closing b text closing))
      | inr other ↦ let following : position_or_len is_closing text ≡ length text = omega (arith, place_after is_closing b text other) in
          rw other (braces_open variables (name ++ b ∷ []) text following
          ∙ ap (λ n. Err (UnknownVariable n)) (append_assoc name (b ∷ []) text))
    ]

pub braces_closed : (variables : Environment) (name text : List ℕ) → position_or_len is_closing text < length text →
    substituted_after variables (Braces name) text
    ≡ put_variable variables (name ++ before_first is_closing text) (after_first is_closing text)
unfolding substituted_after
braces_closed variables name [] within = absurd (omega (arith, within))
braces_closed variables name (b ∷ text) within =
    elim (cases_Bool (is_closing b)) [
      | inl closing ↦ let cut = cut_here is_closing b text closing in rw (cut.0, cut.1, closing, append-nil name) refl
      | inr other ↦ let cut = cut_after is_closing b text other in
          let following : position_or_len is_closing text < length text = omega (arith, place_after is_closing b text other) in
          rw (cut.0, cut.1, other) (braces_closed variables (name ++ b ∷ []) text following
          ∙ ap (λ n. put_variable variables n (after_first is_closing text)) (append_assoc name (b ∷ []) (before_first is_closing text)))
    ]

-- what stands after a `$`
in_braces : (variables : Environment) (text : List ℕ) →
    substituted_after variables Dollar (123 ∷ text) ≡ substituted_after variables (Braces []) text
unfolding substituted_after
in_braces variables text = refl

of_one_byte : (variables : Environment) (b : ℕ) (text : List ℕ) → b ≢ 123 →
    substituted_after variables Dollar (b ∷ text) ≡ put_variable variables (b ∷ []) text
unfolding substituted_after
of_one_byte variables b text other = rw (ne_eqb b 123 other) refl

of_nothing : (variables : Environment) → substituted_after variables Dollar [] ≡ Err (UnknownVariable [])
unfolding substituted_after
of_nothing variables = refl

-- the parts around the first byte that passes a test
abbrev AreAround : (ℕ → Bool) → List ℕ → List ℕ → List ℕ → Type 0
AreAround p text before following =
    (position_or_len p text < length text) × (before ≡ before_first p text) × (following ≡ after_first p text)

closed_name : (variables : Environment) (text before following : List ℕ) → AreAround is_closing text before following →
    substituted_after variables Dollar (123 ∷ text) ≡ put_variable variables before following
closed_name variables text before following around =
    in_braces variables text ∙ braces_closed variables [] text around.0
    ∙ ap (λ name. put_variable variables name (after_first is_closing text)) (sym around.1)
    ∙ ap (put_variable variables before) (sym around.2)

after_closing_is_ascii : (text before following : List ℕ) → AreAround is_closing text before following → IsAscii (123 ∷ text) → IsAscii following
after_closing_is_ascii text before following around ascii =
    subst IsAscii (sym around.2) (IsAscii-drop text (position_or_len is_closing text + 1) (IsAscii-drop (123 ∷ text) 1 ascii))

pub name_in_braces : (text : List ℕ) (braced : Bor (List ℕ)) (found : Option (Bor (List ℕ) × Bor (List ℕ))) →
    IsAscii text → text ≡ 123 ∷ braced.now → IsSplitOnceResult 125 braced.now found → SplitsName text (ok_or found braced)
name_in_braces text braced None ascii begins cut =
    let place : position_or_len is_closing braced.now ≡ length braced.now = split_once_first 125 braced.now None cut (omega arith) in
    λ variables. ap (substituted_after variables Dollar) begins ∙ in_braces variables braced.now
    ∙ braces_open variables [] braced.now place
name_in_braces text braced (Some parts) ascii begins cut =
    let around : AreAround is_closing braced.now parts.0.now parts.1.now = split_once_first 125 braced.now (Some parts) cut (omega arith) in
    let shorter : length (after_first is_closing braced.now) < length text =
    omega (arith, ap length begins, after_is_shorter is_closing braced.now around.0) in
    record {
      is = λ variables. ap (substituted_after variables Dollar) begins
          ∙ closed_name variables braced.now parts.0.now parts.1.now around;
      ascii = after_closing_is_ascii braced.now parts.0.now parts.1.now around (subst IsAscii begins ascii);
      shorter = rw around.2 shorter;
    }

pub name_of_one_byte : (text : List ℕ) (whole : Bor (List ℕ)) (found : Option (Bor (List ℕ) × Bor (List ℕ))) →
    text ≡ whole.now → IsAscii text → ((rest : List ℕ) → text ≢ 123 ∷ rest) → (IsSome found ↔ IsCharBoundary text 1) →
    IfSome found (λ parts. parts.0.now ≡ take 1 text) → IfSome found (λ parts. parts.1.now ≡ drop 1 text) →
    SplitsName text (ok_or found whole)
name_of_one_byte [] whole None same ascii other some prefix back =
    λ variables. of_nothing variables ∙ ap (λ n. Err (UnknownVariable n)) same
name_of_one_byte [] whole (Some parts) same ascii other some prefix back = absurd (omega (arith, (some.0 refl).0))
name_of_one_byte (b ∷ text) whole None same ascii other some prefix back =
    let cut : false ≡ true = some.1 (IsCharBoundary-from_ascii (b ∷ text) 1 ascii (omega arith)) in cc
name_of_one_byte (b ∷ text) whole (Some parts) same ascii other some prefix back =
    let first : parts.0.now ≡ b ∷ [] = prefix in
    let rest : parts.1.now ≡ text = back in
    record {
      is = λ variables. of_one_byte variables b text (λ is. other text (ap (λ c. c ∷ text) is))
          ∙ ap (λ name. put_variable variables name text) (sym first) ∙ ap (put_variable variables parts.0.now) (sym rest);
      ascii = subst IsAscii (sym rest) (IsAscii-drop (b ∷ text) 1 ascii);
      shorter = rw rest (omega arith);
    }

-- the text of the variable whose name is there
pub name_is_variable : (variables : Environment) (text name rest value : List ℕ) → BeginsWithName text name rest →
    IsPlainOrMemory is_memory (variable_text variables name) (Ok value) → BeginsWithVariable variables text value rest
name_is_variable variables text name rest value begins answers =
    let is : variable_text variables name ≡ Ok value = plain_is _ (variable_text variables name) value answers in
    record {
      is = begins.is variables ∙ then_value (variable_text variables name) (λ v. put_text v (substituted variables rest)) value is;
      ascii = begins.ascii;
      shorter = begins.shorter;
    }

pub name_is_wrong : (variables : Environment) (text name rest : List ℕ) (fault : LineFault) → BeginsWithName text name rest →
    IsPlainOrMemory is_memory (variable_text variables name) (Err fault) → IsWrongAfter variables text fault
unfolding IsPlainOrMemory
name_is_wrong variables text name rest fault begins answers known =
    begins.is variables ∙ then_fault (variable_text variables name) (λ v. put_text v (substituted variables rest)) fault (answers known)

-- a `$` in what is left of a text
abbrev IsSplit : List ℕ → Bor (List ℕ) → Bor (List ℕ) → Type 0
IsSplit left before following = IsSplitOnceResult 36 left (Some (before, following))

around_dollar : (left : List ℕ) (before following : Bor (List ℕ)) → IsSplit left before following → AreAround is_dollar left before.now following.now
around_dollar left before following cut = split_once_first 36 left (Some (before, following)) cut (omega arith)

dollar_at : (variables : Environment) (left before following : List ℕ) → AreAround is_dollar left before following →
    substituted variables left ≡ put_text before (substituted_after variables Dollar following)
dollar_at variables left before following around =
    first_dollar variables left around.0
    ∙ ap (λ text. put_text text (substituted_after variables Dollar (after_first is_dollar left))) (sym around.1)
    ∙ ap (λ text. put_text before (substituted_after variables Dollar text)) (sym around.2)

pub after_is_ascii : (left : List ℕ) (before following : Bor (List ℕ)) → IsSplit left before following → IsAscii left → IsAscii following.now
after_is_ascii left before following cut ascii =
    subst IsAscii (sym (around_dollar left before following cut).2) (IsAscii-drop left (position_or_len is_dollar left + 1) ascii)

-- the text of a word so far, by which a line has been extended, before what is left of the word
pub record IsSubstitutedSoFar (variables : Environment) (word : Word) (old now : LineBuffer) (left : List ℕ) : Type 0 where
  pub text : List ℕ
  pub is : substituted variables word.text ≡ put_text text (substituted variables left)
  pub holds : (line : OpenLine) → Holds old line → Holds now (with_part word.quoted line text)

abbrev Pushes : Bool → LineBuffer → LineBuffer → List ℕ → Type 0
Pushes quoted old now text = (line : OpenLine) → Holds old line → Holds now (with_part quoted line text)

pushes_both : (quoted : Bool) (old now next : LineBuffer) (text more : List ℕ) → Pushes quoted old now text → Pushes quoted now next more →
    Pushes quoted old next (text ++ more)
pushes_both quoted old now next text more one other line holds =
    subst (Holds next) (sym (part_twice quoted line text more)) (other (with_part quoted line text) (one line holds))

pushes_none : (quoted : Bool) (old : LineBuffer) → Pushes quoted old old []
unfolding with_bare
pushes_none true old line holds = subst (λ t. Holds old (line_of line.words t)) (sym (append-nil line.text)) holds
pushes_none false old line holds = holds

pub nothing_substituted : (variables : Environment) (word : Word) (text : List ℕ) (old : LineBuffer) → text ≡ word.text →
    IsSubstitutedSoFar variables word old old text
nothing_substituted variables word text old is = record {
  text = [];
  is = ap (substituted variables) (sym is) ∙ sym (put_none (substituted variables text));
  holds = pushes_none word.quoted old;
}

pub one_variable_more : (variables : Environment) (word : Word) (old now pushed next : LineBuffer) (left value rest : List ℕ) →
    (before after : Bor (List ℕ)) → IsSplit left before after → IsSubstitutedSoFar variables word old now left →
    BeginsWithVariable variables after.now value rest → Pushes word.quoted now pushed before.now → Pushes word.quoted pushed next value →
    IsSubstitutedSoFar variables word old next rest
one_variable_more variables word old now pushed next left value rest before after cut so_far begins one other = record {
  text = (so_far.text ++ before.now) ++ value;
  is = so_far.is ∙ ap (put_text so_far.text) (dollar_at variables left before.now after.now (around_dollar left before after cut))
      ∙ put_text_twice so_far.text before.now (substituted_after variables Dollar after.now) ∙ ap (put_text (so_far.text ++ before.now)) begins.is
      ∙ put_text_twice (so_far.text ++ before.now) value (substituted variables rest);
  holds = pushes_both word.quoted old pushed next (so_far.text ++ before.now) value
      (pushes_both word.quoted old now pushed so_far.text before.now so_far.holds one) other;
}

pub variable_is_wrong : (variables : Environment) (word : Word) (old now : LineBuffer) (left : List ℕ) (fault : LineFault) →
    (before after : Bor (List ℕ)) → IsSplit left before after → IsSubstitutedSoFar variables word old now left →
    IsWrongAfter variables after.now fault → is_memory fault ≡ false → substituted variables word.text ≡ Err fault
unfolding ◌>>=◌
variable_is_wrong variables word old now left fault before after cut so_far wrong known =
    so_far.is ∙ ap (put_text so_far.text) (dollar_at variables left before.now after.now (around_dollar left before after cut)
    ∙ ap (put_text before.now) (wrong known))

-- the rest of a word without a `$`
pub no_variable_more : (variables : Environment) (word : Word) (old now pushed next : LineBuffer) (left : List ℕ) → IsSplitOnceResult 36 left None →
    IsSubstitutedSoFar variables word old now left → Pushes word.quoted now pushed left →
    ((line : OpenLine) → Holds pushed line → Holds next (ended word.quoted line)) → IsExtended variables word old next
unfolding ◌>>=◌
no_variable_more variables word old now pushed next left cut so_far one ends =
    let whole : Pushes word.quoted old pushed (so_far.text ++ left) = pushes_both word.quoted old now pushed so_far.text left so_far.holds one in
    record {
      text = so_far.text ++ left;
      is = so_far.is ∙ ap (put_text so_far.text) (no_dollar variables left (split_once_first 36 left None cut (omega arith)));
      holds = λ line holds. ends (with_part word.quoted line (so_far.text ++ left)) (whole line holds);
    }
