use Rattle.std.proofs.Common.{◌≡◌, ◌≢◌, ℕ, List, ◌∷◌, Some, None, refl, subst, sym, arith}
use Rattle.std.proofs.lemmas.Str.Pattern.{strip_prefix_char}
use Rattle.spk_script.specs.References.{SplitsName}
use Rattle.spk_script.proofs.References.{name_in_braces, name_of_one_byte}
use Rattle.spk_script.proofs.substitution.split_name.Goals as goal

pub returns-in-Some : goal.returns-in-Some
returns-in-Some c =
    let begins : c.args.text.now ≡ 123 ∷ c.in-Some.braced.now =
    strip_prefix_char 123 c.args.text.now (Some c.in-Some.braced) c.in-Some.ensures.cases (omega arith) in
    subst (SplitsName c.args.text.now) (sym c.ok_or.ensures.value)
    (name_in_braces c.args.text.now c.in-Some.braced c.split_once.result c.requires begins c.split_once.ensures.cases)

pub returns-in-None : goal.returns-in-None
returns-in-None c =
    let other : (rest : List ℕ) → c.args.text.now ≢ 123 ∷ rest =
    strip_prefix_char 123 c.args.text.now None c.in-None.ensures.cases (omega arith) in
    let split = c.split_at_checked.ensures in
    subst (SplitsName c.args.text.now) (sym c.ok_or-in-None.ensures.value)
    (name_of_one_byte c.args.text.now c.args.text c.split_at_checked.result refl c.requires other split.variant split.front split.back)
