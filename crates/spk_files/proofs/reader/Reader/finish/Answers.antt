use Rattle.std.proofs.Common.{◌≡◌, ◌+◌, ◌==◌, sym, ap, ◌∙◌, rules, tests}
use Rattle.std.proofs.lemmas.Iterator.{YieldsList-from_slice}
use Rattle.std.proofs.lemmas.Iterator.Search.{position_from_yields_List}
use Rattle.std.specs.List.{position}
use Rattle.std.specs.Option.{option_map}
use Rattle.spk_files.specs.declared.site_fault.SiteFault.TheVariants.{MissingId}
use Rattle.spk_files.proofs.LineFaults.{end_missing}
use Rattle.spk_files.proofs.reader.Reader.finish.Goals as goal

pub returns-in-Some : goal.returns-in-Some
returns-in-Some c = λ wanted lines has.
    let place : c.position.result ≡ position (λ v. v == 0) c.args.self.values.items =
    position_from_yields_List _ _ _ _ c.position.ensures.ran (YieldsList-from_slice c.args.self.values.items cc) (λ x b q k. search (rules, tests)) in
    end_missing wanted lines c.args.self has c.if-not-self.false ∙ ap (λ o. option_map MissingId (option_map (λ p. p + 1) o)) (sym place ∙ c.in-Some.is)

pub returns-in-None : goal.returns-in-None
returns-in-None c = λ wanted lines has.
    let none : c.position.result ≡ position (λ v. v == 0) c.args.self.values.items =
    position_from_yields_List _ _ _ _ c.position.ensures.ran (YieldsList-from_slice c.args.self.values.items cc) (λ x b q k. search (rules, tests)) in (
      end_missing wanted lines c.args.self has c.if-not-self.false ∙ ap (λ o. option_map MissingId (option_map (λ p. p + 1) o)) (sym none ∙ c.in-None.is),
      has.values,
    )
