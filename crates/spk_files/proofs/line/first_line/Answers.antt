use Rattle.std.proofs.Common.{◌==◌, rules, tests}
use Rattle.std.proofs.lemmas.Iterator.{YieldsList-from_slice}
use Rattle.std.proofs.lemmas.Iterator.Search.{position_from_yields_List}
use Rattle.spk_files.proofs.Places.{cut_at_place, uncut}
use Rattle.spk_files.proofs.line.first_line.Goals as goal

pub returns-in-Some-clause-cut : goal.returns-in-Some-clause-cut
returns-in-Some-clause-cut c =
    cut_at_place (λ b. b == 10) c.args.text.now c.in-Some.end
    (position_from_yields_List (λ b. b == 10) _ _ _ c.in-Some.ensures.ran (YieldsList-from_slice c.args.text.now cc) (λ x b q k. search (rules, tests)))

pub returns-in-None-clause-cut : goal.returns-in-None-clause-cut
returns-in-None-clause-cut c =
    uncut (λ b. b == 10) c.args.text.now
    (position_from_yields_List (λ b. b == 10) _ _ _ c.in-None.ensures.ran (YieldsList-from_slice c.args.text.now cc) (λ x b q k. search (rules, tests)))
