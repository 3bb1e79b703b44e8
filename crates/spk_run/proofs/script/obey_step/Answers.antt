use Rattle.std.proofs.Common.{◌≡◌, Ok, ap, ◌∙◌}
use Rattle.spk_script.specs.declared.machine.Step.TheVariants as line
use Rattle.spk_world.proofs.EffectLaws.{wrote_answer}
use Rattle.spk_run.proofs.Obeying.{own_line, words_line, holds_untold}
use Rattle.spk_run.proofs.script.obey_step.Goals as goal

pub returns-in-Ok-Own-clause-wrote : goal.returns-in-Ok-Own-clause-wrote
returns-in-Ok-Own-clause-wrote g c = λ plain state is.
    let step : c.args.step ≡ Ok (line.Own c.in-Ok-Own.field-0-0) = c.in-Ok-Own.is ∙ ap Ok c.in-Ok-Own.field-0-is in
    rw (own_line c.args.number c.args.session.now.state plain c.in-Ok-Own.field-0-0 state (rw step at is)) wrote_answer

pub returns-in-Ok-Words-clause-wrote : goal.returns-in-Ok-Words-clause-wrote
returns-in-Ok-Words-clause-wrote g c = λ plain state is.
    let step : c.args.step ≡ Ok (line.Words c.in-Ok-Words.line c.in-Ok-Words.words) = c.in-Ok-Words.is ∙ ap Ok c.in-Ok-Words.field-0-is in
    rw (words_line c.args.number c.args.session.now.state plain c.in-Ok-Words.line c.in-Ok-Words.words state (rw step at is))
    (rw c.as_slice.ensures at c.obey_words.ensures.wrote state)

pub returns-in-Err-clause-wrote : goal.returns-in-Err-clause-wrote
returns-in-Err-clause-wrote g c = λ plain state is. c.refuse_line.ensures.wrote plain state (rw c.in-Err.is at is)

pub returns-in-Err-clause-untold : goal.returns-in-Err-clause-untold
returns-in-Err-clause-untold g c = holds_untold _ _ c.refuse_line.ensures.untold
