use Rattle.std.proofs.Common.{◌∙◌, not, ap, subst, sym}
use Rattle.std.specs.List.{list_all, position_or_len}
use Rattle.spk_script.specs.Words.{is_allowed, is_blank, words_of}
use Rattle.spk_script.specs.Cuts.{BeginsVisibly}
use Rattle.spk_script.proofs.Cuts.{allowed_drop, begins_visibly, blanks_skipped, start_is}
use Rattle.spk_script.proofs.words.without_blanks.Goals as goal

pub returns-clause-same : goal.returns-clause-same
returns-clause-same c = ap words_of (start_is _ _ _ c.unwrap_or-start.ensures c.visible_place.ensures) ∙ blanks_skipped c.args.text.now

pub returns-clause-begins : goal.returns-clause-begins
returns-clause-begins c = subst BeginsVisibly (sym (start_is _ _ _ c.unwrap_or-start.ensures c.visible_place.ensures)) (begins_visibly c.args.text.now)

pub returns-clause-allowed : goal.returns-clause-allowed
returns-clause-allowed c = ap (list_all is_allowed) (start_is _ _ _ c.unwrap_or-start.ensures c.visible_place.ensures) ∙ allowed_drop c.args.text.now (position_or_len (λ b. not (is_blank b)) c.args.text.now) c.requires
