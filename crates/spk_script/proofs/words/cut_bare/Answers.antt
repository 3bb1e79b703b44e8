use Rattle.spk_script.proofs.Cuts.{bare_next}
use Rattle.spk_script.proofs.words.cut_bare.Goals as goal

pub returns : goal.returns
returns c = bare_next _ _ _ _ _ c.requires.begins c.requires.allowed c.bare_end.ensures c.unwrap_or.ensures c.split_at.ensures.front c.split_at.ensures.back c.split_at.ensures.back_len
