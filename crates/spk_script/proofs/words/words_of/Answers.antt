use Rattle.std.proofs.Common.{◌∙◌, ap}
use Rattle.spk_script.specs.Cuts.{put_words}
use Rattle.spk_script.proofs.Cuts.{put_words_end, put_words_open, word_taken}
use Rattle.spk_script.proofs.words.words_of.Goals as goal

pub returns-in-End : goal.returns-in-End
returns-in-End c = c.loop-words.invariant.words ∙ ap (put_words c.loop-words.words.items) c.in-End.ensures ∙ put_words_end c.loop-words.words.items

pub returns-in-Open : goal.returns-in-Open
returns-in-Open c = c.loop-words.invariant.words ∙ ap (put_words c.loop-words.words.items) c.in-Open.ensures ∙ put_words_open c.loop-words.words.items

pub loop-words-preserved : goal.loop-words-preserved
loop-words-preserved c =
    record {
      words = word_taken c.loop-words.words.items c.push.new.self.items _ _ _ _ _ c.in-Next.quoted c.loop-words.invariant.words c.in-Next.ensures.words c.in_ok-text-in-Next.ensures c.in_ok-push-in-Next.ensures.items;
      allowed = c.in-Next.ensures.allowed;
    }
