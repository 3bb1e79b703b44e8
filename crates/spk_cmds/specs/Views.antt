-- How definitions see the code's forms, which lend their lists and words.
use Rattle.std.specs.Prelude.{ℕ, List, map}
use Rattle.std.specs.Borrow.{Bor}
use Rattle.spk_cmds.specs.declared.form.Kind as code
use Rattle.spk_cmds.specs.declared.form.Kind.TheVariants as kind
use Rattle.spk_cmds.specs.declared.form.Keyword as code_keyword
use Rattle.spk_cmds.specs.declared.form.Tail as code_tail
use Rattle.spk_cmds.specs.declared.form.Tail.TheVariants as tail
use Rattle.spk_cmds.specs.declared.form.Form as code_form
use Rattle.spk_cmds.specs.Kinds.{Kind, OneOf, WholeNumber, WholeUpToNext, DecimalNumber, BoundNumber, NameWord, FileWord, AnyWord}
use Rattle.spk_cmds.specs.Forms.{Keyword, Tail, NoTail, Pairs, Optional, Counted, UpTo, Form}

abbrev pub words_seen : List (Bor (List ℕ)) → List (List ℕ)
words_seen words = map (λ word. word.now) words

abbrev pub kind_seen : code.Kind → Kind
kind_seen (kind.OneOf built unbuilt) = OneOf (words_seen built.now) (words_seen unbuilt.now)
kind_seen (kind.WholeNumber low high) = WholeNumber low high
kind_seen (kind.WholeUpToNext low high) = WholeUpToNext low high
kind_seen (kind.DecimalNumber low high) = DecimalNumber low high
kind_seen (kind.BoundNumber low high) = BoundNumber low high
kind_seen kind.NameWord = NameWord
kind_seen kind.FileWord = FileWord
kind_seen kind.AnyWord = AnyWord

abbrev pub kinds_seen : List code.Kind → List Kind
kinds_seen kinds = map kind_seen kinds

abbrev pub keyword_seen : code_keyword.Keyword → Keyword
keyword_seen keyword = record { word = keyword.word.now; kind = kind_seen keyword.kind }

abbrev pub keywords_seen : List code_keyword.Keyword → List Keyword
keywords_seen keywords = map keyword_seen keywords

abbrev pub tail_seen : code_tail.Tail → Tail
tail_seen tail.NoTail = NoTail
tail_seen (tail.Pairs keywords unbuilt) = Pairs (keywords_seen keywords.now) (words_seen unbuilt.now)
tail_seen (tail.Optional kinds) = Optional (kinds_seen kinds.now)
tail_seen (tail.Counted kind) = Counted (kind_seen kind)
tail_seen (tail.UpTo most kind) = UpTo most (kind_seen kind)

abbrev pub form_seen : code_form.Form → Form
form_seen form = record { maker = form.maker; kinds = kinds_seen form.kinds.now; tail = tail_seen form.tail }
