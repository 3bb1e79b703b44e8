use Rattle.std.proofs.Common.{◌∷◌, Ok, Err, sym, ap, ◌∙◌, subst}
use Rattle.std.proofs.lemmas.Result.{err_from_is_err_and}
use Rattle.spk_files.specs.Lines.{words_of}
use Rattle.spk_files.specs.Readers.{Reads, next}
use Rattle.spk_files.proofs.LineFaults.{blank_read}
use Rattle.spk_files.proofs.LineReads.{no_word, passes_first, reads_later, fault_passed}
use Rattle.spk_files.proofs.reader.Reader.read.Goals as goal
use Rattle.spk_files.proofs.reader.Reader.read.Goals.{in-Empty, in_default, in_default-2+in_ok-read_values-in_default-2, in_default-3+in_ok-read_heading-in_default-3}

pub returns-in_err-read_values-in_default-2 : goal.returns-in_err-read_values-in_default-2
returns-in_err-read_values-in_default-2 c = λ wanted before has.
    let p = err_from_is_err_and c.from_residual.result c.from_residual.ensures.1 in
    fault_passed wanted before (words_of c.args.text.now) (next c.read_values.new.self) c.read_values.new.self c.read_values.result c.from_residual.result _ c.in_err-read_values-in_default-2.was (p.1 ∙ ap (λ fault. Err fault) p.2)
    (reads_later wanted before (words_of c.args.text.now) c.line_of.result c.args.self.now c.read_values.new.self c.read_values.result c.if-self-eq0.false c.in_default.not-Empty c.line_of.ensures has
    (λ first others word lines are had. c.read_values.ensures.reads wanted first others word lines are had c.if-self.true))

pub returns-in_err-read_heading-in_default-3 : goal.returns-in_err-read_heading-in_default-3
returns-in_err-read_heading-in_default-3 c = λ wanted before has.
    let p = err_from_is_err_and c.from_residual-in_err-read_heading-in_default-3.result c.from_residual-in_err-read_heading-in_default-3.ensures.1 in
    fault_passed wanted before (words_of c.args.text.now) (next c.read_heading.new.self) c.read_heading.new.self c.read_heading.result c.from_residual-in_err-read_heading-in_default-3.result _
    c.in_err-read_heading-in_default-3.was (p.1 ∙ ap (λ fault. Err fault) p.2)
    (reads_later wanted before (words_of c.args.text.now) c.line_of.result c.args.self.now c.read_heading.new.self c.read_heading.result c.if-self-eq0.false c.in_default.not-Empty c.line_of.ensures has
    (λ first others word lines are had. c.read_heading.ensures.reads wanted first (word ∷ others) lines are had c.if-self.false))

pub returns : goal.returns
returns c = λ wanted before has.
    elim c.match-line_of.branch [
      | in-Empty w ↦
          subst (λ s. Reads wanted before (words_of c.args.text.now) (next s) (Ok tt)) (sym w.self-is)
          (subst (λ ws. Reads wanted before ws (next c.args.self.now) (Ok tt)) (sym (no_word c.line_of.result (words_of c.args.text.now) w.in-Empty.is c.line_of.ensures))
          (blank_read wanted before c.args.self.now has))
      | in_default w ↦
          subst (λ s. Reads wanted before (words_of c.args.text.now) (next s) (Ok tt)) (sym w.self-is)
          (passes_first wanted before (words_of c.args.text.now) c.args.self.now w.if-self-eq0.true has)
      | in_default-2+in_ok-read_values-in_default-2 w ↦
          subst (λ s. Reads wanted before (words_of c.args.text.now) (next s) (Ok tt)) (sym w.self-is)
          (subst (Reads wanted before (words_of c.args.text.now) (next w.read_values.new.self)) w.in_ok-read_values-in_default-2.was
          (reads_later wanted before (words_of c.args.text.now) c.line_of.result c.args.self.now w.read_values.new.self w.read_values.result w.if-self-eq0.false w.in_default.not-Empty c.line_of.ensures has
          (λ first others word lines are had. w.read_values.ensures.reads wanted first others word lines are had w.if-self.true)))
      | in_default-3+in_ok-read_heading-in_default-3 w ↦
          subst (λ s. Reads wanted before (words_of c.args.text.now) (next s) (Ok tt)) (sym w.self-is)
          (subst (Reads wanted before (words_of c.args.text.now) (next w.read_heading.new.self)) w.in_ok-read_heading-in_default-3.was
          (reads_later wanted before (words_of c.args.text.now) c.line_of.result c.args.self.now w.read_heading.new.self w.read_heading.result w.if-self-eq0.false w.in_default.not-Empty c.line_of.ensures has
          (λ first others word lines are had. w.read_heading.ensures.reads wanted first (word ∷ others) lines are had w.if-self.false)))
    ]
