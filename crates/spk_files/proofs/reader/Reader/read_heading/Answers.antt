use Rattle.std.proofs.Common.{◌≡◌, false, [], ◌∷◌, codes, Ok, sym, ap, ◌∙◌, subst, refl, inl, inr}
use Rattle.std.proofs.lemmas.Slice.Eq.{bytes_eq-Decides}
use Rattle.std.specs.Str.{bytes_eq}
use Rattle.spk_files.specs.Lines.{HasWords}
use Rattle.spk_files.specs.Readers.{Reads, next}
use Rattle.spk_files.proofs.LineFaults.{other_heading, three_words}
use Rattle.spk_files.proofs.reader.Reader.read_heading.Goals as goal

pub returns-in-One-clause-reads : goal.returns-in-One-clause-reads
returns-in-One-clause-reads c = λ wanted first words before are has none.
    let is = subst (λ line. HasWords line words) c.in-One.is are in
    subst (λ ws. Reads wanted (first ∷ before) ws (next c.read_title.new.self) c.read_title.result) (sym is) (c.read_title.ensures.reads wanted first before has none)

pub returns-then-is-clause-reads : goal.returns-then-is-clause-reads
returns-then-is-clause-reads c = λ wanted first words before are has none.
    let are_two = subst (λ line. HasWords line words) c.in-Two.is are in
    let sites : c.in-Two.word.now ≡ codes "sites" = (bytes_eq-Decides c.in-Two.word.now (codes "sites")).0 (sym c.is.ensures ∙ c.if-is.true) in
    subst (λ ws. Reads wanted (first ∷ before) ws (next c.count.new.self) c.count.result) (sym (are_two ∙ ap (λ word. c.in-Two.count.now ∷ word ∷ []) sites))
    (c.count.ensures.reads wanted first before has none)

pub returns-else-is-clause-reads : goal.returns-else-is-clause-reads
returns-else-is-clause-reads c = λ wanted first words before are has none.
    let are_two = subst (λ line. HasWords line words) c.in-Two.is are in
    let other : bytes_eq c.in-Two.word.now (codes "sites") ≡ false = sym c.is.ensures ∙ c.if-is.false in
    subst (λ ws. Reads wanted (first ∷ before) ws (next c.args.self.now) (Ok tt)) (sym are_two)
    (other_heading wanted first (c.in-Two.count.now ∷ c.in-Two.word.now ∷ []) before c.args.self.now has none refl refl (rw other refl))

pub returns-in-Empty-clause-reads : goal.returns-in-Empty-clause-reads
returns-in-Empty-clause-reads c = λ wanted first words before are has none.
    elim c.in-Empty.is [
      | inl empty ↦
          subst (λ ws. Reads wanted (first ∷ before) ws (next c.args.self.now) (Ok tt)) (sym (subst (λ line. HasWords line words) empty are))
          (other_heading wanted first [] before c.args.self.now has none refl refl refl)
      | inr more ↦
          let others = three_words words (subst (λ line. HasWords line words) more are) in
          other_heading wanted first words before c.args.self.now has none others.0 others.1.0 others.1.1
    ]
