use Rattle.std.proofs.Common.{◌≡◌, ◌==◌, true, [], ◌∷◌, codes, Some, ◌∙◌, ap, sym, refl, arith}
use Rattle.std.proofs.lemmas.Bool.{or_right}
use Rattle.std.proofs.lemmas.Bool.Decides.{nat_tests}
use Rattle.std.specs.Option.{is_some}
use Rattle.spk_num.specs.Whole.{whole_of}
use Rattle.spk_files.specs.SiteFiles.{count_fault}
use Rattle.spk_files.proofs.LineFaults.{heading_line, other_heading}
use Rattle.spk_files.proofs.ReadLaws.{heading_read}
use Rattle.spk_files.proofs.reader.Reader.count.Goals as goal

pub returns-in_default-clause-reads : goal.returns-in_default-clause-reads
returns-in_default-clause-reads c = λ wanted first before has none.
    other_heading wanted first (c.args.word.now ∷ codes "sites" ∷ []) before c.args.self.now has none refl refl (sym c.whole_of_bytes.ensures ∙ c.in_default.is)

pub returns-clause-reads : goal.returns-clause-reads
returns-clause-reads c = λ wanted first before has none.
    let count : whole_of c.args.word.now ≡ Some c.in-Some.count = sym c.whole_of_bytes.ensures ∙ c.in-Some.is in
    let same : (c.in-Some.count == wanted.sites) ≡ true = grind (arith, nat_tests, has.sites, c.from.ensures, c.if-count-from.false) in (
      heading_line wanted first (c.args.word.now ∷ codes "sites" ∷ []) before c.args.self.now has none ∙ ap (count_fault wanted.sites) count ∙ rw same refl,
      heading_read wanted first (c.args.word.now ∷ codes "sites" ∷ []) before c.args.self.now c.args.self.now.begun true has none none
          (λ no. sym (or_right c.args.self.now.counted (is_some (whole_of c.args.word.now)) (ap is_some count))),
    )
