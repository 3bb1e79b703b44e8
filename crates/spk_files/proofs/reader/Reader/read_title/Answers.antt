use Rattle.std.proofs.Common.{◌≡◌, true, false, [], ◌∷◌, codes, ◌∙◌, sym, refl}
use Rattle.std.specs.Str.{bytes_eq}
use Rattle.spk_files.proofs.LineFaults.{heading_line, other_heading}
use Rattle.spk_files.proofs.ReadLaws.{heading_read}
use Rattle.spk_files.proofs.reader.Reader.read_title.Goals as goal

pub returns-then-not-is-clause-reads : goal.returns-then-not-is-clause-reads
returns-then-not-is-clause-reads c = λ wanted first before has none.
    let sites : bytes_eq c.args.word.now (codes "Sites") ≡ false = cc in
    let neighbors : bytes_eq c.args.word.now (codes "Neighbors") ≡ false = cc in
    let values : bytes_eq c.args.word.now (codes "Values") ≡ false = cc in
    other_heading wanted first (c.args.word.now ∷ []) before c.args.self.now has none (rw (sites, neighbors) refl) values refl

pub returns-clause-reads : goal.returns-clause-reads
returns-clause-reads c = λ wanted first before has none.
    let sites : bytes_eq c.args.word.now (codes "Sites") ≡ false = cc in
    let neighbors : bytes_eq c.args.word.now (codes "Neighbors") ≡ false = cc in
    let values : bytes_eq c.args.word.now (codes "Values") ≡ true = cc in
    let counted : c.args.self.now.counted ≡ true = c.if-not-self.false in (
      heading_line wanted first (c.args.word.now ∷ []) before c.args.self.now has none ∙ rw (sites, neighbors, values, counted) refl,
      heading_read wanted first (c.args.word.now ∷ []) before c.args.self.now true c.args.self.now.counted has none (sym values) (λ no. absurd cc),
    )
