use Rattle.std.proofs.Common.{◌≡◌, ◌+◌, ◌-◌, ◌≤◌, false, ◌&&◌, ◌∷◌, Some, None, sym, ap, ◌∙◌, refl, arith, vec_len}
use Rattle.std.proofs.lemmas.Bool.Decides.{nat_tests}
use Rattle.std.specs.Prelude.{nat_le}
use Rattle.std.specs.Vec.{with_item}
use Rattle.spk_files.specs.SiteFiles.{row_of, rows_of, value_in}
use Rattle.spk_files.specs.declared.site_fault.SiteFault.TheVariants.{BadId, BadValue, TwiceId}
use Rattle.spk_files.proofs.LineFaults.{bad_id, twice_id, bad_value, id_free, id_taken, row_line, value_count}
use Rattle.spk_files.proofs.ReadLaws.{row_read}
use Rattle.spk_files.proofs.RowPasses.{row_passes}
use Rattle.spk_files.proofs.reader.Reader.set.Goals as goal
use Rattle.spk_files.proofs.reader.Reader.set.Goals.{then-id-eq0-via-then-id-eq0, then-id-eq0-via-else-id-eq0+then-id-len, then-value-eq0-via-then-value-eq0, then-value-eq0-via-else-value-eq0+then-value-from}

pub returns-then-id-eq0-clause-reads : goal.returns-then-id-eq0-clause-reads
returns-then-id-eq0-clause-reads c = λ wanted first words before on has begun.
    let count : vec_len c.args.self.now.values ≡ wanted.sites = value_count wanted (first ∷ before) c.args.self.now has in
    let out : (nat_le 1 c.args.id && nat_le c.args.id wanted.sites) ≡ false = elim c.then-id-eq0.branch [
      | then-id-eq0-via-then-id-eq0 w ↦ grind (arith, nat_tests)
      | then-id-eq0-via-else-id-eq0+then-id-len w ↦ grind (arith, nat_tests)
    ] in
    row_line wanted first words before c.args.self.now (row_of c.args.id c.args.value) has begun on
    ∙ bad_id wanted (rows_of (first ∷ before)) (c.args.self.now.lines + 1) c.args.id c.args.value out ∙ ap (λ n. Some (BadId n)) (sym c.number.ensures)

pub returns-then-index-ne0-clause-reads : goal.returns-then-index-ne0-clause-reads
returns-then-index-ne0-clause-reads c = λ wanted first words before on has begun.
    let low : 1 ≤ c.args.id = omega arith in
    let high : c.args.id ≤ wanted.sites = omega (arith, value_count wanted (first ∷ before) c.args.self.now has) in
    row_line wanted first words before c.args.self.now (row_of c.args.id c.args.value) has begun on
    ∙ twice_id wanted (rows_of (first ∷ before)) (c.args.self.now.lines + 1) c.args.id c.args.value low high
    (id_taken wanted (first ∷ before) c.args.self.now c.args.id c.index.result.now has low high c.index.ensures c.if-index-ne0.true)
    ∙ ap (λ n. Some (TwiceId n)) (sym c.number-then-index-ne0.ensures)

pub returns-then-value-eq0-clause-reads : goal.returns-then-value-eq0-clause-reads
returns-then-value-eq0-clause-reads c = λ wanted first words before on has begun.
    let low : 1 ≤ c.args.id = omega arith in
    let high : c.args.id ≤ wanted.sites = omega (arith, value_count wanted (first ∷ before) c.args.self.now has) in
    let largest : c.args.self.now.largest ≡ wanted.largest = has.largest in
    let out : (nat_le 1 c.args.value && nat_le c.args.value wanted.largest) ≡ false = elim c.then-value-eq0.branch [
      | then-value-eq0-via-then-value-eq0 w ↦ grind (arith, nat_tests)
      | then-value-eq0-via-else-value-eq0+then-value-from w ↦ grind (arith, nat_tests)
    ] in
    row_line wanted first words before c.args.self.now (row_of c.args.id c.args.value) has begun on
    ∙ bad_value wanted (rows_of (first ∷ before)) (c.args.self.now.lines + 1) c.args.id c.args.value low high
    (id_free wanted (first ∷ before) c.args.self.now c.args.id c.index.result.now has low high c.index.ensures c.if-index-ne0.false) out
    ∙ ap (λ n. Some (BadValue n)) (sym c.number-then-value-eq0.ensures)

pub returns-clause-reads : goal.returns-clause-reads
returns-clause-reads c = λ wanted first words before on has begun.
    let low : 1 ≤ c.args.id = omega arith in
    let high : c.args.id ≤ wanted.sites = omega (arith, value_count wanted (first ∷ before) c.args.self.now has) in
    let positive : 1 ≤ c.args.value = omega arith in
    let small : c.args.value ≤ wanted.largest = omega (arith, has.largest) in
    let free : value_in (rows_of (first ∷ before)) c.args.id ≡ None =
    id_free wanted (first ∷ before) c.args.self.now c.args.id c.index.result.now has low high c.index.ensures c.if-index-ne0.false in (
      row_line wanted first words before c.args.self.now (row_of c.args.id c.args.value) has begun on
          ∙ row_passes wanted (rows_of (first ∷ before)) (c.args.self.now.lines + 1) c.args.id c.args.value low high positive small free,
      row_read wanted first words before c.args.self.now c.args.id c.args.value (with_item c.args.self.now.values (c.args.id - 1) c.args.value) has begun on low high positive free refl,
    )
