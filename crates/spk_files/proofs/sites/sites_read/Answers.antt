use Rattle.std.proofs.Common.{[], ◌<◌, subst, arith, sym, ◌∙◌}
use Rattle.std.proofs.lemmas.Result.{err_from_is_err_and}
use Rattle.spk_files.specs.Readers.{HasRead}
use Rattle.spk_files.specs.SiteFiles.{Wanted}
use Rattle.spk_files.proofs.FileReads.{ReadsOn, bytes_left, ends_with, fewer_left, line_within, reads_all, reads_on, same_value, stops_at}
use Rattle.spk_files.proofs.LineFaults.{value_count}
use Rattle.spk_files.proofs.SiteRows.{heading_of_result, sites_of_result}
use Rattle.spk_files.proofs.SitesRead.{result_of_sites}
use Rattle.spk_files.proofs.sites.sites_read.Goals as goal

pub loop-left-init : goal.loop-left-init
loop-left-init c =
    let wanted : Wanted = record { sites = c.args.sites; largest = c.args.largest_value } in
    reads_all wanted c.args.bytes c.in_ok-reader.reader
    (same_value c.new.result (HasRead wanted []) _ c.in_ok-reader.reader c.in_ok-reader.ensures.variant c.in_ok-reader.ensures.cases c.new.ensures)

pub read-requires : goal.read-requires
read-requires c =
    let wanted : Wanted = record { sites = c.args.sites; largest = c.args.largest_value } in
    let on = subst (ReadsOn wanted c.args.bytes.now c.loop-left.reader) c.in-Some.is c.loop-left.invariant in
    omega (arith, on.few, line_within c.in-Some.text.now c.first_line.result.0.now c.first_line.result.1 c.first_line.ensures.lengths)

-- the fault of a line
fault : goal.returns-in_err-read-clause-file
fault c =
    let wanted : Wanted = record { sites = c.args.sites; largest = c.args.largest_value } in
    let on = subst (ReadsOn wanted c.args.bytes.now c.loop-left.reader) c.in-Some.is c.loop-left.invariant in
    let p = err_from_is_err_and c.from_residual-in_err-read.result c.from_residual-in_err-read.ensures.1 in
    rw (p.1, p.2) (stops_at wanted c.args.bytes.now c.loop-left.reader c.read.new.self c.in-Some.text c.first_line.result.0 c.first_line.result.1 _ on c.first_line.ensures.cut (c.in_err-read.ensures wanted))

pub returns-in_err-read-clause-file : goal.returns-in_err-read-clause-file
returns-in_err-read-clause-file c = fault c

pub returns-in_err-read-clause-reads : goal.returns-in_err-read-clause-reads
returns-in_err-read-clause-reads c = λ values heading has.
    result_of_sites (record { sites = c.args.sites; largest = c.args.largest_value }) c.args.bytes.now values c.from_residual-in_err-read.result (fault c) heading has

pub loop-left-smaller : goal.loop-left-smaller
loop-left-smaller c =
    let less = fewer_left c.in-Some.text.now c.first_line.result.0.now c.first_line.result.1 c.first_line.ensures.lengths in
    subst (λ left. bytes_left c.first_line.result.1 < bytes_left left) (sym c.in-Some.is) (omega (arith, less))

pub loop-left-preserved : goal.loop-left-preserved
loop-left-preserved c =
    let wanted : Wanted = record { sites = c.args.sites; largest = c.args.largest_value } in
    let on = subst (ReadsOn wanted c.args.bytes.now c.loop-left.reader) c.in-Some.is c.loop-left.invariant in
    reads_on wanted c.args.bytes.now c.loop-left.reader c.read.new.self c.in-Some.text c.first_line.result.0 c.first_line.result.1 on c.first_line.ensures.cut c.first_line.ensures.lengths (c.in_ok-read.ensures wanted)

pub finish-requires : goal.finish-requires
finish-requires c = value_count _ _ c.loop-left.reader c.loop-left.invariant.has ∙ sym c.loop-left.invariant.has.sites

-- what the values are, or the fault
answer : goal.returns-clause-file
answer c =
    let wanted : Wanted = record { sites = c.args.sites; largest = c.args.largest_value } in
    let on = subst (ReadsOn wanted c.args.bytes.now c.loop-left.reader) c.in_default.is c.loop-left.invariant in
    ends_with wanted c.args.bytes.now c.loop-left.reader c.finish.result on (c.finish.ensures wanted)

pub returns-clause-file : goal.returns-clause-file
returns-clause-file c = answer c

pub returns-clause-sites : goal.returns-clause-sites
returns-clause-sites c = sites_of_result (record { sites = c.args.sites; largest = c.args.largest_value }) c.args.bytes.now c.finish.result (answer c)

pub returns-clause-heading : goal.returns-clause-heading
returns-clause-heading c = heading_of_result (record { sites = c.args.sites; largest = c.args.largest_value }) c.args.bytes.now c.finish.result (answer c)

pub returns-clause-reads : goal.returns-clause-reads
returns-clause-reads c = λ values heading has. result_of_sites (record { sites = c.args.sites; largest = c.args.largest_value }) c.args.bytes.now values c.finish.result (answer c) heading has
