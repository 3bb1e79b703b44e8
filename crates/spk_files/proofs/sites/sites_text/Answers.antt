use Rattle.std.proofs.Common.{◌≡◌, ◌+◌, ◌<◌, ◌^◌, [], ◌++◌, All, List, ℕ, length, drop, sym, ap, ◌∙◌, arith, append_assoc, append-nil, decimal}
use Rattle.std.proofs.lemmas.List.{drop_all}
use Rattle.std.proofs.lemmas.List.Elements.{All-from_get_or}
use Rattle.std.specs.Prelude.{codes}
use Rattle.spk_num.specs.Decimal.{ticks_text}
use Rattle.spk_files.specs.SiteFiles.{site_file}
use Rattle.spk_sched.specs.SiteTexts.{rows_text, sites_text}
use Rattle.spk_files.proofs.RoundTrip.{reads_back}
use Rattle.spk_files.proofs.sites.sites_text.Goals as goal

-- a text that is made piece by piece
joined : (a b c d e rows : List ℕ) {none one two three four five time count : List ℕ} → none ≡ [] → one ≡ none ++ a → two ≡ one ++ time → time ≡ b →
    three ≡ two ++ c → four ≡ three ++ count → count ≡ d → five ≡ four ++ e → five ++ rows ≡ a ++ (b ++ (c ++ (d ++ (e ++ rows))))
joined a b c d e rows is_none is_one is_two is_time is_three is_four is_count is_five =
    simp (is_five, is_four, is_count, is_three, is_two, is_time, is_one, is_none, append_assoc)

pub loop-place-init : goal.loop-place-init
unfolding sites_text
loop-place-init c =
    joined (codes "spk sites at time ") (ticks_text c.args.time) (codes "\n\n") (decimal (length c.args.values.now)) (codes " sites\n\nValues\n\n") (rows_text 1 c.args.values.now)
    c.new-text.ensures.items c.in_ok-extend_from_slice.ensures.items c.in_ok-extend_from_slice-2.ensures.items (c.as_bytes.ensures.value ∙ c.print_ticks.ensures)
    c.in_ok-extend_from_slice-3.ensures.items c.in_ok-extend_from_slice-4.ensures.items (c.as_bytes-2.ensures.value ∙ c.format.ensures.text)
    c.in_ok-extend_from_slice-5.ensures.items

pub returns-clause-reads : goal.returns-clause-reads
returns-clause-reads c = λ largest small.
    let values : List ℕ = c.args.values.now in
    let none : drop c.loop-place.place values ≡ [] = drop_all c.loop-place.place values (omega arith) in
    let text : c.loop-place.text.items ≡ sites_text c.args.time values =
    sym (append-nil c.loop-place.text.items) ∙ ap (λ rest. c.loop-place.text.items ++ rows_text (c.loop-place.place + 1) rest) (sym none) ∙ c.loop-place.invariant in
    let fit : All (λ v. v < 2 ^ 32) values = All-from_get_or (λ v. v < 2 ^ 32) values 0 (λ i less. omega (arith, c.type_inv.values i)) in
    ap (site_file (record { sites = length values; largest = largest })) text
    ∙ reads_back c.args.time values largest (omega arith) c.requires.few c.requires.positive small fit
