-- The machine's way to the next command, line by line, and where it stands then.
use Rattle.std.proofs.Common.{◌≡◌, ℕ, ◌+◌, ◌-◌, ◌<◌, ◌≤◌, ◌==◌, true, false, cond, List, [], ◌∷◌, length, get_or, drop, Some, None, inl, inr, refl, sym, ◌∙◌, ap, subst, arith, Result}
use Rattle.std.proofs.lemmas.Bool.{cases_lt}
use Rattle.std.proofs.lemmas.Bool.Decides.{nat_tests}
use Rattle.std.proofs.lemmas.List.{drop_more, drop_all}
use Rattle.std.proofs.lemmas.List.Recursion.{found_at}
use Rattle.std.proofs.lemmas.Option.{slice_get-get_or, slice_get_within, get_or_from_slice_get}
use Rattle.std.proofs.lemmas.List.{get_or_default}
use Rattle.std.specs.Prelude.{nat_lt, Ok, slice_get, zero, suc}
use Rattle.std.specs.List.{AllPairs}
use Rattle.spk_script.specs.declared.fault.LineFault.{LineFault}
use Rattle.spk_script.specs.declared.machine.Arrival.{Arrival}
use Rattle.spk_script.specs.declared.machine.Arrival.TheVariants.{At, End}
use Rattle.spk_script.specs.CommandPlaces.{IsCommandAt, IsFirstFrom, IsTableUpTo}
use Rattle.spk_script.specs.Lines.{LogicalLine, is_command, line_numbered}
use Rattle.spk_script.specs.States.{State}
use Rattle.spk_script.specs.Machine.{Arrived, arrive, arrive_at, arrive_where, arrive_ahead, line_at}
use Rattle.spk_script.specs.MachineStates.{StandsAt, arrived_to}

ahead_first : (state : State) (place : ℕ) (line : LogicalLine) (lines : List LogicalLine) → is_command line ≡ true →
    arrive_ahead state place (line ∷ lines) ≡ arrive_at state place line.number
unfolding arrive_ahead
ahead_first state place line lines is = rw is refl

ahead_next : (state : State) (place : ℕ) (line : LogicalLine) (lines : List LogicalLine) → is_command line ≡ false →
    arrive_ahead state place (line ∷ lines) ≡ arrive_ahead state (place + 1) lines
unfolding arrive_ahead
ahead_next state place line lines is = rw is refl

-- at a line with a word, at one without, and at the end
pub ahead_command : (state : State) (lines : List LogicalLine) (i : ℕ) (line : LogicalLine) → line ≡ get_or lines i line → i < length lines → is_command line ≡ true →
    arrive_ahead state i (drop i lines) ≡ arrive_at state i line.number
ahead_command state lines i line at within is =
    ap (arrive_ahead state i) (drop_more lines i line within) ∙ ap (λ l. arrive_ahead state i (l ∷ drop (i + 1) lines)) (sym at)
    ∙ ahead_first state i line (drop (i + 1) lines) is

pub ahead_other : (state : State) (lines : List LogicalLine) (i : ℕ) (line : LogicalLine) → line ≡ get_or lines i line → i < length lines → is_command line ≡ false →
    arrive_ahead state i (drop i lines) ≡ arrive_ahead state (i + 1) (drop (i + 1) lines)
ahead_other state lines i line at within is =
    ap (arrive_ahead state i) (drop_more lines i line within) ∙ ap (λ l. arrive_ahead state i (l ∷ drop (i + 1) lines)) (sym at)
    ∙ ahead_next state i line (drop (i + 1) lines) is

pub ahead_end : (state : State) (lines : List LogicalLine) (i : ℕ) → length lines ≤ i → arrive_ahead state i (drop i lines) ≡ record { answer = Ok End; state = state }
unfolding arrive_ahead
ahead_end state lines i past = ap (arrive_ahead state i) (drop_all i lines past)

-- a line is found by its number, since numbers rise
pub found_by_number : (lines : List LogicalLine) (place : ℕ) (line : LogicalLine) → AllPairs (λ line later. line.number < later.number) lines →
    place < length lines → get_or lines place line ≡ line → line_numbered lines line.number ≡ Some line
found_by_number lines place line rising within here =
    let before : (k : ℕ) → k < place → ((get_or lines k line).number == line.number) ≡ false = λ k less.
    let rises : (get_or lines k line).number < (get_or lines place line).number = rising k place line less within in
    let same : (get_or lines place line).number ≡ line.number = ap (λ (l : LogicalLine). l.number) here in grind (arith, nat_tests) in
    let is : ((get_or lines place line).number == line.number) ≡ true =
    (let same : (get_or lines place line).number ≡ line.number = ap (λ (l : LogicalLine). l.number) here in grind (arith, nat_tests)) in
    found_at (λ xs. line_numbered xs line.number) (λ l. l.number == line.number) Some None refl (λ _ _. refl) lines place line within before is ∙ ap Some here

-- what is left of the lines begins with the line at that place
begins_there : (lines : List LogicalLine) (place : ℕ) (line : LogicalLine) (rest : List LogicalLine) → drop place lines ≡ line ∷ rest →
    (place < length lines) × (get_or lines place line ≡ line) × (drop (place + 1) lines ≡ rest)
begins_there lines place line rest is =
    elim (cases_lt place (length lines)) [
      | inl within ↦ let more = drop_more lines place line within in (within, cc (more, is), cc (more, is))
      | inr past ↦ let none = drop_all place lines past in absurd (cc (none, is))
    ]

line_there : (lines : List LogicalLine) (state : State) (line : LogicalLine) (place : ℕ) → place < length lines → get_or lines place line ≡ line → state.place ≡ place + 1 →
    line_at lines state ≡ Some line
line_there lines state line place within here at =
    let some : (state.place == 0) ≡ false = grind (arith, nat_tests) in
    let back : state.place - 1 ≡ place = omega (arith, at) in
    rw (some, back) (slice_get-get_or lines place line within ∙ ap Some here)

stands_at : (lines : List LogicalLine) (state : State) (place : ℕ) (line : LogicalLine) → AllPairs (λ line later. line.number < later.number) lines →
    place < length lines → get_or lines place line ≡ line →
    StandsAt lines (arrive_at state place line.number).state (arrive_at state place line.number).answer
stands_at lines state place line rising within here =
    elim (nat_lt state.arrivals 1000000) as (λ b. StandsAt lines (arrive_where state place line.number b).state (arrive_where state place line.number b).answer) [
      | true ↦ rw (line_there lines (arrive_where state place line.number true).state line place within here refl) (refl, found_by_number lines place line rising within here)
      | false ↦ tt
    ]

ahead_stands : (lines : List LogicalLine) (state : State) (place : ℕ) (rest : List LogicalLine) → AllPairs (λ line later. line.number < later.number) lines →
    drop place lines ≡ rest → StandsAt lines (arrive_ahead state place rest).state (arrive_ahead state place rest).answer
unfolding arrive_ahead
ahead_stands lines state place [] rising left = tt
ahead_stands lines state place (line ∷ rest) rising left =
    let there = begins_there lines place line rest left in
    elim (is_command line) as (λ b. StandsAt lines (cond b (arrive_at state place line.number) (arrive_ahead state (place + 1) rest)).state (cond b (arrive_at state place line.number) (arrive_ahead state (place + 1) rest)).answer) [
      | true ↦ stands_at lines state place line rising there.0 there.1
      | false ↦ ahead_stands lines state (place + 1) rest rising there.2
    ]

-- an arrival stands at the line whose number it is
pub arrived_stands : (lines : List LogicalLine) (state now : State) (answer : Result Arrival LineFault) → AllPairs (λ line later. line.number < later.number) lines →
    arrive lines state ≡ arrived_to now answer → StandsAt lines now answer
arrived_stands lines state now answer rising is =
    subst (λ (a : Arrived). StandsAt lines a.state a.answer) is (ahead_stands lines state state.place (drop state.place lines) rising refl)

-- an arrival at a command raises the count by one, and it stays within its limit
abbrev pub CountsAt : State → State → Result Arrival LineFault → Type 0
CountsAt before now (Ok (At number)) = (now.arrivals ≡ before.arrivals + 1) × (now.arrivals ≤ 1000000)
CountsAt before now answer = Unit {0}

counts_at : (state : State) (place number : ℕ) → CountsAt state (arrive_at state place number).state (arrive_at state place number).answer
counts_at state place number =
    elim (cases_lt state.arrivals 1000000) [
      | inl less ↦ let is : nat_lt state.arrivals 1000000 ≡ true = grind (arith, nat_tests) in rw is (refl, omega (arith, less))
      | inr most ↦ let is : nat_lt state.arrivals 1000000 ≡ false = grind (arith, nat_tests) in rw is tt
    ]

ahead_counts : (state : State) (place : ℕ) (rest : List LogicalLine) → CountsAt state (arrive_ahead state place rest).state (arrive_ahead state place rest).answer
unfolding arrive_ahead
ahead_counts state place [] = tt
ahead_counts state place (line ∷ rest) =
    elim (is_command line) as (λ b. CountsAt state (cond b (arrive_at state place line.number) (arrive_ahead state (place + 1) rest)).state (cond b (arrive_at state place line.number) (arrive_ahead state (place + 1) rest)).answer) [
      | true ↦ counts_at state place line.number
      | false ↦ ahead_counts state (place + 1) rest
    ]

pub arrived_counts : (lines : List LogicalLine) (state now : State) (answer : Result Arrival LineFault) → arrive lines state ≡ arrived_to now answer → CountsAt state now answer
arrived_counts lines state now answer is = subst (λ (a : Arrived). CountsAt state a.state a.answer) is (ahead_counts state state.place (drop state.place lines))

-- the first command from a place on, by the lines between
walk : (state : State) (lines : List LogicalLine) (n place at : ℕ) (line : LogicalLine) → IsFirstFrom lines place at → at ≡ place + n →
    arrive_ahead state place (drop place lines) ≡ arrive_at state at (get_or lines at line).number
walk state lines zero place at line first far =
    let here : place ≡ at = omega (arith, far) in
    let same : get_or lines at line ≡ get_or lines at (get_or lines at line) = get_or_default lines at line (get_or lines at line) first.within in
    rw here (ahead_command state lines at (get_or lines at line) same first.within (first.is line))
walk state lines (suc n) place at line first far =
    let less : place < at = omega (arith, far) in
    let within : place < length lines = omega (arith, less, first.within) in
    let same : get_or lines place line ≡ get_or lines place (get_or lines place line) = get_or_default lines place line (get_or lines place line) within in
    let next : IsFirstFrom lines (place + 1) at = record {
      following = omega (arith, less);
      within = first.within;
      is = first.is;
      between = λ k from before. first.between k (omega (arith, from)) before;
    } in
    ahead_other state lines place (get_or lines place line) same within (first.between place (omega arith) less line)
    ∙ walk state lines n (place + 1) at line next (omega (arith, far))

pub ahead_first_from : (state : State) (lines : List LogicalLine) (place at : ℕ) (line : LogicalLine) → IsFirstFrom lines place at →
    arrive_ahead state place (drop place lines) ≡ arrive_at state at (get_or lines at line).number
ahead_first_from state lines place at line first = walk state lines (at - place) place at line first (omega (arith, first.following))

-- no command from a place on
walk_on : (state : State) (lines : List LogicalLine) (n place : ℕ) (line : LogicalLine) → length lines ≡ place + n →
    ((k : ℕ) → place ≤ k → k < length lines → IsCommandAt lines k false) → arrive_ahead state place (drop place lines) ≡ record { answer = Ok End; state = state }
walk_on state lines zero place line far none = ahead_end state lines place (omega (arith, far))
walk_on state lines (suc n) place line far none =
    let within : place < length lines = omega (arith, far) in
    let same : get_or lines place line ≡ get_or lines place (get_or lines place line) = get_or_default lines place line (get_or lines place line) within in
    ahead_other state lines place (get_or lines place line) same within (none place (omega arith) within line)
    ∙ walk_on state lines n (place + 1) line (omega (arith, far)) (λ k from before. none k (omega (arith, from)) before)

pub ahead_nothing : (state : State) (lines : List LogicalLine) (places : List ℕ) (place : ℕ) → IsTableUpTo lines places (length lines) → slice_get places place ≡ None →
    arrive_ahead state place (drop place lines) ≡ record { answer = Ok End; state = state }
ahead_nothing state lines places place table none =
    let line : LogicalLine = record { number = 0; raw = []; words = [] } in
    elim (cases_lt place (length places)) [
      | inl within ↦ absurd (cc (none, slice_get-get_or places place 0 within))
      | inr past ↦ elim (cases_lt place (length lines)) [
        | inl less ↦ walk_on state lines (length lines - place) place line (omega (arith, less)) (λ k from before. table.none k (omega (arith, past, from)) before)
        | inr end ↦ ahead_end state lines place end
      ]
    ]

-- the place that a table has is that of the first command
pub place_in_table : (lines : List LogicalLine) (places : List ℕ) (place at : ℕ) → IsTableUpTo lines places (length lines) → slice_get places place ≡ Some at →
    IsFirstFrom lines place at
place_in_table lines places place at table found =
    let within : place < length places = slice_get_within places place at found in
    let is : get_or places place 0 ≡ at = get_or_from_slice_get places place at 0 found in
    subst (IsFirstFrom lines place) is (table.first place within)
