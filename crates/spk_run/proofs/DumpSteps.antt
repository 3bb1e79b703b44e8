-- Dumps that have all come one step further, one dump after another.
use Rattle.std.proofs.Common.{◌≡◌, ℕ, ◌+◌, ◌<◌, ◌≤◌, List, [], ◌∷◌, ◌++◌, length, map, set, take, get_or, inl, inr, refl, sym, ap, ◌∙◌, arith}
use Rattle.std.proofs.lemmas.Bool.{cases_lt}
use Rattle.std.proofs.lemmas.List.{ext_get_or, get_or_default, get_or-map, get_or-set_other, get_or-set_same, length-map, length-set, map-append, take_more}
use Rattle.spk_run.specs.declared.dump.DumpState.{DumpState}
use Rattle.spk_run.specs.Dumps.{due_of}
use Rattle.spk_sched.specs.declared.dues.Due.{Due}

-- the first so many have, and the others are as they were
pub record HaveStepped (step : DumpState → DumpState) (old now : List DumpState) (place : ℕ) : Type 0 where
  pub all : length now ≡ length old
  pub done : (k : ℕ) (d : DumpState) → k < place → k < length old → get_or now k d ≡ step (get_or old k d)
  pub left : (k : ℕ) (d : DumpState) → place ≤ k → k < length old → get_or now k d ≡ get_or old k d

pub none_stepped : (step : DumpState → DumpState) (old : List DumpState) → HaveStepped step old old 0
none_stepped step old = record {
  all = refl;
  done = λ k d less inside. absurd (omega (arith, less));
  left = λ k d more inside. refl;
}

done_more : (step : DumpState → DumpState) (old now : List DumpState) (place : ℕ) (stepped d : DumpState) → place < length old → HaveStepped step old now place → stepped ≡ step (get_or now place d) →
    (k : ℕ) (e : DumpState) → k < place + 1 → k < length old → get_or (set now place stepped) k e ≡ step (get_or old k e)
done_more step old now place stepped d inside have is k e less here =
    elim (cases_lt k place) [
      | inl before ↦ get_or-set_other now place k stepped e (λ same. absurd (omega (arith, same, before))) ∙ have.done k e before here
      | inr after ↦
          let same : k ≡ place = omega (arith, less, after) in
          ap (λ n. get_or (set now place stepped) n e) same ∙ get_or-set_same now place stepped e (omega (arith, inside, have.all)) ∙ is
          ∙ ap step (have.left place d (omega arith) inside ∙ get_or_default old place d e inside) ∙ ap (λ n. step (get_or old n e)) (sym same)
    ]

pub one_stepped : (step : DumpState → DumpState) (old now : List DumpState) (place : ℕ) (stepped d : DumpState) → place < length old → HaveStepped step old now place → stepped ≡ step (get_or now place d) →
    HaveStepped step old (set now place stepped) (place + 1)
one_stepped step old now place stepped d inside have is = record {
  all = length-set now place stepped ∙ have.all;
  done = done_more step old now place stepped d inside have is;
  left = λ k e more here. get_or-set_other now place k stepped e (λ same. absurd (omega (arith, same, more))) ∙ have.left k e (omega (arith, more)) here;
}

no_dumps : (now : List DumpState) → length now ≡ 0 → now ≡ []
no_dumps [] none = refl
no_dumps (dump ∷ dumps) none = absurd (omega (arith, none))

all_stepped_of : (step : DumpState → DumpState) (old now : List DumpState) (place : ℕ) (d : DumpState) → length old ≤ place → HaveStepped step old now place → now ≡ map step old
all_stepped_of step old now place d past have =
    ext_get_or d now (map step old) (have.all ∙ sym (length-map old step))
    (λ k less. have.done k d (omega (arith, less, past, have.all)) (omega (arith, less, have.all)) ∙ sym (get_or-map step old k d d (omega (arith, less, have.all))))

pub all_stepped : (step : DumpState → DumpState) (old now : List DumpState) (place : ℕ) → length old ≤ place → HaveStepped step old now place → now ≡ map step old
all_stepped step [] now place past have = no_dumps now have.all
all_stepped step (dump ∷ dumps) now place past have = all_stepped_of step (dump ∷ dumps) now place dump past have

-- the times at which snapshots are due, of one dump more
pub dues_more : (start : ℕ) (dumps : List DumpState) (dues : List Due) (i : ℕ) (d : DumpState) (due : Due) → i < length dumps → dues ≡ map (due_of start) (take i dumps) → due ≡ due_of start (get_or dumps i d) →
    dues ++ due ∷ [] ≡ map (due_of start) (take (i + 1) dumps)
dues_more start dumps dues i d due inside so_far is =
    rw (so_far, is) (sym (ap (map (due_of start)) (take_more dumps i d inside) ∙ map-append (due_of start) (take i dumps) (get_or dumps i d ∷ [])))
