-- What a load does, as an effect: what follows from what it found, or its fault.
use Rattle.std.proofs.Common.{◌≡◌, ℕ, List, [], Option, Some, None, Result, Ok, Err, Vec, refl, sym, subst, arith}
use Rattle.std.specs.Option.{IfSome}
use Rattle.std.specs.declared.alloc.Global.{Global}
use Rattle.spk_world.specs.Outside.{Outside, after}
use Rattle.spk_world.specs.States.{WorldState}
use Rattle.spk_world.specs.Causes.{Rose, Later, LoadCause}
use Rattle.spk_world.specs.declared.world.LoadFault.{LoadFault}
use Rattle.spk_world.specs.Effects.{Effect, ◌>>=◌, loads_file, Stop, LoadFailed, OutOfMemory, Stands, Wrote}
use Rattle.spk_world.proofs.EffectLaws.{then_by_cases, out_of_memory_by_cases, later_later, causes_by_cases}

-- no count falls by a load
pub load_later : {before now : WorldState} {result : Result (Vec ℕ Global) LoadFault} → LoadCause before now result → Later before.faults now.faults
load_later {before = before} {now = now} cause = record { loads = cause.later; files = omega (arith, cause.files); screen = omega (arith, cause.screen) }

found_by_cases : {E : Type 0} (stop : E → Stop) (name : List ℕ) (outside : Outside) → Stands stop (Some outside) (Some outside) (loads_file name) (Ok (outside.files name))
unfolding loads_file after
found_by_cases stop name outside = (refl, refl)

after_load_by_cases : {B E : Type 0} (stop : E → Stop) (told now : Option Outside) (name : List ℕ) (next : Option (List ℕ) → Effect B) (rest : Effect B) (result : Result B E) →
    IfSome told (λ outside. next (outside.files name) ≡ rest) → Stands stop told now rest result → Stands stop told now (loads_file name >>= next) result
after_load_by_cases stop None now name next rest result same done = done
after_load_by_cases stop (Some outside) now name next rest result same done =
    then_by_cases stop (Some outside) (Some outside) now (loads_file name) next (outside.files name) result (found_by_cases stop name outside)
    (subst (λ effect. Stands stop (Some outside) now effect result) (sym same) done)

-- A load was made, and then what follows from the file that it found, where the world tells it.
pub wrote_after_load : {B E : Type 0} {stop : E → Stop} {before loaded now : WorldState} (name : List ℕ) (next : Option (List ℕ) → Effect B) (rest : Effect B) {result : Result B E} →
    IfSome before.told (λ outside. next (outside.files name) ≡ rest) → loaded.told ≡ before.told → Later before.faults loaded.faults →
    Wrote stop loaded now rest result → Wrote stop before now (loads_file name >>= next) result
wrote_after_load {stop = stop} {before = before} {loaded = loaded} {now = now} name next rest {result = result} follows same later done = record {
  stands = after_load_by_cases stop before.told now.told name next rest result follows (subst (λ told. Stands stop told now.told rest result) same done.stands);
  later = later_later _ _ _ later done.later;
  cause = causes_by_cases stop before.faults loaded.faults now.faults result later done.cause;
}

load_fault_by_cases : {B E : Type 0} (stop : E → Stop) (told : Option Outside) (name : List ℕ) (next : Option (List ℕ) → Effect B) (e : E) → stop e ≡ LoadFailed name → Stands stop told told (loads_file name >>= next) (Err e)
unfolding loads_file ◌>>=◌ after
load_fault_by_cases stop None name next e is = refl
load_fault_by_cases stop (Some outside) name next e is = record {
  written = [];
  left = _;
  split = refl;
  stands = refl;
  cause = rw is (record { before = []; rest = _; split = refl });
}

-- a load failed, and its count rose
pub load_failed : {B E : Type 0} {stop : E → Stop} {before now : WorldState} (name : List ℕ) (next : Option (List ℕ) → Effect B) (e : E) →
    stop e ≡ LoadFailed name → now.told ≡ before.told → Later before.faults now.faults → Rose before.faults.loads now.faults.loads →
    Wrote {A = B} stop before now (loads_file name >>= next) (Err e)
load_failed {stop = stop} {before = before} {now = now} name next e is same later rose = record {
  stands = subst (λ told. Stands stop before.told told (loads_file name >>= next) (Err e)) (sym same) (load_fault_by_cases stop before.told name next e is);
  later = later;
  cause = rw is rose;
}

-- out of memory for a file that must be loaded
pub load_out_of_memory : {A E : Type 0} {stop : E → Stop} {before now : WorldState} (effect : Effect A) (e : E) →
    stop e ≡ OutOfMemory → now.told ≡ before.told → Later before.faults now.faults → Wrote {A = A} stop before now effect (Err e)
load_out_of_memory {stop = stop} {before = before} {now = now} effect e memory same later = record {
  stands = subst (λ told. Stands stop before.told told effect (Err e)) (sym same) (out_of_memory_by_cases stop before.told effect e memory);
  later = later;
  cause = rw memory tt;
}
