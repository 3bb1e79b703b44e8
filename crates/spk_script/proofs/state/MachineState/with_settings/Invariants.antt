use Rattle.std.proofs.Common.{◌≡◌, drop}
use Rattle.spk_script.specs.States.{new_state, with_settings}
use Rattle.spk_script.specs.MachineStates.{state_of}
use Rattle.spk_script.proofs.state.MachineState.with_settings.Given as goal

abbrev pub invariant-loop-setting : goal.invariant-loop-setting
invariant-loop-setting l = with_settings (state_of l.state) (drop l.setting-index l.settings) ≡ with_settings new_state l.settings
