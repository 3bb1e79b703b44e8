use Rattle.std.proofs.Common.{◌≡◌, ◌-◌, ◌^◌, ◌<◌, ◌≤◌}
use Rattle.spk_num.specs.Logarithm.{log_bits}
use Rattle.spk_num.proofs.logarithm.bits_of.Given as goal

-- the bits that are found and those to come are the bits of the logarithm
abbrev pub invariant-bits : goal.invariant-bits
invariant-bits l = record {
  bits : log_bits (24 - l.counter) l.log.rest l.log.found ≡ log_bits 24 l.y 0;
  at_least : 2 ^ 31 ≤ l.log.rest;
  at_most : l.log.rest < 2 ^ 32;
  found : l.log.found < 2 ^ l.counter;
}
