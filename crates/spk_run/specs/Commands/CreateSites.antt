-- `create_sites`: new sites have the value 1.
use Rattle.std.specs.Prelude.{[], ◌∷◌, replicate, Option}
use Rattle.std.specs.Option.{option_map}
use Rattle.spk_lattice.specs.Layout.{sites_of}
use Rattle.spk_run.specs.declared.cause.Cause.{Cause}
use Rattle.spk_run.specs.declared.cause.Cause.TheVariants.{NoBox, AlreadyMade}
use Rattle.spk_run.specs.declared.domain.Domain.{Domain}
use Rattle.spk_run.specs.declared.state.SessionState.{SessionState}
use Rattle.spk_run.specs.States.{first_of, missing, if_so, are_made}

abbrev pub sites_cause : SessionState → Option Cause
sites_cause state = first_of (missing state.domain NoBox ∷ if_so (are_made state.domain) AlreadyMade ∷ [])

abbrev pub domain_with_sites : Domain → Domain
domain_with_sites domain = record domain { values = replicate (sites_of domain.lattice) 1 }

abbrev pub with_sites : SessionState → SessionState
with_sites state = record state { domain = option_map domain_with_sites state.domain }
