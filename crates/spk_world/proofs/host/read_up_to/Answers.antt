use Rattle.std.proofs.Common.{◌≡◌, ◌<◌, IfSome, length, arith, subst}
use Rattle.spk_world.proofs.Taken.{gives_all}
use Rattle.spk_world.proofs.host.read_up_to.Goals as goal

-- fewer bytes came than were asked for, so these are all
pub returns-in-Ok-2 : goal.returns-in-Ok-2
returns-in-Ok-2 g c =
    let bytes = c.read_to_end.new.buf in
    let len = bytes.ok.0 in
    let room = bytes.ok.1 in
    let small = bytes.small in
    let short : length bytes.items < c.take.result.limit = omega arith in (
      subst (λ from. IfSome (g.R.Read.remaining from) (λ all. bytes.items ≡ all)) c.take.ensures.inner
          (gives_all _ _ _ _ c.in-Ok.ensures.bytes c.new-bytes.ensures.items short),
      omega arith,
    )
