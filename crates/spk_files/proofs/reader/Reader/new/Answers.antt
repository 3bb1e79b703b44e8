use Rattle.std.proofs.Common.{refl}
use Rattle.spk_files.proofs.ReadLaws.{none_read}
use Rattle.spk_files.proofs.reader.Reader.new.Goals as goal

pub returns : goal.returns
returns c = none_read _ _ refl refl refl refl refl (c.in_ok-vec.ensures.items_if_clones_equal (λ y same. same))
