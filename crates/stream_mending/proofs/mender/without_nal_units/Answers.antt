use Rattle.std.proofs.Common.{◌∙◌, ◌++◌, ap, length}
use Rattle.stream_mending.specs.Mended.{told_bytes}
use Rattle.stream_mending.specs.declared.why.Why.TheVariants.{NotNalUnit}
use Rattle.stream_mending.proofs.Steps.{none_mended, none_told}
use Rattle.stream_mending.proofs.mender.without_nal_units.Goals as goal

pub returns-clause-bytes : goal.returns-clause-bytes
returns-clause-bytes c = c.new.ensures.items ∙ none_mended c.args.text.now c.requires

pub returns-clause-told : goal.returns-clause-told
returns-clause-told c =
    c.in_ok-tell.ensures ∙ ap (λ l. l ++ told_bytes 0 (length c.args.text.now) NotNalUnit) c.new-left_out.ensures.items
    ∙ none_told c.args.text.now c.requires
