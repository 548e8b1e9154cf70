use Rattle.std.proofs.Common.{append_assoc}
use Rattle.param_set_controls.specs.SetsForm.{sets_form}
use Rattle.h264_controls.specs.DigestForm.{digest_form, slice_form}
use Rattle.h264_controls.proofs.digest.digest_in_two_parts.Goals as goal

pub returns : goal.returns
unfolding digest_form sets_form slice_form
returns c = λ controls. simp append_assoc
