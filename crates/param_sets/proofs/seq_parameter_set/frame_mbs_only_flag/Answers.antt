use Rattle.std.proofs.Common.{◌≡◌, Ok, Bool, true, false}
use Rattle.expgolomb.specs.Bits.{Place}
use Rattle.param_sets.specs.declared.fault.SetFault.TheVariants.{Cut}
use Rattle.expgolomb.specs.Answer.{flag_value}
use Rattle.expgolomb.specs.Grammar.{Fixed}
use Rattle.expgolomb.specs.Ranges.{any}
use Rattle.expgolomb.specs.TableReading.{value_at, in_range}
use Rattle.param_sets.specs.SpsSyntax.{frames_only}
use Rattle.expgolomb.proofs.FieldLaws.{narrow_ok}
use Rattle.param_sets.proofs.seq_parameter_set.frame_mbs_only_flag.Goals as goal

-- what a flag of this value is worth
flag_only : (p : Place) (b : Bool) (q : Place) → value_at (Fixed 1) Cut Cut any p ≡ Ok (flag_value b, q) → value_at (Fixed 1) Cut Cut frames_only p ≡ in_range (frames_only (flag_value b)) (flag_value b, q)
flag_only p b q is = narrow_ok (Fixed 1) Cut Cut frames_only p (flag_value b) q is

pub returns-then-branch : goal.returns-then-branch
returns-then-branch c =
    let read = rw c.if-branch.true at c.in_ok-flag.ensures.exact in
    flag_only c.args.bits.now true c.flag.new.bits read

pub returns-else-branch : goal.returns-else-branch
returns-else-branch c =
    let read = rw c.if-branch.false at c.in_ok-flag.ensures.exact in
    flag_only c.args.bits.now false c.flag.new.bits read
