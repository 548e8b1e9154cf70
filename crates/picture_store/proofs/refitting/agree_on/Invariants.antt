use Rattle.std.proofs.Common.{◌≡◌, All, take}
use Rattle.picture_keys.specs.Numbered.{number_at}
use Rattle.picture_store.proofs.refitting.agree_on.Given as goal

-- the keys of the frames so far have the same numbers
abbrev pub invariant-loop-frame : goal.invariant-loop-frame
invariant-loop-frame l =
    record {
      agree : All (λ frame. number_at l.initial.before frame.id ≡ number_at l.initial.after.numbers frame.id) (take l.frame-index l.frames);
      before : l.before ≡ l.initial.before;
      after : l.after ≡ l.initial.after;
    }
