use Rattle.std.proofs.Common.{◌≡◌, List, map, length}
use Rattle.decode_jobs.specs.declared.surfaces.surface.Surface.{Surface}
use Rattle.c_calls.specs.Grouping.{filled}
use Rattle.c_calls.specs.Releasing.{Release, handle_of}
use Rattle.c_calls.proofs.releasing.go_back.Given as goal

-- the surfaces so far have gone back, and stand in front of what was there
abbrev pub invariant-loop-index : goal.invariant-loop-index
invariant-loop-index l = record {
  back : (gone : List Surface) × Release l.fn.session gone l.session × (length gone ≡ l.index)
      × (l.surfaces ≡ filled (map handle_of gone) l.fn.surfaces);
  long : length l.surfaces ≡ length l.fn.surfaces;
}
