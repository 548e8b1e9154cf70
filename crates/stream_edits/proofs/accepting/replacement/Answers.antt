use Rattle.std.proofs.Common.{◌<◌, length, refl, sym, arith}
use Rattle.std.proofs.lemmas.List.{length-map}
use Rattle.stream_edits.proofs.OneUnit.{replaced}
use Rattle.stream_edits.proofs.accepting.replacement.Goals as goal

pub returns-clause-ok : goal.returns-clause-ok
returns-clause-ok c text accepted =
    let stream = c.args.units.now in
    let ids = c.requires.ids in
    let inside : c.in-Some.at < length stream = omega (arith, rw ids at c.in-Some.ensures.inside, length-map stream (λ unit. unit.0)) in
    let brought = c.in_ok-one_unit.ensures in
    record {
      inside = record { ordered = omega arith; within = omega (arith, inside) };
      brings_one = rw brought (omega arith);
      takes_one = omega arith;
      makes = (
        refl,
        record {
          at = c.in-Some.at;
          unit = c.args.unit.now;
          accepted = accepted;
          stands = sym (rw ids at c.in-Some.ensures.value);
          given_is = refl;
          stream_is = rw brought (replaced stream c.in-Some.at (c.args.id, c.args.unit.now) inside);
        },
      );
    }
