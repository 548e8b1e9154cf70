use Rattle.std.proofs.Common.{rules, inr, refl, sym}
use Rattle.stand_in_device.proofs.Waiting.{kept_after_first}
use Rattle.stand_in_device.proofs.Refusing.{refused_memory}
use Rattle.stand_in_device.proofs.Placing.{none_held_or_queued}
use Rattle.stand_in_device.proofs.m2m_queues.queues.Queues.run_one.Goals as goal
use Rattle.stand_in_device.proofs.m2m_queues.queues.Queues.run_one.Goals.{then-release, else-release}

pub returns-in_default-target_of : goal.returns-in_default-target_of
returns-in_default-target_of g c =
    elim c.if-release.branch [
      | then-release w ↦ rw w.result-is (record {
        id = c.in-Some.id;
        controls = c.in-Some-Some.controls;
        output = c.in-Some-Some.output;
        next = rw (← c.self.view_is) (record {
          request = c.in-Some-get.request.now;
          first = search rules;
          there = search rules;
          controlled = search rules;
          bound = search rules;
        });
        unplaced = rw (← c.self.view_is) (search rules);
        was_held = rw (← c.self.view_is) (search rules);
        left = rw (← c.self.view_is) (search rules);
        untouched = refl;
      })
      | else-release w ↦ rw w.result-is (record { idle = inr (rw (← c.self.view_is) (none_held_or_queued _ _ c.in-Some-Some.output.timestamp (search rules) (search rules))); left = rw (← c.self.view_is) (search rules); untouched = refl })
    ]

pub returns-in_err-slice : goal.returns-in_err-slice
returns-in_err-slice g c =
    rw (refused_memory c.from_residual.result c.from_residual.ensures.1) (record {
      id = c.in-Some.id;
      controls = c.in-Some-Some.controls;
      output = c.in-Some-Some.output;
      target = c.in-Some-target_of.target;
      next = rw (← c.self.view_is) (record {
        request = c.in-Some-get.request.now;
        first = search rules;
        there = search rules;
        controlled = search rules;
        bound = search rules;
      });
      placed = rw (← c.self.view_is) (sym c.in-Some-target_of.ensures);
      left = refl;
    })

pub invariant_of-self-2 : goal.invariant_of-self-2
invariant_of-self-2 g c =
    rw (c.complete.ensures, c.remove.ensures.items) (kept_after_first c.self.inside.requests c.self.inside.order.items c.in-Some.id c.in-Some-get.request.now c.self.invariant (search rules) (search rules))

pub returns : goal.returns
returns g c = record {
  id = c.in-Some.id;
  controls = c.in-Some-Some.controls;
  output = c.in-Some-Some.output;
  target = c.in-Some-target_of.target;
  next = rw (← c.self.view_is) (record {
    request = c.in-Some-get.request.now;
    first = search rules;
    there = search rules;
    controlled = search rules;
    bound = search rules;
  });
  placed = rw (← c.self.view_is) (sym c.in-Some-target_of.ensures);
  decoded = search rules;
  left = rw (← c.self.view_is, c.complete.ensures, c.turn-2.ensures, c.release-2.ensures.released, c.turn.ensures, c.remove.ensures.items, c.done-ready.ensures, c.written-capture.ensures) refl;
}
